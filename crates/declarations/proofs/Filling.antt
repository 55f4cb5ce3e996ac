-- All functions, one item after the other: those done are in the core's two rows, and what is left gives the rest.
use mathlib.Core.Path.{◌≡◌, refl, sym, ap, subst, ◌∙◌}
use mathlib.Core.List.{List, [], ◌∷◌, ◌++◌, append_assoc, append-nil}
use Prim.Native.Nat.{ℕ, ◌+◌, ◌*◌, ◌≤◌, ◌<◌}
use native.Mathlib.Omega.{arith}
use lib.ListN.{length, length-append}
use lib.Seq.{sets}
use borrow.Author.Tests.{eq-eqb, eqb-true}
use mathlib.Core.Bool.{Bool, true, false}
use lib.Dec.{eqb}
use Rattle.language.specs.Tree.{Item, array, function}
use Rattle.language.specs.Core as C
use Rattle.language.specs.Rules.{Ruled, keeps, breaks, ◌>>=◌, Global, functions_from, most_functions}
use Rattle.grammar.specs.Flat as G
use Rattle.grammar.specs.Flat.{tree_room}
use Rattle.flat.specs.Words.{entries, bodies, entry}
use Rattle.rules.specs.Tables.{word}
use Rattle.rules.proofs.Stating.{went, stopped}
use Rattle.std.specs.Prelude.{Result, Ok, Err, ⊤}
use Rattle.rules.specs.declared.Broken.{Broken}
use Rattle.declarations.specs.declared.Reached.{Reached}
use Rattle.declarations.specs.Post.{Standing, next_of, body_of, entry_of, Makes, function_count, FewParameters, PassCase, Passes, Filled, Fills}
use Rattle.declarations.proofs.Standing as S
use Rattle.declarations.proofs.Programs.{row_more, bodies_on}
use Rattle.declarations.proofs.Declaring.{no_more, some_more}

-- One item

no_array : {n : ℕ} {k : Bool} → k ≡ eqb n 0 → k ≡ false → n ≡ 0 → ⊥
no_array {n} e f z = let h : true ≡ false = sym (eq-eqb n 0 z) ∙ (sym e ∙ f) in cc

module _ (text tree : List ℕ) (gs : List Global) (p q f : ℕ) (core : List ℕ) {k : Bool} (ek : k ≡ eqb (word tree p) 0) where
  array_passes : k ≡ true → (words : ℕ) (i : Item) (is : List Item) → Standing text tree words p (i ∷ is) → PassCase gs q f core i (Ok (record { core = q; functions = f })) core
  array_passes z words (array at x n) is s = (refl, refl, refl)
  array_passes z words (function at x ps t b) is s = absurd (let y = S.function_at_lem s in let w : word tree p ≡ 0 = eqb-true _ _ (sym ek ∙ z) in omega (arith, w, y.kind))

  pub pass_array : k ≡ true → Passes text tree gs p q f core (Ok (record { core = q; functions = f })) core
  pass_array z = record { by = λ words i is s few. array_passes z words i is s; bounded = (omega (arith, S.further tree p refl), omega arith) }

  module _ (z : k ≡ false) where
    function_passes : {j : ℕ} {core' : List ℕ} → j ≡ word tree (p + 6) → Makes text tree gs p q (entry f) core (Ok tt) core' → (words : ℕ) (i : Item) (is : List Item) → Standing text tree words p (i ∷ is) → FewParameters (i ∷ is) →
        PassCase gs q f core i (Ok (record { core = q + j; functions = f + 1 })) core'
    unfolding FewParameters
    function_passes ej m words (array at x n) is s few = absurd (no_array ek z (S.array_at s).kind)
    function_passes ej m words (function at x ps t b) is s few = (ap (λ (i : ℕ). q + i) (ej ∙ (S.function_at_lem s).body), refl, m.by words at x ps t b is s few.0)

    bound : {j : ℕ} → j ≡ word tree (p + 6) → q + j + p ≤ q + next_of tree p
    unfolding next_of
    bound ej = rw (← ek, z) (omega (arith, ej))

    pub pass_function : {j : ℕ} {r : Result ⊤ Broken} {core' : List ℕ} → j ≡ word tree (p + 6) → r ≡ (Ok tt) → Makes text tree gs p q (entry f) core r core' → Passes text tree gs p q f core (Ok (record { core = q + j; functions = f + 1 })) core'
    pass_function {core' = core'} ej e m = record {
      by = λ words i is s few. function_passes ej (subst (λ (u : Result ⊤ Broken). Makes text tree gs p q (entry f) core u core') e m) words i is s few;
      bounded = (bound ej, omega arith);
    }

    fault_passes : {d : Broken} {core' : List ℕ} → Makes text tree gs p q (entry f) core (Err d) core' → (words : ℕ) (i : Item) (is : List Item) → Standing text tree words p (i ∷ is) → FewParameters (i ∷ is) → PassCase gs q f core i (Err d) core'
    unfolding FewParameters
    fault_passes m words (array at x n) is s few = absurd (no_array ek z (S.array_at s).kind)
    fault_passes m words (function at x ps t b) is s few = m.by words at x ps t b is s few.0

    pub pass_fault : {d : Broken} {r : Result ⊤ Broken} {core' : List ℕ} → r ≡ Err d → Makes text tree gs p q (entry f) core r core' → Passes text tree gs p q f core (Err d) core'
    pass_fault {core' = core'} e m = record { by = λ words i is s few. fault_passes (subst (λ (u : Result ⊤ Broken). Makes text tree gs p q (entry f) core u core') e m) words i is s few; bounded = tt }

-- All items

pub record Progress (text tree : List ℕ) (words : ℕ) (gs : List Global) (total : ℕ) (core₀ : List ℕ) (p q f : ℕ) (core : List ℕ) (m : Ruled (List C.Function)) : Type 0 where
  pub rest : List Item
  pub done : List C.Function
  pub stands : Standing text tree words p rest
  pub few : FewParameters rest
  pub is : m ≡ functions_from gs rest >>= λ fs. keeps (done ++ fs)
  pub count : f ≡ length done
  pub left : total ≡ f + function_count rest
  pub place : q ≡ entry total + length (bodies done [])
  pub there : core ≡ sets (sets core₀ 3 (entries done (entry total) [])) (entry total) (bodies done [])

pub record Filling (text tree : List ℕ) (words : ℕ) (gs : List Global) (total : ℕ) (core₀ : List ℕ) (p q f : ℕ) (core : List ℕ) : Type 0 where
  pub by : (is : List Item) → Standing text tree words 0 is → FewParameters is → total ≡ function_count is → Progress text tree words gs total core₀ p q f core (functions_from gs is)
  pub place : q ≤ p + entry total
  pub entry_at : 8 * f ≤ p

unchanged : {A : Type 0} (m : Ruled (List A)) → m ≡ m >>= λ fs. keeps ([] ++ fs)
unfolding ◌>>=◌
unchanged (keeps fs) = refl
unchanged (breaks p) = refl

pub filling_start : (text tree : List ℕ) (words : ℕ) (gs : List Global) (total : ℕ) (core : List ℕ) → Filling text tree words gs total core 0 (entry total) 0 core
unfolding entries bodies
filling_start text tree words gs total core = record {
  by = λ is s few n. record { rest = is; done = []; stands = s; few = few; is = unchanged (functions_from gs is); count = refl; left = omega (arith, n); place = omega arith; there = refl };
  place = omega arith;
  entry_at = omega arith;
}

one_more : (done : List C.Function) (f : C.Function) (m : Ruled (List C.Function)) → (m >>= λ fs. keeps (f ∷ fs)) >>= (λ fs. keeps (done ++ fs)) ≡ m >>= λ fs. keeps ((done ++ (f ∷ [])) ++ fs)
unfolding ◌>>=◌
one_more done f (keeps fs) = ap keeps (sym (append_assoc done (f ∷ []) fs))
one_more done f (breaks p) = refl

made_place : (core : List ℕ) {core' : List ℕ} (v : C.Function) (q e : ℕ) {q' e' : ℕ} → q ≡ q' → e ≡ e' → core' ≡ sets (sets core q (body_of v)) e (entry_of v q) → core' ≡ sets (sets core q' (body_of v)) e' (entry_of v q')
made_place core v q e h k c = rw (← h, ← k) c

module _ (text tree : List ℕ) (words : ℕ) (gs : List Global) (total : ℕ) (core₀ : List ℕ) (p q f : ℕ) (core : List ℕ) (m : Ruled (List C.Function)) (done : List C.Function)
    (n : f ≡ length done) (place : q ≡ entry total + length (bodies done [])) (there : core ≡ sets (sets core₀ 3 (entries done (entry total) [])) (entry total) (bodies done [])) where
  abbrev Onward : ℕ → ℕ → List ℕ → Type 0
  Onward j k c = Progress text tree words gs total core₀ (next_of tree p) j k c m

  abbrev Rest : List Item → Type 0
  Rest is = m ≡ functions_from gs is >>= λ fs. keeps (done ++ fs)

  item_next : {j k : ℕ} {core' : List ℕ} (i : Item) (is : List Item) → Standing text tree words p (i ∷ is) → FewParameters (i ∷ is) → Rest (i ∷ is) → total ≡ f + function_count (i ∷ is) → PassCase gs q f core i (Ok (record { core = j; functions = k })) core' → Onward j k core'
  unfolding functions_from FewParameters function_count
  item_next (array at x z) is s few e l c = record {
    rest = is;
    done = done;
    stands = S.standing_next (array at x z) is s;
    few = few;
    is = e;
    count = c.1 ∙ n;
    left = omega (arith, l, c.1);
    place = c.0 ∙ place;
    there = c.2 ∙ there;
  }
  item_next (function at x ps t b) is s few e l c = record {
    rest = is;
    done = done ++ (c.2.value ∷ []);
    stands = S.standing_next (function at x ps t b) is s;
    few = few.1;
    is = e ∙ (ap (λ (r : Ruled (List C.Function)). r >>= λ fs. keeps (done ++ fs)) (went _ c.2.is refl) ∙ one_more done c.2.value (functions_from gs is));
    count = omega (arith, c.1, n, length-append done (c.2.value ∷ []));
    left = omega (arith, l, c.1);
    place = omega (arith, c.0, place, bodies_on done c.2.value, c.2.size);
    there = row_more core₀ done c.2.value total (omega (arith, l, n)) there (made_place core c.2.value q (entry f) place (ap entry n) c.2.there);
  }

  some_next : p < words → {j k : ℕ} {core' : List ℕ} → Passes text tree gs p q f core (Ok (record { core = j; functions = k })) core' → (is : List Item) → Standing text tree words p is → FewParameters is → Rest is → total ≡ f + function_count is → Onward j k core'
  some_next l x [] s few e c = absurd (no_more s l)
  some_next l x (i ∷ is) s few e c = item_next i is s few e c (x.by words i is s few)

  item_fault : {d : Broken} (core' : List ℕ) (i : Item) (is : List Item) → Rest (i ∷ is) → PassCase gs q f core i (Err d) core' → m ≡ breaks d.0
  unfolding functions_from
  item_fault core' (array at x z) is e c = absurd c
  item_fault core' (function at x ps t b) is e c = e ∙ stopped _ (stopped _ c)

  some_fault : p < words → {d : Broken} {core' : List ℕ} → Passes text tree gs p q f core (Err d) core' → (is : List Item) → Standing text tree words p is → FewParameters is → Rest is → m ≡ breaks d.0
  some_fault l {core' = core'} x [] s few e = absurd (no_more s l)
  some_fault l {core' = core'} x (i ∷ is) s few e = item_fault core' i is e (x.by words i is s few)

  none_left : words ≤ p → words ≤ tree_room → total ≤ most_functions → q ≤ p + entry total → (is : List Item) → Standing text tree words p is → Rest is → total ≡ f + function_count is → Filled m total q core₀ core
  unfolding functions_from function_count ◌>>=◌ G.items_words
  none_left l u v w [] s e c = record {
    value = done;
    is = e ∙ ap keeps (append-nil done);
    count = omega (arith, n, c);
    place = place;
    there = there;
    short = omega (arith, s.size, u, v, w);
  }
  none_left l u v w (i ∷ is) s e c = absurd (some_more i is s l)

module _ (text tree : List ℕ) (words : ℕ) (gs : List Global) (total : ℕ) (core₀ : List ℕ) (p q f : ℕ) (core : List ℕ) (x : Filling text tree words gs total core₀ p q f core) where
  abbrev now : (is : List Item) → Standing text tree words 0 is → FewParameters is → total ≡ function_count is → Progress text tree words gs total core₀ p q f core (functions_from gs is)
  now is s few n = x.by is s few n

  next_at : {j k : ℕ} {core' : List ℕ} → p < words → Passes text tree gs p q f core (Ok (record { core = j; functions = k })) core' → Filling text tree words gs total core₀ (next_of tree p) j k core'
  next_at l y = record {
    by = λ is s few n. let h = now is s few n in some_next text tree words gs total core₀ p q f core (functions_from gs is) h.done h.count h.place h.there l y h.rest h.stands h.few h.is h.left;
    place = omega (arith, x.place, y.bounded.0);
    entry_at = omega (arith, x.entry_at, y.bounded.1, S.eight_further tree p);
  }

  pub filling_next : {w : Reached} {i : ℕ} {r : Result Reached Broken} {core' : List ℕ} → p < words → r ≡ Ok w → Passes text tree gs p q f core r core' → i ≡ next_of tree p → Filling text tree words gs total core₀ i w.core w.functions core'
  filling_next {core' = core'} l e y z = rw z (next_at l (subst (λ (u : Result Reached Broken). Passes text tree gs p q f core u core') e y))

  fault_at_lem : {d : Broken} {core' : List ℕ} → p < words → Passes text tree gs p q f core (Err d) core' → Fills text tree words gs total core₀ (Err d) core'
  fault_at_lem l y = record { by = λ is s few n. let h = now is s few n in some_fault text tree words gs total core₀ p q f core (functions_from gs is) h.done h.count h.place h.there l y h.rest h.stands h.few h.is }

  pub filling_fault : {d : Broken} {r : Result Reached Broken} {core' : List ℕ} → p < words → r ≡ Err d → Passes text tree gs p q f core r core' → Fills text tree words gs total core₀ (Err d) core'
  filling_fault {core' = core'} l e y = fault_at_lem l (subst (λ (u : Result Reached Broken). Passes text tree gs p q f core u core') e y)

  pub filling_end : words ≤ p → words ≤ tree_room → total ≤ most_functions → Fills text tree words gs total core₀ (Ok (record { core = q; functions = f })) core
  filling_end l u v = record { by = λ is s few n. let h = now is s few n in none_left text tree words gs total core₀ p q f core (functions_from gs is) h.done h.count h.place h.there l u v x.place h.rest h.stands h.is h.left }
