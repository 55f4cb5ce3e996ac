-- `main`: its name byte by byte, its entry, and the rules of it.
use mathlib.Core.Path.{◌≡◌, refl, sym, ap, ◌∙◌}
use mathlib.Core.Bool.{Bool, true, false}
use mathlib.Core.List.{List, [], ◌∷◌}
use mathlib.Core.Option.{none, some}
use Prim.Native.Nat.{ℕ, zero, suc, ◌+◌}
use native.Mathlib.Omega.{arith}
use lib.Dec.{eqb}
use lib.ListN.{length, get_or}
use borrow.Author.Tests.{eq-eqb, ne_eqb}
use Rattle.word.specs.Choice.{pick, both}
use Rattle.language.specs.Tree.{Place, Name, Ty}
use Rattle.language.specs.Tokens.{bytes, same}
use Rattle.language.specs.Rules.{keeps, ◌>>=◌, ◌>>◌, need, found, absent, is_function, Global, function_of, main_name, main_of}
use Rattle.rules.specs.Tables.{word, part, type_of, result_of, types_from, thing_at}
use Rattle.std.specs.Prelude.{Some, None, Ok, Err}
use Rattle.rules.specs.declared.program.Global as H
use Rattle.rules.specs.declared.program.Program.{Program}
use Rattle.rules.specs.Values.{broken_at, globals_of, FindsGlobal}
use Rattle.declarations.specs.Post.{Begins}

-- The name

pub other_length : (t : List ℕ) (a n : ℕ) (x : Name) → (n ≡ length x → ⊥) → false ≡ same (part t a n) x
unfolding part same
other_length t a zero [] h = absurd (h refl)
other_length t a zero (b ∷ x) h = refl
other_length t a (suc n) [] h = refl
other_length t a (suc n) (b ∷ x) h = go (eqb (get_or t a 0) b) (other_length t (a + 1) n x (λ e. h (ap suc e)))
  where
    go : (c : Bool) {r : Bool} → false ≡ r → false ≡ both c r
    go true e = e
    go false e = refl

pub not_main : (t : List ℕ) (a n : ℕ) → (n ≡ 4 → ⊥) → false ≡ same (part t a n) main_name
unfolding bytes
not_main t a n h = other_length t a n main_name h

last : (b : Bool) → both b true ≡ b
last true = refl
last false = refl

four : (t : List ℕ) (a b c d : ℕ) → b ≡ a + 1 → c ≡ b + 1 → d ≡ c + 1 →
    same (part t a 4) main_name ≡ both (eqb (get_or t a 0) 109) (both (eqb (get_or t b 0) 97) (both (eqb (get_or t c 0) 105) (eqb (get_or t d 0) 110)))
unfolding part same bytes
four t a b c d p q r = rw (← p, ← q, ← r, last (eqb (get_or t d 0) 110)) refl

module _ (t : List ℕ) (a n : ℕ) (e : n ≡ 4) where
  main_is : same (part t a n) main_name ≡ both (eqb (get_or t a 0) 109) (both (eqb (get_or t (a + 1) 0) 97) (both (eqb (get_or t (a + 2) 0) 105) (eqb (get_or t (a + 3) 0) 110)))
  main_is = ap (λ (k : ℕ). same (part t a k) main_name) e ∙ four t a (a + 1) (a + 2) (a + 3) refl (omega arith) (omega arith)

  module _ {x : ℕ} (ex : x ≡ get_or t a 0) where
    pub not_first : (x ≡ 109 → ⊥) → false ≡ same (part t a n) main_name
    not_first h = sym (main_is ∙ rw (← ex, ne_eqb x 109 h) refl)

    module _ {y : ℕ} (fx : x ≡ 109) (ey : y ≡ get_or t (a + 1) 0) where
      pub not_second : (y ≡ 97 → ⊥) → false ≡ same (part t a n) main_name
      not_second h = sym (main_is ∙ rw (← ex, ← ey, eq-eqb x 109 fx, ne_eqb y 97 h) refl)

      module _ {z : ℕ} (fy : y ≡ 97) (ez : z ≡ get_or t (a + 2) 0) where
        pub not_third : (z ≡ 105 → ⊥) → false ≡ same (part t a n) main_name
        not_third h = sym (main_is ∙ rw (← ex, ← ey, ← ez, eq-eqb x 109 fx, eq-eqb y 97 fy, ne_eqb z 105 h) refl)

        pub by_fourth : {w : ℕ} {b : Bool} → z ≡ 105 → w ≡ get_or t (a + 3) 0 → b ≡ eqb w 110 → b ≡ same (part t a n) main_name
        by_fourth {w} fz ew q = q ∙ sym (main_is ∙ rw (← ex, ← ey, ← ez, ← ew, eq-eqb x 109 fx, eq-eqb y 97 fy, eq-eqb z 105 fz) refl)

-- The entry

types_count : (ws : List ℕ) (d i n : ℕ) → length (types_from ws d i n) ≡ n
unfolding types_from
types_count ws d i zero = refl
types_count ws d i (suc n) = ap suc (types_count ws d (i + d) n)

no_type : (n : ℕ) → absent (result_of n) ≡ eqb n 0
unfolding result_of
no_type n = go (type_of n) (eqb n 0)
  where
    go : (t : Ty) (b : Bool) → absent (pick b none (some t)) ≡ b
    go t true = refl
    go t false = refl

module _ (p : Program) where
  abbrev gs : List Global
  gs = globals_of p

  pub no_main : (end : Place) → FindsGlobal p main_name None → Begins gs end (Err (broken_at end))
  unfolding main_of found ◌>>=◌
  no_main end f = record { by = rw f.is refl }

  module _ (end : Place) (v : H.Global) (f : FindsGlobal p main_name (Some v)) where
    abbrev place : Place
    place = word p.tree.now (v.header + 1)

    begun : main_of gs end ≡ (found (is_function (thing_at p.tree.now v.header v.value)) place >>= λ s. need (eqb (length s.parameters) 0) place >> (need (absent s.result) place >> keeps s.number))
    unfolding main_of found function_of ◌>>=◌
    begun = rw f.is refl

    pub main_array : {k : Bool} {at : ℕ} → k ≡ eqb (word p.tree.now v.header) 0 → k ≡ true → at ≡ word p.tree.now (v.header + 1) → Begins gs end (Err (broken_at at))
    unfolding thing_at found ◌>>=◌
    main_array ek e q = record { by = begun ∙ rw (q, ← ek, e) refl }

    module _ {k : Bool} {n : ℕ} (ek : k ≡ eqb (word p.tree.now v.header) 0) (fk : k ≡ false) (en : n ≡ word p.tree.now (v.header + 3)) where
      function_begun : main_of gs end ≡ need (eqb n 0) place >> (need (eqb (word p.tree.now (v.header + 4)) 0) place >> keeps v.value)
      unfolding thing_at found ◌>>=◌
      function_begun = begun ∙ rw (← ek, fk, types_count p.tree.now 3 (v.header + 10) (word p.tree.now (v.header + 3)), ← en, no_type (word p.tree.now (v.header + 4))) refl

      pub main_takes : {at : ℕ} → (n ≡ 0 → ⊥) → at ≡ word p.tree.now (v.header + 1) → Begins gs end (Err (broken_at at))
      unfolding need ◌>>=◌
      main_takes fn q = record { by = function_begun ∙ rw (q, ne_eqb n 0 fn) refl }

      module _ {r : ℕ} (fn : n ≡ 0) (er : r ≡ word p.tree.now (v.header + 4)) where
        pub main_gives : {at : ℕ} → (r ≡ 0 → ⊥) → at ≡ word p.tree.now (v.header + 1) → Begins gs end (Err (broken_at at))
        unfolding need ◌>>=◌
        main_gives fr q = record { by = function_begun ∙ rw (q, ← er, eq-eqb n 0 fn, ne_eqb r 0 fr) refl }

        pub main_found : r ≡ 0 → Begins gs end (Ok v.value)
        unfolding need ◌>>=◌
        main_found fr = record { by = function_begun ∙ rw (← er, eq-eqb n 0 fn, eq-eqb r 0 fr) refl }
