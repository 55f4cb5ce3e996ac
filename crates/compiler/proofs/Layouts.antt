-- Where functions begin: one behind the other, and by the table.
use Prim.Native.Nat.{ℕ, zero, suc, ◌+◌, ◌-◌, ◌*◌, ◌≤◌, ◌<◌}
use native.Mathlib.Omega.{arith}
use native.Mathlib.Decide.{dec_lt}
use mathlib.Core.Path.{◌≡◌, refl, sym, ap, ◌∙◌, subst, subst⁻¹, fun_ext}
use mathlib.Core.Bool.{Bool}
use mathlib.Core.List.{List, [], ◌∷◌, ◌++◌}
use mathlib.Core.Logic.{inl, inr}
use borrow.Author.Tests.{lt-ltb, le-ltb, le-leb}
use lib.Dec.{ltb}
use lib.ListN.{length, get_or, set, take, drop, length-append, drop_of_length-le}
use lib.Seq.{get_or-set_same, get_or-set_other, drop-cons}
use Rattle.word.specs.Choice.{pick}
use Rattle.word.specs.Bytes.{bytes_of, bytes_of_words}
use Rattle.language.specs.Core.{Function, Program}
use Rattle.flat.specs.Words.{word}
use Rattle.symbolic.specs.Symbolic.{Instruction}
use Rattle.symbolic.specs.Real.{words_from, image_of}
use Rattle.codegen.specs.Owed.{nothing}
use Rattle.codegen.specs.Statements.{function_by, function}
use Rattle.codegen.specs.Image.{starting, traps, functions_start, entry_from, entry_of, functions_from, instructions_of, image}
use Rattle.codegen.proofs.Lengths.{function_len}
use Rattle.emission.specs.Tape.{Emits}
use Rattle.emission.proofs.Laws.{none, after}
use Rattle.emission.proofs.Wordwise.{imaged}
use Rattle.std.specs.Prelude.{Ok, Err}
use Rattle.compiler.specs.declared.TooLong.{TooLong}
use Rattle.compiler.specs.Post.{position, entry_in}
use Rattle.compiler.specs.Functions.{FunctionAt, Functions, Measures, Nearness}
use Rattle.compiler.specs.Programs.{FunctionsAt, Lengths, Fits, Exceeds, Bodies, ProgramAt, Gives, Pictures}

abbrev long : Function → ℕ
long g = length (function (λ _. 0) g)

entry_next : (gs : List Function) (p f : ℕ) → f < length gs → entry_from gs p (suc f) ≡ entry_from gs p f + long (get_or gs f nothing)
unfolding entry_from
entry_next [] p f h = absurd (omega arith)
entry_next (g ∷ []) p zero h = refl
entry_next (g ∷ (g' ∷ gs)) p zero h = refl
entry_next (g ∷ gs) p (suc f) h = entry_next gs (p + long g) f (omega arith)

entry_past : (gs : List Function) (p f : ℕ) → length gs ≤ f → entry_from gs p f ≡ entry_from gs p (length gs)
unfolding entry_from
entry_past [] p f h = refl
entry_past (g ∷ gs) p zero h = absurd (omega arith)
entry_past (g ∷ gs) p (suc f) h = entry_past gs (p + long g) f (omega arith)

entry_least : (gs : List Function) (p : ℕ) → p ≤ entry_from gs p (length gs)
unfolding entry_from
entry_least [] p = omega arith
entry_least (g ∷ gs) p = omega (arith, entry_least gs (p + long g))

entry_below : (gs : List Function) (p f : ℕ) → f ≤ length gs → entry_from gs p f ≤ entry_from gs p (length gs)
unfolding entry_from
entry_below [] p f h = omega arith
entry_below (g ∷ gs) p zero h = omega (arith, entry_least gs (p + long g))
entry_below (g ∷ gs) p (suc f) h = entry_below gs (p + long g) f (omega arith)

-- the functions' code reaches from the first position to the last
functions_long : (entry : ℕ → ℕ) (gs : List Function) (p : ℕ) → entry_from gs p (length gs) ≡ p + length (functions_from entry gs)
unfolding entry_from functions_from
functions_long entry [] p = omega arith
functions_long entry (g ∷ gs) p =
    omega (arith, functions_long entry gs (p + long g), length-append (function entry g) (functions_from entry gs), function_len entry (λ _. 0) g)

-- How long one function is

pub lengths : {ws : List ℕ} {base r : ℕ} {near : Bool} → Nearness ws base near → Measures ws near base r → Lengths ws base r
unfolding function
lengths {ws} {base} {r} {near} n m = record {
  each = λ (g : Function) (f : FunctionAt ws base g).
      m.each g f (λ _. 0) ∙ ap (λ (b : Bool). 262144 - (262144 - length (function_by (λ _. 0) b g))) (n.each g f);
}

-- The table, function by function

pub record Laying (ws es : List ℕ) (n f p : ℕ) : Type 0 where
  pub each : (gs : List Function) → FunctionsAt ws gs → length gs ≡ n → (p ≡ entry_from gs functions_start f) × ((k : ℕ) → k < f → get_or es k 0 ≡ entry_from gs functions_start k)

entry_first : (gs : List Function) (p : ℕ) → p ≡ entry_from gs p 0
unfolding entry_from
entry_first [] p = refl
entry_first (g ∷ gs) p = refl

-- one word more
filled : (es : List ℕ) (f p : ℕ) (v : ℕ → ℕ) → f < length es → p ≡ v f → ((k : ℕ) → k < f → get_or es k 0 ≡ v k) → (k : ℕ) → k < f + 1 → get_or (set es f p) k 0 ≡ v k
filled es f p v h e t k l = by (dec_lt k f)
  where
    by : Dec (k < f) → get_or (set es f p) k 0 ≡ v k
    by (yes b) = get_or-set_other es f k p 0 (λ (c : k ≡ f). omega arith) ∙ t k b
    by (no b) = ap (λ (j : ℕ). get_or (set es f p) j 0) {x = k} {y = f} (omega arith) ∙ get_or-set_same es f p 0 h ∙ e ∙ ap v {x = f} {y = k} (omega arith)

module _ {ws es : List ℕ} {n : ℕ} where
  pub laying_start : Laying ws es n 0 15
  laying_start = record { each = λ (gs : List Function) (a : FunctionsAt ws gs) (c : length gs ≡ n). (entry_first gs 15, λ (k : ℕ) (h : k < 0). absurd (omega arith)) }

  module _ {f p : ℕ} (s : Laying ws es n f p) where
    past : (gs : List Function) → length gs ≤ f → entry_from gs 15 f ≡ entry_from gs 15 (f + 1)
    past gs h = entry_past gs 15 f h ∙ sym (entry_past gs 15 (f + 1) (omega arith))

    further : (gs : List Function) → f < length gs → entry_from gs 15 (f + 1) ≡ entry_from gs 15 f + long (get_or gs f nothing)
    further gs h = ap (entry_from gs 15) {x = f + 1} {y = suc f} (omega arith) ∙ entry_next gs 15 f h

    pub laying_past : n ≤ f → f < length es → Laying ws (set es f p) n (f + 1) p
    laying_past h l = record {
      each = λ (gs : List Function) (a : FunctionsAt ws gs) (c : length gs ≡ n).
          ((s.each gs a c).0 ∙ past gs (omega arith), filled es f p (entry_from gs 15) l (s.each gs a c).0 (s.each gs a c).1);
    }

    module _ {m : ℕ} (h : f < n) (w : Lengths ws (3 + 4 * f) m) where
      pub laying_next : f < length es → p + m ≤ 131072 → Laying ws (set es f p) n (f + 1) (p + m)
      laying_next l b = record { each = λ (gs : List Function) (a : FunctionsAt ws gs) (c : length gs ≡ n). by gs a c }
        where
          by : (gs : List Function) → FunctionsAt ws gs → length gs ≡ n → (p + m ≡ entry_from gs 15 (f + 1)) × ((k : ℕ) → k < f + 1 → get_or (set es f p) k 0 ≡ entry_from gs 15 k)
          by gs a c =
              let e : m ≡ 262144 - (262144 - long (get_or gs f nothing)) = w.each (get_or gs f nothing) (a.each f (omega arith)) in
              (omega (arith, e, (s.each gs a c).0, further gs (omega arith)), filled es f p (entry_from gs 15) l (s.each gs a c).0 (s.each gs a c).1)

      pub laying_long : 131072 < p + m → Exceeds ws n
      laying_long b = record { each = λ (gs : List Function) (a : FunctionsAt ws gs) (c : length gs ≡ n). by gs a c }
        where
          by : (gs : List Function) → FunctionsAt ws gs → length gs ≡ n → 131072 < entry_from gs 15 n
          by gs a c =
              let e : m ≡ 262144 - (262144 - long (get_or gs f nothing)) = w.each (get_or gs f nothing) (a.each f (omega arith)) in
              let g : entry_from gs 15 n ≡ entry_from gs 15 (length gs) = ap (entry_from gs 15) (sym c) in
              omega (arith, e, g, (s.each gs a c).0, further gs (omega arith), entry_below gs 15 (f + 1) (omega arith))

    pub laying_end : length es ≤ f → n < length es → p ≤ 131072 → Fits ws es n p
    laying_end h b small = record {
      small = small;
      each = λ (gs : List Function) (a : FunctionsAt ws gs) (c : length gs ≡ n).
          ((s.each gs a c).0 ∙ entry_past gs 15 f (omega arith) ∙ ap (entry_from gs 15) c, λ (k : ℕ) (i : k < length es). (s.each gs a c).1 k (omega arith));
    }

-- By the table functions begin where they do

table_at : (es : List ℕ) (f : ℕ) → 0 < length es → (v : ℕ → ℕ) → ((k : ℕ) → k < length es → get_or es k 0 ≡ v k) → (length es ≤ f → v (length es - 1) ≡ v f) → v f ≤ 131072 → entry_in es f ≡ v f
unfolding entry_in
table_at es f pos v t past small = by (dec_lt f (length es))
  where
    found : (x : ℕ) → x ≡ v f → position x ≡ v f
    found x e = ap (λ (b : Bool). pick b x 0) (le-leb x 131072 (omega arith)) ∙ e

    by : Dec (f < length es) → entry_in es f ≡ v f
    by (yes h) = found (pick (ltb f (length es)) (get_or es f 0) (get_or es (length es - 1) 0)) (ap (λ (b : Bool). pick b (get_or es f 0) (get_or es (length es - 1) 0)) (lt-ltb f (length es) h) ∙ t f h)
    by (no h) =
        found (pick (ltb f (length es)) (get_or es f 0) (get_or es (length es - 1) 0))
        (ap (λ (b : Bool). pick b (get_or es f 0) (get_or es (length es - 1) 0)) (le-ltb f (length es) (omega arith)) ∙ t (length es - 1) (omega arith) ∙ past (omega arith))

entry_most : (gs : List Function) (f : ℕ) → entry_from gs 15 f ≤ entry_from gs 15 (length gs)
entry_most gs f = by (dec_lt f (length gs))
  where
    by : Dec (f < length gs) → entry_from gs 15 f ≤ entry_from gs 15 (length gs)
    by (yes h) = entry_below gs 15 f (omega arith)
    by (no h) = omega (arith, entry_past gs 15 f (omega arith))

pub entries_are : {ws es : List ℕ} {n r : ℕ} → Fits ws es n r → n < length es → (gs : List Function) → FunctionsAt ws gs → length gs ≡ n → entry_in es ≡ entry_from gs functions_start
entries_are {ws} {es} {n} {r} y room gs a c = fun_ext (λ (f : ℕ). by f)
  where
    by : (f : ℕ) → entry_in es f ≡ entry_from gs 15 f
    by f =
        let e : r ≡ entry_from gs 15 n = (y.each gs a c).0 in
        let g : entry_from gs 15 n ≡ entry_from gs 15 (length gs) = ap (entry_from gs 15) (sym c) in
        table_at es f (omega arith) (entry_from gs 15) (y.each gs a c).1
        (λ (h : length es ≤ f). entry_past gs 15 (length es - 1) (omega arith) ∙ sym (entry_past gs 15 f (omega arith))) (omega (arith, e, g, entry_most gs f, y.small))

-- The code of functions, the last one first

pub record Going (ws es : List ℕ) (n end : ℕ) (us : List ℕ) (f at : ℕ) (us' : List ℕ) : Type 0 where
  pub each : (gs : List Function) → FunctionsAt ws gs → length gs ≡ n → Emits (functions_from (entry_in es) (drop f gs)) end us us' at

module _ {ws es : List ℕ} {n end : ℕ} {us : List ℕ} where
  pub going_start : Going ws es n end us n end us
  unfolding functions_from
  going_start = record {
    each = λ (gs : List Function) (a : FunctionsAt ws gs) (c : length gs ≡ n).
        subst⁻¹ (λ (l : List Function). Emits (functions_from (entry_in es) l) end us us end) (drop_of_length-le gs {i = n} (omega arith)) none;
  }

  pub going_next : {f at r : ℕ} {us₁ us₂ : List ℕ} {near : Bool} → Going ws es n end us f at us₁ → 0 < f → f ≤ n → Nearness ws (3 + 4 * (f - 1)) near →
      Functions ws es near (3 + 4 * (f - 1)) at us₁ us₂ r → Going ws es n end us (f - 1) r us₂
  unfolding functions_from function
  going_next {f} {at} {r} {us₁} {us₂} {near} s pos few nr w = record { each = λ (gs : List Function) (a : FunctionsAt ws gs) (c : length gs ≡ n). by gs a c }
    where
      one : (gs : List Function) (g : Function) → FunctionAt ws (3 + 4 * (f - 1)) g → Emits (functions_from (entry_in es) (drop f gs)) end us us₁ at → Emits (functions_from (entry_in es) (g ∷ drop f gs)) end us us₂ r
      one gs g x e = after e (subst (λ (b : Bool). Emits (function_by (entry_in es) b g) at us₁ us₂ r) (nr.each g x) (w.each g x))

      moved : (hs : List Function) (g : Function) → FunctionAt ws (3 + 4 * (f - 1)) g → Emits (functions_from (entry_in es) (drop f hs)) end us us₁ at →
          Emits (functions_from (entry_in es) (g ∷ drop (suc (f - 1)) hs)) end us us₂ r
      moved hs g x e = subst (λ (k : ℕ). Emits (functions_from (entry_in es) (g ∷ drop k hs)) end us us₂ r) {x = f} {y = suc (f - 1)} (omega arith) (one hs g x e)

      by : (gs : List Function) → FunctionsAt ws gs → length gs ≡ n → Emits (functions_from (entry_in es) (drop (f - 1) gs)) end us us₂ r
      by gs a c =
          subst⁻¹ (λ (l : List Function). Emits (functions_from (entry_in es) l) end us us₂ r) (drop-cons gs (f - 1) nothing (omega arith))
          (moved gs (get_or gs (f - 1) nothing) (a.each (f - 1) (omega arith)) (s.each gs a c))

  pub going_end : {f at : ℕ} {us₁ : List ℕ} → Going ws es n end us f at us₁ → f ≤ 0 → Bodies ws es n end us us₁ at
  going_end {f} {at} {us₁} s z = record {
    each = λ (gs : List Function) (a : FunctionsAt ws gs) (c : length gs ≡ n). subst (λ (k : ℕ). Emits (functions_from (entry_in es) (drop k gs)) end us us₁ at) {x = f} {y = 0} (omega arith) (s.each gs a c);
  }

-- The image

bytes_long : (ws : List ℕ) → length (bytes_of_words ws) ≡ 4 * length ws
unfolding bytes_of_words bytes_of
bytes_long [] = refl
bytes_long (w ∷ ws) = omega (arith, bytes_long ws)

words_long : (k : ℕ) (c : List Instruction) → length (words_from k c) ≡ length c
unfolding words_from
words_long k [] = refl
words_long k (i ∷ c) = ap suc (words_long (suc k) c)

image_long : (p : Program) → length (image p) ≡ 4 * length (instructions_of p)
unfolding image image_of
image_long p = bytes_long (words_from 0 (instructions_of p)) ∙ ap (λ (n : ℕ). 4 * n) (words_long 0 (instructions_of p))

code_long : (p : Program) → length (instructions_of p) ≡ entry_from p.functions 15 (length p.functions)
unfolding instructions_of
code_long p = omega (arith, functions_long (entry_of p) p.functions 15)

assembled : (p : Program) {k r s t : ℕ} {us us₂ us₃ : List ℕ} → k ≡ entry_of p p.main → Emits (starting k) s us₂ us₃ t → Emits (traps ++ functions_from (entry_of p) p.functions) r us us₂ s →
    Emits (instructions_of p) r us us₃ t
unfolding instructions_of
assembled p {s = s} {t = t} {us₂ = us₂} {us₃ = us₃} f st x = after x (subst (λ (v : ℕ). Emits (starting v) s us₂ us₃ t) f st)

pictured : (p : Program) {bs : List ℕ} → bs ≡ image_of (instructions_of p) → bs ≡ image p
unfolding image
pictured p h = h

pub too_long : (x : TooLong) {ws bytes : List ℕ} {n : ℕ} → n ≡ word ws 0 → Exceeds ws n → Pictures ws bytes (Err x) bytes
too_long x {ws} {bytes} {n} en y = record { each = λ (p : Program) (a : ProgramAt ws p). by p a }
  where
    by : (p : Program) → ProgramAt ws p → Gives p bytes (Err x) bytes
    by p a =
        let c : length p.functions ≡ n = sym a.count ∙ sym en in
        let e : entry_from p.functions 15 n ≡ entry_from p.functions 15 (length p.functions) = ap (entry_from p.functions 15) (sym c) in
        (inl (omega (arith, image_long p, code_long p, e, y.each p.functions a.functions c)), refl)

module _ {ws es : List ℕ} {n r : ℕ} (en : n ≡ word ws 0) (y : Fits ws es n r) where
  pub no_room : (x : TooLong) {bytes : List ℕ} → length bytes < 4 * r → Pictures ws bytes (Err x) bytes
  no_room x {bytes} h = record { each = λ (p : Program) (a : ProgramAt ws p). by p a }
    where
      by : (p : Program) → ProgramAt ws p → Gives p bytes (Err x) bytes
      by p a =
          let c : length p.functions ≡ n = sym a.count ∙ sym en in
          let e : entry_from p.functions 15 n ≡ entry_from p.functions 15 (length p.functions) = ap (entry_from p.functions 15) (sym c) in
          (inr (omega (arith, image_long p, code_long p, e, (y.each p.functions a.functions c).0)), refl)

  pub compiled : {us us₁ us₂ us₃ bytes bytes' : List ℕ} {m low s t k : ℕ} → n < length es → 131072 ≤ length us → m ≡ word ws 1 → k ≡ entry_in es m → Bodies ws es n r us us₁ low →
      Emits traps low us₁ us₂ s → Emits (starting k) s us₂ us₃ t → bytes' ≡ bytes_of_words (take r us₃) ++ drop (4 * r) bytes → Pictures ws bytes (Ok (4 * r)) bytes'
  compiled {us} {us₁} {us₂} {us₃} {bytes} {bytes'} {m} {low} {s} {t} {k} room wide em ek b tr st eb = record { each = λ (p : Program) (a : ProgramAt ws p). by p a }
    where
      whole : (p : Program) → entry_in es ≡ entry_of p → k ≡ entry_of p p.main → Emits (functions_from (entry_in es) p.functions) r us us₁ low → Emits (instructions_of p) r us us₃ t
      whole p e f x = assembled p f st (after (subst (λ (v : ℕ → ℕ). Emits (functions_from v p.functions) r us us₁ low) e x) tr)

      by : (p : Program) → ProgramAt ws p → Gives p bytes (Ok (4 * r)) bytes'
      by p a =
          let c : length p.functions ≡ n = sym a.count ∙ sym en in
          let e : entry_in es ≡ entry_of p = entries_are y room p.functions a.functions c in
          let g : entry_from p.functions 15 n ≡ entry_from p.functions 15 (length p.functions) = ap (entry_from p.functions 15) (sym c) in
          let l : r ≡ length (instructions_of p) = omega (arith, code_long p, g, (y.each p.functions a.functions c).0) in
          let f : k ≡ entry_of p p.main = ek ∙ ap (λ (v : ℕ → ℕ). v m) e ∙ ap (entry_of p) (em ∙ a.main) in
          (omega (arith, l, image_long p), eb ∙ ap (λ (x : List ℕ). x ++ drop (4 * r) bytes) (pictured p (imaged (whole p e f (b.each p.functions a.functions c)) l (omega (arith, y.small)))))
