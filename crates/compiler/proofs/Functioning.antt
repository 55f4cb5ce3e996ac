-- The code of functions, piece by piece from its end, and its length.
use Prim.Native.Nat.{ℕ, ◌+◌, ◌-◌, ◌<◌}
use native.Mathlib.Omega.{arith}
use native.Mathlib.Decide.{dec_lt}
use mathlib.Core.Path.{◌≡◌, sym, ap, ◌∙◌, subst, subst⁻¹}
use mathlib.Core.Bool.{Bool, true}
use mathlib.Core.List.{List, [], ◌∷◌, ◌++◌}
use borrow.Author.Tests.{lt-ltb, le-ltb}
use lib.Dec.{ltb}
use lib.ListN.{length}
use Rattle.processor.specs.declared.Alu.TheVariants.{Add}
use Rattle.processor.specs.declared.Cond.TheVariants.{Ne}
use Rattle.language.specs.Core.{Function}
use Rattle.flat.specs.Words.{word}
use Rattle.symbolic.specs.Symbolic.{x0, ra, sp, answer, opi, sw, branch, call}
use Rattle.codegen.specs.Operators.{stub}
use Rattle.codegen.specs.Statements.{limit, leaving, block, clears, function_by, near_in}
use Rattle.codegen.proofs.Lengths.{by_len}
use Rattle.emission.specs.Tape.{Emits}
use Rattle.emission.proofs.Laws.{after}
use Rattle.compiler.specs.Post.{entry_in}
use Rattle.compiler.specs.Standing.{Stand}
use Rattle.compiler.specs.Blocks.{Blocks}
use Rattle.compiler.specs.Functions.{FunctionAt, Functions, Measures, Nearness}

module _ {ws es : List ℕ} {near : Bool} {base at place n x y : ℕ} (ep : place ≡ word ws base) (en : n ≡ word ws (base + 1)) (ex : x ≡ word ws (base + 2)) (ey : y ≡ word ws (base + 3)) where
  pub function_far : {us : List ℕ} → 1073741824 < place → Functions ws es near base at us us at
  function_far h = record { each = λ (g : Function) (f : FunctionAt ws base g). absurd (omega (arith, f.inside)) }

  pub function_many : {us : List ℕ} → 64 < x → Functions ws es near base at us us at
  function_many h = record { each = λ (g : Function) (f : FunctionAt ws base g). absurd (omega (arith, f.parameters, f.few)) }

  pub function_large : {us : List ℕ} → 64 < y → Functions ws es near base at us us at
  function_large h = record { each = λ (g : Function) (f : FunctionAt ws base g). absurd (omega (arith, f.lets, f.small)) }

  pub function_whole : {us us₁ us₂ us₃ us₄ : List ℕ} {r₁ r₂ r₃ r₄ : ℕ} → Emits (opi Add answer x0 0 ∷ leaving) at us us₁ r₁ → Blocks ws es near place n r₁ us₁ us₂ r₂ →
      Emits (clears x y) r₂ us₂ us₃ r₃ → Emits (branch Ne sp limit 2 ∷ call (stub 3) ∷ sw ra sp 0 ∷ []) r₃ us₃ us₄ r₄ → Functions ws es near base at us us₄ r₄
  unfolding function_by
  function_whole {us} {us₁} {us₂} {us₃} {us₄} {r₁} {r₂} {r₃} {r₄} e b c o = record { each = λ (g : Function) (f : FunctionAt ws base g). by g f (bodied g f) (cleared g f) }
    where
      bodied : (g : Function) → FunctionAt ws base g → Emits (block (entry_in es) near g.body) r₁ us₁ us₂ r₂
      bodied g f = b.each g.body (subst⁻¹ (λ (k : ℕ). Stand ws g.body k n) ep (subst⁻¹ (λ (k : ℕ). Stand ws g.body (word ws base) k) en f.body))

      cleared : (g : Function) → FunctionAt ws base g → Emits (clears g.parameters g.lets) r₂ us₂ us₃ r₃
      cleared g f =
          subst (λ (k : ℕ). Emits (clears k g.lets) r₂ us₂ us₃ r₃) (ex ∙ f.parameters) (subst (λ (k : ℕ). Emits (clears x k) r₂ us₂ us₃ r₃) (ey ∙ f.lets) c)

      by : (g : Function) → FunctionAt ws base g → Emits (block (entry_in es) near g.body) r₁ us₁ us₂ r₂ → Emits (clears g.parameters g.lets) r₂ us₂ us₃ r₃ →
          Emits (branch Ne sp limit 2 ∷ call (stub 3) ∷ sw ra sp 0 ∷ (clears g.parameters g.lets ++ (block (entry_in es) near g.body ++ (opi Add answer x0 0 ∷ leaving)))) at us us₄ r₄
      by g f s t = after (after (after e s) t) o

pub measured : {ws es : List ℕ} {near : Bool} {base r : ℕ} {us us' : List ℕ} → Functions ws es near base 262144 us us' r → Measures ws near base (262144 - r)
measured {ws} {es} {near} {base} {r} s = record {
  each = λ (g : Function) (f : FunctionAt ws base g) (entry : ℕ → ℕ). ap (λ (k : ℕ). 262144 - k) (s.each g f).position ∙ ap (λ (k : ℕ). 262144 - (262144 - k)) (by_len near (entry_in es) entry g);
}

near_by : (n m : ℕ) → m ≡ 262144 - (262144 - n) → Dec (n < 1024) → ltb m 1024 ≡ ltb n 1024
near_by n m e (yes h) = lt-ltb m 1024 (omega arith) ∙ sym (lt-ltb n 1024 h)
near_by n m e (no h) = le-ltb m 1024 (omega arith) ∙ sym (le-ltb n 1024 (omega arith))

pub nearness : {ws : List ℕ} {base m : ℕ} → Measures ws true base m → Nearness ws base (ltb m 1024)
unfolding near_in
nearness {ws} {base} {m} s = record {
  each = λ (g : Function) (f : FunctionAt ws base g).
      near_by (length (function_by (λ _. 0) true g)) m (s.each g f (λ _. 0)) (dec_lt (length (function_by (λ _. 0) true g)) 1024);
}
