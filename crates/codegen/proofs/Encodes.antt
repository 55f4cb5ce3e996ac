-- Every instruction of the image has a word.
use mathlib.Core.Path.{◌≡◌, refl}
use mathlib.Core.Bool.{Bool, true, false}
use mathlib.Core.List.{List, [], ◌∷◌, ◌++◌}
use Prim.Native.Nat.{ℕ, zero, suc, ◌+◌, ◌≤◌, ◌<◌}
use native.Mathlib.Omega.{arith}
use lib.ListN.{length, length-append, get_or}
use borrow.Author.Tests.{ltb-true}
use Rattle.language.specs.Core.{Function, Program}
use Rattle.symbolic.specs.Fine.{Fine, AllFine, most_instructions}
use Rattle.symbolic.proofs.AllFine.{fine_append}
use Rattle.codegen.specs.Statements.{function_by, near_in, function}
use Rattle.codegen.specs.Image.{starting, traps, functions_start, entry_from, entry_of, functions_from, instructions_of}
use Rattle.codegen.specs.Owed.{nothing, Proper, Owed}
use Rattle.codegen.proofs.Lengths.{by_len, function_len}
use Rattle.codegen.proofs.Ranges.{Within, small}
use Rattle.codegen.proofs.Reaches.{fine_by}

-- a function begins before the functions end
entry_low : (e : ℕ → ℕ) (gs : List Function) (p f : ℕ) → entry_from gs p f ≤ p + length (functions_from e gs)
unfolding entry_from functions_from
entry_low e [] p f = omega arith
entry_low e (g ∷ gs) p zero = omega arith
entry_low e (g ∷ gs) p (suc f) =
    let a = entry_low e gs (p + length (function (λ _. 0) g)) f in
    let b = function_len e (λ _. 0) g in
    let c = length-append (function e g) (functions_from e gs) in
    omega (arith, a, b, c)

short_enough : (g : Function) → near_in g ≡ true → length (function_by (λ _. 0) true g) < 1024
unfolding near_in
short_enough g e = ltb-true _ _ e

module _ (p : Program) (O : Owed p) (fits : length (instructions_of p) ≤ most_instructions) where
  total : functions_start + length (functions_from (entry_of p) p.functions) ≤ most_instructions
  unfolding instructions_of
  total =
      let a = length-append (starting (entry_of p p.main)) (traps ++ functions_from (entry_of p) p.functions) in
      let b = length-append traps (functions_from (entry_of p) p.functions) in
      omega (arith, a, b, fits)

  low : (f : ℕ) → entry_of p f ≤ most_instructions
  low f = let a = entry_low (entry_of p) p.functions functions_start f in omega (arith, a, total)

  fine_function : (g : Function) → Proper p.functions p.elements g → length (function (entry_of p) g) ≤ most_instructions → AllFine (function (entry_of p) g)
  unfolding function
  fine_function g P h = go (near_in g) refl h
    where
      reach : (t : Bool) → near_in g ≡ t → length (function_by (entry_of p) t g) ≤ most_instructions → Within t (length (function_by (entry_of p) t g))
      reach true e h = let k = short_enough g e in let b = by_len true (entry_of p) (λ _. 0) g in omega (arith, k, b)
      reach false e h = h

      go : (t : Bool) → near_in g ≡ t → length (function_by (entry_of p) t g) ≤ most_instructions → AllFine (function_by (entry_of p) t g)
      go t e h =
          fine_by p.functions p.elements O.few_elements (entry_of p) (λ f k. low f) (λ f k. (O.each f k).few) (g.parameters + g.lets) P.locals t g refl P.body (reach t e h)

  fine_functions : (gs : List Function) → ((f : ℕ) → f < length gs → Proper p.functions p.elements (get_or gs f nothing)) → length (functions_from (entry_of p) gs) ≤ most_instructions
      → AllFine (functions_from (entry_of p) gs)
  unfolding functions_from
  fine_functions [] h k = tt
  fine_functions (g ∷ gs) h k =
      let c = length-append (function (entry_of p) g) (functions_from (entry_of p) gs) in
      fine_append (function (entry_of p) g) _ (fine_function g (h 0 (omega arith)) (omega (arith, c))) (fine_functions gs (λ f l. h (suc f) (omega arith)) (omega (arith, c)))

  fine_starting : AllFine (starting (entry_of p p.main))
  unfolding Fine
  fine_starting = (
    (omega arith, (omega arith, refl)),
    (
      (omega arith, (omega arith, refl)),
      (
        (refl, omega arith, tt, small 1 (omega arith)),
        (
          low p.main,
          ((refl, omega arith, tt, small 0 (omega arith)), (tt, tt)),
        ),
      ),
    ),
  )

  fine_traps : AllFine traps
  unfolding Fine
  fine_traps = (
    (refl, omega arith, tt, small 1 (omega arith)),
    (
      (refl, omega arith, tt, small 2 (omega arith)),
      (
        tt,
        (
          (refl, omega arith, tt, small 2 (omega arith)),
          (
            (refl, omega arith, tt, small 2 (omega arith)),
            (
              tt,
              ((refl, omega arith, tt, small 3 (omega arith)), ((refl, omega arith, tt, small 2 (omega arith)), (tt, tt))),
            ),
          ),
        ),
      ),
    ),
  )

  pub fine : AllFine (instructions_of p)
  unfolding instructions_of
  fine =
      fine_append (starting (entry_of p p.main)) (traps ++ functions_from (entry_of p) p.functions) fine_starting
      (fine_append traps (functions_from (entry_of p) p.functions) fine_traps
      (fine_functions p.functions O.each (let t = total in omega (arith, t))))
