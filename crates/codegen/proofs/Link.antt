-- The functions are where calls look for them, and so are the traps.
use mathlib.Core.Path.{◌≡◌, refl, ap, ◌∙◌, subst}
use mathlib.Core.List.{List, [], ◌∷◌, ◌++◌}
use Prim.Native.Nat.{ℕ, zero, suc, ◌+◌, ◌<◌}
use native.Mathlib.Omega.{arith}
use lib.ListN.{length, get_or}
use Rattle.language.specs.Core.{Function, Program}
use Rattle.symbolic.specs.Symbolic.{Instruction}
use Rattle.codegen.specs.Statements.{function}
use Rattle.codegen.specs.Image.{starting, traps, functions_start, entry_from, entry_of, functions_from, instructions_of}
use Rattle.codegen.specs.Owed.{nothing, Owed}
use Rattle.codegen.proofs.Placement.{At, at_split, at_len, at_whole}
use Rattle.codegen.proofs.Lengths.{function_len}
use Rattle.codegen.proofs.Activation.{Linked}

pub found : (code : List Instruction) (e : ℕ → ℕ) (gs : List Function) (p q : ℕ) → At code p (functions_from e gs) q
    → (f : ℕ) → f < length gs → (r : ℕ) × At code (entry_from gs p f) (function e (get_or gs f nothing)) r
unfolding entry_from functions_from
found code e [] p q c f h = absurd (omega arith)
found code e (g ∷ gs) p q c zero h = let t = at_split code p (function e g) (functions_from e gs) q c in (t.0, t.1)
found code e (g ∷ gs) p q c (suc f) h =
    let t = at_split code p (function e g) (functions_from e gs) q c in
    let k : t.0 ≡ p + length (function (λ _. 0) g) = at_len code p (function e g) t.0 t.1 ∙ ap (λ (n : ℕ). p + n) (function_len e (λ _. 0) g) in
    found code e gs (p + length (function (λ _. 0) g)) q (subst (λ (n : ℕ). At code n (functions_from e gs) q) k t.2) f (omega arith)

module _ (p : Program) where
  abbrev pub code : List Instruction
  code = instructions_of p

  whole : At code 0 (starting (entry_of p p.main) ++ (traps ++ functions_from (entry_of p) p.functions)) (length code)
  unfolding instructions_of
  whole = at_whole code

  -- the first instructions
  pub begun : At code 0 (starting (entry_of p p.main)) 6
  begun =
      let t = at_split code 0 (starting (entry_of p p.main)) (traps ++ functions_from (entry_of p) p.functions) (length code) whole in
      subst (λ (n : ℕ). At code 0 (starting (entry_of p p.main)) n) (let k = at_len code 0 (starting (entry_of p p.main)) t.0 t.1 in k) t.1

  pub rest : At code 6 (traps ++ functions_from (entry_of p) p.functions) (length code)
  rest =
      let t = at_split code 0 (starting (entry_of p p.main)) (traps ++ functions_from (entry_of p) p.functions) (length code) whole in
      subst (λ (n : ℕ). At code n (traps ++ functions_from (entry_of p) p.functions) (length code)) (at_len code 0 (starting (entry_of p p.main)) t.0 t.1) t.2

  pub placed : (f : ℕ) → f < length p.functions → (r : ℕ) × At code (entry_of p f) (function (entry_of p) (get_or p.functions f nothing)) r
  placed f h =
      let t = at_split code 6 traps (functions_from (entry_of p) p.functions) (length code) rest in
      found code (entry_of p) p.functions functions_start (length code)
      (subst (λ (n : ℕ). At code n (functions_from (entry_of p) p.functions) (length code)) (at_len code 6 traps t.0 t.1) t.2) f h

  -- the program's code, for a log with this room
  abbrev pub linked : (room : ℕ) → Owed p → Linked
  linked room O = record {
    setting = record { room = room; code = code; elements = p.elements };
    entry = entry_of p;
    functions = p.functions;
    few = O.few_elements;
    trap_1 = (rest.0, (rest.1.0, (rest.1.1.0, refl)));
    trap_2 = (rest.1.1.1.0, (rest.1.1.1.1.0, (rest.1.1.1.1.1.0, refl)));
    trap_3 = (rest.1.1.1.1.1.1.0, (rest.1.1.1.1.1.1.1.0, (rest.1.1.1.1.1.1.1.1.0, refl)));
  }
