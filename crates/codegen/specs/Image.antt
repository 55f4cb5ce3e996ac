-- The image: the first instructions, the traps, then the functions in order of declaration.
use Rattle.std.specs.Prelude.{ℕ, zero, suc, ◌+◌, List, [], ◌∷◌, ◌++◌, length}
use Rattle.processor.specs.declared.Alu.TheVariants.{Add}
use Rattle.language.specs.Meaning.{division_by_zero, index_outside, too_many_activations}
use Rattle.language.specs.Core.{Function, Program}
use Rattle.symbolic.specs.Symbolic.{x0, sp, request, Instruction, lui, opi, call, ecall}
use Rattle.symbolic.specs.Real.{image_of}
use Rattle.codegen.specs.Places.{stack_start, stack_end}
use Rattle.codegen.specs.Operators.{trapping}
use Rattle.codegen.specs.Statements.{limit, function}

-- The stack is made ready, x17 asks for the log from here on, main is called; then the run exits.
abbrev pub starting : ℕ → List Instruction
starting main = lui sp stack_start ∷ lui limit stack_end ∷ opi Add request x0 1 ∷ call main ∷ opi Add request x0 0 ∷ ecall ∷ []

abbrev pub traps : List Instruction
traps = trapping division_by_zero ++ (trapping index_outside ++ trapping too_many_activations)

-- the position of the first function
abbrev pub functions_start : ℕ
functions_start = 15

-- where function f begins, when the first of these begins at p; the length of a function is the same wherever the others begin
unfoldable pub entry_from : List Function → ℕ → ℕ → ℕ
entry_from [] p f = p
entry_from (g ∷ gs) p zero = p
entry_from (g ∷ gs) p (suc f) = entry_from gs (p + length (function (λ _. 0) g)) f

abbrev pub entry_of : Program → ℕ → ℕ
entry_of p = entry_from p.functions functions_start

unfoldable pub functions_from : (ℕ → ℕ) → List Function → List Instruction
functions_from entry [] = []
functions_from entry (g ∷ gs) = function entry g ++ functions_from entry gs

unfoldable pub instructions_of : Program → List Instruction
instructions_of p = starting (entry_of p p.main) ++ (traps ++ functions_from (entry_of p) p.functions)

-- the image's bytes
unfoldable pub image : Program → List ℕ
image p = image_of (instructions_of p)
