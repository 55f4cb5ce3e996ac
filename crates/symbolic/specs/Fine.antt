-- What code must keep to so that each of its instructions has a word: registers of their banks, immediates that the format holds, targets in reach.
use Rattle.std.specs.Prelude.{ℕ, ◌≤◌, ◌<◌, List, [], ◌∷◌}
use Rattle.processor.specs.Instructions.{alu_key, immediates, shifts, Extended, Upper, Among}
use Rattle.symbolic.specs.Symbolic.{Reg, x0, reg, width, Instruction, lui, opi, shift, mv, op, lw, sw, branch, branch_back, jump, jump_back, call, ret, ecall, bad}

-- The longest code, in instructions (document 03 §5), and how far a branch and a jump reach: a jump all over the code.
abbrev pub most_instructions : ℕ
most_instructions = 131072

abbrev pub near : ℕ
near = 1024

abbrev pub far : ℕ
far = 262144

abbrev pub Valid : Reg → Type 0
Valid x0 = Unit {0}
Valid (reg b n) = n < width b

unfoldable pub Fine : Instruction → Type 0
Fine (lui r n) = Valid r × Upper n
Fine (opi o r q n) = Among alu_key immediates o × Valid r × Valid q × Extended 12 n
Fine (shift o r q n) = Among alu_key shifts o × Valid r × Valid q × (n < 32)
Fine (mv r q) = Valid r × Valid q
Fine (op o r p q) = Valid r × Valid p × Valid q
Fine (lw r q n) = Valid r × Valid q × Extended 12 n
Fine (sw r q n) = Valid r × Valid q × Extended 12 n
Fine (branch c p q n) = Valid p × Valid q × (n < near)
Fine (branch_back c p q n) = Valid p × Valid q × (n ≤ near)
Fine (jump n) = n < far
Fine (jump_back n) = Unit {0}
Fine (call t) = t ≤ most_instructions
Fine ret = Unit {0}
Fine ecall = Unit {0}
Fine bad = ⊥

abbrev pub AllFine : List Instruction → Type 0
AllFine [] = Unit {0}
AllFine (i ∷ rest) = Fine i × AllFine rest
