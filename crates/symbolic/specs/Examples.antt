-- Words and runs of document 03 §6, from symbolic instructions.
use Rattle.std.specs.Prelude.{◌-◌, ◌^◌, ◌≡◌, refl, List, [], ◌∷◌}
use Rattle.word.specs.Word.{add_w}
use Rattle.processor.specs.declared.Alu.TheVariants.{Add, Sub, Sll, Sra}
use Rattle.processor.specs.declared.Cond.TheVariants.{Eq, Ne}
use Rattle.processor.specs.declared.Status.TheVariants.{Exit, Trap}
use Rattle.processor.specs.Formats.{r_word, i_word, b_word, u_word, j_word}
use Rattle.processor.specs.Instructions.{encode_of}
use Rattle.processor.specs.Execute.{alu_of}
use Rattle.symbolic.specs.Symbolic.{Instruction, x0, scratch, argument, opi, shift, op, lw, branch, branch_back, jump_back, call, ret, ecall, initial, ecall_of, step, run, count}
use Rattle.symbolic.specs.Real.{distance, words_from}

-- addi x10, x10, -1; beq x10, x11, +8; bne x10, x0, -8; jal x1, +16; jal x0, -4; jalr x0, 0(x1)
words : words_from 0
    (opi Add (argument 0) (argument 0) (2 ^ 32 - 1) ∷ branch Eq (argument 0) (argument 1) 2 ∷ branch_back Ne (argument 0) x0 2 ∷ call 7 ∷ jump_back 1 ∷ ret ∷ [])
    ≡ 0xfff50513 ∷ 0x00b50463 ∷ 0xfe051ce3 ∷ 0x010000ef ∷ 0xffdff06f ∷ 0x00008067 ∷ []
unfolding words_from distance encode_of i_word b_word j_word r_word u_word
words = refl

-- lw x10, -4(x8); slli x10, x10, 2; srai x10, x10, 31; sub x10, x11, x12
more_words : words_from 0
    (lw (argument 0) (scratch 4) (2 ^ 32 - 4) ∷ shift Sll (argument 0) (argument 0) 2 ∷ shift Sra (argument 0) (argument 0) 31 ∷ op Sub (argument 0) (argument 1) (argument 2) ∷ [])
    ≡ 0xffc42503 ∷ 0x00251513 ∷ 0x41f55513 ∷ 0x40c58533 ∷ []
unfolding words_from encode_of i_word r_word
more_words = refl

-- trap 7 after 3 steps; exit with the log 42 after 5
abbrev trapping : List Instruction
trapping = opi Add (argument 7) x0 2 ∷ opi Add (argument 0) x0 7 ∷ ecall ∷ []

traps : (run 8 trapping 10 (initial [])).status ≡ Trap 7
unfolding run step ecall_of alu_of add_w
traps = refl

trap_steps : count 8 trapping 10 (initial []) ≡ 3
unfolding count step ecall_of alu_of add_w
trap_steps = refl

abbrev logging : List Instruction
logging = opi Add (argument 7) x0 1 ∷ opi Add (argument 0) x0 42 ∷ ecall ∷ opi Add (argument 7) x0 0 ∷ ecall ∷ []

exits : (run 8 logging 10 (initial [])).status ≡ Exit
unfolding run step ecall_of alu_of add_w
exits = refl

logs : (run 8 logging 10 (initial [])).log ≡ 42 ∷ []
unfolding run step ecall_of alu_of add_w
logs = refl

steps : count 8 logging 10 (initial []) ≡ 5
unfolding count step ecall_of alu_of add_w
steps = refl
