-- Document 03 §6: the vectors, as checked equations.
use Rattle.std.specs.Prelude.{ℕ, ◌-◌, ◌^◌, ◌≡◌, refl, List, [], ◌∷◌, ◌++◌, map, length}
use Rattle.word.specs.Word as W
use Rattle.word.specs.Bytes.{word_of, bytes_of, bytes_of_words}
use Rattle.processor.specs.declared.Alu.TheVariants.{Add, Sub, Sra, Sll, Sltu, Mul, Mulhsu, Div, Divu, Rem, Remu}
use Rattle.processor.specs.declared.Cond.TheVariants.{Eq, Ne, Ltu}
use Rattle.processor.specs.declared.Width.TheVariants.{Byte, Word, HalfU}
use Rattle.processor.specs.declared.Instr.{Instr}
use Rattle.processor.specs.declared.Instr.TheVariants.{Lui, Auipc, Jal, Jalr, Branch, Load, Store, OpImm, Shift, Op}
use Rattle.processor.specs.declared.Status.{Status}
use Rattle.processor.specs.declared.Status.TheVariants.{Going, Exit, Trap, Fault, Limit}
use Rattle.processor.specs.Formats as F
use Rattle.processor.specs.Instructions as I
use Rattle.processor.specs.Instructions.{decode_of, encode_of}
use Rattle.processor.specs.Machine as M
use Rattle.processor.specs.Machine.{Machine, state, code_start, zeros, reg}
use Rattle.processor.specs.Execute as E
use Rattle.processor.specs.Execute.{alu_of, exec_of}
use Rattle.processor.specs.Run as R
use Rattle.processor.specs.Run.{Run, run_of}
use Rattle.processor.specs.Image.{Lent, answer_of, fits}

-- a number's word, and that of its negative
abbrev minus : ℕ → ℕ
minus n = 2 ^ 32 - n

-- Encodings.
vectors : List (ℕ × Instr)
vectors =
    (0xfff50513, OpImm Add 10 10 (minus 1))  -- addi x10, x10, -1
    ∷ (0x12346537, Lui 10 0x12346000)  -- lui x10, 0x12346
    ∷ (0x00001297, Auipc 5 0x1000)  -- auipc x5, 1
    ∷ (0x010000ef, Jal 1 16)  -- jal x1, +16
    ∷ (0xffdff06f, Jal 0 (minus 4))  -- jal x0, -4
    ∷ (0x00008067, Jalr 0 1 0)  -- jalr x0, 0(x1)
    ∷ (0x00b50463, Branch Eq 10 11 8)  -- beq x10, x11, +8
    ∷ (0xfe051ce3, Branch Ne 10 0 (minus 8))  -- bne x10, x0, -8
    ∷ (0x7eb56fe3, Branch Ltu 10 11 4094)  -- bltu x10, x11, +4094
    ∷ (0xffc42503, Load Word 10 8 (minus 4))  -- lw x10, -4(x8)
    ∷ (0xfea42e23, Store Word 8 10 (minus 4))  -- sw x10, -4(x8)
    ∷ (0x00b601a3, Store Byte 12 11 3)  -- sb x11, 3(x12)
    ∷ (0x0025d503, Load HalfU 10 11 2)  -- lhu x10, 2(x11)
    ∷ (0x00251513, Shift Sll 10 10 2)  -- slli x10, x10, 2
    ∷ (0x41f55513, Shift Sra 10 10 31)  -- srai x10, x10, 31
    ∷ (0x40c58533, Op Sub 10 11 12)  -- sub x10, x11, x12
    ∷ (0x00c5b533, Op Sltu 10 11 12)  -- sltu x10, x11, x12
    ∷ (0x02c58533, Op Mul 10 11 12)  -- mul x10, x11, x12
    ∷ (0x02c5a533, Op Mulhsu 10 11 12)  -- mulhsu x10, x11, x12
    ∷ (0x02c5c533, Op Div 10 11 12)  -- div x10, x11, x12
    ∷ (0x02c5f533, Op Remu 10 11 12)  -- remu x10, x11, x12
    ∷ []

decoded : map (λ v. decode_of v.0) vectors ≡ map (λ v. v.1) vectors
unfolding vectors decode_of I.decode_jalr I.decode_branch I.decode_load I.decode_store I.decode_op_imm I.decode_shift I.decode_op F.imm_i F.imm_s F.imm_b F.imm_u F.imm_j W.sign_extend
decoded = refl

encoded : map (λ v. encode_of v.1) vectors ≡ map (λ v. v.0) vectors
unfolding vectors encode_of F.r_word F.i_word F.s_word F.b_word F.u_word F.j_word
encoded = refl

-- Runs. What lies past the code reads as 0 in this short memory, as in the whole one.
machine_of : List ℕ → Machine
machine_of code = state (zeros 32) code_start (zeros code_start ++ bytes_of_words code) [] Going

-- log room 8; limit 100
run : List ℕ → Run
run code = run_of (length (bytes_of_words code)) 8 100 (machine_of code) 0

-- how a run ends: how it stopped, its log, and the steps
abbrev End : Type 0
End = Status × List ℕ × ℕ

end_of : List ℕ → End
end_of code = ((run code).machine.status, (run code).machine.log, (run code).steps)

runs : List (List ℕ × End)
runs =
    (0x00000073 ∷ [], (Exit, [], 1))
    ∷ (0x00200893 ∷ 0x00700513 ∷ 0x00000073 ∷ [], (Trap 7, [], 3))
    ∷ (0x00100893 ∷ 0x02a00513 ∷ 0x00000073 ∷ 0x00000893 ∷ 0x00000073 ∷ [], (Exit, 42 ∷ [], 5))
    ∷ (0x00000013 ∷ [], (Fault 1, [], 1))  -- after the code's end
    ∷ (0x00000000 ∷ [], (Fault 2, [], 1))
    ∷ (0x00002223 ∷ [], (Fault 3, [], 1))  -- store to 4
    ∷ (0x00102503 ∷ [], (Fault 3, [], 1))  -- word at 1
    ∷ (0x00100073 ∷ [], (Fault 4, [], 1))
    ∷ (0x0000006f ∷ [], (Limit, [], 100))
    ∷ []

ended : map (λ v. end_of v.0) runs ≡ map (λ v. v.1) runs
unfolding run runs end_of machine_of zeros bytes_of_words bytes_of run_of R.step_of R.in_code M.word_at word_of decode_of I.decode_op_imm I.decode_load I.decode_store I.decode_system F.imm_i F.imm_s F.imm_j W.sign_extend exec_of E.call_of E.load_of E.store_of E.reaches alu_of W.add_w M.register M.set_register
ended = refl

-- "lui x10, 0x12346 then addi x10, x10, -1 leaves 0x12345fff": 2 steps, then the code's end
pair : reg (run (0x12346537 ∷ 0xfff50513 ∷ [])).machine 10 ≡ 0x12345fff
unfolding run machine_of zeros bytes_of_words bytes_of run_of R.step_of R.in_code M.word_at word_of decode_of I.decode_op_imm F.imm_i F.imm_u W.sign_extend exec_of alu_of W.add_w M.register M.set_register
pair = refl

-- "one nop alone, with limit 1, ends with limit" (§4)
limit_first : (run_of 4 8 1 (machine_of (0x00000013 ∷ [])) 0).machine.status ≡ Limit
unfolding machine_of zeros bytes_of_words bytes_of run_of R.step_of R.in_code M.word_at word_of decode_of I.decode_op_imm F.imm_i W.sign_extend exec_of alu_of W.add_w M.register M.set_register
limit_first = refl

-- a log that has no room: trap 4, which counts a step
full : ((run_of 8 0 100 (machine_of (0x00100893 ∷ 0x00000073 ∷ [])) 0).machine.status ≡ Trap 4) × ((run_of 8 0 100 (machine_of (0x00100893 ∷ 0x00000073 ∷ [])) 0).steps ≡ 2)
unfolding machine_of zeros bytes_of_words bytes_of run_of R.step_of R.in_code M.word_at word_of decode_of I.decode_op_imm I.decode_system F.imm_i W.sign_extend exec_of E.call_of alu_of W.add_w M.register M.set_register
full = (refl, refl)

-- Wrong answers to rule out.

-- registers 0, 0x2001, 7, at the code's start; something stands in x0's place
some_machine : Machine
some_machine = state (99 ∷ 0x2001 ∷ 7 ∷ []) code_start [] [] Going

-- "an emulator that lets x0 change": it reads as 0, and a write leaves it
x0_stays : ((exec_of 8 (OpImm Add 2 0 5) some_machine).registers ≡ 99 ∷ 0x2001 ∷ 5 ∷ []) × ((exec_of 8 (OpImm Add 0 2 5) some_machine).registers ≡ some_machine.registers)
unfolding some_machine exec_of alu_of W.add_w M.register M.set_register
x0_stays = (refl, refl)

-- "one that writes rd of jalr before reading rs1": and bit 0 is cleared
jalr_reads_first : exec_of 8 (Jalr 1 1 0) some_machine ≡ state (99 ∷ 0x1004 ∷ 7 ∷ []) 0x2000 [] [] Going
unfolding some_machine exec_of W.add_w M.register M.set_register
jalr_reads_first = refl

-- "branches counted from the next instruction"
branch_from_here : ((exec_of 8 (Branch Eq 1 1 8) some_machine).pc ≡ 0x1008) × ((exec_of 8 (Branch Ne 1 1 8) some_machine).pc ≡ 0x1004)
unfolding some_machine exec_of E.cond_of W.add_w M.register
branch_from_here = (refl, refl)

-- "srai filling with zeros": -8 by 1 place is -4
srai_fills : alu_of Sra (minus 8) 1 ≡ minus 4
unfolding alu_of W.shr_s W.negative
srai_fills = refl

-- "remainders with the divisor's sign": -7 by 2 is -3, remainder -1; and 7 by -2 has remainder 1
remainder_sign : (alu_of Div (minus 7) 2 ≡ minus 3) × (alu_of Rem (minus 7) 2 ≡ minus 1) × (alu_of Rem 7 (minus 2) ≡ 1)
unfolding alu_of W.quot_s W.rem_s W.magnitude W.negative W.neg_w
remainder_sign = (refl, refl, refl)

-- "By zero: div and divu give all ones, rem and remu the dividend."
by_zero : (alu_of Div 7 0 ≡ 0xffffffff) × (alu_of Divu 7 0 ≡ 0xffffffff) × (alu_of Rem 7 0 ≡ 7) × (alu_of Remu 7 0 ≡ 7)
unfolding alu_of
by_zero = (refl, refl, refl, refl)

-- "-2147483648 by -1: div gives -2147483648, rem 0."
by_minus_one : (alu_of Div (minus 2147483648) (minus 1) ≡ minus 2147483648) × (alu_of Rem (minus 2147483648) (minus 1) ≡ 0)
unfolding alu_of W.quot_s W.rem_s W.magnitude W.negative W.neg_w
by_minus_one = (refl, refl)

-- "sltiu compares with the sign-extended immediate read as unsigned": sltiu x10, x10, -1
sltiu_unsigned : (exec_of 8 (OpImm Sltu 2 2 (minus 1)) some_machine).registers ≡ 99 ∷ 0x2001 ∷ 1 ∷ []
unfolding some_machine exec_of alu_of W.lt_u W.bit_of M.register M.set_register
sltiu_unsigned = refl

-- Refusals (§5): the smallest answer that applies. Sizes of code, input block, memory, registers and log lent, and the log's stated room.
abbrev lent : ℕ → ℕ → ℕ → ℕ → ℕ → ℕ → Lent
lent c i m r l room = record { code = c; input = i; memory = m; registers = r; log = l; room = room }

refusals :
    map answer_of
    (lent 524288 1048576 0x200000 32 8 8
    ∷ lent 6 0 0x200000 32 8 8
    ∷ lent 524292 2 0x200000 32 8 8
    ∷ lent 4 2 0 32 8 8
    ∷ lent 4 1048580 0x200000 32 8 8
    ∷ lent 4 4 0x1fffff 32 8 8
    ∷ lent 4 4 0x200000 31 8 8
    ∷ lent 4 4 0x200000 32 7 8
    ∷ [])
    ≡ 0 ∷ 4 ∷ 4 ∷ 5 ∷ 5 ∷ 6 ∷ 6 ∷ 6 ∷ []
unfolding answer_of fits
refusals = refl
