-- Document 03 at its edges: words that no row has, operands at the ends of their range, the ends of memory and code, every stop.
use Rattle.std.specs.Prelude.{ℕ, ◌≡◌, refl, true, false, List, [], ◌∷◌, ◌++◌, map, length}
use Rattle.word.specs.Word as W
use Rattle.word.specs.Bytes.{word_of, bytes_of, bytes_of_words}
use Rattle.processor.specs.declared.Alu.TheVariants.{Add, Sub, Sra, Srl, Sll, Slt, Sltu, Xor, Or, And, Mul, Mulh, Mulhu, Mulhsu, Div, Divu, Rem, Remu}
use Rattle.processor.specs.declared.Cond.TheVariants.{Eq, Ne, Lt, Ge, Ltu, Geu}
use Rattle.processor.specs.declared.Width.TheVariants.{Byte, Half, Word, ByteU, HalfU}
use Rattle.processor.specs.declared.Instr.TheVariants.{Lui, Jal, Branch, Load, Store, Shift, Op, Fence, Unknown}
use Rattle.processor.specs.declared.Status.{Status}
use Rattle.processor.specs.declared.Status.TheVariants.{Going, Exit, Trap, Fault, Limit}
use Rattle.processor.specs.Formats as F
use Rattle.processor.specs.Instructions as I
use Rattle.processor.specs.Instructions.{decode_of, encode_of}
use Rattle.processor.specs.Machine as M
use Rattle.processor.specs.Machine.{Machine, state, code_start, zeros, reg}
use Rattle.processor.specs.Execute as E
use Rattle.processor.specs.Execute.{alu_of, cond_of, exec_of, reaches, read_at, write_at}
use Rattle.processor.specs.Run as R
use Rattle.processor.specs.Run.{Run, run_of, onward, in_code}

-- Words beside those of the table: funct7 and funct3 that no row has, and the ends of immediates.
decoding : map decode_of (
    0x00000033 ∷ 0x02000033 ∷ 0x04000033 ∷ 0x40001033 ∷ 0x40005033 ∷ 0x42005033 ∷ 0x40001013 ∷ 0x02001013 ∷ 0x40005013 ∷ 0x20005013 ∷ 0x00002067 ∷ 0x00001067
    ∷ 0x00002063 ∷ 0x00003063 ∷ 0x00003003 ∷ 0x00006003 ∷ 0x00007003 ∷ 0x00003023 ∷ 0x00004023 ∷ 0x0000100f ∷ 0xfff0800f ∷ 0x000000f3 ∷ 0x00200073 ∷ 0x30200073 ∷ 0x00008073 ∷ 0x00001073
    ∷ 0x00000000 ∷ 0xffffffff ∷ 0x00000012 ∷ 0x0000006b ∷ 0x80000063 ∷ 0x00000fe3 ∷ 0x8000006f ∷ 0x7ff0006f ∷ 0x000ff06f ∷ 0x80000037 ∷ 0xfffff037 ∷ 0x80000003 ∷ 0xfe000fa3 ∷ [])
    ≡ Op Add 0 0 0 ∷ Op Mul 0 0 0 ∷ Unknown ∷ Unknown ∷ Op Sra 0 0 0 ∷ Unknown ∷ Unknown ∷ Unknown ∷ Shift Sra 0 0 0 ∷ Unknown ∷ Unknown ∷ Unknown
    ∷ Unknown ∷ Unknown ∷ Unknown ∷ Unknown ∷ Unknown ∷ Unknown ∷ Unknown ∷ Unknown ∷ Fence 0 1 0xffffffff ∷ Unknown ∷ Unknown ∷ Unknown ∷ Unknown ∷ Unknown
    ∷ Unknown ∷ Unknown ∷ Unknown ∷ Unknown ∷ Branch Eq 0 0 0xfffff000 ∷ Branch Eq 0 0 0x81e ∷ Jal 0 0xfff00000 ∷ Jal 0 0xffe ∷ Jal 0 0xff000 ∷ Lui 0 0x80000000 ∷ Lui 0 0xfffff000 ∷ Load Byte 0 0 0xfffff800 ∷ Store Byte 0 0 0xffffffff ∷ []
unfolding decode_of I.decode_jalr I.decode_branch I.decode_load I.decode_store I.decode_op_imm I.decode_shift I.decode_op I.decode_fence I.decode_system F.imm_i F.imm_s F.imm_b F.imm_u F.imm_j W.sign_extend
decoding = refl

abbrev -1 : ℕ
-1 = 0xffffffff

abbrev least : ℕ
least = 0x80000000

-- Shifts by 0, 31, 32 and more; upper halves of products; division at its special cases; wrapping; the two orders.
arithmetic : (alu_of Sll 1 32 ≡ 1) × (alu_of Sll 1 31 ≡ least) × (alu_of Sll 1 -1 ≡ least) × (alu_of Srl least 63 ≡ 1) × (alu_of Sra least 31 ≡ -1) × (alu_of Sra least 0 ≡ least) × (alu_of Sra least 32 ≡ least) × (alu_of Sra 0x7fffffff 31 ≡ 0)
    × (alu_of Mulh least least ≡ 0x40000000) × (alu_of Mulh least -1 ≡ 0) × (alu_of Mulh least 0x7fffffff ≡ 0xc0000000) × (alu_of Mulhsu least -1 ≡ 0x80000000) × (alu_of Mulhsu -1 -1 ≡ -1) × (alu_of Mulhsu 1 -1 ≡ 0) × (alu_of Mulhsu -1 1 ≡ -1) × (alu_of Mulhu -1 -1 ≡ 0xfffffffe) × (alu_of Mulhu least 2 ≡ 1)
    × (alu_of Div least 1 ≡ least) × (alu_of Div least -1 ≡ least) × (alu_of Rem least -1 ≡ 0) × (alu_of Div 0 -1 ≡ 0) × (alu_of Div -1 least ≡ 0) × (alu_of Rem -1 least ≡ -1) × (alu_of Rem least 0 ≡ least) × (alu_of Div least 0 ≡ -1) × (alu_of Divu least -1 ≡ 0) × (alu_of Remu least -1 ≡ least) × (alu_of Rem (W.neg_w 7) (W.neg_w 2) ≡ -1) × (alu_of Div (W.neg_w 7) (W.neg_w 2) ≡ 3)
    × (alu_of Sub 0 least ≡ least) × (alu_of Sub 0 0 ≡ 0) × (alu_of Sub 5 5 ≡ 0) × (alu_of Add -1 1 ≡ 0) × (alu_of Mul -1 -1 ≡ 1)
    × (alu_of Slt least 0x7fffffff ≡ 1) × (alu_of Slt 0x7fffffff least ≡ 0) × (alu_of Sltu least 0x7fffffff ≡ 0) × (alu_of Slt -1 -1 ≡ 0) × (alu_of Xor -1 -1 ≡ 0) × (alu_of And -1 least ≡ least) × (alu_of Or least 1 ≡ 0x80000001) × (alu_of Xor 5 -1 ≡ 0xfffffffa)
unfolding alu_of W.add_w W.sub_w W.mul_w W.lt_s W.lt_u W.quot_s W.rem_s W.quot_u W.rem_u W.and_w W.or_w W.xor_w W.shl_w W.shr_u W.shr_s W.mulh_ss W.mulh_su W.mulh_uu W.upper W.wide W.negative W.magnitude W.neg_w W.bit_of
arithmetic = (refl, refl, refl, refl, refl, refl, refl, refl, refl, refl, refl, refl, refl, refl, refl, refl, refl, refl, refl, refl, refl, refl, refl, refl, refl, refl, refl, refl, refl, refl, refl, refl, refl, refl, refl, refl, refl, refl, refl, refl, refl, refl)

-- Branches: signed and unsigned orders differ at the ends.
branching : (cond_of Lt least 0 ≡ true) × (cond_of Ltu least 0 ≡ false) × (cond_of Ge least 0 ≡ false) × (cond_of Geu least 0 ≡ true) × (cond_of Eq 5 5 ≡ true) × (cond_of Ne 5 5 ≡ false)
unfolding cond_of W.lt_s W.lt_u W.negative
branching = (refl, refl, refl, refl, refl, refl)

-- The ends of memory, and alignment.
reaching : (reaches Word 0x1ffffc ≡ true) × (reaches Word 0x1ffffd ≡ false) × (reaches Word 0x200000 ≡ false) × (reaches Byte 0x1fffff ≡ true) × (reaches Byte 0x200000 ≡ false) × (reaches Half 0x1ffffe ≡ true) × (reaches Half 0x1fffff ≡ false) × (reaches Word 0xfffffffc ≡ false) × (reaches Byte 0xffffffff ≡ false) × (reaches Byte 0xfffff ≡ false) × (reaches Byte 0x100000 ≡ true) × (reaches Word 0x100000 ≡ true) × (reaches HalfU 0x100001 ≡ false) × (reaches ByteU 0x100001 ≡ true) × (reaches Word 0x100002 ≡ false)
unfolding reaches
reaching = (refl, refl, refl, refl, refl, refl, refl, refl, refl, refl, refl, refl, refl, refl, refl)

-- Sign extension of loads, and the bytes of stores.
reading : (read_at Byte (0x80 ∷ []) 0 ≡ 0xffffff80) × (read_at ByteU (0x80 ∷ []) 0 ≡ 0x80) × (read_at Half (0x00 ∷ 0x80 ∷ []) 0 ≡ 0xffff8000) × (read_at HalfU (0x00 ∷ 0x80 ∷ []) 0 ≡ 0x8000) × (read_at Half (0xff ∷ 0x7f ∷ []) 0 ≡ 0x7fff) × (read_at Word (1 ∷ 2 ∷ 3 ∷ 0x84 ∷ []) 0 ≡ 0x84030201) × (write_at Half (9 ∷ 9 ∷ 9 ∷ 9 ∷ []) 1 0x12345678 ≡ 9 ∷ 0x78 ∷ 0x56 ∷ 9 ∷ []) × (write_at Byte (9 ∷ 9 ∷ []) 1 0x12345678 ≡ 9 ∷ 0x78 ∷ []) × (write_at Word (9 ∷ 9 ∷ 9 ∷ 9 ∷ []) 0 0x12345678 ≡ 0x78 ∷ 0x56 ∷ 0x34 ∷ 0x12 ∷ [])
unfolding read_at write_at W.sign_extend M.half_at M.word_at word_of
reading = (refl, refl, refl, refl, refl, refl, refl, refl, refl)

-- The ends of the code.
in_code_lem : (in_code 4 0x1000 ≡ true) × (in_code 4 0x1004 ≡ false) × (in_code 4 0x0ffc ≡ false) × (in_code 4 0x1002 ≡ false) × (in_code 0 0x1000 ≡ false) × (in_code 524288 0x80ffc ≡ true) × (in_code 524288 0x81000 ≡ false)
unfolding in_code
in_code_lem = (refl, refl, refl, refl, refl, refl, refl)

-- Runs: stop, log, steps, pc and x1. Memory ends with the code.

machine_of : List ℕ → Machine
machine_of code = state (zeros 32) code_start (zeros code_start ++ bytes_of_words code) [] Going

abbrev End : Type 0
End = Status × List ℕ × ℕ × ℕ × ℕ

abbrev ended : Run → End
ended r = (r.machine.status, r.machine.log, r.steps, r.machine.pc, reg r.machine 1)

abbrev go : ℕ → ℕ → List ℕ → End
go room limit code = ended (run_of (length (bytes_of_words code)) room limit (machine_of code) 0)

abbrev resumed : ℕ → ℕ → ℕ → List ℕ → End
resumed room a b code = ended (onward (length (bytes_of_words code)) room b (run_of (length (bytes_of_words code)) room a (machine_of code) 0))

runs :
    (go 8 0 [] ≡ (Limit, [], 0, 0x1000, 0))
    × (go 8 1 [] ≡ (Fault 1, [], 0, 0x1000, 0))
    × (go 8 0 (0x73 ∷ []) ≡ (Limit, [], 0, 0x1000, 0))
    × (go 8 1 (0x73 ∷ []) ≡ (Exit, [], 1, 0x1000, 0))
    × (go 8 1 (0x00000013 ∷ []) ≡ (Limit, [], 1, 0x1004, 0))
    × (go 8 2 (0x00000013 ∷ []) ≡ (Fault 1, [], 1, 0x1004, 0))
    × (resumed 8 1 1 (0x00000013 ∷ []) ≡ (Fault 1, [], 1, 0x1004, 0))
    × (resumed 8 0 0 (0x00000013 ∷ []) ≡ (Limit, [], 0, 0x1000, 0))
    × (resumed 8 0 2 (0x00000013 ∷ []) ≡ (Fault 1, [], 1, 0x1004, 0))
    × (resumed 8 1 0 (0x73 ∷ []) ≡ (Exit, [], 1, 0x1000, 0))
    -- jal x1, +2: counted, x1 written, then fault 1 at 0x1002
    × (go 8 9 (0x002000ef ∷ []) ≡ (Fault 1, [], 1, 0x1002, 0x1004))
    -- jal x1, to below 0: pc is a sum modulo 2^32
    × (go 8 9 (0x800000ef ∷ []) ≡ (Fault 1, [], 1, 0xfff01000, 0x1004))
    -- trap 4: room 0, room 1
    × (go 0 9 (0x00100893 ∷ 0x73 ∷ []) ≡ (Trap 4, [], 2, 0x1004, 0))
    × (go 1 9 (0x00100893 ∷ 0x73 ∷ 0x73 ∷ []) ≡ (Trap 4, 0 ∷ [], 3, 0x1008, 0))
    -- fault 5 : x17 = 3
    × (go 1 9 (0x00300893 ∷ 0x73 ∷ []) ≡ (Fault 5, [], 2, 0x1004, 0))
    -- ebreak counts
    × (go 1 9 (0x00100073 ∷ []) ≡ (Fault 4, [], 1, 0x1000, 0))
    -- lw x0, 0(x0): fault 3 though x0
    × (go 1 9 (0x00002003 ∷ []) ≡ (Fault 3, [], 1, 0x1000, 0))
    -- fence with rd=1
    × (go 1 1 (0x0ff0008f ∷ []) ≡ (Limit, [], 1, 0x1004, 0))
    -- auipc x1, 0xfffff
    × (go 1 1 (0xfffff097 ∷ []) ≡ (Limit, [], 1, 0x1004, 0))
    -- jalr x1, -1(x0): pc=0xfffffffe
    × (go 1 9 (0xfff000e7 ∷ []) ≡ (Fault 1, [], 1, 0xfffffffe, 0x1004))
unfolding machine_of zeros bytes_of_words bytes_of run_of R.step_of R.in_code M.word_at word_of decode_of I.decode_op_imm I.decode_load I.decode_store I.decode_system I.decode_fence I.decode_jalr F.imm_i F.imm_s F.imm_j F.imm_u W.sign_extend exec_of E.call_of E.load_of E.store_of E.reaches alu_of W.add_w M.register M.set_register
runs = (refl, refl, refl, refl, refl, refl, refl, refl, refl, refl, refl, refl, refl, refl, refl, refl, refl, refl, refl, refl)
