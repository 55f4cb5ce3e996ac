-- "32 registers of 32 bits" (document 03 §1): registers and pc stay below 2 ^ 32, bytes below 256, whatever is run.
use Prim.Native.Nat.{ℕ, zero, suc, ◌+◌, ◌*◌, ◌/◌, ◌%◌, ◌^◌, ◌<◌}
use mathlib.Core.Bool.{Bool, true, false}
use mathlib.Core.List.{List, [], ◌∷◌}
use mathlib.Core.Option.{Option, none, some}
use native.Mathlib.Omega.{arith}
use lib.Dec.{eqb, ltb}
use lib.ListN.{length, get_or, set}
use Rattle.word.specs.Choice.{pick}
use Rattle.word.specs.Word.{bit_of}
use Rattle.word.proofs.Range as Range
use Rattle.word.proofs.WordBytes.{word_of_lt}
use Rattle.processor.specs.declared.Alu.{Alu}
use Rattle.processor.specs.declared.Alu.TheVariants.{Add, Sub, Sll, Slt, Sltu, Xor, Srl, Sra, Or, And, Mul, Mulh, Mulhsu, Mulhu, Div, Divu, Rem, Remu}
use Rattle.processor.specs.declared.Width.{Width}
use Rattle.processor.specs.declared.Width.TheVariants.{Byte, Half, Word, ByteU, HalfU}
use Rattle.processor.specs.declared.Instr.{Instr}
use Rattle.processor.specs.declared.Instr.TheVariants.{Lui, Auipc, Jal, Jalr, Branch, Load, Store, OpImm, Shift, Op, Fence, Ecall, Ebreak, Unknown}
use Rattle.processor.specs.declared.Status.{Status}
use Rattle.processor.specs.declared.Status.TheVariants.{Exit, Trap, Fault, Limit}
use Rattle.processor.specs.Formats.{funct7, rs2, rs1, funct3, rd, opcode, imm_i, imm_b, imm_u}
use Rattle.processor.specs.Instructions.{key, find, found, alu_key, cond_key, width_key, operations, immediates, shifts, branches, loads, stores, decode_jalr, decode_branch, decode_load, decode_store, decode_shift, decode_op_imm, decode_op, decode_fence, decode_system, decode_of}
use Rattle.processor.specs.Machine.{Machine, register, set_register, reg, byte_at, half_at, word_at}
use Rattle.processor.specs.Execute.{alu_of, cond_of, reaches, read_at, write_at, goto, halt, stored, wrote, logged, next, load_of, store_of, call_of, exec_of}
use Rattle.processor.specs.Run.{in_code, step_of, run_of}
use Rattle.processor.proofs.Ways.{run_by}

bit_lt : (b : Bool) → bit_of b < 2 ^ 32
bit_lt b = let h = Range.bit_of_lt b in omega arith

pick_lt : (x : Bool) (a b : ℕ) → a < 2 ^ 32 → b < 2 ^ 32 → pick x a b < 2 ^ 32
pick_lt true a b h k = h
pick_lt false a b h k = k

even_lt : {x : ℕ} → x < 2 ^ 32 → x / 2 * 2 < 2 ^ 32
even_lt h = omega arith

pub alu_lt : (o : Alu) (a b : ℕ) → a < 2 ^ 32 → b < 2 ^ 32 → alu_of o a b < 2 ^ 32
unfolding alu_of
alu_lt Add a b h k = Range.add_w_lt a b
alu_lt Sub a b h k = Range.sub_w_lt a b
alu_lt Sll a b h k = Range.shl_w_lt a (b % 32)
alu_lt Slt a b h k = bit_lt _
alu_lt Sltu a b h k = bit_lt _
alu_lt Xor a b h k = Range.xor_w_lt a b h k
alu_lt Srl a b h k = Range.shr_u_lt a (b % 32) h
alu_lt Sra a b h k = Range.shr_s_lt a (b % 32)
alu_lt Or a b h k = Range.or_w_lt a b h k
alu_lt And a b h k = Range.and_w_lt a b h
alu_lt Mul a b h k = Range.mul_w_lt a b
alu_lt Mulh a b h k = Range.mulh_ss_lt a b
alu_lt Mulhsu a b h k = Range.mulh_su_lt a b
alu_lt Mulhu a b h k = Range.mulh_uu_lt a b
alu_lt Div a b h k = pick_lt (eqb b 0) _ _ (omega arith) (Range.quot_s_lt a b)
alu_lt Divu a b h k = pick_lt (eqb b 0) _ _ (omega arith) (Range.quot_u_lt a b h)
alu_lt Rem a b h k = pick_lt (eqb b 0) _ _ h (Range.rem_s_lt a b)
alu_lt Remu a b h k = pick_lt (eqb b 0) _ _ h (Range.rem_u_lt a b h)

-- An instruction whose immediate or amount is a word, as every decoded one's is.

abbrev Small : Instr → Type 0
Small (Lui d imm) = imm < 2 ^ 32
Small (Auipc d imm) = Unit {0}
Small (Jal d imm) = Unit {0}
Small (Jalr d a imm) = Unit {0}
Small (Branch c a b imm) = Unit {0}
Small (Load s d a imm) = Unit {0}
Small (Store s a b imm) = Unit {0}
Small (OpImm o d a imm) = imm < 2 ^ 32
Small (Shift o d a amount) = amount < 2 ^ 32
Small (Op o d a b) = Unit {0}
Small (Fence d a imm) = Unit {0}
Small Ecall = Unit {0}
Small Ebreak = Unit {0}
Small Unknown = Unit {0}

by_test : (x : Bool) (i j : Instr) → Small i → Small j → Small (pick x i j)
by_test true i j h k = h
by_test false i j h k = k

by_entry : {A : Type 0} (x : Option A) (f : A → Instr) (j : Instr) → ((a : A) → Small (f a)) → Small j → Small (found x f j)
by_entry none f j h k = k
by_entry (some a) f j h k = h a

imm_i_lt : (w : ℕ) → imm_i w < 2 ^ 32
unfolding imm_i
imm_i_lt w = Range.sign_extend_lt 12 _ (omega arith) (omega arith) (omega arith)

imm_u_lt : (w : ℕ) → imm_u w < 2 ^ 32
unfolding imm_u
imm_u_lt w = omega arith

rs2_lt : (w : ℕ) → rs2 w < 2 ^ 32
rs2_lt w = omega arith

by_opcode : (w o : ℕ) (i j : Instr) → Small i → Small j → Small (pick (eqb (opcode w) o) i j)
by_opcode w o i j h k = by_test (eqb (opcode w) o) i j h k

decode_small : (w : ℕ) → Small (decode_of w)
unfolding decode_of decode_jalr decode_branch decode_load decode_store decode_shift decode_op_imm decode_op decode_fence decode_system
decode_small w =
    by_opcode w 0x37 (Lui (rd w) (imm_u w)) _ (imm_u_lt w)
    (by_opcode w 0x17 _ _ tt
    (by_opcode w 0x6f _ _ tt
    (by_opcode w 0x67 _ _ (by_test (eqb (funct3 w) 0) (Jalr (rd w) (rs1 w) (imm_i w)) Unknown tt tt)
    (by_opcode w 0x63 _ _ (by_entry (find cond_key branches (funct3 w)) (λ c. Branch c (rs1 w) (rs2 w) (imm_b w)) Unknown (λ c. tt) tt)
    (by_opcode w 0x03 _ _ (by_entry (find width_key loads (funct3 w)) _ Unknown (λ s. tt) tt)
    (by_opcode w 0x23 _ _ (by_entry (find width_key stores (funct3 w)) _ Unknown (λ s. tt) tt)
    (by_opcode w 0x13 _ _
    (by_entry (find alu_key immediates (funct3 w)) (λ o. OpImm o (rd w) (rs1 w) (imm_i w)) _ (λ o. imm_i_lt w)
    (by_entry (find alu_key shifts (key (funct3 w) (funct7 w))) (λ o. Shift o (rd w) (rs1 w) (rs2 w)) Unknown (λ o. rs2_lt w) tt))
    (by_opcode w 0x33 _ _ (by_entry (find alu_key operations (key (funct3 w) (funct7 w))) _ Unknown (λ o. tt) tt)
    (by_opcode w 0x0f _ _ (by_test (eqb (funct3 w) 0) (Fence (rd w) (rs1 w) (imm_i w)) Unknown tt tt)
    (by_opcode w 0x73 _ Unknown (by_test (eqb w 0x00000073) Ecall _ tt (by_test (eqb w 0x00100073) Ebreak Unknown tt tt)) tt))))))))))

-- a memory of bytes, and what is loaded from it

pub record Bytes (m : List ℕ) : Type 0 where
  pub below : (j : ℕ) → byte_at m j < 256

pub read_lt : (s : Width) (m : List ℕ) (i : ℕ) → Bytes m → read_at s m i < 2 ^ 32
unfolding read_at half_at word_at
read_lt Byte m i h = Range.sign_extend_lt 8 _ (omega arith) (omega arith) (h.below i)
read_lt Half m i h = Range.sign_extend_lt 16 _ (omega arith) (omega arith) (half (h.below i) (h.below (i + 1)))
  where
    half : {a b : ℕ} → a < 256 → b < 256 → a + b * 256 < 2 ^ 16
    half p q = omega arith
read_lt Word m i h = word_of_lt _ _ _ _ (h.below i) (h.below (i + 1)) (h.below (i + 2)) (h.below (i + 3))
read_lt ByteU m i h = let p = h.below i in omega arith
read_lt HalfU m i h = let p = h.below i in let q = h.below (i + 1) in omega arith

-- The state.

pub record Sized (m : Machine) : Type 0 where
  pub registers : (r : ℕ) → get_or m.registers r 0 < 2 ^ 32
  pub pc : m.pc < 2 ^ 32
  pub bytes : Bytes m.memory

set_lt : (most : ℕ) (l : List ℕ) (i v : ℕ) → ((j : ℕ) → get_or l j 0 < most) → v < most → (j : ℕ) → get_or (set l i v) j 0 < most
set_lt most [] i v h k j = h j
set_lt most (x ∷ l) zero v h k zero = k
set_lt most (x ∷ l) zero v h k (suc j) = h (suc j)
set_lt most (x ∷ l) (suc i) v h k zero = h 0
set_lt most (x ∷ l) (suc i) v h k (suc j) = set_lt most l i v (λ n. h (suc n)) k j

put_byte : (m : List ℕ) (i v : ℕ) → Bytes m → Bytes (set m i (v % 256))
put_byte m i v h = record { below = set_lt 256 m i (v % 256) h.below (omega arith) }

write_lt : (s : Width) (m : List ℕ) (i v : ℕ) → Bytes m → Bytes (write_at s m i v)
unfolding write_at
write_lt Byte m i v h = put_byte m i v h
write_lt ByteU m i v h = put_byte m i v h
write_lt Half m i v h = put_byte _ (i + 1) (v / 256) (put_byte m i v h)
write_lt HalfU m i v h = put_byte _ (i + 1) (v / 256) (put_byte m i v h)
write_lt Word m i v h = put_byte _ (i + 3) (v / 256 / 256 / 256) (put_byte _ (i + 2) (v / 256 / 256) (put_byte _ (i + 1) (v / 256) (put_byte m i v h)))

module _ (m : Machine) (S : Sized m) where
  reg_lt : (r : ℕ) → reg m r < 2 ^ 32
  unfolding register
  reg_lt r = pick_lt (eqb r 0) 0 _ (omega arith) (S.registers r)

  next_lt : next m < 2 ^ 32
  next_lt = Range.add_w_lt m.pc 4

  goto_sized : (p : ℕ) → p < 2 ^ 32 → Sized (goto m p)
  goto_sized p h = record { registers = S.registers; pc = h; bytes = S.bytes }

  halt_sized : (s : Status) → Sized (halt m s)
  halt_sized s = record { registers = S.registers; pc = S.pc; bytes = S.bytes }

  wrote_sized : (d v p : ℕ) → v < 2 ^ 32 → p < 2 ^ 32 → Sized (wrote m d v p)
  unfolding set_register
  wrote_sized d v p h k = record { registers = go (eqb d 0); pc = k; bytes = S.bytes }
    where
      go : (x : Bool) (r : ℕ) → get_or (pick x m.registers (set m.registers d v)) r 0 < 2 ^ 32
      go true r = S.registers r
      go false r = set_lt (2 ^ 32) m.registers d v S.registers h r

  by_choice : (x : Bool) (a b : Machine) → Sized a → Sized b → Sized (pick x a b)
  by_choice true a b h k = h
  by_choice false a b h k = k

  load_sized : (s : Width) (d at : ℕ) → Sized (load_of s d at m)
  unfolding load_of
  load_sized s d at = by_choice (reaches s at) _ _ (wrote_sized d _ _ (read_lt s m.memory at S.bytes) next_lt) (halt_sized (Fault 3))

  store_sized : (s : Width) (at v : ℕ) → Sized (store_of s at v m)
  unfolding store_of
  store_sized s at v =
      by_choice (reaches s at) (stored m (write_at s m.memory at v) (next m)) _
      (record { registers = S.registers; pc = next_lt; bytes = write_lt s m.memory at v S.bytes }) (halt_sized (Fault 3))

  call_sized : (room : ℕ) → Sized (call_of room m)
  unfolding call_of
  call_sized room =
      by_choice (eqb (reg m 17) 0) _ _ (halt_sized Exit)
      (by_choice (eqb (reg m 17) 1) _ _
      (by_choice (ltb (length m.log) room) (logged m (reg m 10) (next m)) _ (record { registers = S.registers; pc = next_lt; bytes = S.bytes }) (halt_sized (Trap 4)))
      (by_choice (eqb (reg m 17) 2) _ _ (halt_sized (Trap (reg m 10))) (halt_sized (Fault 5))))

  exec_sized : (room : ℕ) (i : Instr) → Small i → Sized (exec_of room i m)
  unfolding exec_of
  exec_sized room (Lui d imm) h = wrote_sized d imm _ h next_lt
  exec_sized room (Auipc d imm) h = wrote_sized d _ _ (Range.add_w_lt _ _) next_lt
  exec_sized room (Jal d imm) h = wrote_sized d _ _ next_lt (Range.add_w_lt _ _)
  exec_sized room (Jalr d a imm) h = wrote_sized d _ _ next_lt (even_lt (Range.add_w_lt _ _))
  exec_sized room (Branch c a b imm) h = goto_sized _ (pick_lt (cond_of c (reg m a) (reg m b)) _ _ (Range.add_w_lt _ _) next_lt)
  exec_sized room (Load s d a imm) h = load_sized s d _
  exec_sized room (Store s a b imm) h = store_sized s _ _
  exec_sized room (OpImm o d a imm) h = wrote_sized d _ _ (alu_lt o _ imm (reg_lt a) h) next_lt
  exec_sized room (Shift o d a amount) h = wrote_sized d _ _ (alu_lt o _ amount (reg_lt a) h) next_lt
  exec_sized room (Op o d a b) h = wrote_sized d _ _ (alu_lt o _ _ (reg_lt a) (reg_lt b)) next_lt
  exec_sized room (Fence d a imm) h = goto_sized _ next_lt
  exec_sized room Ecall h = call_sized room
  exec_sized room Ebreak h = halt_sized (Fault 4)
  exec_sized room Unknown h = halt_sized (Fault 2)

  pub step_sized : (size room : ℕ) → Sized (step_of size room m)
  unfolding step_of
  step_sized size room = by_choice (in_code size m.pc) _ _ (exec_sized room (decode_of (word_at m.memory m.pc)) (decode_small (word_at m.memory m.pc))) (halt_sized (Fault 1))

pub run_sized : (size room n : ℕ) (m : Machine) (k : ℕ) → Sized m → Sized (run_of size room n m k).machine
run_sized size room n m k S = run_by Sized size room (λ x h. step_sized x h size room) (λ x h. halt_sized x h Limit) n m k S
