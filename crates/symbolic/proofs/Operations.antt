-- Every operation of two words gives a word.
use Prim.Native.Nat.{ℕ, ◌%◌, ◌^◌, ◌<◌}
use mathlib.Core.Bool.{Bool, true, false}
use native.Mathlib.Omega.{arith}
use lib.Dec.{eqb}
use Rattle.word.specs.Choice.{pick}
use Rattle.word.specs.Word.{bit_of, lt_s, lt_u}
use Rattle.word.proofs.Range.{add_w_lt, sub_w_lt, mul_w_lt, quot_s_lt, rem_s_lt, quot_u_lt, rem_u_lt, and_w_lt, or_w_lt, xor_w_lt, shl_w_lt, shr_u_lt, shr_s_lt, mulh_ss_lt, mulh_su_lt, mulh_uu_lt, bit_of_lt}
use Rattle.processor.specs.declared.Alu.{Alu}
use Rattle.processor.specs.declared.Alu.TheVariants.{Add, Sub, Sll, Slt, Sltu, Xor, Srl, Sra, Or, And, Mul, Mulh, Mulhsu, Mulhu, Div, Divu, Rem, Remu}
use Rattle.processor.specs.Execute.{alu_of}

chosen : (t : Bool) {a b : ℕ} → a < 2 ^ 32 → b < 2 ^ 32 → pick t a b < 2 ^ 32
chosen true h k = h
chosen false h k = k

a_bit : (b : Bool) → bit_of b < 2 ^ 32
a_bit b = let h = bit_of_lt b in omega arith

pub alu_lt : (o : Alu) (a b : ℕ) → a < 2 ^ 32 → b < 2 ^ 32 → alu_of o a b < 2 ^ 32
unfolding alu_of
alu_lt Add a b h k = add_w_lt a b
alu_lt Sub a b h k = sub_w_lt a b
alu_lt Sll a b h k = shl_w_lt a (b % 32)
alu_lt Slt a b h k = a_bit (lt_s a b)
alu_lt Sltu a b h k = a_bit (lt_u a b)
alu_lt Xor a b h k = xor_w_lt a b h k
alu_lt Srl a b h k = shr_u_lt a (b % 32) h
alu_lt Sra a b h k = shr_s_lt a (b % 32)
alu_lt Or a b h k = or_w_lt a b h k
alu_lt And a b h k = and_w_lt a b h
alu_lt Mul a b h k = mul_w_lt a b
alu_lt Mulh a b h k = mulh_ss_lt a b
alu_lt Mulhsu a b h k = mulh_su_lt a b
alu_lt Mulhu a b h k = mulh_uu_lt a b
alu_lt Div a b h k = chosen (eqb b 0) (omega arith) (quot_s_lt a b)
alu_lt Divu a b h k = chosen (eqb b 0) (omega arith) (quot_u_lt a b h)
alu_lt Rem a b h k = chosen (eqb b 0) h (rem_s_lt a b)
alu_lt Remu a b h k = chosen (eqb b 0) h (rem_u_lt a b h)
