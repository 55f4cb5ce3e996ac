-- The instruction of document 03 that an instruction of the symbolic processor is, and the code's words and bytes.
use Rattle.std.specs.Prelude.{ℕ, suc, ◌+◌, ◌-◌, ◌%◌, ◌^◌, List, [], ◌∷◌}
use Rattle.word.specs.Bytes.{bytes_of_words}
use Rattle.processor.specs.declared.Alu.TheVariants.{Add}
use Rattle.processor.specs.declared.Width.TheVariants.{Word}
use Rattle.processor.specs.declared.Instr.{Instr}
use Rattle.processor.specs.declared.Instr.TheVariants.{Lui, Jal, Jalr, Branch, Load, Store, OpImm, Shift, Op, Ecall, Unknown}
use Rattle.processor.specs.Instructions.{encode_of}
use Rattle.symbolic.specs.Symbolic.{number, ra, Instruction, lui, opi, shift, mv, op, lw, sw, branch, branch_back, jump, jump_back, call, ret, ecall, bad, pos}

-- what the instruction at k adds to pc to come to the one at t, modulo 2 ^ 32
unfoldable pub distance : ℕ → ℕ → ℕ
distance k t = (pos t + (2 ^ 32 - pos k)) % 2 ^ 32

-- the real instruction, at position k
abbrev pub real : ℕ → Instruction → Instr
real k (lui r n) = Lui (number r) n
real k (opi o r q n) = OpImm o (number r) (number q) n
real k (shift o r q n) = Shift o (number r) (number q) n
real k (mv r q) = OpImm Add (number r) (number q) 0
real k (op o r p q) = Op o (number r) (number p) (number q)
real k (lw r q n) = Load Word (number r) (number q) n
real k (sw r q n) = Store Word (number q) (number r) n
real k (branch c p q n) = Branch c (number p) (number q) (distance k (k + n))
real k (branch_back c p q n) = Branch c (number p) (number q) (distance k (k - n))
real k (jump n) = Jal 0 (distance k (k + n))
real k (jump_back n) = Jal 0 (distance k (k - n))
real k (call t) = Jal (number ra) (distance k t)
real k ret = Jalr 0 (number ra) 0
real k ecall = Ecall
real k bad = Unknown

-- the words of code that stands from position k on; the code's bytes, which are the image
unfoldable pub words_from : ℕ → List Instruction → List ℕ
words_from k [] = []
words_from k (i ∷ rest) = encode_of (real k i) ∷ words_from (suc k) rest

unfoldable pub image_of : List Instruction → List ℕ
image_of code = bytes_of_words (words_from 0 code)
