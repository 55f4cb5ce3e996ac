-- The tables: what is found there has the number that was looked for, and each entry is found under its own number.
use Prim.Native.Nat.{ℕ, ◌%◌, ◌<◌}
use mathlib.Core.Path.{◌≡◌, refl, sym, subst}
use mathlib.Core.List.{List, [], ◌∷◌}
use mathlib.Core.Bool.{Bool, true, false}
use mathlib.Core.Option.{Option, none, some, none-ne-some}
use lib.Dec.{eqb, ltb, T}
use borrow.Author.Tests.{eqb-true, ltb-true}
use Rattle.word.specs.Choice.{pick, both}
use Rattle.processor.specs.declared.Alu.{Alu}
use Rattle.processor.specs.declared.Alu.TheVariants.{Add, Sub, Sll, Slt, Sltu, Xor, Srl, Sra, Or, And, Mul, Mulh, Mulhsu, Mulhu, Div, Divu, Rem, Remu}
use Rattle.processor.specs.declared.Cond.{Cond}
use Rattle.processor.specs.declared.Cond.TheVariants.{Eq, Ne, Lt, Ge, Ltu, Geu}
use Rattle.processor.specs.declared.Width.{Width}
use Rattle.processor.specs.declared.Width.TheVariants.{Byte, Half, Word, ByteU, HalfU}
use Rattle.processor.specs.Instructions.{find, alu_key, cond_key, width_key, operations, immediates, shifts, branches, loads, Among}

-- What is found has the number.
pub found_number : {A : Type 0} (number : A → ℕ) (l : List A) (k : ℕ) (a : A) → find number l k ≡ some a → number a ≡ k
found_number number [] k a p = absurd (none-ne-some _ p)
found_number number (x ∷ l) k a p = go (eqb k (number x)) refl (λ q. found_number number l k a q) p
  where
    go : (t : Bool) → eqb k (number x) ≡ t → (find number l k ≡ some a → number a ≡ k) → pick t (some x) (find number l k) ≡ some a → number a ≡ k
    go true e rec q =
        let same : x ≡ a = cc in
        rw (← same) (sym (eqb-true _ _ e))
    go false e rec q = rec q

-- What is found is one of the list's.
pub found_among : {A : Type 0} (number : A → ℕ) (l : List A) (k : ℕ) (a : A) → find number l k ≡ some a → Among number l a
found_among number l k a p = rw (found_number number l k a p) p

-- What passes a test at every entry passes it where it is found.
abbrev all : {A : Type 0} → (A → Bool) → List A → Bool
all P [] = true
all P (a ∷ l) = both (P a) (all P l)

pub found_passes : {A : Type 0} (P : A → Bool) (number : A → ℕ) (l : List A) → T (all P l) → (k : ℕ) (a : A) → find number l k ≡ some a → P a ≡ true
found_passes P number [] h k a p = absurd (none-ne-some _ p)
found_passes P number (x ∷ l) h k a p = go (eqb k (number x)) (P x) refl (λ t q. found_passes P number l t k a q) h p
  where
    go : (t y : Bool) → P x ≡ y → (T (all P l) → find number l k ≡ some a → P a ≡ true) → T (both y (all P l)) → pick t (some x) (find number l k) ≡ some a → P a ≡ true
    go true true e rec s q =
        let same : x ≡ a = cc in
        rw (← same) e
    go false true e rec s q = rec s q
    go true false e rec s q = absurd s
    go false false e rec s q = absurd s

-- Every operation, condition and width is found.

pub operation_found : (o : Alu) → Among alu_key operations o
operation_found Add = refl
operation_found Sub = refl
operation_found Sll = refl
operation_found Slt = refl
operation_found Sltu = refl
operation_found Xor = refl
operation_found Srl = refl
operation_found Sra = refl
operation_found Or = refl
operation_found And = refl
operation_found Mul = refl
operation_found Mulh = refl
operation_found Mulhsu = refl
operation_found Mulhu = refl
operation_found Div = refl
operation_found Divu = refl
operation_found Rem = refl
operation_found Remu = refl

pub branch_found : (c : Cond) → Among cond_key branches c
branch_found Eq = refl
branch_found Ne = refl
branch_found Lt = refl
branch_found Ge = refl
branch_found Ltu = refl
branch_found Geu = refl

pub load_found : (s : Width) → Among width_key loads s
load_found Byte = refl
load_found Half = refl
load_found Word = refl
load_found ByteU = refl
load_found HalfU = refl

-- Their numbers fit funct3, or funct7 and funct3.

small : {A : Type 0} (m : ℕ) (number : A → ℕ) (l : List A) → T (all (λ a. ltb (number a) m) l) → (a : A) → Among number l a → number a < m
small m number l h a p = ltb-true _ _ (found_passes (λ a. ltb (number a) m) number l h _ a p)

pub operation_small : (o : Alu) → alu_key o < 1024
operation_small o = small 1024 alu_key operations tt o (operation_found o)

pub immediate_small : (o : Alu) → Among alu_key immediates o → alu_key o < 8
immediate_small o h = small 8 alu_key immediates tt o h

pub branch_small : (c : Cond) → cond_key c < 8
branch_small c = small 8 cond_key branches tt c (branch_found c)

pub width_small : (s : Width) → width_key s < 8
width_small s = small 8 width_key loads tt s (load_found s)

-- A shift's funct3 is that of no operation with an immediate.

abbrev is_none : {A : Type 0} → Option A → Bool
is_none none = true
is_none (some a) = false

is_none_lem : {A : Type 0} (x : Option A) → is_none x ≡ true → x ≡ none
is_none_lem none e = refl
is_none_lem (some a) e = absurd (subst T (sym e) tt)

pub shift_apart : (o : Alu) → Among alu_key shifts o → find alu_key immediates (alu_key o % 8) ≡ none
shift_apart o h = is_none_lem _ (found_passes (λ o. is_none (find alu_key immediates (alu_key o % 8))) alu_key shifts tt (alu_key o) o h)
