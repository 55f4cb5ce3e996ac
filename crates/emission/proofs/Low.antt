-- An immediate of 12 bits may be given by its remainder: the formats I and S take no more of it.
use Prim.Native.Nat.{ℕ, zero, suc, ◌/◌, ◌%◌}
use native.Mathlib.Omega.{arith}
use mathlib.Core.Path.{◌≡◌, refl, sym, ap, ◌∙◌}
use mathlib.Core.List.{List, [], ◌∷◌}
use lib.ListN.{set}
use Rattle.processor.specs.declared.Width.TheVariants.{Word}
use Rattle.processor.specs.declared.Instr.{Instr}
use Rattle.processor.specs.declared.Instr.TheVariants.{Load, Store}
use Rattle.processor.specs.Formats.{i_word, s_word, r_word}
use Rattle.processor.specs.Instructions.{encode_of}
use Rattle.symbolic.specs.Symbolic.{Reg, number, sp, lw, sw}
use Rattle.emission.specs.Tape.{tape, putting, Puts}
use Rattle.emission.specs.Macros.{EmitsAt}
use Rattle.emission.proofs.Laws.{last}

high : (n : ℕ) → n % 4096 / 32 % 128 ≡ n / 32 % 128
high n = omega arith

lowest : (n : ℕ) → n % 4096 % 32 ≡ n % 32
lowest n = omega arith

load_word : (d a n : ℕ) → encode_of (Load Word d a (n % 4096)) ≡ encode_of (Load Word d a n)
unfolding encode_of i_word
load_word d a n = ap (λ (x : ℕ). r_word x (n % 4096 % 32) a 2 d 0x03) (high n) ∙ ap (λ (x : ℕ). r_word (n / 32 % 128) x a 2 d 0x03) (lowest n)

store_word : (a b n : ℕ) → encode_of (Store Word a b (n % 4096)) ≡ encode_of (Store Word a b n)
unfolding encode_of s_word
store_word a b n = ap (λ (x : ℕ). r_word x b a 2 (n % 4096 % 32) 0x23) (high n) ∙ ap (λ (x : ℕ). r_word (n / 32 % 128) b a 2 x 0x23) (lowest n)

putting_same : (i j : Instr) (ws : List ℕ) (at : ℕ) → encode_of i ≡ encode_of j → putting j ws at ≡ putting i ws at
unfolding putting
putting_same i j ws zero e = refl
putting_same i j ws (suc k) e = ap (λ (x : ℕ). tape (set ws k x) k) (sym e)

same_puts : {i j : Instr} {at r : ℕ} {ws ws' : List ℕ} → encode_of i ≡ encode_of j → Puts i at ws ws' r → Puts j at ws ws' r
same_puts {i} {j} {at} {r} {ws} {ws'} e p = record { same = putting_same i j ws at e ∙ p.same }

pub loads_low : {d n at r : ℕ} {ws ws' : List ℕ} → Puts (Load Word d 2 (n % 4096)) at ws ws' r → EmitsAt (λ p. lw p sp n ∷ []) d at ws ws' r
loads_low {d} {n} {at} {r} {ws} {ws'} h =
    record { each = λ (p : Reg) (e : number p ≡ d). last (ap (λ (x : ℕ). Load Word x 2 n) e) (same_puts (load_word d 2 n) h) }

pub stores_low : {d n at r : ℕ} {ws ws' : List ℕ} → Puts (Store Word 2 d (n % 4096)) at ws ws' r → EmitsAt (λ p. sw p sp n ∷ []) d at ws ws' r
stores_low {d} {n} {at} {r} {ws} {ws'} h =
    record { each = λ (p : Reg) (e : number p ≡ d). last (ap (λ (x : ℕ). Store Word 2 x n) e) (same_puts (store_word 2 d n) h) }
