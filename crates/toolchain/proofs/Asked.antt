-- What an accepted call was lent.
use Prim.Native.Nat.{ℕ, ◌≤◌, ◌<◌, ◌%◌}
use mathlib.Core.Path.{◌≡◌, refl, sym, subst}
use mathlib.Core.Bool.{Bool, true, false}
use native.Mathlib.Omega.{arith}
use lib.Dec.{T, leb, eqb}
use borrow.Author.Tests.{leb-true, le-leb, lt-leb, ne_eqb}
use Rattle.word.specs.Choice.{pick, both}
use Rattle.processor.specs.Machine.{memory_bytes, register_count}
use Rattle.emulator.specs.declared.image.Refusal as E
use Rattle.emulator.specs.declared.image.Refusal.TheVariants as R
use Rattle.emulator.specs.Refusal as N
use Rattle.toolchain.specs.Checking.{number_of}
use Rattle.toolchain.specs.Refusals.{from_run}
use Rattle.toolchain.specs.Emulation.{resume_answer}
use Rattle.processor.specs.Image.{Lent, longest_code, longest_input, fits, accepted, answer_of}

pub record Enough (l : Lent) : Type 0 where
  pub code : l.code ≤ longest_code
  pub input : l.input ≤ longest_input
  pub memory : memory_bytes ≤ l.memory
  pub registers : register_count ≤ l.registers
  pub log : l.room ≤ l.log

both_hold : (a b : Bool) → both a b ≡ true → (a ≡ true) × (b ≡ true)
both_hold true b e = (refl, e)
both_hold false b e = absurd (subst T (sym e) tt)

all_hold : (a b c : Bool) → pick a (pick b (pick c accepted 6) 5) 4 ≡ accepted → (a ≡ true) × (b ≡ true) × (c ≡ true)
all_hold true true true e = (refl, refl, refl)
all_hold true true false e = absurd (omega arith)
all_hold true false c e = absurd (omega arith)
all_hold false b c e = absurd (omega arith)

fits_means : (most size : ℕ) → fits most size ≡ true → size ≤ most
unfolding fits
fits_means most size e = leb-true _ _ (both_hold (eqb (size % 4) 0) _ e).1

pub enough : (l : Lent) → answer_of l ≡ accepted → Enough l
unfolding answer_of
enough l e =
    let all = all_hold (fits longest_code l.code) (fits longest_input l.input) _ e in
    let lent = both_hold (leb memory_bytes l.memory) _ all.2 in
    let rest = both_hold (leb register_count l.registers) _ lent.1 in
    record {
      code = fits_means _ _ all.0;
      input = fits_means _ _ all.1;
      memory = leb-true _ _ lent.0;
      registers = leb-true _ _ rest.0;
      log = leb-true _ _ rest.1;
    }

-- a refusal of the emulator's has its number here too, and none is that of an accepted call

pub same_number : (e : E.Refusal) → number_of (from_run e) ≡ N.number_of e
same_number R.Code = refl
same_number R.Input = refl
same_number R.Room = refl

pub not_accepted : (e : E.Refusal) → number_of (from_run e) ≡ accepted → ⊥
not_accepted R.Code h = absurd (omega arith)
not_accepted R.Input h = absurd (omega arith)
not_accepted R.Room h = absurd (omega arith)

-- What a call to go on is answered: refused as from the start, refused for its log, or accepted.

pub resume_refused : (l : Lent) (logged n : ℕ) → n ≡ answer_of l → (n ≡ accepted → ⊥) → resume_answer l logged ≡ n
unfolding resume_answer
resume_refused l logged n e other = rw (← e, ne_eqb _ _ other)

pub resume_full : (l : Lent) (logged : ℕ) → answer_of l ≡ accepted → l.room < logged → resume_answer l logged ≡ 6
unfolding resume_answer
resume_full l logged e h = rw (e, lt-leb _ _ h)

pub resume_accepted : (l : Lent) (logged : ℕ) → answer_of l ≡ accepted → logged ≤ l.room → resume_answer l logged ≡ accepted
unfolding resume_answer
resume_accepted l logged e h = rw (e, le-leb _ _ h)
