-- From position to position: what jumps and branches add to pc leads to their target, and their formats hold it.
use Prim.Native.Nat.{ℕ, suc, ◌+◌, ◌-◌, ◌*◌, ◌/◌, ◌^◌, ◌≤◌, ◌<◌}
use mathlib.Core.Path.{◌≡◌}
use native.Mathlib.Omega.{arith}
use native.Mathlib.Decide.{dec_lt}
use Rattle.word.specs.Word.{add_w}
use Rattle.processor.specs.Instructions.{Extended, Even}
use Rattle.symbolic.specs.Symbolic.{pos, position_of}
use Rattle.symbolic.specs.Real.{distance}
use Rattle.symbolic.specs.Fine.{near, far}
use Rattle.symbolic.proofs.Immediates.{small13, minus13, small21, minus21}

-- the address of any position that matters is a word
abbrev pub reachable : ℕ
reachable = 1048576

pub arrives : (k t : ℕ) → k < reachable → t < reachable → add_w (pos k) (distance k t) ≡ pos t
unfolding add_w distance
arrives k t hk ht = omega arith

pub next_is : (k : ℕ) → k < reachable → add_w (pos k) 4 ≡ pos (suc k)
unfolding add_w
next_is k h = omega arith

-- a return to an address that is a position's
pub returns : (a t : ℕ) → a < 2 ^ 32 → pos t ≡ a → add_w a 0 / 2 * 2 ≡ pos t
unfolding add_w
returns a t h e = omega arith

pub position_is : (t : ℕ) → position_of (pos t) ≡ t
position_is t = omega arith

-- as a number: onward, and back
onward : (k t : ℕ) → k < reachable → t < reachable → k ≤ t → distance k t ≡ 4 * (t - k)
unfolding distance
onward k t hk ht h = omega arith

backward : (k t : ℕ) → k < reachable → t < reachable → t < k → distance k t ≡ 2 ^ 32 - 4 * (k - t)
unfolding distance
backward k t hk ht h = omega arith

even_distance : (k t : ℕ) → k < reachable → t < reachable → Even (distance k t)
unfolding distance
even_distance k t hk ht = omega arith

pub branch_holds : (k t : ℕ) → k < reachable → t < reachable → t < k + near → k ≤ t + near → Extended 13 (distance k t) × Even (distance k t)
branch_holds k t hk ht h1 h2 = (go (dec_lt t k), even_distance k t hk ht)
  where
    go : Dec (t < k) → Extended 13 (distance k t)
    go (yes h) = rw (backward k t hk ht h) (minus13 (4 * (k - t)) (omega arith) (omega arith))
    go (no h) = rw (onward k t hk ht (omega arith)) (small13 (4 * (t - k)) (omega arith))

pub jump_holds : (k t : ℕ) → k < reachable → t < reachable → t < k + far → k ≤ t + far → Extended 21 (distance k t) × Even (distance k t)
jump_holds k t hk ht h1 h2 = (go (dec_lt t k), even_distance k t hk ht)
  where
    go : Dec (t < k) → Extended 21 (distance k t)
    go (yes h) = rw (backward k t hk ht h) (minus21 (4 * (k - t)) (omega arith) (omega arith))
    go (no h) = rw (onward k t hk ht (omega arith)) (small21 (4 * (t - k)) (omega arith))
