-- Placement: a piece of code stands in the whole code from p up to q. The end q is carried along, so there is no arithmetic of lengths.
use mathlib.Core.Path.{◌≡◌, refl, sym}
use mathlib.Core.List.{List, [], ◌∷◌, ◌++◌, append-nil}
use Prim.Native.Nat.{ℕ, zero, suc, ◌+◌}
use native.Mathlib.Nat.{zero-add, suc-add, add-suc}
use native.Mathlib.Omega.{arith}
use lib.ListN.{length, get_or, drop}
use Rattle.symbolic.specs.Symbolic.{Instruction, bad}

abbrev pub At : List Instruction → ℕ → List Instruction → ℕ → Type 0
At code p [] q = p ≡ q
At code p (i ∷ c) q = (get_or code p bad ≡ i) × At code (suc p) c q

-- a piece made of two
pub at_split : (code : List Instruction) (p : ℕ) (a b : List Instruction) (q : ℕ) → At code p (a ++ b) q → (r : ℕ) × At code p a r × At code r b q
at_split code p [] b q h = (p, refl, h)
at_split code p (i ∷ a) b q h = let t = at_split code (suc p) a b q h.1 in (t.0, (h.0, t.1), t.2)

pub at_len : (code : List Instruction) (p : ℕ) (a : List Instruction) (q : ℕ) → At code p a q → q ≡ p + length a
at_len code p [] q h = omega arith
at_len code p (i ∷ a) q h = let t = at_len code (suc p) a q h.1 in omega arith

get_d_head : (code : List Instruction) (p : ℕ) (i : Instruction) (r : List Instruction) → drop p code ≡ i ∷ r → get_or code p bad ≡ i
get_d_head [] zero i r e = cc
get_d_head [] (suc p) i r e = cc
get_d_head (x ∷ xs) zero i r e = cc
get_d_head (x ∷ xs) (suc p) i r e = get_d_head xs p i r e

drop_next : (code : List Instruction) (p : ℕ) (i : Instruction) (r : List Instruction) → drop p code ≡ i ∷ r → drop (suc p) code ≡ r
drop_next [] zero i r e = cc
drop_next [] (suc p) i r e = cc
drop_next (x ∷ xs) zero i r e = cc
drop_next (x ∷ xs) (suc p) i r e = drop_next xs p i r e

at_drop : (code : List Instruction) (p : ℕ) (c r : List Instruction) → drop p code ≡ c ++ r → At code p c (p + length c)
at_drop code p [] r e = omega arith
at_drop code p (i ∷ c) r e =
    (get_d_head code p i (c ++ r) e, rw (add-suc, ← suc-add) (at_drop code (suc p) c r (drop_next code p i (c ++ r) e)))

-- the whole code stands in itself
pub at_whole : (code : List Instruction) → At code 0 code (length code)
at_whole code = rw zero-add at (at_drop code 0 code [] (sym (append-nil code)))
