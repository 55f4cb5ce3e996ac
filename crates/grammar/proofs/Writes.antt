-- Runs of stores: one after another, one before another.
use mathlib.Core.Path.{◌≡◌, refl, sym, ap, ◌∙◌}
use mathlib.Core.List.{List, [], ◌∷◌, ◌++◌}
use Prim.Native.Nat.{ℕ, suc, ◌+◌, ◌<◌}
use native.Mathlib.Omega.{arith}
use native.Mathlib.Nat.{add-suc, suc-add, add-zero}
use lib.ListN.{length, set}
use lib.Seq.{sets, set_comm}

pub sets_append : (l : List ℕ) (i : ℕ) (a b : List ℕ) → sets (sets l i a) (i + length a) b ≡ sets l i (a ++ b)
sets_append l i [] b = ap (λ (k : ℕ). sets l k b) (add-zero i)
sets_append l i (x ∷ a) b = ap (λ (k : ℕ). sets (sets l i (x ∷ a)) k b) (add-suc i (length a) ∙ sym (suc-add i (length a))) ∙ sets_append (set l i x) (suc i) a b

-- a store before a run of stores
set_before : (l : List ℕ) (p q v : ℕ) (c : List ℕ) → q < p → set (sets l p c) q v ≡ sets (set l q v) p c
set_before l p q v [] h = refl
set_before l p q v (x ∷ c) h = set_before (set l p x) (suc p) q v c (omega arith) ∙ ap (λ (w : List ℕ). sets w (suc p) c) (set_comm l p q x v (λ e. omega arith))

-- what is written in the gap that was left before
pub sets_before : (l : List ℕ) (i : ℕ) (h c : List ℕ) → sets (sets l (i + length h) c) i h ≡ sets l i (h ++ c)
sets_before l i [] c = ap (λ (k : ℕ). sets l k c) (add-zero i)
sets_before l i (x ∷ h) c =
    ap (λ (w : List ℕ). sets w (suc i) h) (set_before l (i + suc (length h)) i x c (omega arith))
    ∙ ap (λ (k : ℕ). sets (sets (set l i x) k c) (suc i) h) (add-suc i (length h) ∙ sym (suc-add i (length h)))
    ∙ sets_before (set l i x) (suc i) h c
