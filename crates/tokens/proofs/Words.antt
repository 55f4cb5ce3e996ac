-- Telling words from names by the first letter: only the rows that begin with it can be spelt so.
use mathlib.Core.Path.{◌≡◌, refl, sym, ap, ◌∙◌}
use mathlib.Core.Bool.{Bool, true, false}
use mathlib.Core.List.{List, [], ◌∷◌}
use mathlib.Core.Option.{none, some}
use Prim.Native.Nat.{ℕ, ◌<◌}
use Prim.Native.String.{String}
use native.Mathlib.Omega.{arith}
use lib.Dec.{eqb}
use lib.ListN.{length, get_or, drop}
use Rattle.word.specs.Choice.{pick}
use Rattle.language.specs.Tokens.{Word, bytes, words, starts, same, find, or_name}
use Rattle.tokens.specs.Kinds.{kind_of, word_kind}
use Rattle.tokens.proofs.Lists.{pick_g}

-- the rows whose spelling begins with b
unfoldable pub only : ℕ → List (Word × String) → List (Word × String)
only b [] = []
only b (r ∷ rs) = pick (starts (eqb b) (bytes r.1)) (r ∷ only b rs) (only b rs)

differs : (b : ℕ) (v w : List ℕ) → starts (eqb b) w ≡ false → same (b ∷ v) w ≡ false
unfolding starts same
differs b v [] e = refl
differs b v (a ∷ w) e = rw e

find_only : (b : ℕ) (v : List ℕ) (rs : List (Word × String)) → find (same (b ∷ v)) rs ≡ find (same (b ∷ v)) (only b rs)
unfolding find only
find_only b v [] = refl
find_only b v (r ∷ rs) =
    pick_g (λ (l : List (Word × String)). find (same (b ∷ v)) (r ∷ rs) ≡ find (same (b ∷ v)) l) (starts (eqb b) (bytes r.1)) _ _
    (λ e. ap (pick (same (b ∷ v) (bytes r.1)) (some r)) (find_only b v rs))
    (λ e. rw (differs b v (bytes r.1) e) (find_only b v rs))

module _ (v : List ℕ) (b : ℕ) (v' : List ℕ) (e : v ≡ b ∷ v') where
  rows : (rs : List (Word × String)) → only b words ≡ rs → kind_of (or_name v (find (same v) words)) ≡ kind_of (or_name v (find (same v) rs))
  rows rs q = rw (e, find_only b v' words, q)

  pub no_word : only b words ≡ [] → 1 ≡ kind_of (or_name v (find (same v) words))
  unfolding find or_name kind_of
  no_word q = sym (rows [] q)

  pub one_word : (r : Word × String) → only b words ≡ r ∷ [] → pick (same v (bytes r.1)) (word_kind r.0) 1 ≡ kind_of (or_name v (find (same v) words))
  unfolding find or_name kind_of
  one_word r q = sym (rows (r ∷ []) q ∙ go (same v (bytes r.1)))
    where
      go : (t : Bool) → kind_of (or_name v (pick t (some r) none)) ≡ pick t (word_kind r.0) 1
      go true = refl
      go false = refl

  pub two_words : (r s : Word × String) → only b words ≡ r ∷ s ∷ [] → pick (same v (bytes r.1)) (word_kind r.0) (pick (same v (bytes s.1)) (word_kind s.0) 1) ≡ kind_of (or_name v (find (same v) words))
  unfolding find or_name kind_of
  two_words r s q = sym (rows (r ∷ s ∷ []) q ∙ go (same v (bytes r.1)) (same v (bytes s.1)))
    where
      go : (t u : Bool) → kind_of (or_name v (pick t (some r) (pick u (some s) none))) ≡ pick t (word_kind r.0) (pick u (word_kind s.0) 1)
      go true u = refl
      go false true = refl
      go false false = refl

-- a name by its first letter
pub first_letter : (name : List ℕ) (b : ℕ) → 0 < length name → get_or name 0 0 ≡ b → name ≡ b ∷ drop 1 name
first_letter [] b p e = absurd (omega arith)
first_letter (a ∷ name) b p e = rw e
