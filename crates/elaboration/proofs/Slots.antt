-- Slots: those of the locals that are visible are below the number of locals.
use mathlib.Core.Bool.{Bool, true, false}
use mathlib.Core.List.{List, ◌∷◌}
use mathlib.Core.Option.{some}
use Prim.Native.Nat.{ℕ, suc, ◌≤◌, ◌<◌}
use native.Mathlib.Omega.{arith}
use Rattle.word.specs.Choice.{pick}
use Rattle.language.specs.Tree.{Place, Name}
use Rattle.language.specs.Rules.{found, Local, local_of}
use Rattle.language.specs.Tokens.{same}
use Rattle.elaboration.proofs.All.{All, kept, broken, Each}

-- a local that is visible has its slot among the n of the function
abbrev pub Visible : ℕ → List Local → Type 0
Visible n ls = Each (λ l. l.slot < n) ls

-- a local that is found is one of those that are visible
pub local_seen : {P : Local → Type 0} {ls : List Local} → Each P ls → (at : Place) (x : Name) → All P (found (local_of ls x) at)
unfolding local_of found
local_seen Each.none at x = broken
local_seen {P} (Each.more {a = l} {xs = ls} h hs) at x = go (same l.name x) (local_seen hs at x)
  where
    go : (b : Bool) → All P (found (local_of ls x) at) → All P (found (pick b (some l) (local_of ls x)) at)
    go true r = kept h
    go false r = r

pub wider : {m n : ℕ} {ls : List Local} → m ≤ n → Visible m ls → Visible n ls
wider l Each.none = Each.none
wider l (Each.more {a = k} h hs) = Each.more {a = k} (omega (arith, h, l)) (wider l hs)

-- a local gets the next slot
pub newest : (l : Local) {ls : List Local} → Visible l.slot ls → Visible (suc l.slot) (l ∷ ls)
newest l h = Each.more {a = l} (omega arith) (wider (omega arith) h)
