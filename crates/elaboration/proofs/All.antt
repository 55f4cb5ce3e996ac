-- Facts of what elaboration gives, without inversion: a property of all that a part gives where it keeps the rules, part by part.
use mathlib.Core.Path.{◌≡◌, refl, sym, subst}
use mathlib.Core.Bool.{Bool, true, false}
use mathlib.Core.List.{List, [], ◌∷◌}
use Prim.Native.Nat.{ℕ, zero, suc}
use lib.ListN.{get_or}
use Rattle.language.specs.Tree.{Place}
use Rattle.language.specs.Tokens.{In}
use Rattle.language.specs.Rules.{Ruled, keeps, breaks, ◌>>=◌, need}

pub record All {A : Type 0} (P : A → Type 0) (m : Ruled A) : Type 0 where
  pub holds : (a : A) → m ≡ keeps a → P a

abbrev Given : {A : Type 0} → (A → Type 0) → Ruled A → Type 0
Given P (keeps a) = P a
Given P (breaks p) = ⊥

pub kept : {A : Type 0} {P : A → Type 0} {a : A} → P a → All P (keeps a)
kept {P} h = record { holds = λ b e. subst (Given P) e h }

pub broken : {A : Type 0} {P : A → Type 0} {at : Place} → All P (breaks at)
broken {A} = record { holds = λ b e. absurd (subst (Given (λ (a : A). Unit {0})) (sym e) tt) }

-- first a part, and then what goes on with what it gives
pub then : {A B : Type 0} {P : A → Type 0} {Q : B → Type 0} {m : Ruled A} {f : A → Ruled B} → All P m → ((a : A) → P a → All Q (f a)) → All Q (m >>= f)
unfolding ◌>>=◌
then {m = keeps a} h k = k a (h.holds a refl)
then {m = breaks p} h k = broken

-- a part of which nothing is needed; a rule, whose test then holds
pub anything : {A : Type 0} {m : Ruled A} → All (λ a. Unit {0}) m
anything = record { holds = λ a e. tt }

pub needed : {b : Bool} (at : Place) → All (λ u. b ≡ true) (need b at)
unfolding need
needed {b = true} at = kept refl
needed {b = false} at = broken

-- what follows from a property; two at once
pub so : {A : Type 0} {P Q : A → Type 0} {m : Ruled A} → ((a : A) → P a → Q a) → All P m → All Q m
so k h = record { holds = λ a e. k a (h.holds a e) }

pub also : {A : Type 0} {P Q : A → Type 0} {m : Ruled A} → All P m → All Q m → All (λ a. P a × Q a) m
also h k = record { holds = λ a e. (h.holds a e, k.holds a e) }

-- a property under an assumption
pub given : {A H : Type 0} {P : A → Type 0} {m : Ruled A} → (H → All P m) → All (λ a. H → P a) m
given k = record { holds = λ a e h. (k h).holds a e }

-- a property of every member of a list
pub data Each {A : Type 0} (P : A → Type 0) : List A → Type 0 where
  none : Each P []
  more : {a : A} {xs : List A} → P a → Each P xs → Each P (a ∷ xs)

pub each_in : {A : Type 0} {P : A → Type 0} {a : A} {xs : List A} → Each P xs → In a xs → P a
each_in {P} (Each.more h hs) (In.here e) = subst P (sym e) h
each_in (Each.more h hs) (In.there i) = each_in hs i
each_in {A = A} {P = P} {a = a} none x3 = elim x3 [ ]

pub each_at : {A : Type 0} {P : A → Type 0} {xs : List A} (d : A) → P d → Each P xs → (i : ℕ) → P (get_or xs i d)
each_at d h Each.none i = h
each_at d h (Each.more k ks) zero = k
each_at d h (Each.more k ks) (suc i) = each_at d h ks i
