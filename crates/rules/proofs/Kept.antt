-- Laws of sequences of rules, and facts of all that a part gives where it keeps the rules.
use mathlib.Core.Path.{◌≡◌, refl, sym, subst}
use Rattle.language.specs.Tree.{Place}
use Rattle.language.specs.Rules.{Ruled, keeps, breaks, ◌>>=◌}

pub assoc : {A B C : Type 0} (m : Ruled A) (f : A → Ruled B) (g : B → Ruled C) → (m >>= f) >>= g ≡ m >>= λ a. f a >>= g
unfolding ◌>>=◌
assoc (keeps a) f g = refl
assoc (breaks p) f g = refl

pub ext : {A B : Type 0} (m : Ruled A) {f g : A → Ruled B} → ((a : A) → f a ≡ g a) → m >>= f ≡ m >>= g
unfolding ◌>>=◌
ext (keeps a) h = h a
ext (breaks p) h = refl

pub record All {A : Type 0} (P : A → Type 0) (m : Ruled A) : Type 0 where
  pub holds : (a : A) → m ≡ keeps a → P a

abbrev Given : {A : Type 0} → (A → Type 0) → Ruled A → Type 0
Given P (keeps a) = P a
Given P (breaks p) = ⊥

pub kept : {A : Type 0} {P : A → Type 0} {a : A} → P a → All P (keeps a)
kept {P} h = record { holds = λ b e. subst (Given P) e h }

pub broken : {A : Type 0} {P : A → Type 0} {at : Place} → All P (breaks at)
broken {A} = record { holds = λ b e. absurd (subst (Given (λ (a : A). Unit {0})) (sym e) tt) }

pub then : {A B : Type 0} {P : A → Type 0} {Q : B → Type 0} {m : Ruled A} {f : A → Ruled B} → All P m → ((a : A) → P a → All Q (f a)) → All Q (m >>= f)
unfolding ◌>>=◌
then {m = keeps a} h k = k a (h.holds a refl)
then {m = breaks p} h k = broken

pub anything : {A : Type 0} {m : Ruled A} → All (λ a. Unit {0}) m
anything = record { holds = λ a e. tt }

-- two that agree on all that a part gives
pub ext_all : {A B : Type 0} {P : A → Type 0} (m : Ruled A) {f g : A → Ruled B} → All P m → ((a : A) → P a → f a ≡ g a) → m >>= f ≡ m >>= g
unfolding ◌>>=◌
ext_all (keeps a) h k = k a (h.holds a refl)
ext_all (breaks p) h k = refl
