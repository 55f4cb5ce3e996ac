-- Laws of actions: sequences regroup, two that agree everywhere may stand for each other, and a charge is paid one node at a time.
use mathlib.Core.Path.{◌≡◌, refl, sym, ◌∙◌}
use mathlib.Core.List.{List}
use Prim.Native.Nat.{ℕ, suc}
use Rattle.language.specs.Meaning.{World, Result, goes, stops, Act, bind, begin}
use Rattle.flat.specs.Items.{begins}

pub bind_assoc : {A B C : Type 0} (r : Result A) (f : A → Act B) (g : B → Act C) → bind (bind r f) g ≡ bind r (λ a ls w. bind (f a ls w) g)
unfolding bind
bind_assoc (goes a ls w) f g = refl
bind_assoc (stops o w) f g = refl

pub bind_ext : {A B : Type 0} (r : Result A) {f g : A → Act B} → ((a : A) (ls : List ℕ) (w : World) → f a ls w ≡ g a ls w) → bind r f ≡ bind r g
unfolding bind
bind_ext (goes a ls w) h = h a ls w
bind_ext (stops o w) h = refl

pub bind_goes : {A : Type 0} (r : Result A) → bind r (λ v ls w. goes v ls w) ≡ r
unfolding bind
bind_goes (goes v ls w) = refl
bind_goes (stops o w) = refl

-- one more node begins
pub begins_more : {A B : Type 0} (k : ℕ) (m : Act A) (K : A → Act B) (ls : List ℕ) (w : World) →
    bind (begins (suc k) ls w) (λ _ ls' w'. bind (m ls' w') K) ≡ bind (begins k ls w) (λ _ ls' w'. bind (bind (begin ls' w') (λ _. m)) K)
unfolding begins
begins_more k m K ls w =
    bind_assoc (begins k ls w) (λ _. begin) (λ _ ls' w'. bind (m ls' w') K) ∙
    bind_ext (begins k ls w) (λ _ ls' w'. sym (bind_assoc (begin ls' w') (λ _. m) K))
