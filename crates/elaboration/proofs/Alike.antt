-- Runs from frames that agree where they are written: relations of results and of actions, and their laws for each action of document 01 §5.
use Prim.Native.Nat.{ℕ, zero, suc}
use mathlib.Core.Bool.{Bool, true, false}
use mathlib.Core.List.{List, [], ◌∷◌}
use mathlib.Core.Logic.{◌≢◌}
use mathlib.Core.Path.{◌≡◌, refl, sym, ◌∙◌}
use native.Mathlib.Omega.{arith}
use lib.Dec.{ltb, eqb}
use lib.ListN.{length, get_or, set, length-set}
use Rattle.word.specs.Choice.{pick}
use Rattle.language.specs.Tree.{Strict}
use Rattle.language.specs.Tree as T
use Rattle.language.specs.Tokens.{In}
use Rattle.language.specs.Core.{Array}
use Rattle.language.specs.Meaning.{World, Stop, Result, goes, stops, Act, bind, ◌>>=◌, ◌>>◌, value, trap, begin, begin_on, branch, operate, read, write, append, fetch, assign, Flow, next, returned, followed, rounds}

-- Frames that agree on the slots that are written.
pub record Agree (written ls ls' : List ℕ) : Type 0 where
  pub as_long : length ls ≡ length ls'
  pub same : (x : ℕ) → In x written → get_or ls x 0 ≡ get_or ls' x 0

-- Results that are alike: they stop alike in the same world, or go on with the same value, of which P holds, in the same world, and their frames agree.
pub data Alike {A : Type 0} (P : A → Type 0) (written : List ℕ) : Result A → Result A → Type 0 where
  go : {a : A} {ls ls' : List ℕ} {w : World} → P a → Agree written ls ls' → Alike P written (goes a ls w) (goes a ls' w)
  stop : {o : Stop} {w : World} → Alike P written (stops o w) (stops o w)

-- Actions that are alike: from frames that agree on some slots they come to frames that agree on others.
pub record Like {A : Type 0} (P : A → Type 0) (before later : List ℕ) (m m' : Act A) : Type 0 where
  pub from : (ls ls' : List ℕ) (w : World) → Agree before ls ls' → Alike P later (m ls w) (m' ls' w)

abbrev pub Any : {A : Type 0} → A → Type 0
Any a = Unit {0}

-- Agreement on fewer slots.
fewer : {u v ls ls' : List ℕ} → ((x : ℕ) → In x v → In x u) → Agree u ls ls' → Agree v ls ls'
fewer k h = record { as_long = h.as_long; same = λ x i. h.same x (k x i) }

fewer_alike : {A : Type 0} {P : A → Type 0} {u v : List ℕ} {r r' : Result A} → ((x : ℕ) → In x v → In x u) → Alike P u r r' → Alike P v r r'
fewer_alike k (Alike.go p h) = Alike.go p (fewer k h)
fewer_alike k Alike.stop = Alike.stop

pub fewer_later : {A : Type 0} {P : A → Type 0} {t u v : List ℕ} {m m' : Act A} → ((x : ℕ) → In x v → In x u) → Like P t u m m' → Like P t v m m'
fewer_later k h = record { from = λ ls ls' w g. fewer_alike k (h.from ls ls' w g) }

-- One action, and then what goes on with what it gives.
bind_alike : {A B : Type 0} {P : A → Type 0} {Q : B → Type 0} {u v : List ℕ} {r r' : Result A} {f f' : A → Act B} → Alike P u r r' →
    ((a : A) → P a → Like Q u v (f a) (f' a)) → Alike Q v (bind r f) (bind r' f')
unfolding bind
bind_alike (Alike.go {a} {ls} {ls'} {w} p h) k = (k a p).from ls ls' w h
bind_alike Alike.stop k = Alike.stop

pub then : {A B : Type 0} {P : A → Type 0} {Q : B → Type 0} {t u v : List ℕ} {m m' : Act A} {f f' : A → Act B} → Like P t u m m' →
    ((a : A) → P a → Like Q u v (f a) (f' a)) → Like Q t v (m >>= f) (m' >>= f')
then h k = record { from = λ ls ls' w g. bind_alike (h.from ls ls' w g) k }

-- Actions that do not look at the frame.
module _ {A : Type 0} {P : A → Type 0} {u : List ℕ} where
  pub given : {a : A} → P a → Like P u u (value a) (value a)
  given p = record { from = λ ls ls' w h. Alike.go p h }

  trapped : {n : ℕ} → Like P u u (trap n) (trap n)
  trapped = record { from = λ ls ls' w h. Alike.stop }

-- A choice of two that are alike.
module _ {X : Type 0} (R : X → X → Type 0) where
  picked : (b : Bool) {m m' n n' : X} → R m m' → R n n' → R (pick b m n) (pick b m' n')
  picked true h k = h
  picked false h k = k

  pub branched : (x : ℕ) {m m' n n' : X} → R m m' → R n n' → R (branch x m n) (branch x m' n')
  branched zero h k = k
  branched (suc x) h k = h

-- A put of the same value: frames agree on the slot that is put, and where they did.
put_same : (ls ls' : List ℕ) (x v y : ℕ) → length ls ≡ length ls' → (y ≢ x → get_or ls y 0 ≡ get_or ls' y 0) → get_or (set ls x v) y 0 ≡ get_or (set ls' x v) y 0
put_same [] [] x v y e h = refl
put_same [] (b ∷ ls') x v y e h = absurd (omega arith)
put_same (a ∷ ls) [] x v y e h = absurd (omega arith)
put_same (a ∷ ls) (b ∷ ls') zero v zero e h = refl
put_same (a ∷ ls) (b ∷ ls') zero v (suc y) e h = h (omega arith)
put_same (a ∷ ls) (b ∷ ls') (suc x) v zero e h = h (omega arith)
put_same (a ∷ ls) (b ∷ ls') (suc x) v (suc y) e h = put_same ls ls' x v y (omega arith) (λ n. h (omega arith))

put_agree : {u ls ls' : List ℕ} (x v : ℕ) → Agree u ls ls' → Agree (x ∷ u) (set ls x v) (set ls' x v)
put_agree {u} {ls} {ls'} x v h = record { as_long = length-set ls x v ∙ (h.as_long ∙ sym (length-set ls' x v)); same = λ y i. put_same ls ls' x v y h.as_long (other i) }
  where
    other : {y : ℕ} → In y (x ∷ u) → y ≢ x → get_or ls y 0 ≡ get_or ls' y 0
    other (In.here e) n = absurd (n e)
    other {y} (In.there i) n = h.same y i

module _ {u : List ℕ} where
  begin_alike : Like Any u u begin begin
  unfolding begin
  begin_alike = record { from = λ ls ls' w h. on w.fuel w h }
    where
      on : (n : ℕ) {ls ls' : List ℕ} (w : World) → Agree u ls ls' → Alike Any u (begin_on n ls w) (begin_on n ls' w)
      on zero w h = Alike.stop
      on (suc n) w h = Alike.go tt h

  -- a node or a statement begins, and then goes on
  pub begun : {A : Type 0} {P : A → Type 0} {v : List ℕ} {m m' : Act A} → Like P u v m m' → Like P u v (begin >> m) (begin >> m')
  begun h = then begin_alike λ _ _. h

  pub operate_alike : (o : Strict) (a b : ℕ) → Like Any u u (operate o a b) (operate o a b)
  unfolding operate
  operate_alike T.add a b = given tt
  operate_alike T.sub a b = given tt
  operate_alike T.mul a b = given tt
  operate_alike T.div a b = picked (Like Any u u) (eqb b 0) trapped (given tt)
  operate_alike T.rem a b = picked (Like Any u u) (eqb b 0) trapped (given tt)
  operate_alike T.eq a b = given tt
  operate_alike T.ne a b = given tt
  operate_alike T.lt a b = given tt
  operate_alike T.le a b = given tt
  operate_alike T.gt a b = given tt
  operate_alike T.ge a b = given tt

  pub read_alike : (a : Array) (i : ℕ) → Like Any u u (read a i) (read a i)
  unfolding read
  read_alike a i = picked (Like Any u u) (ltb i a.size) (record { from = λ ls ls' w h. Alike.go tt h }) trapped

  pub write_alike : (a : Array) (i v : ℕ) → Like Any u u (write a i v) (write a i v)
  unfolding write
  write_alike a i v = picked (Like Any u u) (ltb i a.size) (record { from = λ ls ls' w h. Alike.go tt h }) trapped

  pub append_alike : (room v : ℕ) → Like Any u u (append room v) (append room v)
  unfolding append
  append_alike room v = record { from = λ ls ls' w h. picked (Alike Any u) (ltb (length w.log) room) (Alike.go tt h) Alike.stop }

  pub fetch_alike : (x : ℕ) → In x u → Like Any u u (fetch x) (fetch x)
  unfolding fetch
  fetch_alike x i = record { from = λ ls ls' w h. rw (h.same x i) (Alike.go tt h) }

  -- the slot that is put is written then
  pub assign_alike : (x v : ℕ) → Like Any u (x ∷ u) (assign x v) (assign x v)
  unfolding assign
  assign_alike x v = record { from = λ ls ls' w h. Alike.go tt (put_agree x v h) }

  pub followed_alike : (f : Flow) {m m' : Act Flow} → Like Any u u m m' → Like Any u u (followed f m) (followed f m')
  followed_alike next h = h
  followed_alike (returned v) h = given tt

  pub rounds_alike : (n : ℕ) {test test' : Act ℕ} {body body' : Act Flow} → Like Any u u test test' → Like Any u u body body' →
      Like Any u u (rounds n test body) (rounds n test' body')
  unfolding rounds
  rounds_alike zero h k = record { from = λ ls ls' w g. Alike.stop }
  rounds_alike (suc n) h k = then h λ v _. branched (Like Any u u) v (then k λ f _. followed_alike f (rounds_alike n h k)) (given tt)
