-- What an item does to the operands in an activation's room.
use mathlib.Core.Path.{◌≡◌, refl, sym, ap, ◌∙◌}
use mathlib.Core.List.{List, ◌∷◌}
use Prim.Native.Nat.{ℕ, zero, suc, ◌+◌, ◌-◌, ◌≤◌, ◌<◌}
use native.Mathlib.Numerals.{add-one}
use native.Mathlib.Omega.{arith}
use lib.ListN.{length, get_or, take, drop, set}
use lib.Seq.{get_or-set_same, get_or-set_other, take-set-le}
use borrow.Author.Tests.{lt-ltb, le-ltb}
use Rattle.std.specs.Prelude.{Ok, Err, IfOk, IsErrAnd}
use Rattle.std.specs.Prelude as P
use Rattle.language.specs.Core.{Array}
use Rattle.language.specs.Meaning.{World, Act, bind, read, fetch}
use Rattle.flat.specs.Items.{Kind, number, local, element, and, or, join, unknown, top, Onward, push, most_operands, step}
use Rattle.flat.specs.Words.{unaries, stricts}
use Rattle.flat.specs.declared.trap.Trap.TheVariants.{Malformed, IndexOutside}
use Rattle.interpreter.specs.declared.Stop.{Stop}
use Rattle.interpreter.specs.declared.Stop.TheVariants.{Trapped}
use Rattle.interpreter.specs.declared.items.Move.{Move}
use Rattle.interpreter.specs.Post.{operands_at, Strictly, Unarily, Frame, onwards, Pushes, Moves}

-- Operands

pub top_none : (work : List ℕ) (c h : ℕ) → h ≡ 0 → 0 ≡ top (operands_at work c h)
unfolding operands_at
top_none work c h e = rw e

pub top_some : (work : List ℕ) (c h : ℕ) {r : ℕ} → (h ≡ 0 → ⊥) → r ≡ get_or work (c + (h - 1)) 0 → r ≡ top (operands_at work c h)
unfolding operands_at
top_some work c zero h e = absurd (h refl)
top_some work c (suc n) h e = e ∙ ap (λ (j : ℕ). get_or work j 0) {x = c + (suc n - 1)} {y = c + n} (omega arith)

pub drop_operands : (work : List ℕ) (c h m : ℕ) → drop m (operands_at work c h) ≡ operands_at work c (h - m)
unfolding operands_at
drop_operands work c h zero = ap (operands_at work c) {x = h} {y = h - 0} (omega arith)
drop_operands work c zero (suc m) = ap (operands_at work c) {x = 0} {y = 0 - suc m} (omega arith)
drop_operands work c (suc h) (suc m) = drop_operands work c h m ∙ ap (operands_at work c) {x = h - m} {y = suc h - suc m} (omega arith)

pub length_operands : (work : List ℕ) (c h : ℕ) → length (operands_at work c h) ≡ h
unfolding operands_at
length_operands work c zero = refl
length_operands work c (suc h) = ap suc (length_operands work c h)

-- two rooms that agree below c + h have the same h operands
pub operands_same : (work us : List ℕ) (c h : ℕ) → ((i : ℕ) → i < c + h → get_or us i 0 ≡ get_or work i 0) → operands_at us c h ≡ operands_at work c h
unfolding operands_at
operands_same work us c zero e = refl
operands_same work us c (suc h) e = rw (e (c + h) (omega arith), operands_same work us c h (λ i l. e i (omega arith)))

operands_push : (work : List ℕ) (c h v : ℕ) → c + h < length work → operands_at (set work (c + h) v) c (h + 1) ≡ v ∷ operands_at work c h
unfolding operands_at
operands_push work c h v l =
    rw (add-one h, get_or-set_same work (c + h) v 0 l, operands_same work (set work (c + h) v) c h (λ i k. get_or-set_other work (c + h) i v 0 (λ (e : i ≡ c + h). omega arith)))

-- A push

pub push_there : {work : List ℕ} {c h : ℕ} (v : ℕ) → Frame c h work → h < most_operands → Pushes work c h v (Ok (h + 1)) (set work (c + h) v)
unfolding push
push_there {work} {c} {h} v f l =
    record {
      same = λ k ls w. rw (length_operands work c h, lt-ltb h most_operands l, operands_push work c h v (omega (arith, f)));
      locals = take-set-le c work (c + h) v (omega arith);
      fits = omega arith;
    }

pub push_full : {work : List ℕ} {c h : ℕ} (v : ℕ) → Frame c h work → most_operands ≤ h → Pushes work c h v (Err (Trapped Malformed)) work
unfolding push
push_full {work} {c} {h} v f l = record { same = λ k ls w. rw (length_operands work c h, le-ltb h most_operands l); locals = refl; fits = tt }

-- Moves

-- what `?` hands on
pub refused : {A : Type 0} (r : P.Result A Stop) {s : Stop} → IsErrAnd r (λ e. e ≡ s) → r ≡ Err s
refused (Ok v) h = absurd h
refused (Err e) h = ap Err h

-- a push, and then n items are skipped
abbrev pub moved : ℕ → P.Result ℕ Stop → P.Result Move Stop
moved n (Ok h) = Ok (record { skip = n; h = h })
moved n (Err s) = Err s

pub moved_on : (n : ℕ) (o : P.Result ℕ Stop) (k : Onward) (c : ℕ) (work' : List ℕ) {ls ls' : List ℕ} (w : World) → ls' ≡ ls →
    onwards o w (λ h'. k n (operands_at work' c h') ls w) ≡ onwards (moved n o) w (λ m. k m.skip (operands_at work' c m.h) ls' w)
moved_on n (Ok h') k c work' w e = ap (λ (us : List ℕ). k n (operands_at work' c h') us w) (sym e)
moved_on n (Err s) k c work' w e = refl

pub moved_fits : (n : ℕ) (o : P.Result ℕ Stop) → IfOk o (λ h'. h' ≤ most_operands) → IfOk (moved n o) (λ m. m.h ≤ most_operands)
moved_fits n (Ok h') l = l
moved_fits n (Err s) l = tt

module _ {work arrays : List ℕ} {c h : ℕ} (f : Frame c h work) where
  pub move_err : {i : Kind} {s : Stop} {work' : List ℕ} (r : P.Result Move Stop) → IsErrAnd r (λ e. e ≡ s) → Moves work c h arrays i (Err s) work' → Moves work c h arrays i r work'
  move_err r g m = rw (refused r g) m

  -- a value comes, and is pushed on what is left after m operands; n items are skipped
  gone : (m n v h₁ : ℕ) {i : Kind} {o : P.Result ℕ Stop} {work' : List ℕ} → h₁ ≡ h - m → Pushes work c h₁ v o work' →
      ((invoke : ℕ → List ℕ → Act ℕ) (k : Onward) (fuel : ℕ) (log : List ℕ) →
      step invoke i (operands_at work c h) k (take c work) (record { fuel = fuel; log = log; arrays = arrays }) ≡
      push (drop m (operands_at work c h)) (λ _. k n) v (take c work) (record { fuel = fuel; log = log; arrays = arrays })) →
      Moves work c h arrays i (moved n o) work'
  gone m n v h₁ {i} {o} {work'} d p s =
      record {
        same = λ invoke k fuel log. s invoke k fuel log ∙ (rw (drop_operands work c h m, ← d) (p.same (λ _. k n) (take c work) (record { fuel = fuel; log = log; arrays = arrays }) ∙
            moved_on n o k c work' (record { fuel = fuel; log = log; arrays = arrays }) p.locals));
        fits = moved_fits n o p.fits;
      }

  pub move_number : (v : ℕ) {o : P.Result ℕ Stop} {work' : List ℕ} → Pushes work c h v o work' → Moves work c h arrays (number v) (moved 0 o) work'
  unfolding step push
  move_number v p = gone 0 0 v h (omega arith) p (λ invoke k fuel log. refl)

  pub move_local : (a : ℕ) {v : ℕ} {o : P.Result Move Stop} {work' : List ℕ} → v ≡ get_or (take c work) a 0 → Moves work c h arrays (number v) o work' → Moves work c h arrays (local a) o work'
  unfolding step fetch bind
  move_local a g m = record { same = λ invoke k fuel log. rw (← g) (m.same invoke k fuel log); fits = m.fits }

  pub move_element : (a : Array) (m : ℕ) {i v : ℕ} {o : P.Result ℕ Stop} {work' : List ℕ} → i ≡ top (operands_at work c h) → i < a.size → v ≡ get_or arrays (a.offset + i) 0 → m ≡ h - 1 →
      Pushes work c m v o work' → Moves work c h arrays (element a) (moved 0 o) work'
  unfolding step read bind push
  move_element a m {i} {v} e l g d p = gone 1 0 v m d p (λ invoke k fuel log. rw (← e, lt-ltb i a.size l, g))

  pub element_outside : (a : Array) {i : ℕ} → i ≡ top (operands_at work c h) → a.size ≤ i → Moves work c h arrays (element a) (Err (Trapped IndexOutside)) work
  unfolding step read bind
  element_outside a {i} e l = record { same = λ invoke k fuel log. rw (← e, le-ltb i a.size l); fits = tt }

  pub move_unary : (m : ℕ) {op a v : ℕ} {o : P.Result ℕ Stop} {work' : List ℕ} → a ≡ top (operands_at work c h) → Unarily op a (Ok v) → m ≡ h - 1 →
      Pushes work c m v o work' → Moves work c h arrays (get_or unaries op unknown) (moved 0 o) work'
  unfolding bind push
  move_unary m {v = v} e u d p = gone 1 0 v m d p (λ invoke k fuel log. u.same invoke (operands_at work c h) k _ _ e)

  pub unary_stops : {op a : ℕ} {s : Stop} → a ≡ top (operands_at work c h) → Unarily op a (Err s) → Moves work c h arrays (get_or unaries op unknown) (Err s) work
  unfolding bind
  unary_stops e u = record { same = λ invoke k fuel log. u.same invoke (operands_at work c h) k _ _ e; fits = tt }

  pub move_strict : (m m₁ : ℕ) {op a b v : ℕ} {o : P.Result ℕ Stop} {work' : List ℕ} → b ≡ top (operands_at work c h) → m₁ ≡ h - 1 → a ≡ top (operands_at work c m₁) → Strictly op a b (Ok v) → m ≡ h - 2 →
      Pushes work c m v o work' → Moves work c h arrays (get_or stricts op unknown) (moved 0 o) work'
  unfolding bind push
  move_strict m m₁ {v = v} e d₁ e₁ u d p =
      gone 2 0 v m d p (λ invoke k fuel log. u.same invoke (operands_at work c h) k _ _ (rw (drop_operands work c h 1, ← d₁) e₁) e)

  pub strict_stops : (m₁ : ℕ) {op a b : ℕ} {s : Stop} → b ≡ top (operands_at work c h) → m₁ ≡ h - 1 → a ≡ top (operands_at work c m₁) → Strictly op a b (Err s) → Moves work c h arrays (get_or stricts op unknown) (Err s) work
  unfolding bind
  strict_stops m₁ e d₁ e₁ u = record { same = λ invoke k fuel log. u.same invoke (operands_at work c h) k _ _ (rw (drop_operands work c h 1, ← d₁) e₁) e; fits = tt }

  -- the left side decides
  pub and_decided : (n m : ℕ) {v : ℕ} {o : P.Result ℕ Stop} {work' : List ℕ} → v ≡ top (operands_at work c h) → v ≡ 0 → m ≡ h - 1 → Pushes work c m 0 o work' → Moves work c h arrays (and n) (moved n o) work'
  unfolding step
  and_decided n m e z d p = gone 1 n 0 m d p (λ invoke k fuel log. rw (← e, z))

  pub or_decided : (n m : ℕ) {v : ℕ} {o : P.Result ℕ Stop} {work' : List ℕ} → v ≡ top (operands_at work c h) → (v ≡ 0 → ⊥) → m ≡ h - 1 → Pushes work c m 1 o work' → Moves work c h arrays (or n) (moved n o) work'
  unfolding step
  or_decided n m {v = zero} e z d p = absurd (z refl)
  or_decided n m {v = suc v} e z d p = gone 1 n 1 m d p (λ invoke k fuel log. rw (← e))

  pub and_open : (n m : ℕ) {v : ℕ} → v ≡ top (operands_at work c h) → (v ≡ 0 → ⊥) → m ≡ h - 1 → Moves work c h arrays (and n) (Ok (record { skip = 0; h = m })) work
  unfolding step
  and_open n m {v = zero} e z d = absurd (z refl)
  and_open n m {v = suc v} e z d = record { same = λ invoke k fuel log. rw (← e, drop_operands work c h 1, d); fits = omega (arith, f) }

  pub or_open : (n m : ℕ) {v : ℕ} → v ≡ top (operands_at work c h) → v ≡ 0 → m ≡ h - 1 → Moves work c h arrays (or n) (Ok (record { skip = 0; h = m })) work
  unfolding step
  or_open n m e z d = record { same = λ invoke k fuel log. rw (← e, z, drop_operands work c h 1, d); fits = omega (arith, f) }

  pub move_join : Moves work c h arrays join (Ok (record { skip = 0; h = h })) work
  unfolding step
  move_join = record { same = λ invoke k fuel log. refl; fits = f.operands }

  pub move_unknown : Moves work c h arrays unknown (Err (Trapped Malformed)) work
  unfolding step
  move_unknown = record { same = λ invoke q fuel log. refl; fits = tt }
