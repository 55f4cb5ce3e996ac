-- What statements and calls change in the log, and what the words say of a function.
use mathlib.Core.Path.{◌≡◌, refl, sym, ap, ◌∙◌}
use mathlib.Core.List.{List, [], ◌∷◌}
use Prim.Native.Nat.{ℕ, zero, suc, ◌+◌, ◌-◌, ◌≤◌, ◌<◌}
use native.Mathlib.Numerals.{add-one}
use native.Mathlib.Omega.{arith}
use lib.ListN.{length, take, drop, set}
use lib.Seq.{take-suc-set, length-take-le, get_or-drop, drop-drop}
use borrow.Author.Tests.{lt-ltb, le-ltb}
use Rattle.language.specs.Meaning.{bind, append}
use Rattle.flat.specs.Words.{word, entry, function_of, block_of, sequence_of}
use Rattle.std.specs.Prelude.{Ok, Err}
use Rattle.flat.specs.declared.trap.Trap.TheVariants.{LogFull}
use Rattle.interpreter.specs.declared.Stop.TheVariants.{Trapped}
use Rattle.interpreter.specs.Post.{world, Grows, Emits, Heads}

take_long : (m c : ℕ) (ws : List ℕ) → m ≤ c → m ≤ length ws → m ≤ length (take c ws)
take_long zero c ws h g = omega arith
take_long (suc m) zero ws h g = absurd (omega arith)
take_long (suc m) (suc c) [] h g = absurd (omega arith)
take_long (suc m) (suc c) (x ∷ ws) h g = omega (arith, take_long m c ws (omega arith) (omega arith))

-- the log

pub grows_same : (room n : ℕ) (log : List ℕ) → Grows room n log n log
grows_same room n log = record { more = omega arith; above = refl; within = λ l. l }

drop_more : (n m : ℕ) (us vs : List ℕ) → n ≤ m → drop n us ≡ drop n vs → drop m us ≡ drop m vs
drop_more n m us vs l e =
    let q : n + (m - n) ≡ m = omega arith in
    ap (λ (j : ℕ). drop j us) (sym q) ∙ (sym (drop-drop (m - n) n us) ∙ (ap (drop (m - n)) e ∙ (drop-drop (m - n) n vs ∙ ap (λ (j : ℕ). drop j vs) q)))

pub grows_on : {room n₁ n₂ n₃ : ℕ} {l₁ l₂ l₃ : List ℕ} → Grows room n₁ l₁ n₂ l₂ → Grows room n₂ l₂ n₃ l₃ → Grows room n₁ l₁ n₃ l₃
grows_on {room} {n₁} {n₂} {n₃} {l₁} {l₂} {l₃} x y =
    record { more = omega (arith, x.more, y.more); above = y.above ∙ drop_more n₂ n₃ l₂ l₁ y.more x.above; within = λ l. y.within (x.within l) }

pub grows_from : {room n n' m : ℕ} {log log' : List ℕ} → n' ≡ n → Grows room n' log m log' → Grows room n log m log'
grows_from e g = rw (← e) g

pub emitted : {A : Type 0} (a : A) (fuel n room v : ℕ) (log arrays : List ℕ) → n < room → room ≤ length log → Emits room v (world fuel n log arrays) (Ok a) (world fuel (n + 1) (set log n v) arrays)
unfolding append bind
emitted a fuel n room v log arrays l h =
    record { same = λ ls. rw (length-take-le n log (omega arith), lt-ltb n room l, add-one n, take-suc-set log n v (omega arith)) }

pub no_room : {A : Type 0} (fuel n room v : ℕ) (log arrays : List ℕ) → room ≤ n → room ≤ length log → Emits {A = A} room v (world fuel n log arrays) (Err (Trapped LogFull)) (world fuel n log arrays)
unfolding append bind
no_room fuel n room v log arrays l h = record { same = λ ls. rw (le-ltb (length (take n log)) room (take_long room n log l h)) }

-- a function's words

pub head_there : (t : List ℕ) (f e : ℕ) {m place statements lets : ℕ} → m ≡ word (drop 0 t) 0 → f < m → e ≡ entry f →
    place ≡ word (drop e t) 0 → statements ≡ word (drop e t) 1 → lets ≡ word (drop e t) 3 → Heads t f place statements lets
unfolding function_of
head_there t f e {m} {place} {statements} {lets} em l ee ep es el =
    let p : place ≡ word t (entry f) = ep ∙ (get_or-drop e t 0 0 ∙ ap (word t) {x = e + 0} {y = entry f} (omega arith)) in
    let s : statements ≡ word t (entry f + 1) = es ∙ (get_or-drop e t 1 0 ∙ ap (word t) {x = e + 1} {y = entry f + 1} (omega arith)) in
    let n : lets ≡ word t (entry f + 3) = el ∙ (get_or-drop e t 3 0 ∙ ap (word t) {x = e + 3} {y = entry f + 3} (omega arith)) in
    record { body = rw (← em, lt-ltb f m l, p, s); locals = rw (← em, lt-ltb f m l, n) }

pub head_none : (t : List ℕ) (f : ℕ) {m : ℕ} → m ≡ word (drop 0 t) 0 → m ≤ f → Heads t f 0 0 0
unfolding function_of block_of sequence_of
head_none t f {m} em l = record { body = rw (← em, le-ltb f m l); locals = rw (← em, le-ltb f m l) }
