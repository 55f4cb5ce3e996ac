-- Names and types compared one by one, and entries looked at from the last down.
use mathlib.Core.Path.{◌≡◌, refl, sym, ap, ◌∙◌}
use mathlib.Core.List.{List}
use mathlib.Core.Bool.{Bool, true, false}
use mathlib.Core.Option.{none, some}
use Rattle.std.specs.Prelude.{Some, None}
use Prim.Native.Nat.{ℕ, zero, suc, ◌+◌, ◌-◌, ◌*◌, ◌≤◌, ◌<◌, ◌^◌}
use native.Mathlib.Omega.{arith}
use lib.ListN.{get_or}
use lib.Dec.{eqb}
use borrow.Author.Tests.{eq-eqb, ne_eqb}
use Rattle.word.specs.Choice.{pick, both}
use Rattle.language.specs.Tree.{Name}
use Rattle.language.specs.Rules.{same_ty, local_of, global_of}
use Rattle.language.specs.Tokens.{same}
use Rattle.rules.specs.Tables.{part, type_of, types_from, same_types, local_at, locals_in, global_from, global_at, globals_in}
use Rattle.rules.specs.declared.names.Name as N'
use Rattle.rules.specs.declared.names.Local as N
use Rattle.rules.specs.declared.program.Global as P
use Rattle.rules.specs.declared.program.Program.{Program}
use Rattle.rules.specs.Values.{known, FindsLocal, globals_of, FindsGlobal, FindsBy}

-- Names

pub differ_length : (t : List ℕ) (a b n m : ℕ) → (n ≡ m → ⊥) → false ≡ same (part t a n) (part t b m)
unfolding part same
differ_length t a b zero zero h = absurd (h refl)
differ_length t a b zero (suc m) h = refl
differ_length t a b (suc n) zero h = refl
differ_length t a b (suc n) (suc m) h = go (eqb (get_or t a 0) (get_or t b 0)) (differ_length t (a + 1) (b + 1) n m (λ e. h (ap suc e)))
  where
    go : (c : Bool) {r : Bool} → false ≡ r → false ≡ both c r
    go true e = e
    go false e = refl

pub record Comparing (t : List ℕ) (a b n i : ℕ) : Type 0 where
  pub below : i ≤ n
  pub rest : same (part t a n) (part t b n) ≡ same (part t (a + i) (n - i)) (part t (b + i) (n - i))

pub comparing_start : (t : List ℕ) (a b n : ℕ) → Comparing t a b n 0
comparing_start t a b n = record { below = omega arith; rest = at (a + 0) (b + 0) (n - 0) (omega arith) (omega arith) (omega arith) }
  where
    at : (x y m : ℕ) → x ≡ a → y ≡ b → m ≡ n → same (part t a n) (part t b n) ≡ same (part t x m) (part t y m)
    at x y m p q r = rw (p, q, r)

step_one : (t : List ℕ) (x y m k : ℕ) → m ≡ suc k → same (part t x m) (part t y m) ≡ both (eqb (get_or t x 0) (get_or t y 0)) (same (part t (x + 1) k) (part t (y + 1) k))
unfolding part same
step_one t x y m k e = rw e

module _ {t : List ℕ} {a b n i : ℕ} (c : Comparing t a b n i) (l : i < n) {x y : ℕ} (ex : x ≡ get_or t (a + i) 0) (ey : y ≡ get_or t (b + i) 0) where
  here : same (part t a n) (part t b n) ≡ both (eqb x y) (same (part t (a + i + 1) (n - (i + 1))) (part t (b + i + 1) (n - (i + 1))))
  here = c.rest ∙ (step_one t (a + i) (b + i) (n - i) (n - (i + 1)) (omega arith) ∙ rw (ex, ey))

  pub comparing_next : x ≡ y → Comparing t a b n (i + 1)
  comparing_next e = record { below = omega arith; rest = here ∙ (rw (eq-eqb x y e) (at (a + i + 1) (b + i + 1) (omega arith) (omega arith))) }
    where
      at : (p q : ℕ) → p ≡ a + (i + 1) → q ≡ b + (i + 1) → same (part t p (n - (i + 1))) (part t q (n - (i + 1))) ≡ same (part t (a + (i + 1)) (n - (i + 1))) (part t (b + (i + 1)) (n - (i + 1)))
      at p q u v = rw (u, v)

  pub comparing_no : (x ≡ y → ⊥) → false ≡ same (part t a n) (part t b n)
  comparing_no h = sym (here ∙ rw (ne_eqb x y h))

pub comparing_end : {t : List ℕ} {a b n i : ℕ} → Comparing t a b n i → n ≤ i → true ≡ same (part t a n) (part t b n)
unfolding part same
comparing_end {t} {a} {b} {n} {i} c l = sym (c.rest ∙ at (n - i) (omega arith))
  where
    at : (m : ℕ) → m ≡ 0 → same (part t (a + i) m) (part t (b + i) m) ≡ true
    at m e = rw e

-- the lengths agree
pub no_at : {t : List ℕ} {a b n m i : ℕ} → Comparing t a b n i → i < n → {x y : ℕ} → x ≡ get_or t (a + i) 0 → y ≡ get_or t (b + i) 0 → (x ≡ y → ⊥) → n ≡ m → false ≡ same (part t a n) (part t b m)
no_at {t} {a} {b} {n} {m} {i} c l {x} {y} p q h e = comparing_no c l p q h ∙ ap (λ (j : ℕ). same (part t a n) (part t b j)) e

pub end_at : {t : List ℕ} {a b n m i : ℕ} → Comparing t a b n i → n ≤ i → n ≡ m → true ≡ same (part t a n) (part t b m)
end_at {t} {a} {b} {n} {m} c l e = comparing_end c l ∙ ap (λ (j : ℕ). same (part t a n) (part t b j)) e

-- Entries

pub record Finding (text ws : List ℕ) (count : ℕ) (x : Name) (i : ℕ) : Type 0 where
  pub rest : local_of (locals_in text ws count) x ≡ local_of (locals_in text ws i) x
  pub among : i ≤ count

local_step : (text ws : List ℕ) (i : ℕ) (x : Name) → 0 < i → local_of (locals_in text ws i) x ≡ pick (same (local_at text ws (i - 1)).name x) (some (local_at text ws (i - 1))) (local_of (locals_in text ws (i - 1)) x)
unfolding local_of locals_in
local_step text ws zero x h = absurd (omega arith)
local_step text ws (suc i) x h = ap (λ (j : ℕ). pick (same (local_at text ws j).name x) (some (local_at text ws j)) (local_of (locals_in text ws j) x)) {x = i} {y = suc i - 1} (omega arith)

module _ {text ws : List ℕ} {count i : ℕ} (x : Name) (c : Finding text ws count x i) (h : 0 < i) {a n : ℕ} {r : Bool} (ea : a ≡ get_or ws (4 * (i - 1)) 0) (en : n ≡ get_or ws (4 * (i - 1) + 1) 0) (er : r ≡ same (part text a n) x) where
  local_same : same (local_at text ws (i - 1)).name x ≡ r
  unfolding local_at
  local_same = rw (← ea, ← en, ← er) refl

  local_now : local_of (locals_in text ws count) x ≡ pick r (some (local_at text ws (i - 1))) (local_of (locals_in text ws (i - 1)) x)
  local_now = c.rest ∙ (local_step text ws i x h ∙ rw local_same refl)

  pub local_found : (l : N.Local) → known text l ≡ local_at text ws (i - 1) → r ≡ true → FindsLocal text ws count x (Some l)
  local_found l e f = record { is = local_now ∙ rw (f, ← e) refl }

  pub local_onward : r ≡ false → Finding text ws count x (i - 1)
  local_onward f = record { rest = local_now ∙ rw f refl; among = omega (arith, c.among) }

pub no_local : {text ws : List ℕ} {count i : ℕ} (x : Name) → Finding text ws count x i → i ≤ 0 → FindsLocal text ws count x None
unfolding locals_in local_of
no_local {text} {ws} {count} {i} x c l = record { is = c.rest ∙ at i (omega arith) }
  where
    at : (j : ℕ) → j ≡ 0 → local_of (locals_in text ws j) x ≡ none
    at j e = rw e refl

pub record Seeking (p : Program) (x : Name) (i : ℕ) : Type 0 where
  pub rest : global_of (globals_of p) x ≡ global_of (globals_in p.text.now p.tree.now p.globals.now i) x
  pub among : i ≤ p.count

global_step : (text tree ws : List ℕ) (i : ℕ) (x : Name) → 0 < i →
    global_of (globals_in text tree ws i) x ≡ pick (same (global_at text tree ws (i - 1)).name x) (some (global_at text tree ws (i - 1))) (global_of (globals_in text tree ws (i - 1)) x)
unfolding global_of globals_in
global_step text tree ws zero x h = absurd (omega arith)
global_step text tree ws (suc i) x h = ap (λ (j : ℕ). pick (same (global_at text tree ws j).name x) (some (global_at text tree ws j)) (global_of (globals_in text tree ws j) x)) {x = i} {y = suc i - 1} (omega arith)

global_is : (p : Program) (i : ℕ) {g : P.Global} → g.header ≡ get_or p.globals.now (2 * i) 0 → g.value ≡ get_or p.globals.now (2 * i + 1) 0 → global_from p.text.now p.tree.now g.header g.value ≡ global_at p.text.now p.tree.now p.globals.now i
unfolding global_at
global_is p i eh ev = rw (eh, ev) refl

module _ {p : Program} {i : ℕ} (x : Name) (c : Seeking p x i) (h : 0 < i) {at a n : ℕ} {r : Bool}
    (eh : at ≡ get_or p.globals.now (2 * (i - 1)) 0) (ea : a ≡ get_or p.tree.now (at + 1) 0) (en : n ≡ get_or p.tree.now (at + 2) 0) (er : r ≡ same (part p.text.now a n) x) where
  global_same : same (global_at p.text.now p.tree.now p.globals.now (i - 1)).name x ≡ r
  unfolding global_at
  global_same = rw (← eh, ← ea, ← en, ← er) refl

  global_now : global_of (globals_of p) x ≡ pick r (some (global_at p.text.now p.tree.now p.globals.now (i - 1))) (global_of (globals_in p.text.now p.tree.now p.globals.now (i - 1)) x)
  global_now = c.rest ∙ (global_step p.text.now p.tree.now p.globals.now i x h ∙ rw global_same refl)

  pub global_found : {g : P.Global} → g.header ≡ get_or p.globals.now (2 * (i - 1)) 0 → g.value ≡ get_or p.globals.now (2 * (i - 1) + 1) 0 → r ≡ true → FindsGlobal p x (Some g)
  global_found {g} gh gv f = record { is = global_now ∙ rw (f, ← global_is p (i - 1) {g = g} gh gv) refl }

  pub global_onward : r ≡ false → Seeking p x (i - 1)
  global_onward f = record { rest = global_now ∙ rw f refl; among = omega (arith, c.among) }

pub no_global : {p : Program} {i : ℕ} (x : Name) → Seeking p x i → i ≤ 0 → FindsGlobal p x None
unfolding globals_in global_of
no_global {p} {i} x c l = record { is = c.rest ∙ at i (omega arith) }
  where
    at : (j : ℕ) → j ≡ 0 → global_of (globals_in p.text.now p.tree.now p.globals.now j) x ≡ none
    at j e = rw e refl

-- the same, for every name that a test stands for

abbrev pub SaysSame : (N'.Name → Bool → Type 0) → Program → Name → Type 0
SaysSame says p x = (n : N'.Name) (b : Bool) → n.place < 2 ^ 32 → n.length < 2 ^ 32 → says n b → b ≡ same (part p.text.now n.place n.length) x

pub record SeekingBy (says : N'.Name → Bool → Type 0) (p : Program) (i : ℕ) : Type 0 where
  pub by : (x : Name) → SaysSame says p x → Seeking p x i

pub seeking_starts : (says : N'.Name → Bool → Type 0) (p : Program) → SeekingBy says p p.count
seeking_starts says p = record { by = λ x h. record { rest = refl; among = omega arith } }

pub sought_none : {p : Program} {i : ℕ} (says : N'.Name → Bool → Type 0) → SeekingBy says p i → i ≤ 0 → FindsBy says p None
sought_none says c l = record { by = λ x h. no_global x (c.by x h) l }

module _ {p : Program} {i : ℕ} (says : N'.Name → Bool → Type 0) (c : SeekingBy says p i) (l : 0 < i) {at a n : ℕ} {r : Bool}
    (eh : at ≡ get_or p.globals.now (2 * (i - 1)) 0) (ea : a ≡ get_or p.tree.now (at + 1) 0) (en : n ≡ get_or p.tree.now (at + 2) 0)
    (la : a < 2 ^ 32) (ln : n < 2 ^ 32) (er : says (record { place = a; length = n }) r) where
  pub sought_one : {g : P.Global} → g.header ≡ get_or p.globals.now (2 * (i - 1)) 0 → g.value ≡ get_or p.globals.now (2 * (i - 1) + 1) 0 → r ≡ true → FindsBy says p (Some g)
  sought_one gh gv f = record { by = λ x h. global_found x (c.by x h) l eh ea en (h _ r la ln er) gh gv f }

  pub sought_on : r ≡ false → SeekingBy says p (i - 1)
  sought_on f = record { by = λ x h. global_onward x (c.by x h) l eh ea en (h _ r la ln er) f }

-- Types

pub record Matching (ts : List ℕ) (i : ℕ) (tree : List ℕ) (j n k : ℕ) : Type 0 where
  pub below : k ≤ n
  pub rest : same_types (types_from ts 1 i n) (types_from tree 3 j n) ≡ same_types (types_from ts 1 (i + k) (n - k)) (types_from tree 3 (j + 3 * k) (n - k))

pub matching_start : (ts : List ℕ) (i : ℕ) (tree : List ℕ) (j n : ℕ) → Matching ts i tree j n 0
matching_start ts i tree j n = record { below = omega arith; rest = at (i + 0) (j + 3 * 0) (n - 0) (omega arith) (omega arith) (omega arith) }
  where
    at : (x y m : ℕ) → x ≡ i → y ≡ j → m ≡ n → same_types (types_from ts 1 i n) (types_from tree 3 j n) ≡ same_types (types_from ts 1 x m) (types_from tree 3 y m)
    at x y m p q r = rw (p, q, r)

type_step : (ts : List ℕ) (x : ℕ) (tree : List ℕ) (y m k : ℕ) → m ≡ suc k →
    same_types (types_from ts 1 x m) (types_from tree 3 y m) ≡ both (same_ty (type_of (get_or ts x 0)) (type_of (get_or tree y 0))) (same_types (types_from ts 1 (x + 1) k) (types_from tree 3 (y + 3) k))
unfolding types_from same_types
type_step ts x tree y m k e = rw e

module _ {ts : List ℕ} {i : ℕ} {tree : List ℕ} {j n k : ℕ} (c : Matching ts i tree j n k) (l : k < n) {r : Bool} (er : r ≡ same_ty (type_of (get_or ts (i + k) 0)) (type_of (get_or tree (j + 3 * k) 0))) where
  type_here : same_types (types_from ts 1 i n) (types_from tree 3 j n) ≡ both r (same_types (types_from ts 1 (i + k + 1) (n - (k + 1))) (types_from tree 3 (j + 3 * k + 3) (n - (k + 1))))
  type_here = c.rest ∙ (type_step ts (i + k) tree (j + 3 * k) (n - k) (n - (k + 1)) (omega arith) ∙ rw (← er))

  pub matching_next : r ≡ true → Matching ts i tree j n (k + 1)
  matching_next e = record { below = omega arith; rest = type_here ∙ (rw e (at (i + k + 1) (j + 3 * k + 3) (omega arith) (omega arith))) }
    where
      at : (p q : ℕ) → p ≡ i + (k + 1) → q ≡ j + 3 * (k + 1) →
          same_types (types_from ts 1 p (n - (k + 1))) (types_from tree 3 q (n - (k + 1))) ≡ same_types (types_from ts 1 (i + (k + 1)) (n - (k + 1))) (types_from tree 3 (j + 3 * (k + 1)) (n - (k + 1)))
      at p q u v = rw (u, v)

  pub matching_no : r ≡ false → false ≡ same_types (types_from ts 1 i n) (types_from tree 3 j n)
  matching_no e = sym (type_here ∙ rw e)

pub matching_end : {ts : List ℕ} {i : ℕ} {tree : List ℕ} {j n k : ℕ} → Matching ts i tree j n k → n ≤ k → true ≡ same_types (types_from ts 1 i n) (types_from tree 3 j n)
unfolding types_from same_types
matching_end {ts} {i} {tree} {j} {n} {k} c l = sym (c.rest ∙ at (n - k) (omega arith))
  where
    at : (m : ℕ) → m ≡ 0 → same_types (types_from ts 1 (i + k) m) (types_from tree 3 (j + 3 * k) m) ≡ true
    at m e = rw e
