-- A scan backwards finds where an expression starts: between its start and the scan lie as many things as are still needed.
use Prim.Native.Nat.{ℕ, zero, suc, ◌+◌, ◌-◌, ◌≤◌, ◌<◌}
use native.Mathlib.Omega.{arith}
use mathlib.Core.Path.{◌≡◌, refl, sym, ap, ◌∙◌, subst}
use mathlib.Core.List.{List}
use Rattle.language.specs.Core.{Expr, Args}
use Rattle.flat.specs.Words.{word}
use Rattle.codegen.specs.Owed.{count}
use Rattle.compiler.specs.Lies.{Ends, second, Lies, LieAll}
use Rattle.compiler.specs.Lies as L
use Rattle.compiler.specs.Post.{operands_of, Starts}
use Rattle.compiler.proofs.Views.{ends}

-- by the table, once the kind is known
pub operands_are : (k b : ℕ) {x w : ℕ} → x ≡ w → x ≡ k → operands_of k b ≡ operands_of w b
operands_are k b e f = ap (λ (y : ℕ). operands_of y b) (sym f ∙ e)

-- the kinds that take operands
abbrev pub NoOperands : ℕ → Type 0
NoOperands k = ((((((Unit {0} × (k ≡ 2 → ⊥)) × (k ≡ 3 → ⊥)) × (k ≡ 4 → ⊥)) × (k ≡ 5 → ⊥)) × (k ≡ 6 → ⊥)) × (k ≡ 7 → ⊥)) × (k ≡ 8 → ⊥)

without : (k b : ℕ) → NoOperands k → 0 ≡ operands_of k b
unfolding operands_of
without zero b r = refl
without (suc zero) b r = refl
without (suc (suc zero)) b r = absurd (r.0.0.0.0.0.0.1 refl)
without (suc (suc (suc zero))) b r = absurd (r.0.0.0.0.0.1 refl)
without (suc (suc (suc (suc zero)))) b r = absurd (r.0.0.0.0.1 refl)
without (suc (suc (suc (suc (suc zero))))) b r = absurd (r.0.0.0.1 refl)
without (suc (suc (suc (suc (suc (suc zero)))))) b r = absurd (r.0.0.1 refl)
without (suc (suc (suc (suc (suc (suc (suc zero))))))) b r = absurd (r.0.1 refl)
without (suc (suc (suc (suc (suc (suc (suc (suc zero)))))))) b r = absurd (r.1 refl)
without (suc (suc (suc (suc (suc (suc (suc (suc (suc n))))))))) b r = refl

pub no_operands : (b : ℕ) {x w : ℕ} → x ≡ w → NoOperands x → 0 ≡ operands_of w b
no_operands b {x} e r = without x b r ∙ ap (λ (y : ℕ). operands_of y b) e

-- what a scan may come upon: an expression, or a left side with the item behind it
pub data Part (ws : List ℕ) (i j : ℕ) : Type 0 where
  whole : {e : Expr} → Lies ws e i j → Part ws i j
  side : {e : Expr} → Lies ws e i (j - 4) → Ends ws j 6 → Part ws i j
  other : {e : Expr} → Lies ws e i (j - 4) → Ends ws j 7 → Part ws i j

-- n of these
pub data Parts (ws : List ℕ) : ℕ → ℕ → ℕ → Type 0 where
  nothing : {i j : ℕ} → i ≡ j → Parts ws zero i j
  and : {n i m j : ℕ} → Parts ws n i m → Part ws m j → Parts ws (suc n) i j

module _ {ws : List ℕ} where
  counted : {n m i j : ℕ} → Parts ws n i j → n ≡ m → Parts ws m i j
  counted {n} {m} {i} {j} ps e = subst (λ (k : ℕ). Parts ws k i j) e ps

  until : {n i j k : ℕ} → Parts ws n i j → j ≡ k → Parts ws n i k
  until {n} {i} ps e = subst (λ (k : ℕ). Parts ws n i k) e ps

  all : {xs : Args} {n i m j : ℕ} → Parts ws n i m → LieAll ws xs m j → Parts ws (n + count xs) i j
  all ps (L.none e) = counted (until ps e) (omega arith)
  all ps (L.more l ls) = counted (all (and ps (whole l)) ls) (omega arith)

  past : {n i m j : ℕ} → Parts ws n i m → Part ws m j → Parts ws (n + operands_of (word ws (j - 4)) (second ws j)) i (j - 4)
  unfolding operands_of
  past ps (whole (L.number k p q)) = rw k.kind (counted (until ps q) (omega arith))
  past ps (whole (L.local k p q)) = rw k.kind (counted (until ps q) (omega arith))
  past ps (whole (L.element k p q l)) = rw k.kind (counted (and ps (whole l)) (omega arith))
  past ps (whole (L.call k p q l)) = rw (k.kind, q) (all ps l)
  past ps (whole (L.unary k p l)) = rw k.kind (counted (and ps (whole l)) (omega arith))
  past ps (whole (L.strict k p l r)) = rw k.kind (counted (and (and ps (whole l)) (whole r)) (omega arith))
  past ps (whole (L.and k l p r)) = rw k.kind (counted (and (and ps (side l p)) (whole r)) (omega arith))
  past ps (whole (L.or k l p r)) = rw k.kind (counted (and (and ps (other l p)) (whole r)) (omega arith))
  past ps (side l k) = rw k.kind (counted (and ps (whole l)) (omega arith))
  past ps (other l k) = rw k.kind (counted (and ps (whole l)) (omega arith))

  before : {i j : ℕ} → Part ws i j → 4 ≤ j
  before (whole l) = ends l
  before (side l k) = k.enough
  before (other l k) = k.enough

  onward : (need : ℕ) {i p r : ℕ} → 0 < need → r ≡ operands_of (word ws (p - 4)) (second ws p) → Parts ws need i p → Parts ws (need - 1 + r) i (p - 4)
  onward zero h e ps = absurd (omega arith)
  onward (suc n) {i} {p} {r} h e (and ps x) = counted (past ps x) (omega (arith, e))

  finished : (need : ℕ) {i p : ℕ} → need ≤ 0 → Parts ws need i p → p ≡ i
  finished zero h (nothing e) = sym e
  finished (suc n) h ps = absurd (omega arith)

  broken : (need : ℕ) {i p r : ℕ} → 0 < need → p < 4 → Parts ws need i p → r ≡ i
  broken zero h q ps = absurd (omega arith)
  broken (suc n) h q (and ps x) = absurd (omega (arith, before x))

-- the scan has come to p, and so many things are needed
pub record Scanning (ws : List ℕ) (j need p : ℕ) : Type 0 where
  pub each : (e : Expr) (i : ℕ) → Lies ws e i j → Parts ws need i p

module _ {ws : List ℕ} {j : ℕ} where
  pub scanning_start : {r : ℕ} → r ≡ operands_of (word ws (j - 4)) (second ws j) → Scanning ws j r (j - 4)
  scanning_start h = record { each = λ (e : Expr) (i : ℕ) (l : Lies ws e i j). counted (past (nothing {i = i} refl) (whole l)) (omega (arith, h)) }

  pub scanning_none : j < 4 → Starts ws j 0
  scanning_none h = record { each = λ (e : Expr) (i : ℕ) (l : Lies ws e i j). absurd (omega (arith, ends l)) }

  pub scanning_next : {need p r : ℕ} → Scanning ws j need p → 0 < need → r ≡ operands_of (word ws (p - 4)) (second ws p) → Scanning ws j (need - 1 + r) (p - 4)
  scanning_next {need} s h e = record { each = λ (x : Expr) (i : ℕ) (l : Lies ws x i j). onward need h e (s.each x i l) }

  pub scanning_end : {need p : ℕ} → Scanning ws j need p → need ≤ 0 → Starts ws j p
  scanning_end {need} s h = record { each = λ (x : Expr) (i : ℕ) (l : Lies ws x i j). finished need h (s.each x i l) }

  pub scanning_broken : {need p : ℕ} → Scanning ws j need p → 0 < need → p < 4 → Starts ws j 0
  scanning_broken {need} s h q = record { each = λ (x : Expr) (i : ℕ) (l : Lies ws x i j). broken need h q (s.each x i l) }
