-- What a scan gives is what elaboration gives.
use mathlib.Core.Path.{◌≡◌, refl, sym, ap, subst, ◌∙◌}
use mathlib.Core.List.{List}
use Prim.Native.Nat.{ℕ, ◌<◌, ◌^◌}
use native.Mathlib.Omega.{arith}
use lib.ListN.{get_or}
use lib.Seq.{sets}
use Rattle.language.specs.Tree.{Place, Ty}
use Rattle.language.specs.Tree as T
use Rattle.language.specs.Rules.{Ruled, keeps, breaks, ◌>>=◌, Global, Local, expr}
use Rattle.grammar.specs.Flat as G
use Rattle.rules.specs.Named.{NamedExpr}
use Rattle.rules.specs.Scan.{Operand, no_operand, Scanned, scan}
use Rattle.std.specs.Prelude.{Result, Ok, Err}
use Rattle.grammar.specs.declared.tree.ValueType.{ValueType}
use Rattle.rules.specs.declared.operands.Operand as O
use Rattle.rules.specs.declared.Broken.{Broken}
use Rattle.rules.specs.Post.{operands_in, Tops, nothing_scanned, Wrote, ScanCase, Scans, TypedAs, Elaborates}
use Rattle.rules.proofs.Expressions.{after, scan_expr}

-- what was given, and what it was made of
abbrev Kept : {A : Type 0} → Ruled A → Type 0
Kept (keeps a) = Unit {0}
Kept (breaks p) = ⊥

abbrev held_or : {A : Type 0} → A → Ruled A → A
held_or d (keeps a) = a
held_or d (breaks p) = d

pub keeps_same : {A : Type 0} {a b : A} → keeps a ≡ keeps b → a ≡ b
keeps_same {A} {a} e = ap (held_or a) e

pub record Held {A B : Type 0} (m : Ruled A) (f : A → B) (b : B) : Type 0 where
  pub value : A
  pub is : m ≡ keeps value
  pub gives : f value ≡ b

pub held : {A B : Type 0} (m : Ruled A) (f : A → B) (b : B) → m >>= (λ a. keeps (f a)) ≡ keeps b → Held m f b
unfolding ◌>>=◌
held (keeps a) f b e = record { value = a; is = refl; gives = keeps_same e }
held (breaks p) f b e = absurd (subst Kept (sym e) tt)

pub unheld : {A B : Type 0} (m : Ruled A) (f : A → B) (at : Place) → m >>= (λ a. keeps (f a)) ≡ breaks at → m ≡ breaks at
unfolding ◌>>=◌
unheld (keeps a) f at e = absurd (subst Kept e tt)
unheld (breaks p) f at e = ap again e
  where
    again : {A B : Type 0} → Ruled B → Ruled A
    again (keeps b) = breaks 0
    again (breaks p) = breaks p

module _ (text : List ℕ) (gs : List Global) (ls : List Local) where
  whole : (e : T.Expr) (n : ℕ) (more : List ℕ) → n ≡ G.size e → n < 2 ^ 32 → NamedExpr text e → scan text gs ls n (G.expr_words e more) nothing_scanned ≡ expr gs ls e >>= λ t. keeps (after t nothing_scanned)
  unfolding scan
  whole e n more q l h = scan_expr text gs ls e n 0 more nothing_scanned h (q ∙ omega arith) (omega (arith, q, l))

  done : {n : ℕ} {ws : List ℕ} {q : ℕ} {core : List ℕ} {h : ℕ} {o : O.Operand ValueType} {ts ss core' : List ℕ} (e : T.Expr) (more : List ℕ) → Wrote text gs ls n ws q core h ts ss core' → Tops ts ss h 0 o → n < 2 ^ 32 →
      ws ≡ G.expr_words e more → n ≡ G.size e → NamedExpr text e → TypedAs (expr gs ls e) q core o.ty core'
  unfolding after
  done {n} {ws} {q} {core} {h} {o} {ts} {ss} {core'} e more w t l ew en nm = go (held (expr gs ls e) (λ u. after u nothing_scanned) _ (sym (whole e n more en l nm) ∙ (ap (λ (us : List ℕ). scan text gs ls n us nothing_scanned) (sym ew) ∙ w.is)))
    where
      go : Held (expr gs ls e) (λ u. after u nothing_scanned) (record { operands = operands_in ts ss h; words = w.words }) → TypedAs (expr gs ls e) q core o.ty core'
      go k = record {
        value = k.value;
        is = k.is;
        type = ap (λ (s : Scanned). (get_or s.operands 0 no_operand).type) k.gives ∙ ap (λ (o : Operand). o.type) t.is;
        there = w.there ∙ ap (λ (s : Scanned). sets core q s.words) (sym k.gives);
      }

  pub given_type : {n : ℕ} {ws : List ℕ} {q : ℕ} {core : List ℕ} {r : Result ℕ Broken} {h : ℕ} {o : O.Operand ValueType} {ts ss core' : List ℕ} → Scans text gs ls n ws q core r ts ss core' → r ≡ Ok h → Tops ts ss h 0 o → n < 2 ^ 32 →
      Elaborates text gs ls n ws q core (Ok o.ty) core'
  given_type {n} {ws} {q} {core} {ts = ts} {ss} {core'} w d t l = record { by = λ e more ew en nm. done e more (subst (λ (o : Result ℕ Broken). ScanCase text gs ls n ws q core o ts ss core') d w.by) t l ew en nm }

  pub given_fault : {n : ℕ} {ws : List ℕ} {q : ℕ} {core core' : List ℕ} {r : Result ℕ Broken} {ts ss : List ℕ} {at : Broken} → Scans text gs ls n ws q core r ts ss core' → r ≡ Err at → n < 2 ^ 32 → Elaborates text gs ls n ws q core (Err at) core'
  given_fault {n} {ws} {q} {core} {core'} {ts = ts} {ss} {at} w d l =
      record { by = λ e more ew en nm. unheld (expr gs ls e) (λ u. after u nothing_scanned) at.0 (sym (whole e n more en l nm) ∙ (ap (λ (us : List ℕ). scan text gs ls n us nothing_scanned) (sym ew) ∙ subst (λ (o : Result ℕ Broken). ScanCase text gs ls n ws q core o ts ss core') d w.by)) }
