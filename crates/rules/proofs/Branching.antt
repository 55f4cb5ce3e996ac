-- Both blocks of a statement, one after the other, and what the statement is by them.
use mathlib.Core.Path.{◌≡◌, refl, sym, subst, ◌∙◌}
use mathlib.Core.Bool.{true}
use mathlib.Core.List.{List}
use mathlib.Core.Option.{Option}
use Prim.Native.Nat.{ℕ, ◌+◌, ◌*◌}
use lib.ListN.{drop}
use lib.Seq.{sets}
use Rattle.language.specs.Tree.{Ty}
use Rattle.language.specs.Rules.{Global}
use Rattle.rules.specs.Tables.{locals_in}
use Rattle.std.specs.Prelude.{Result, Ok, Err, ⊤}
use Rattle.rules.specs.declared.Broken.{Broken}
use Rattle.rules.specs.Values.{scope_at}
use Rattle.rules.specs.Statements.{Heads, Moves, Statement, Conditions, Blocks, OtherCase, Branches, nest_words, holds_blocks}
use Rattle.rules.proofs.Nesting as N

abbrev Stopped : Result ℕ Broken → Type 0
Stopped (Ok c) = ⊥
Stopped (Err at) = Unit {0}

module _ {text : List ℕ} {gs : List Global} {locals : List ℕ} {l count : ℕ} {result : Option Ty} {tree : List ℕ} (p q a : ℕ) {n : ℕ} (b m : ℕ) {core : List ℕ} {o : Result ℕ Broken} {locals₁ core₁ : List ℕ}
    (y : Blocks text gs locals l count result n (drop (p + a) tree) (q + a) core o locals₁ core₁) where
  pub both_blocks : {c : ℕ} {r : Result ℕ Broken} {locals₂ core₂ : List ℕ} → o ≡ Ok c → Blocks text gs locals₁ l c result m (drop (p + b) tree) (q + b) core₁ r locals₂ core₂ →
      Branches text gs locals l count result tree p q a n b m core r locals₂ core₂
  both_blocks {c} f z = record { given = Ok c; locals₁ = locals₁; core₁ = core₁; body = subst (λ (u : Result ℕ Broken). Blocks text gs locals l count result n (drop (p + a) tree) (q + a) core u locals₁ core₁) f y; other = z }

  pub first_block : {at : Broken} {core₂ : List ℕ} → o ≡ Err at → Branches text gs locals l count result tree p q a n b m core (Err at) locals₁ core₂
  first_block {at} f = record { given = Err at; locals₁ = locals₁; core₁ = core₁; body = subst (λ (u : Result ℕ Broken). Blocks text gs locals l count result n (drop (p + a) tree) (q + a) core u locals₁ core₁) f y; other = (refl, refl) }

-- The locals

module _ {text : List ℕ} {gs : List Global} {locals : List ℕ} {l count : ℕ} {result : Option Ty} {tree : List ℕ} {p q a n b m : ℕ} {core : List ℕ} {r : Result ℕ Broken} {locals₂ core₂ : List ℕ}
    (y : Branches text gs locals l count result tree p q a n b m core r locals₂ core₂) where
  abbrev First : Result ℕ Broken → Type 0
  First o = Blocks text gs locals l count result n (drop (p + a) tree) (q + a) core o y.locals₁ y.core₁

  abbrev Second : Result ℕ Broken → Type 0
  Second o = OtherCase text gs l result m (drop (p + b) tree) (q + b) o y.locals₁ y.core₁ r locals₂ core₂

  pub stuck_moves : (at : Broken) → Moves l count locals (Err at) locals₂
  stuck_moves at = go y.given y.body y.other
    where
      go : (o : Result ℕ Broken) → First o → Second o → Moves l count locals (Err at) locals₂
      go (Ok c) u w = N.other_moves u w at
      go (Err i) u w = subst (λ (ls : List ℕ). Moves l count locals (Err at) ls) (sym w.1) (N.body_moves u at)

  pub both_move : {d : ℕ} → r ≡ Ok d → Moves l count locals (Ok (scope_at l d)) locals₂
  both_move {d} f = go y.given y.body y.other
    where
      go : (o : Result ℕ Broken) → First o → Second o → Moves l count locals (Ok (scope_at l d)) locals₂
      go (Ok c) u w = N.nest_moves u w refl f
      go (Err i) u w = absurd (subst Stopped (sym w.0 ∙ f) tt)

-- The statement

module _ (text : List ℕ) (gs : List Global) (locals : List ℕ) (l count : ℕ) (result : Option Ty) (tree : List ℕ) (p q : ℕ) (core : List ℕ) {k at size n m s t rest : ℕ} (hd : Heads (drop p tree) k at size n m s t rest) (hb : holds_blocks k ≡ true)
    {rc : Result ⊤ Broken} {core₁ : List ℕ} (x : Conditions text gs (locals_in text locals l) at n (drop (p + 8) tree) (q + 8) core rc core₁) (d : rc ≡ Ok tt) {r : Result ℕ Broken} {locals₂ core₃ : List ℕ}
    (y : Branches text gs locals l count result tree p q (8 + 4 * n) s (8 + 4 * n + size) t core₁ r locals₂ core₃) where
  pub blocks_fault : {b : Broken} {core' : List ℕ} → r ≡ Err b → Statement text gs locals l count result (drop p tree) q core (Err b) locals₂ core'
  blocks_fault {b} {core'} f = go y.given y.body y.other
    where
      go : (o : Result ℕ Broken) → First y o → Second y o → Statement text gs locals l count result (drop p tree) q core (Err b) locals₂ core'
      go (Ok c) u w = N.other_fault text gs locals l count result tree p q core hd hb x d u refl w f
      go (Err i) u w = subst (λ (ls : List ℕ). Statement text gs locals l count result (drop p tree) q core (Err b) ls core') (sym w.1) (N.body_fault text gs locals l count result tree p q core hd hb x d u (sym w.0 ∙ f))

  pub blocks_next : {c : ℕ} {core₄ : List ℕ} → r ≡ Ok c → core₄ ≡ sets core₃ q (nest_words k size n s t rest) → Statement text gs locals l count result (drop p tree) q core (Ok (scope_at l c)) locals₂ core₄
  blocks_next {c} {core₄} f h = go y.given y.body y.other
    where
      go : (o : Result ℕ Broken) → First y o → Second y o → Statement text gs locals l count result (drop p tree) q core (Ok (scope_at l c)) locals₂ core₄
      go (Ok e) u w = N.nest_next text gs locals l count result tree p q core hd hb x d u refl w f h
      go (Err i) u w = absurd (subst Stopped (sym w.0 ∙ f) tt)
