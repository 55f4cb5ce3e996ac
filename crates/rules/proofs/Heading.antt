-- Headers in the tree, and the room that a statement leaves to what follows its header.
use mathlib.Core.Path.{◌≡◌, refl, sym, ap, ◌∙◌}
use mathlib.Core.List.{List, []}
use Prim.Native.Nat.{ℕ, ◌+◌, ◌*◌, ◌≤◌}
use native.Mathlib.Omega.{arith}
use lib.ListN.{length, get_or, drop}
use lib.Seq.{get_or-drop, drop-drop, drop_at}
use Rattle.language.specs.Tree as T
use Rattle.grammar.specs.Flat as G
use Rattle.grammar.proofs.FlatLaws.{expr_linear}
use Rattle.language.specs.Rules.{most_locals}
use Rattle.rules.specs.Bounds.{most_entries}
use Rattle.rules.specs.Post.{Room, HeaderRoom}
use Rattle.rules.specs.Statements.{Heads, BlockRoom, StmtRoom}
use Rattle.rules.proofs.Lengths.{expr_words_lem}

pub first_word : (tree : List ℕ) (p : ℕ) → get_or tree p 0 ≡ get_or (drop p tree) 0 0
first_word tree p = ap (λ (i : ℕ). get_or tree i 0) {x = p} {y = p + 0} (omega arith) ∙ sym (get_or-drop p tree 0 0)

pub heads : (tree : List ℕ) (p : ℕ) {kind at size items more_items statements more_statements rest : ℕ} →
    kind ≡ get_or tree p 0 → at ≡ get_or tree (p + 1) 0 → size ≡ get_or tree (p + 2) 0 → items ≡ get_or tree (p + 3) 0 → more_items ≡ get_or tree (p + 4) 0 → statements ≡ get_or tree (p + 5) 0 → more_statements ≡ get_or tree (p + 6) 0 → rest ≡ get_or tree (p + 7) 0 →
    Heads (drop p tree) kind at size items more_items statements more_statements rest
heads tree p e₀ e₁ e₂ e₃ e₄ e₅ e₆ e₇ = record {
  is_kind = e₀ ∙ first_word tree p;
  is_at = e₁ ∙ sym (get_or-drop p tree 1 0);
  is_size = e₂ ∙ sym (get_or-drop p tree 2 0);
  is_items = e₃ ∙ sym (get_or-drop p tree 3 0);
  is_more_items = e₄ ∙ sym (get_or-drop p tree 4 0);
  is_statements = e₅ ∙ sym (get_or-drop p tree 5 0);
  is_more_statements = e₆ ∙ sym (get_or-drop p tree 6 0);
  is_rest = e₇ ∙ sym (get_or-drop p tree 7 0);
}

-- the header, by another word for its kind
pub kind_by : {ws : List ℕ} {i k at size n m s t rest : ℕ} → i ≡ k → Heads ws k at size n m s t rest → Heads ws i at size n m s t rest
kind_by e h = rw e h

-- what follows an expression
pub past_expr : (e : T.Expr) (n : ℕ) (more : List ℕ) → n ≡ 4 * G.size e → drop n (G.expr_words e more) ≡ more
past_expr e n more h = ap (drop n) (expr_linear e more) ∙ drop_at (G.expr_words e []) more n (omega (arith, expr_words_lem e [], h))

pub further : (tree : List ℕ) {us vs : List ℕ} (p n : ℕ) → drop p tree ≡ us → drop n us ≡ vs → drop (p + n) tree ≡ vs
further tree p n e f = sym (drop-drop n p tree) ∙ (ap (drop n) e ∙ f)

module _ {tree : List ℕ} {locals : List ℕ} {l count : ℕ} {types starts core : List ℕ} {p q rest : ℕ} (s : StmtRoom tree locals l count types starts core p q rest) where
  -- k words on, in rooms that are as long
  pub room_on : {l' : ℕ} {types' starts' core' : List ℕ} (k j i : ℕ) → k ≤ 8 + rest → j ≡ p + k → i ≡ q + k → l' ≤ most_entries → length types' ≡ length types → length starts' ≡ length starts → length core' ≡ length core →
      Room tree l' types' starts' core' j i
  room_on k j i h ej ei m et es ec = record {
    locals = m;
    words = s.all.room.words;
    place = omega (arith, s.all.room.words, s.whole, h, ej);
    for_types = omega (arith, s.all.room.for_types, et);
    for_starts = omega (arith, s.all.room.for_starts, es);
    for_core = omega (arith, s.all.room.for_core, ec, ej, ei);
    core_place = omega (arith, s.all.core_far, s.whole, h, ei);
  }

  pub header_room : HeaderRoom tree l types starts core p q
  header_room = record { after = room_on 8 (p + 8) (q + 8) (omega arith) refl refl s.all.room.locals refl refl refl; header = omega (arith, s.all.room.for_core, s.whole) }

  -- a block k words on, with the locals that are then visible
  pub block_room : {locals' : List ℕ} {count' : ℕ} {types' starts' core' : List ℕ} (k j i : ℕ) → k ≤ 8 + rest → j ≡ p + k → i ≡ q + k → l ≤ count' → count' ≤ most_locals → length locals' ≡ length locals → length types' ≡ length types → length starts' ≡ length starts → length core' ≡ length core →
      BlockRoom tree locals' l count' types' starts' core' j i
  block_room k j i h ej ei a b el et es ec = record {
    room = room_on k j i h ej ei s.all.room.locals et es ec;
    for_locals = omega (arith, s.all.for_locals, el);
    visible = a;
    few = b;
    core_far = omega (arith, s.all.core_far, ej, ei);
  }

  -- the same statement, in rooms that are as long
  pub stmt_on : {types' starts' core' : List ℕ} → length types' ≡ length types → length starts' ≡ length starts → length core' ≡ length core → StmtRoom tree locals l count types' starts' core' p q rest
  stmt_on et es ec = record { all = block_room 0 p q (omega arith) (omega arith) (omega arith) s.all.visible s.all.few refl et es ec; whole = s.whole }
