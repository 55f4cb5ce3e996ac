-- Whether a block ends in return: the last statement that was passed says it, where none is left.
use mathlib.Core.Path.{◌≡◌, refl, sym, ap, ◌∙◌}
use mathlib.Core.Bool.{Bool, true, false}
use mathlib.Core.List.{List, []}
use mathlib.Core.Option.{none}
use Prim.Native.Nat.{ℕ, ◌+◌, ◌*◌, ◌≤◌, ◌<◌}
use native.Mathlib.Omega.{arith}
use lib.Dec.{eqb}
use lib.ListN.{length, drop}
use lib.Seq.{get_or-drop}
use borrow.Author.Tests.{ne_eqb}
use Rattle.word.specs.Choice.{pick, both}
use Rattle.language.specs.Tree as T
use Rattle.language.specs.Tree.{Ty}
use Rattle.language.specs.Rules.{is_return, ends_in_return}
use Rattle.grammar.specs.Flat as G
use Rattle.rules.specs.Bounds.{most_places, most_words}
use Rattle.rules.specs.Tables.{word}
use Rattle.rules.specs.Statements.{Heads, Returns, Ends, holds_blocks}
use Rattle.rules.proofs.Walking.{Left, Next, next, ended, there, onward}
use Rattle.rules.proofs.Sorts.{kind_few}
use Rattle.rules.proofs.Nesting.{Located, located, too_few}

-- Statements, by their kind

unfoldable return_of : ℕ → Bool → Bool
return_of k b = pick (eqb k 4) true (pick (eqb k 5) true (pick (eqb k 2) b false))

abbrev blocks_end : T.Stmt → Bool
blocks_end (T.declare p x t e) = false
blocks_end (T.assign p x e) = false
blocks_end (T.store p x i e) = false
blocks_end (T.when p e a) = false
blocks_end (T.choose p e a b) = both (ends_in_return a) (ends_in_return b)
blocks_end (T.while p e a) = false
blocks_end (T.leave p) = false
blocks_end (T.give p e) = false
blocks_end (T.emit p e) = false
blocks_end (T.run p x xs) = false

return_of_lem : (s : T.Stmt) (more : List ℕ) → is_return s ≡ return_of (word (G.stmt_words s more) 0) (blocks_end s)
unfolding is_return return_of G.stmt_words G.declare_kind
return_of_lem (T.declare p x Ty.int e) more = refl
return_of_lem (T.declare p x Ty.bool e) more = refl
return_of_lem (T.assign p x e) more = refl
return_of_lem (T.store p x i e) more = refl
return_of_lem (T.when p e a) more = refl
return_of_lem (T.choose p e a b) more = refl
return_of_lem (T.while p e a) more = refl
return_of_lem (T.leave p) more = refl
return_of_lem (T.give p e) more = refl
return_of_lem (T.emit p e) more = refl
return_of_lem (T.run p x xs) more = refl

-- what is no statement is no return
pub never_one : {ws : List ℕ} {r : Bool} → 10 < word ws 0 → Returns ws r
never_one e = record { by = λ st more ew. absurd (omega (arith, e, kind_few st more, ap (λ (w : List ℕ). word w 0) ew)) }

module _ (tree : List ℕ) (p : ℕ) {k at size n m s t rest : ℕ} (hd : Heads (drop p tree) k at size n m s t rest) where
  by_kind : (st : T.Stmt) (more : List ℕ) → drop p tree ≡ G.stmt_words st more → is_return st ≡ return_of k (blocks_end st)
  by_kind st more ew = return_of_lem st more ∙ ap (λ (i : ℕ). return_of i (blocks_end st)) (sym (hd.is_kind ∙ ap (λ (w : List ℕ). word w 0) ew))

  of_leave : (b : Bool) → k ≡ 4 → true ≡ return_of k b
  unfolding return_of
  of_leave b e = rw e refl

  of_give : (b : Bool) → k ≡ 5 → true ≡ return_of k b
  unfolding return_of
  of_give b e = rw e refl

  of_other : (b : Bool) → (k ≡ 4 → ⊥) → (k ≡ 5 → ⊥) → (k ≡ 2 → ⊥) → false ≡ return_of k b
  unfolding return_of
  of_other b d e f = rw (ne_eqb k 4 d, ne_eqb k 5 e, ne_eqb k 2 f) refl

  pub leaves_so : k ≡ 4 → Returns (drop p tree) true
  leaves_so e = record { by = λ st more ew. of_leave (blocks_end st) e ∙ sym (by_kind st more ew) }

  pub gives_so : k ≡ 5 → Returns (drop p tree) true
  gives_so e = record { by = λ st more ew. of_give (blocks_end st) e ∙ sym (by_kind st more ew) }

  pub never : (k ≡ 4 → ⊥) → (k ≡ 5 → ⊥) → (k ≡ 2 → ⊥) → Returns (drop p tree) false
  never d e f = record { by = λ st more ew. of_other (blocks_end st) d e f ∙ sym (by_kind st more ew) }

  module _ (e : k ≡ 2) where
    holds : holds_blocks k ≡ true
    unfolding holds_blocks
    holds = rw e refl

    abbrev Place : T.Stmt → List ℕ → Type 0
    Place st more = Located [] [] [] 0 0 none tree p 0 [] hd holds st more

    place : (st : T.Stmt) (more : List ℕ) → drop p tree ≡ G.stmt_words st more → Place st more
    place st more ew = located [] [] [] 0 0 none tree p 0 [] hd holds st more ew

    pub choice_short : {b : Bool} → 8 + rest < 8 + 4 * n + size → Returns (drop p tree) b
    choice_short h = record { by = λ st more ew. absurd (too_few [] [] [] 0 0 none tree p 0 [] hd holds st more (place st more ew) h) }

    is_choice : (st : T.Stmt) (more : List ℕ) (a : Place st more) → is_return st ≡ both (ends_in_return a.form.body) (ends_in_return a.form.other)
    is_choice st more a = a.form.returns (ap (λ (i : ℕ). eqb i 2) (sym a.is_kind ∙ e))

    module _ {r : Bool} (x : Ends s (drop (p + (8 + 4 * n)) tree) r) where
      body_ends : (st : T.Stmt) (more : List ℕ) (a : Place st more) → r ≡ ends_in_return a.form.body
      body_ends st more a = x.by a.form.body _ a.body_words a.is_body

      pub choice_no : r ≡ false → Returns (drop p tree) false
      choice_no f = record { by = λ st more ew. go st more (place st more ew) }
        where
          go : (st : T.Stmt) (more : List ℕ) → Place st more → false ≡ is_return st
          go st more a = sym (is_choice st more a ∙ ap (λ (b : Bool). both b (ends_in_return a.form.other)) (sym (body_ends st more a) ∙ f))

      pub choice_both : {b : Bool} → r ≡ true → Ends t (drop (p + (8 + 4 * n + size)) tree) b → Returns (drop p tree) b
      choice_both {b} f y = record { by = λ st more ew. go st more (place st more ew) }
        where
          go : (st : T.Stmt) (more : List ℕ) → Place st more → b ≡ is_return st
          go st more a = y.by a.form.other _ a.other_words a.is_other ∙ sym (is_choice st more a ∙ ap (λ (b : Bool). both b (ends_in_return a.form.other)) (sym (body_ends st more a) ∙ f))

-- Blocks

pub word_there : (tree : List ℕ) (at i : ℕ) → word (drop at tree) i ≡ word tree (at + i)
word_there tree at i = get_or-drop at tree i 0

unfoldable pub ends_from : Bool → T.Block → Bool
ends_from r T.end = r
ends_from r (T.then s b) = ends_in_return (T.then s b)

pub record EndsAs (b : T.Block) (ends : Bool) (rest : T.Block) : Type 0 where
  pub same : ends_in_return b ≡ ends_from ends rest

pub record Ending (tree : List ℕ) (p n i at : ℕ) (ends : Bool) : Type 0 where
  pub left : (b : T.Block) (more : List ℕ) → drop p tree ≡ G.block_words b more → n ≡ G.count b → Left tree n more i at (EndsAs b ends)
  pub far : p ≤ at
  pub near : at ≤ most_places

pub ending_starts : (tree : List ℕ) (p n : ℕ) → p ≤ most_places → Ending tree p n 0 p false
unfolding is_return ends_from
ending_starts tree p n h = record { left = λ b more ew en. record { rest = b; words = ew; many = en ∙ omega arith; holds = record { same = whole b } }; far = omega arith; near = h }
  where
    whole : (b : T.Block) → ends_in_return b ≡ ends_from false b
    whole T.end = refl
    whole (T.then s b) = refl

module _ {tree : List ℕ} {p n i at : ℕ} {ends : Bool} (c : Ending tree p n i at ends) where
  pub ending_done : n ≤ i → Ends n (drop p tree) ends
  unfolding ends_from
  ending_done h = record { by = λ b more ew en. sym (ended h (c.left b more ew en)).same }

  module _ (h : i < n) where
    stands : (b : T.Block) (more : List ℕ) → drop p tree ≡ G.block_words b more → n ≡ G.count b → Next tree n more i at (EndsAs b ends)
    stands b more ew en = next h (c.left b more ew en)

    pub ending_short : {r : Bool} → length tree < at + 8 → Ends n (drop p tree) r
    ending_short e = record { by = λ b more ew en. absurd (omega (arith, e, there (stands b more ew en))) }

    pub ending_odd : {r : Bool} → 10 < word (drop at tree) 0 → Ends n (drop p tree) r
    ending_odd e = record { by = λ b more ew en. let a = stands b more ew en in absurd (omega (arith, e, kind_few a.first (G.block_words a.rest more), ap (λ (w : List ℕ). word w 0) a.words)) }

    module _ {rest : ℕ} (er : rest ≡ word tree (at + 7)) where
      pub ending_cut : {r : Bool} → length tree < at + (8 + rest) → Ends n (drop p tree) r
      ending_cut e = record { by = λ b more ew en. absurd (omega (arith, e, er, word_there tree at 7, there (stands b more ew en))) }

      then_ends : (s : T.Stmt) (b : T.Block) (r : Bool) → r ≡ is_return s → ends_from ends (T.then s b) ≡ ends_from r b
      unfolding is_return ends_from
      then_ends s T.end r e = sym e
      then_ends s (T.then t b) r e = refl

      pub ending_again : {r : Bool} → Returns (drop at tree) r → length tree ≤ most_words → at + (8 + rest) ≤ length tree → Ending tree p n (i + 1) (at + (8 + rest)) r
      ending_again {r} x e f = record { left = λ b more ew en. on b more (stands b more ew en); far = omega (arith, c.far); near = omega (arith, e, f) }
        where
          on : (b : T.Block) (more : List ℕ) → Next tree n more i at (EndsAs b ends) → Left tree n more (i + 1) (at + (8 + rest)) (EndsAs b r)
          on b more a = onward a rest (er ∙ sym (word_there tree at 7)) (record { same = a.holds.same ∙ then_ends a.first a.rest r (x.by a.first (G.block_words a.rest more) a.words) })
