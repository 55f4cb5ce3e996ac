-- A walk over a block's statements in the tree's words: what is left of it, and the statement that stands next.
use mathlib.Core.Path.{◌≡◌, ap, ◌∙◌}
use mathlib.Core.List.{List, []}
use Prim.Native.Nat.{ℕ, ◌+◌, ◌≤◌, ◌<◌}
use native.Mathlib.Omega.{arith}
use lib.ListN.{length, drop, length-drop, length-append}
use Rattle.language.specs.Tree as T
use Rattle.grammar.specs.Flat as G
use Rattle.grammar.proofs.FlatLaws.{stmt_linear}
use Rattle.rules.specs.Tables.{word}
use Rattle.rules.proofs.Heading.{further}
use Rattle.rules.proofs.Extents.{stmt_extent, past_stmt}

-- i of n statements are passed: what is left stands at `at`, and P holds of it
pub record Left (tree : List ℕ) (n : ℕ) (more : List ℕ) (i at : ℕ) (P : T.Block → Type 0) : Type 0 where
  pub rest : T.Block
  pub words : drop at tree ≡ G.block_words rest more
  pub many : n ≡ i + G.count rest
  pub holds : P rest

pub record Next (tree : List ℕ) (n : ℕ) (more : List ℕ) (i at : ℕ) (P : T.Block → Type 0) : Type 0 where
  pub first : T.Stmt
  pub rest : T.Block
  pub words : drop at tree ≡ G.stmt_words first (G.block_words rest more)
  pub many : n ≡ i + 1 + G.count rest
  pub holds : P (T.then first rest)

module _ {tree : List ℕ} {n : ℕ} {more : List ℕ} {i at : ℕ} {P : T.Block → Type 0} where
  pub next : i < n → Left tree n more i at P → Next tree n more i at P
  unfolding G.stmt_words G.count
  next h a = go a.rest a.words a.many a.holds
    where
      go : (r : T.Block) → drop at tree ≡ G.block_words r more → n ≡ i + G.count r → P r → Next tree n more i at P
      go T.end ew en x = absurd (omega (arith, en, h))
      go (T.then s r) ew en x = record { first = s; rest = r; words = ew; many = en ∙ omega arith; holds = x }

  pub ended : n ≤ i → Left tree n more i at P → P T.end
  unfolding G.count
  ended h a = go a.rest (omega (arith, a.many, h)) a.holds
    where
      go : (r : T.Block) → G.count r ≡ 0 → P r → P T.end
      go T.end e x = x
      go (T.then s r) e x = absurd (omega (arith, e))

  -- its words are all there
  pub there : Next tree n more i at P → at + 8 + word (drop at tree) 7 ≤ length tree
  there a = omega (
    arith,
    ap length a.words,
    length-drop at tree,
    ap length (stmt_linear a.first (G.block_words a.rest more)),
    length-append (G.stmt_words a.first []) (G.block_words a.rest more),
    stmt_extent a.first (G.block_words a.rest more),
    ap (λ (w : List ℕ). word w 7) a.words,
  )

  -- so many words follow its header
  pub following : (a : Next tree n more i at P) {rest : ℕ} → rest ≡ word (drop at tree) 7 → length (G.stmt_words a.first []) ≡ 8 + rest
  following a e = omega (arith, stmt_extent a.first (G.block_words a.rest more), e, ap (λ (w : List ℕ). word w 7) a.words)

  pub onward : {Q : T.Block → Type 0} (a : Next tree n more i at P) (rest : ℕ) → rest ≡ word (drop at tree) 7 → Q a.rest → Left tree n more (i + 1) (at + (8 + rest)) Q
  onward a rest e x = record {
    rest = a.rest;
    words = further tree at (8 + rest) a.words (past_stmt a.first (8 + rest) (G.block_words a.rest more) (omega (arith, e, ap (λ (w : List ℕ). word w 7) a.words)));
    many = a.many;
    holds = x;
  }
