-- An item's words: what its header says, and where the next item stands.
use mathlib.Core.Path.{◌≡◌, refl, sym, ap, ◌∙◌}
use mathlib.Core.Bool.{Bool, true, false}
use mathlib.Core.List.{List, [], ◌∷◌}
use mathlib.Core.Option.{Option, none, some}
use Prim.Native.Nat.{ℕ, ◌+◌, ◌*◌, ◌≤◌, ◌<◌}
use native.Mathlib.Nat.{add-zero}
use native.Mathlib.Omega.{arith}
use lib.ListN.{length, get_or, drop, length-append}
use lib.Seq.{get_or-drop, drop-drop, drop_at}
use lib.Dec.{eqb}
use Rattle.word.specs.Choice.{pick}
use Rattle.language.specs.Tree.{Place, Name, Ty, Param, Item, array, function}
use Rattle.language.specs.Tree as T
use Rattle.language.specs.Rules.{types}
use Rattle.grammar.specs.Flat as G
use Rattle.grammar.proofs.FlatLaws.{params_linear, block_linear}
use Rattle.rules.specs.Tables.{word, type_of, result_of, types_from}
use Rattle.rules.specs.Named.{Stands, NamedParams, NamedBlock, NamedItems}
use Rattle.rules.proofs.Extents.{past_block}
use Rattle.declarations.specs.Post.{Standing, next_of}

pub word_in : (tree : List ℕ) {ws : List ℕ} (p k : ℕ) → drop p tree ≡ ws → word tree (p + k) ≡ word ws k
word_in tree p k e = sym (get_or-drop p tree k 0) ∙ ap (λ (w : List ℕ). get_or w k 0) e

pub word_first : (tree : List ℕ) {ws : List ℕ} (p : ℕ) → drop p tree ≡ ws → word tree p ≡ word ws 0
word_first tree p e = ap (λ (i : ℕ). get_or tree i 0) (sym (add-zero p)) ∙ word_in tree p 0 e

pub drop_in : (tree : List ℕ) {ws : List ℕ} (p k : ℕ) → drop p tree ≡ ws → drop (p + k) tree ≡ drop k ws
drop_in tree p k e = sym (drop-drop k p tree) ∙ ap (drop k) e

params_length : (ps : List Param) → length (G.params_words ps []) ≡ 3 * length ps
unfolding G.params_words
params_length [] = refl
params_length (p ∷ ps) = omega (arith, params_length ps)

pub type_number_lem : (t : Ty) → type_of (G.type_number t) ≡ t
unfolding type_of G.type_number
type_number_lem T.int = refl
type_number_lem T.bool = refl

pub result_number_lem : (r : Option Ty) → result_of (G.result_number r) ≡ r
unfolding result_of type_of G.result_number G.type_number
result_number_lem none = refl
result_number_lem (some T.int) = refl
result_number_lem (some T.bool) = refl

-- An array

pub record Array (text tree : List ℕ) (words p : ℕ) (at : Place) (x : Name) (n : ℕ) (is : List Item) : Type 0 where
  pub kind : word tree p ≡ 0
  pub place : word tree (p + 1) ≡ at
  pub length_is : word tree (p + 2) ≡ length x
  pub size : word tree (p + 3) ≡ n
  pub stands : Stands text at x
  pub rest : Standing text tree words (p + 8) is

pub array_at : {text tree : List ℕ} {words p : ℕ} {at : Place} {x : Name} {n : ℕ} {is : List Item} → Standing text tree words p (array at x n ∷ is) → Array text tree words p at x n is
unfolding G.items_words G.item_words NamedItems
array_at {tree = tree} {p = p} s = record {
  kind = word_first tree p s.is;
  place = word_in tree p 1 s.is;
  length_is = word_in tree p 2 s.is;
  size = word_in tree p 3 s.is;
  stands = s.named.0;
  rest = record { more = s.more; is = drop_in tree p 8 s.is; size = omega (arith, s.size); named = s.named.1 };
}

-- A function

pub record Function (text tree : List ℕ) (words p : ℕ) (at : Place) (x : Name) (ps : List Param) (r : Option Ty) (b : T.Block) (is : List Item) : Type 0 where
  pub more : List ℕ
  pub kind : word tree p ≡ 1
  pub place : word tree (p + 1) ≡ at
  pub length_is : word tree (p + 2) ≡ length x
  pub arity : word tree (p + 3) ≡ length ps
  pub result : word tree (p + 4) ≡ G.result_number r
  pub count : word tree (p + 5) ≡ G.count b
  pub body : word tree (p + 6) ≡ length (G.block_words b [])
  pub stands : Stands text at x
  pub params_named : NamedParams text ps
  pub body_named : NamedBlock text b
  pub params_at : drop (p + 8) tree ≡ G.params_words ps (G.block_words b (G.items_words is more))
  pub body_at : drop (p + 8 + 3 * length ps) tree ≡ G.block_words b (G.items_words is more)
  pub rest : Standing text tree words (p + 8 + 3 * length ps + length (G.block_words b [])) is

module _ (ps : List Param) (b : T.Block) (more : List ℕ) where
  pub past_params : drop (3 * length ps) (G.params_words ps more) ≡ more
  past_params = ap (drop (3 * length ps)) (params_linear ps more) ∙ drop_at (G.params_words ps []) more (3 * length ps) (params_length ps)

  pub all_words : length (G.params_words ps (G.block_words b more)) ≡ 3 * length ps + (length (G.block_words b []) + length more)
  all_words =
      ap length (params_linear ps (G.block_words b more)) ∙ (length-append (G.params_words ps []) (G.block_words b more) ∙
      omega (arith, params_length ps, ap length (block_linear b more) ∙ length-append (G.block_words b []) more))

pub function_at_lem : {text tree : List ℕ} {words p : ℕ} {at : Place} {x : Name} {ps : List Param} {r : Option Ty} {b : T.Block} {is : List Item} → Standing text tree words p (function at x ps r b ∷ is) → Function text tree words p at x ps r b is
unfolding G.items_words G.item_words NamedItems
function_at_lem {tree = tree} {p = p} {ps = ps} {b = b} {is = is} s =
    let after : drop (p + 8) tree ≡ G.params_words ps (G.block_words b (G.items_words is s.more)) = drop_in tree p 8 s.is in
    let body : drop (p + 8 + 3 * length ps) tree ≡ G.block_words b (G.items_words is s.more) = drop_in tree (p + 8) (3 * length ps) after ∙ past_params ps b (G.block_words b (G.items_words is s.more)) in
    record {
      more = s.more;
      kind = word_first tree p s.is;
      place = word_in tree p 1 s.is;
      length_is = word_in tree p 2 s.is;
      arity = word_in tree p 3 s.is;
      result = word_in tree p 4 s.is;
      count = word_in tree p 5 s.is;
      body = word_in tree p 6 s.is;
      stands = s.named.0;
      params_named = s.named.1;
      body_named = s.named.2;
      params_at = after;
      body_at = body;
      rest = record {
        more = s.more;
        is = drop_in tree (p + 8 + 3 * length ps) (length (G.block_words b [])) body ∙ past_block b (length (G.block_words b [])) (G.items_words is s.more) refl;
        size = omega (arith, s.size, all_words ps b (G.items_words is []));
        named = s.named.3;
      };
    }

-- what its header and its parameters say of it, to those who call it
types_at : (tree : List ℕ) (i : ℕ) (ps : List Param) (more : List ℕ) → drop i tree ≡ G.params_words ps more → types_from tree 3 (i + 2) (length ps) ≡ types ps
unfolding types_from G.params_words
types_at tree i [] more e = refl
types_at tree i (p ∷ ps) more e =
    rw (word_in tree i 2 e, type_number_lem p.type) (ap (λ (ts : List Ty). p.type ∷ ts) (ap (λ (k : ℕ). types_from tree 3 k (length ps)) {x = i + 2 + 3} {y = i + 3 + 2} (omega arith) ∙ types_at tree (i + 3) ps more (drop_in tree i 3 e)))

pub params_types : (tree : List ℕ) (p : ℕ) (ps : List Param) (more : List ℕ) → drop (p + 8) tree ≡ G.params_words ps more → types_from tree 3 (p + 10) (length ps) ≡ types ps
params_types tree p ps more e = ap (λ (k : ℕ). types_from tree 3 k (length ps)) {x = p + 10} {y = p + 8 + 2} (omega arith) ∙ types_at tree (p + 8) ps more e

-- The next item

pub standing_next : {text tree : List ℕ} {words p : ℕ} (i : Item) (is : List Item) → Standing text tree words p (i ∷ is) → Standing text tree words (next_of tree p) is
unfolding next_of
standing_next (array at x n) is s = let a = array_at s in rw a.kind a.rest
standing_next (function at x ps r b) is s = let f = function_at_lem s in rw (f.kind, f.arity, f.body) f.rest

pub after_array : (tree : List ℕ) (p : ℕ) {k : Bool} → k ≡ eqb (word tree p) 0 → k ≡ true → p + 8 ≡ next_of tree p
unfolding next_of
after_array tree p e h = rw (← e, h) refl

pub after_function : (tree : List ℕ) (p : ℕ) {k : Bool} {n b : ℕ} → k ≡ eqb (word tree p) 0 → k ≡ false → n ≡ word tree (p + 3) → b ≡ word tree (p + 6) → p + 8 + 3 * n + b ≡ next_of tree p
unfolding next_of
after_function tree p e h en eb = rw (← e, h, en, eb) refl

pub eight_further : (tree : List ℕ) (p : ℕ) → p + 8 ≤ next_of tree p
unfolding next_of
eight_further tree p = go (eqb (word tree p) 0)
  where
    go : (b : Bool) → p + 8 ≤ pick b (p + 8) (p + 8 + 3 * word tree (p + 3) + word tree (p + 6))
    go true = omega arith
    go false = omega arith

pub further : (tree : List ℕ) (p : ℕ) {q : ℕ} → q ≡ next_of tree p → p < q
further tree p e = rw e (omega (arith, eight_further tree p))
