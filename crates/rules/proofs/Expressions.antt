-- One scan forward over the flat tree of an expression is its elaboration, and writes the flat core of what that gives.
use mathlib.Core.Path.{◌≡◌, refl, sym, ap, ◌∙◌}
use mathlib.Core.Bool.{Bool, true, false}
use mathlib.Core.List.{List, [], ◌∷◌, ◌++◌, append_assoc, append-nil}
use mathlib.Core.Option.{Option, none, some}
use Prim.Native.Nat.{ℕ, suc, ◌+◌, ◌-◌, ◌<◌, ◌≤◌, ◌^◌}
use native.Mathlib.Omega.{arith}
use lib.ListN.{length, get_or, drop}
use borrow.Author.Tests.{le-leb, ne_eqb}
use Rattle.word.specs.Choice.{both}
use Rattle.language.specs.Tree.{Place, Name, Ty, int, bool, Unary, Strict, eq, ne, lt, le, gt, ge, add, sub, mul, div, rem, Binary}
use Rattle.language.specs.Tree as T
use Rattle.language.specs.Core.{Array}
use Rattle.language.specs.Core as C
use Rattle.language.specs.Rules.{Ruled, keeps, ◌>>=◌, need, found, Global, Local, Signature, Thing, an_array, a_function, Typed, same_ty, global_of, local_of, is_array, is_function, and_then, array_of, function_of, want, changed, joined, combined, indexed, fit, called, known, expr, exprs, truth_of}
use Rattle.grammar.specs.Flat as G
use Rattle.flat.specs.Items as I
use Rattle.flat.specs.Items.{Item, item, code, codes}
use Rattle.flat.specs.Words.{items_words, kind_words}
use Rattle.flat.specs.Words as F
use Rattle.rules.specs.Tables.{same_types}
use Rattle.rules.specs.Named.{Stands, NamedExpr, NamedArgs}
use Rattle.rules.specs.Scan.{Operand, Node, Scanned, no_operand, upper, uppermost, sole, leaf, name_node, element_node, unary_node, strict_node, mark_node, join_node, first_start, call_node, called_node, node_of, charged, added, scan}
use Rattle.rules.proofs.Kept.{assoc, ext, ext_all}
use Rattle.rules.proofs.Sizes.{args_of, types_of, sized, sized_all}
use Rattle.rules.proofs.Coding.{items_append, code_append, charged_here, charged_codes, grown}

-- an expression scanned: one operand more, and its items
unfoldable pub after : Typed → Scanned → Scanned
after t s = record { operands = record { type = t.type; start = length s.words } ∷ s.operands; words = s.words ++ items_words (code t.expr 0 []) [] }

-- Kinds of items, whatever follows

-- the arguments fit where their types are those of the parameters
turned : (t u : Ty) → same_ty t u ≡ same_ty u t
turned int int = refl
turned int bool = refl
turned bool int = refl
turned bool bool = refl

pub fit_is : (globals : List Global) (p : Place) (us : List Typed) (ts : List Ty) → fit globals p us ts ≡ found (sole (same_types (types_of us) ts) (args_of us)) p
unfolding fit found sole same_types types_of args_of want need ◌>>=◌
fit_is globals p [] [] = refl
fit_is globals p [] (t ∷ ts) = refl
fit_is globals p (u ∷ us) [] = refl
fit_is globals p (u ∷ us) (t ∷ ts) = rw (fit_is globals p us ts, turned t u.type) (go (same_ty u.type t) (same_types (types_of us) ts))
  where
    go : (b c : Bool) → ((need b p >>= λ _. keeps u.expr) >>= λ v. found (sole c (args_of us)) p >>= λ vs. keeps (C.more v vs)) ≡ found (sole (both b c) (C.more u.expr (args_of us))) p
    go true true = refl
    go true false = refl
    go false true = refl
    go false false = refl

module _ {B : Type 0} (p : Place) (K : Node → Ruled B) (H : Typed → Ruled B) where
  name_case : (globals : List Global) (locals : List Local) (x : Name) (here : ℕ) →
      ((l : Local) → K (leaf l.type here 1 l.slot) ≡ H (record { type = l.type; expr = C.local l.slot })) →
      found (and_then (local_of locals x) (λ l. some (leaf l.type here 1 l.slot))) p >>= K ≡ known globals locals p x >>= H
  unfolding known found ◌>>=◌
  name_case globals locals x here h = go (local_of locals x)
    where
      go : (o : Option Local) → found (and_then o (λ l. some (leaf l.type here 1 l.slot))) p >>= K ≡ (found o p >>= λ l. keeps (record { type = l.type; expr = C.local l.slot })) >>= H
      go none = refl
      go (some l) = h l

  abbrev element_node_here : ℕ → Array → Node
  element_node_here start a = record { takes = 1; type = int; start = start; begins = 1; kind = 2; a = a.offset; b = a.size }

  element_case : (globals : List Global) (x : Name) (t : Typed) (start : ℕ) →
      ((a : Array) → K (element_node_here start a) ≡ H (record { type = int; expr = C.element a t.expr })) →
      found (and_then (global_of globals x) (λ g. and_then (is_array g.thing) (λ r. sole (same_ty int t.type) (element_node_here start r)))) p >>= K ≡ indexed globals p x t >>= H
  unfolding indexed want need array_of found sole ◌>>=◌
  element_case globals x t start h = go (global_of globals x) (same_ty int t.type)
    where
      thing : (o : Thing) (b : Bool) → found (and_then (is_array o) (λ r. sole b (element_node_here start r))) p >>= K ≡
          ((need b p >>= λ _. keeps t.expr) >>= λ k. found (is_array o) p >>= λ a. keeps (record { type = int; expr = C.element a k })) >>= H
      thing (an_array a) true = h a
      thing (an_array a) false = refl
      thing (a_function s) true = refl
      thing (a_function s) false = refl

      go : (o : Option Global) (b : Bool) → found (and_then o (λ g. and_then (is_array g.thing) (λ r. sole b (element_node_here start r)))) p >>= K ≡
          ((need b p >>= λ _. keeps t.expr) >>= λ k. found (and_then o (λ g. is_array g.thing)) p >>= λ a. keeps (record { type = int; expr = C.element a k })) >>= H
      go none true = refl
      go none false = refl
      go (some g) b = thing g.thing b

  one_case : (ty : Ty) (f : C.Expr → C.Expr) (t : Typed) (n : Node) → K n ≡ H (record { type = ty; expr = f t.expr }) →
      found (sole (same_ty ty t.type) n) p >>= K ≡ (want ty p t >>= λ x. keeps (record { type = ty; expr = f x })) >>= H
  unfolding want need found sole ◌>>=◌
  one_case ty f t n h = go (same_ty ty t.type)
    where
      go : (b : Bool) → found (sole b n) p >>= K ≡ ((need b p >>= λ _. keeps t.expr) >>= λ x. keeps (record { type = ty; expr = f x })) >>= H
      go true = h
      go false = refl

  two_case : (ty u : Ty) (f : C.Expr → C.Expr → C.Expr) (x y : Typed) (n : Node) → K n ≡ H (record { type = u; expr = f x.expr y.expr }) →
      found (sole (both (same_ty ty x.type) (same_ty ty y.type)) n) p >>= K ≡ joined ty u f p x y >>= H
  unfolding joined want need found sole ◌>>=◌
  two_case ty u f x y n h = go (same_ty ty x.type) (same_ty ty y.type)
    where
      go : (b c : Bool) → found (sole (both b c) n) p >>= K ≡ ((need b p >>= λ _. keeps x.expr) >>= λ v. (need c p >>= λ _. keeps y.expr) >>= λ w. keeps (record { type = u; expr = f v w })) >>= H
      go true true = h
      go true false = refl
      go false true = refl
      go false false = refl

  strict_case : (o : Strict) (x y : Typed) (i j : ℕ) → ((u : Ty) → K (record { takes = 2; type = u; start = i; begins = 1; kind = 5; a = G.strict_number o; b = 0 }) ≡ H (record { type = u; expr = C.strict o x.expr y.expr })) →
      found (strict_node (G.strict_number o) (record { type = x.type; start = i }) (record { type = y.type; start = j })) p >>= K ≡ combined (Binary.strict o) p x y >>= H
  unfolding strict_node combined G.strict_number
  strict_case eq x y i j h = two_case x.type bool (C.strict eq) x y _ (h bool)
  strict_case ne x y i j h = two_case x.type bool (C.strict ne) x y _ (h bool)
  strict_case lt x y i j h = two_case int bool (C.strict lt) x y _ (h bool)
  strict_case le x y i j h = two_case int bool (C.strict le) x y _ (h bool)
  strict_case gt x y i j h = two_case int bool (C.strict gt) x y _ (h bool)
  strict_case ge x y i j h = two_case int bool (C.strict ge) x y _ (h bool)
  strict_case add x y i j h = two_case int int (C.strict add) x y _ (h int)
  strict_case sub x y i j h = two_case int int (C.strict sub) x y _ (h int)
  strict_case mul x y i j h = two_case int int (C.strict mul) x y _ (h int)
  strict_case div x y i j h = two_case int int (C.strict div) x y _ (h int)
  strict_case rem x y i j h = two_case int int (C.strict rem) x y _ (h int)

  called_case : (globals : List Global) (x : Name) (us : List Typed) (N : Signature → Ty → Option Node) (M : Signature → Ty → Node) →
      ((s : Signature) (t : Ty) → N s t ≡ sole (same_types (types_of us) s.parameters) (M s t)) →
      ((s : Signature) (t : Ty) → K (M s t) ≡ H (record { type = t; expr = C.call s.number (args_of us) })) →
      found (and_then (global_of globals x) (λ g. and_then (is_function g.thing) (λ s. and_then s.result (λ t. N s t)))) p >>= K ≡ called globals p x us >>= H
  unfolding called function_of found sole ◌>>=◌
  called_case globals x us N M e h = go (global_of globals x)
    where
      given : (s : Signature) (r : Option Ty) (b : Bool) → ((t : Ty) → N s t ≡ sole b (M s t)) → found (and_then r (λ t. N s t)) p >>= K ≡
          (found (sole b (args_of us)) p >>= λ vs. found r p >>= λ t. keeps (record { type = t; expr = C.call s.number vs })) >>= H
      given s none true q = refl
      given s none false q = refl
      given s (some t) true q = ap (λ (o : Option Node). found o p >>= K) (q t) ∙ h s t
      given s (some t) false q = ap (λ (o : Option Node). found o p >>= K) (q t)

      thing : (o : Thing) → found (and_then (is_function o) (λ s. and_then s.result (λ t. N s t))) p >>= K ≡
          (found (is_function o) p >>= λ s. fit globals p us s.parameters >>= λ vs. found s.result p >>= λ t. keeps (record { type = t; expr = C.call s.number vs })) >>= H
      thing (an_array a) = refl
      thing (a_function s) = rw (fit_is globals p us s.parameters) (given s s.result (same_types (types_of us) s.parameters) (e s))

      go : (o : Option Global) → found (and_then o (λ g. and_then (is_function g.thing) (λ s. and_then s.result (λ t. N s t)))) p >>= K ≡
          (found (and_then o (λ g. is_function g.thing)) p >>= λ s. fit globals p us s.parameters >>= λ vs. found s.result p >>= λ t. keeps (record { type = t; expr = C.call s.number vs })) >>= H
      go none = refl
      go (some g) = thing g.thing

-- Arguments scanned, the first first

unfoldable pub afters : List Typed → Scanned → Scanned
afters [] s = s
afters (u ∷ us) s = afters us (after u s)

-- their items
unfoldable pub arg_words : List Typed → List ℕ
arg_words [] = []
arg_words (u ∷ us) = items_words (code u.expr 0 []) [] ++ arg_words us

pub afters_words : (us : List Typed) (s : Scanned) → (afters us s).words ≡ s.words ++ arg_words us
unfolding afters after arg_words
afters_words [] s = sym (append-nil s.words)
afters_words (u ∷ us) s = afters_words us (after u s) ∙ append_assoc s.words (items_words (code u.expr 0 []) []) (arg_words us)

pub afters_types : (us : List Typed) (s : Scanned) (n j : ℕ) (ts : List Ty) → n ≡ length us + j → uppermost n (afters us s).operands ts ≡ uppermost j s.operands (types_of us ++ ts)
unfolding afters after types_of uppermost
afters_types [] s n j ts e = ap (λ (i : ℕ). uppermost i s.operands ts) {x = n} {y = j} (omega (arith, e))
afters_types (u ∷ us) s n j ts e = afters_types us (after u s) n (suc j) ts (omega (arith, e))

afters_drop : (us : List Typed) (s : Scanned) (n j : ℕ) → n ≡ length us + j → drop n (afters us s).operands ≡ drop j s.operands
unfolding afters after
afters_drop [] s n j e = ap (λ (i : ℕ). drop i s.operands) {x = n} {y = j} (omega (arith, e))
afters_drop (u ∷ us) s n j e = afters_drop us (after u s) n (suc j) (omega (arith, e))

afters_get : (us : List Typed) (s : Scanned) (n j : ℕ) → n ≡ length us + j → get_or (afters us s).operands n no_operand ≡ get_or s.operands j no_operand
unfolding afters after
afters_get [] s n j e = ap (λ (i : ℕ). get_or s.operands i no_operand) {x = n} {y = j} (omega (arith, e))
afters_get (u ∷ us) s n j e = afters_get us (after u s) n (suc j) (omega (arith, e))

pub afters_length : (us : List Typed) (s : Scanned) → length us ≤ length (afters us s).operands
unfolding afters after
afters_length us s = omega (arith, exact us s)
  where
    exact : (us : List Typed) (s : Scanned) → length (afters us s).operands ≡ length us + length s.operands
    exact [] s = omega arith
    exact (u ∷ us) s = exact us (after u s) ∙ omega arith

-- a call begins where its first argument does, or where it stands
afters_start : (us : List Typed) (s : Scanned) → first_start (length us) (length (afters us s).words) (afters us s).operands ≡ length s.words
unfolding afters after
afters_start [] s = refl
afters_start (u ∷ us) s = rw (ne_eqb (suc (length us)) 0 (λ (e : suc (length us) ≡ 0). omega (arith, e))) (ap (λ (o : Operand). o.start) {x = get_or (afters us (after u s)).operands (suc (length us) - 1) no_operand} {y = record { type = u.type; start = length s.words }} (ap (λ (i : ℕ). get_or (afters us (after u s)).operands i no_operand) {x = suc (length us) - 1} {y = length us} (omega arith) ∙ afters_get us (after u s) (length us) 0 (omega arith)))

pub args_words_lem : (us : List Typed) (f n m : ℕ) → m ≡ n + length us → items_words (codes (args_of us) f n 0 []) [] ≡ arg_words us ++ (3 ∷ 0 ∷ f ∷ m ∷ [])
unfolding codes args_of arg_words items_words kind_words
args_words_lem [] f n m e = ap (λ (i : ℕ). 3 ∷ 0 ∷ f ∷ i ∷ []) (omega (arith, e))
args_words_lem (u ∷ us) f n m e =
    ap (λ (is : List Item). items_words is []) (code_append u.expr 0 [] (codes (args_of us) f (suc n) 0 [])) ∙
    (items_append (code u.expr 0 []) (codes (args_of us) f (suc n) 0 []) ∙
    (ap (λ (ws : List ℕ). items_words (code u.expr 0 []) [] ++ ws) (args_words_lem us f (suc n) m (omega (arith, e))) ∙ sym (append_assoc (items_words (code u.expr 0 []) []) (arg_words us) (3 ∷ 0 ∷ f ∷ m ∷ []))))

-- the call's item is written, and its nodes are charged at its start
pub call_words : (us : List Typed) (f begins : ℕ) (s : Scanned) → begins + I.sizes (args_of us) ≤ 2 ^ 32 →
    charged begins (length s.words) ((afters us s).words ++ (3 ∷ 0 ∷ f ∷ length us ∷ [])) ≡ s.words ++ items_words (codes (args_of us) f 0 begins []) []
call_words us f begins s h =
    ap (charged begins (length s.words))
    (ap (λ (ws : List ℕ). ws ++ (3 ∷ 0 ∷ f ∷ length us ∷ [])) (afters_words us s) ∙ (append_assoc s.words (arg_words us) (3 ∷ 0 ∷ f ∷ length us ∷ []) ∙ ap (λ (ws : List ℕ). s.words ++ ws) (sym (args_words_lem us f 0 (length us) (omega arith)))))
    ∙ charged_codes (args_of us) f 0 s.words 0 begins begins [] (omega arith) (omega (arith, h))

-- The scan

module _ (text : List ℕ) (globals : List Global) (locals : List Local) where
  abbrev go_on : ℕ → List ℕ → Scanned → Ruled Scanned
  go_on m more s = scan text globals locals m more s

  item_scan : (n m k p a b : ℕ) (more : List ℕ) (s : Scanned) → n ≡ 1 + m →
      go_on n (k ∷ p ∷ a ∷ b ∷ more) s ≡ found (node_of text globals locals k p a b (length s.words) s.operands) p >>= λ v. go_on m more (added v s)
  unfolding scan
  item_scan n m k p a b more s e = ap (λ (i : ℕ). go_on i (k ∷ p ∷ a ∷ b ∷ more) s) {x = n} {y = suc m} (omega (arith, e))

  -- what each kind of item does after its operands
  leaf_after : (t : Ty) (k a : ℕ) (e : C.Expr) (s : Scanned) → items_words (code e 0 []) [] ≡ (k ∷ 1 ∷ a ∷ 0 ∷ []) → added (leaf t (length s.words) k a) s ≡ after (record { type = t; expr = e }) s
  unfolding added after leaf
  leaf_after t k a e s q =
      ap (λ (ws : List ℕ). record { operands = record { type = t; start = length s.words } ∷ s.operands; words = ws }) (charged_here s.words k 0 1 1 (a ∷ 0 ∷ []) refl (omega arith) ∙ ap (λ (ws : List ℕ). s.words ++ ws) (sym q))

  -- an operand's node takes its place
  over : (u : Ty) (e f : C.Expr) (n : ℕ) (is : List Item) (ty : Ty) (s : Scanned) → I.size e + n < 2 ^ 32 → code e n is ≡ code f 0 [] →
      charged n (length s.words) ((after (record { type = ty; expr = e }) s).words ++ items_words is []) ≡ (after (record { type = u; expr = f }) s).words
  unfolding after
  over u e f n is ty s h q = grown e s.words n [] is h ∙ ap (λ (us : List Item). s.words ++ items_words us []) q

  element_after : (p : Place) (x : Name) (t : Typed) (m : ℕ) (more : List ℕ) (s : Scanned) → Stands text p x → I.size t.expr + 1 < 2 ^ 32 →
      found (node_of text globals locals 2 p (length x) 0 (length (after t s).words) (after t s).operands) p >>= (λ v. go_on m more (added v (after t s))) ≡ indexed globals p x t >>= λ u. go_on m more (after u s)
  unfolding node_of element_node after added code items_words kind_words
  element_after p x t m more s e h =
      rw e (element_case p _ _ globals x t (length s.words) (λ a. ap (λ (ws : List ℕ). go_on m more (record { operands = record { type = int; start = length s.words } ∷ s.operands; words = ws })) (grown t.expr s.words 1 [] (item 0 (I.element a) ∷ []) h)))

  unary_after : (p : Place) (o : Unary) (t : Typed) (m : ℕ) (more : List ℕ) (s : Scanned) → I.size t.expr + 1 < 2 ^ 32 →
      found (node_of text globals locals 4 p (G.unary_number o) 0 (length (after t s).words) (after t s).operands) p >>= (λ v. go_on m more (added v (after t s))) ≡ changed o p t >>= λ u. go_on m more (after u s)
  unfolding node_of unary_node after added code items_words kind_words changed G.unary_number F.unary_number
  unary_after p Unary.negate t m more s h =
      one_case p _ _ int (C.unary Unary.negate) t _ (ap (λ (ws : List ℕ). go_on m more (record { operands = record { type = int; start = length s.words } ∷ s.operands; words = ws })) (grown t.expr s.words 1 [] (item 0 (I.unary Unary.negate) ∷ []) h))
  unary_after p Unary.not t m more s h =
      one_case p _ _ bool (C.unary Unary.not) t _ (ap (λ (ws : List ℕ). go_on m more (record { operands = record { type = bool; start = length s.words } ∷ s.operands; words = ws })) (grown t.expr s.words 1 [] (item 0 (I.unary Unary.not) ∷ []) h))

  same_number : (o : Strict) → G.strict_number o ≡ F.strict_number o
  unfolding G.strict_number F.strict_number
  same_number eq = refl
  same_number ne = refl
  same_number lt = refl
  same_number le = refl
  same_number gt = refl
  same_number ge = refl
  same_number add = refl
  same_number sub = refl
  same_number mul = refl
  same_number div = refl
  same_number rem = refl

  -- after a right side: what comes after both sides, with what stood between them
  sides : (x y : C.Expr) (js is : List Item) (ws : List ℕ) → I.size x + 1 < 2 ^ 32 →
      charged 1 (length ws) (((ws ++ items_words (code x 0 js) []) ++ items_words (code y 0 []) []) ++ items_words is []) ≡ ws ++ items_words (code x 1 (js ++ code y 0 is)) []
  sides x y js is ws h =
      ap (charged 1 (length ws)) (append_assoc (ws ++ items_words (code x 0 js) []) (items_words (code y 0 []) []) (items_words is []) ∙
      ap (λ (us : List ℕ). (ws ++ items_words (code x 0 js) []) ++ us) (sym (items_append (code y 0 []) is) ∙ ap (λ (us : List Item). items_words us []) (sym (code_append y 0 [] is))))
      ∙ grown x ws 1 js (code y 0 is) h

  strict_after : (p : Place) (o : Strict) (x y : Typed) (m : ℕ) (more : List ℕ) (s : Scanned) → I.size x.expr + 1 < 2 ^ 32 →
      found (node_of text globals locals 5 p (G.strict_number o) 0 (length (after y (after x s)).words) (after y (after x s)).operands) p >>= (λ v. go_on m more (added v (after y (after x s)))) ≡
      combined (Binary.strict o) p x y >>= λ u. go_on m more (after u s)
  unfolding node_of after added code items_words kind_words
  strict_after p o x y m more s h =
      strict_case p _ _ o x y (length s.words) (length (s.words ++ items_words (code x.expr 0 []) []))
      (λ u. rw (same_number o) (ap (λ (ws : List ℕ). go_on m more (record { operands = record { type = u; start = length s.words } ∷ s.operands; words = ws })) (sides x.expr y.expr [] (item 0 (I.strict o) ∷ []) s.words h)))

  -- the left side of `&&` or `||`, and its item
  unfoldable marked : Typed → I.Kind → Scanned → Scanned
  marked x k s = record { operands = record { type = x.type; start = length s.words } ∷ s.operands; words = s.words ++ items_words (code x.expr 0 (item 0 k ∷ [])) [] }

  and_after : (p : Place) (n : ℕ) (x : Typed) (s : Scanned) → I.size x.expr < 2 ^ 32 → added (mark_node 6 n (upper (after x s).operands)) (after x s) ≡ marked x (I.and n) s
  unfolding added mark_node after marked items_words kind_words
  and_after p n x s h = ap (λ (ws : List ℕ). record { operands = record { type = x.type; start = length s.words } ∷ s.operands; words = ws }) (grown x.expr s.words 0 [] (item 0 (I.and n) ∷ []) (omega (arith, h)))

  or_after : (p : Place) (n : ℕ) (x : Typed) (s : Scanned) → I.size x.expr < 2 ^ 32 → added (mark_node 7 n (upper (after x s).operands)) (after x s) ≡ marked x (I.or n) s
  unfolding added mark_node after marked items_words kind_words
  or_after p n x s h = ap (λ (ws : List ℕ). record { operands = record { type = x.type; start = length s.words } ∷ s.operands; words = ws }) (grown x.expr s.words 0 [] (item 0 (I.or n) ∷ []) (omega (arith, h)))

  join_after : (p : Place) (k : I.Kind) (f : C.Expr → C.Expr → C.Expr) (x y : Typed) (m : ℕ) (more : List ℕ) (s : Scanned) → I.size x.expr + 1 < 2 ^ 32 →
      code (f x.expr y.expr) 0 [] ≡ code x.expr 1 (item 0 k ∷ code y.expr 0 (item 0 I.join ∷ [])) →
      found (node_of text globals locals 8 p 0 0 (length (after y (marked x k s)).words) (after y (marked x k s)).operands) p >>= (λ v. go_on m more (added v (after y (marked x k s)))) ≡
      joined bool bool f p x y >>= λ u. go_on m more (after u s)
  unfolding node_of join_node after marked added items_words kind_words
  join_after p k f x y m more s h q =
      two_case p _ _ bool bool f x y _
      (ap (λ (ws : List ℕ). go_on m more (record { operands = record { type = bool; start = length s.words } ∷ s.operands; words = ws })) (sides x.expr y.expr (item 0 k ∷ []) (item 0 I.join ∷ []) s.words h ∙ ap (λ (us : List Item). s.words ++ items_words us []) (sym q)))

  abbrev call_node_here : ℕ → ℕ → ℕ → Signature → Ty → Node
  call_node_here begins n start s t = record { takes = n; type = t; start = start; begins = begins; kind = 3; a = s.number; b = n }

  -- the arguments of a call that is made of them
  pub args_fit : (sg : Signature) (us : List Typed) (n begins : ℕ) (t : Ty) (s : Scanned) → length us ≡ n →
      call_node sg n (length (afters us s).words) begins t (afters us s).operands ≡ sole (same_types (types_of us) sg.parameters) (call_node_here begins (length us) (length s.words) sg t)
  unfolding call_node uppermost
  args_fit sg us n begins t s e =
      rw (← e, le-leb _ _ (afters_length us s), afters_types us s (length us) 0 [] (omega arith), append-nil (types_of us), afters_start us s) refl

  call_after : (p : Place) (x : Name) (us : List Typed) (n m : ℕ) (more : List ℕ) (s : Scanned) → Stands text p x → length us ≡ n → I.sizes (args_of us) < 2 ^ 32 →
      found (node_of text globals locals 3 p (length x) n (length (afters us s).words) (afters us s).operands) p >>= (λ v. go_on m more (added v (afters us s))) ≡ called globals p x us >>= λ u. go_on m more (after u s)
  unfolding node_of called_node after added code
  call_after p x us n m more s e c h =
      rw e (called_case p _ _ globals x us (λ sg t. call_node sg n (length (afters us s).words) 1 t (afters us s).operands) (λ sg t. call_node_here 1 (length us) (length s.words) sg t)
      (λ sg t. args_fit sg us n 1 t s c)
      (λ sg t. rw (afters_drop us s (length us) 0 (omega arith)) (ap (λ (ws : List ℕ). go_on m more (record { operands = record { type = t; start = length s.words } ∷ s.operands; words = ws })) (call_words us sg.number 1 s (omega (arith, h))))))

  -- items with nothing before them
  number_scan : (x n m : ℕ) (more : List ℕ) (s : Scanned) → n ≡ 1 + m → go_on n (0 ∷ 0 ∷ x ∷ 0 ∷ more) s ≡ go_on m more (after (record { type = int; expr = C.number x }) s)
  unfolding node_of found ◌>>=◌ code items_words kind_words
  number_scan x n m more s q = item_scan n m 0 0 x 0 more s q ∙ ap (go_on m more) (leaf_after int 0 x (C.number x) s refl)

  truth_scan : (b : Bool) (n m : ℕ) (more : List ℕ) (s : Scanned) → n ≡ 1 + m →
      go_on n (9 ∷ 0 ∷ G.truth_number b ∷ 0 ∷ more) s ≡ go_on m more (after (record { type = bool; expr = C.number (truth_of b) }) s)
  unfolding node_of found ◌>>=◌ code items_words kind_words G.truth_number
  truth_scan true n m more s q = item_scan n m 9 0 1 0 more s q ∙ ap (go_on m more) (leaf_after bool 0 1 (C.number 1) s refl)
  truth_scan false n m more s q = item_scan n m 9 0 0 0 more s q ∙ ap (go_on m more) (leaf_after bool 0 0 (C.number 0) s refl)

  name_scan : (p : Place) (x : Name) (n m : ℕ) (more : List ℕ) (s : Scanned) → Stands text p x → n ≡ 1 + m →
      go_on n (1 ∷ p ∷ length x ∷ 0 ∷ more) s ≡ known globals locals p x >>= λ t. go_on m more (after t s)
  unfolding node_of name_node code items_words kind_words
  name_scan p x n m more s h q =
      item_scan n m 1 p (length x) 0 more s q ∙
      rw h (name_case p _ _ globals locals x (length s.words) (λ l. ap (go_on m more) (leaf_after l.type 1 l.slot (C.local l.slot) s refl)))

  and_scan : (p : Place) (k m : ℕ) (x : Typed) (more : List ℕ) (s : Scanned) → I.size x.expr < 2 ^ 32 → go_on (1 + m) (6 ∷ p ∷ k ∷ 0 ∷ more) (after x s) ≡ go_on m more (marked x (I.and k) s)
  unfolding node_of found ◌>>=◌
  and_scan p k m x more s h = item_scan (1 + m) m 6 p k 0 more (after x s) refl ∙ ap (go_on m more) (and_after p k x s h)

  or_scan : (p : Place) (k m : ℕ) (x : Typed) (more : List ℕ) (s : Scanned) → I.size x.expr < 2 ^ 32 → go_on (1 + m) (7 ∷ p ∷ k ∷ 0 ∷ more) (after x s) ≡ go_on m more (marked x (I.or k) s)
  unfolding node_of found ◌>>=◌
  or_scan p k m x more s h = item_scan (1 + m) m 7 p k 0 more (after x s) refl ∙ ap (go_on m more) (or_after p k x s h)

  mutual
    unfolding G.expr_words G.size expr NamedExpr combined code I.size afters G.arg_count ◌>>=◌

    -- an expression, and whatever follows it
    pub scan_expr : (e : T.Expr) (n m : ℕ) (more : List ℕ) (s : Scanned) → NamedExpr text e → n ≡ G.size e + m → G.size e < 2 ^ 32 →
        go_on n (G.expr_words e more) s ≡ expr globals locals e >>= λ t. go_on m more (after t s)
    scan_expr (T.number x) n m more s h q l = number_scan x n m more s q
    scan_expr (T.truth b) n m more s h q l = truth_scan b n m more s q
    scan_expr (T.name p x) n m more s h q l = name_scan p x n m more s h q
    scan_expr (T.element p x i) n m more s h q l =
        scan_expr i n (1 + m) _ s h.1 (omega (arith, q)) (omega (arith, l)) ∙
        (ext_all (expr globals locals i) (sized globals locals i) (λ t z. item_scan (1 + m) m 2 p (length x) 0 more (after t s) refl ∙ element_after p x t m more s h.0 (omega (arith, l, z.same))) ∙
        sym (assoc (expr globals locals i) _ _))
    scan_expr (T.call p x xs) n m more s h q l =
        scan_args xs n (1 + m) _ s h.1 (omega (arith, q)) (omega (arith, l)) ∙
        (ext_all (exprs globals locals xs) (sized_all globals locals xs)
        (λ us z. item_scan (1 + m) m 3 p (length x) (G.arg_count xs) more (afters us s) refl ∙ call_after p x us (G.arg_count xs) m more s h.0 z.count (omega (arith, l, z.same))) ∙
        sym (assoc (exprs globals locals xs) _ _))
    scan_expr (T.unary p o a) n m more s h q l =
        scan_expr a n (1 + m) _ s h (omega (arith, q)) (omega (arith, l)) ∙
        (ext_all (expr globals locals a) (sized globals locals a) (λ t z. item_scan (1 + m) m 4 p (G.unary_number o) 0 more (after t s) refl ∙ unary_after p o t m more s (omega (arith, l, z.same))) ∙
        sym (assoc (expr globals locals a) _ _))
    scan_expr (T.binary p Binary.or a b) n m more s h q l =
        scan_expr a n (1 + (G.size b + (1 + m))) _ s h.0 (omega (arith, q)) (omega (arith, l)) ∙
        (ext_all (expr globals locals a) (sized globals locals a)
        (λ x z. or_scan p (G.size b) (G.size b + (1 + m)) x _ s (omega (arith, l, z.same)) ∙
        (scan_expr b (G.size b + (1 + m)) (1 + m) _ (marked x (I.or (G.size b)) s) h.1 refl (omega (arith, l)) ∙
        (ext_all (expr globals locals b) (sized globals locals b)
        (λ y w. item_scan (1 + m) m 8 p 0 0 more (after y (marked x (I.or (G.size b)) s)) refl ∙
        join_after p (I.or (G.size b)) C.or x y m more s (omega (arith, l, z.same)) (ap (λ (i : ℕ). code x.expr 1 (item 0 (I.or i) ∷ code y.expr 0 (item 0 I.join ∷ []))) w.same)) ∙
        sym (assoc (expr globals locals b) _ _)))) ∙
        sym (assoc (expr globals locals a) _ _))
    scan_expr (T.binary p Binary.and a b) n m more s h q l =
        scan_expr a n (1 + (G.size b + (1 + m))) _ s h.0 (omega (arith, q)) (omega (arith, l)) ∙
        (ext_all (expr globals locals a) (sized globals locals a)
        (λ x z. and_scan p (G.size b) (G.size b + (1 + m)) x _ s (omega (arith, l, z.same)) ∙
        (scan_expr b (G.size b + (1 + m)) (1 + m) _ (marked x (I.and (G.size b)) s) h.1 refl (omega (arith, l)) ∙
        (ext_all (expr globals locals b) (sized globals locals b)
        (λ y w. item_scan (1 + m) m 8 p 0 0 more (after y (marked x (I.and (G.size b)) s)) refl ∙
        join_after p (I.and (G.size b)) C.and x y m more s (omega (arith, l, z.same)) (ap (λ (i : ℕ). code x.expr 1 (item 0 (I.and i) ∷ code y.expr 0 (item 0 I.join ∷ []))) w.same)) ∙
        sym (assoc (expr globals locals b) _ _)))) ∙
        sym (assoc (expr globals locals a) _ _))
    scan_expr (T.binary p (Binary.strict o) a b) n m more s h q l =
        scan_expr a n (G.size b + (1 + m)) _ s h.0 (omega (arith, q)) (omega (arith, l)) ∙
        (ext_all (expr globals locals a) (sized globals locals a)
        (λ x z. scan_expr b (G.size b + (1 + m)) (1 + m) _ (after x s) h.1 refl (omega (arith, l)) ∙
        (ext_all (expr globals locals b) (sized globals locals b)
        (λ y w. item_scan (1 + m) m 5 p (G.strict_number o) 0 more (after y (after x s)) refl ∙ strict_after p o x y m more s (omega (arith, l, z.same))) ∙
        sym (assoc (expr globals locals b) _ _))) ∙
        sym (assoc (expr globals locals a) _ _))

    -- arguments, and whatever follows them
    pub scan_args : (es : T.Args) (n m : ℕ) (more : List ℕ) (s : Scanned) → NamedArgs text es → n ≡ G.sizes es + m → G.sizes es < 2 ^ 32 →
        go_on n (G.args_words es more) s ≡ exprs globals locals es >>= λ us. go_on m more (afters us s)
    scan_args T.none n m more s h q l = ap (λ (i : ℕ). go_on i more s) {x = n} {y = m} (omega (arith, q))
    scan_args (T.more e es) n m more s h q l =
        scan_expr e n (G.sizes es + m) _ s h.0 (omega (arith, q)) (omega (arith, l)) ∙
        (ext (expr globals locals e) (λ t. scan_args es (G.sizes es + m) m more (after t s) h.1 refl (omega (arith, l)) ∙ sym (assoc (exprs globals locals es) _ _)) ∙
        sym (assoc (expr globals locals e) _ _))
