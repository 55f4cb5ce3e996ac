-- What derives, the parser reads: by the derivation, where what follows it can't be a part of it.
use mathlib.Core.Path.{◌≡◌, refl, sym, ap, subst, ◌∙◌}
use mathlib.Core.Bool.{Bool, true, false}
use mathlib.Core.List.{List, [], ◌∷◌}
use mathlib.Core.Option.{Option}
use Prim.Native.Nat.{ℕ, zero, suc, ◌+◌, ◌*◌, ◌-◌, ◌≤◌, ◌<◌}
use native.Mathlib.Omega.{arith}
use native.Mathlib.Decide.{dec_lt}
use lib.Dec.{ltb, eqb}
use lib.ListN.{length}
use borrow.Author.Tests.{lt-ltb, le-ltb, eq-eqb, ne_eqb}
use Rattle.word.specs.Choice.{pick}
use Rattle.language.specs.Tree.{Place, Name, Ty, Unary, Binary, Expr, Args, Stmt, Block, Param, Item}
use Rattle.language.specs.Tokens.{Word, Sign, Token, Placed, In, In.there}
use Rattle.language.specs.Grammar.{op, operators, unaries, most_open, expr_level, comp_level, unary_level, nth, At, Has, HasSign, HasWord, IsExpr, IsRest, IsArgs, IsExprs, IsType, IsStmt, IsStmts, IsBlock, IsParam, IsParamList, IsParams, IsResult, IsItem, IsItems, Program}
use Rattle.tokens.specs.Kinds.{sign_kind, word_kind, kind_of}
use Rattle.grammar.specs.Parse.{Out, Out.ok, next, map, kind_in, place_in, name_in, name_of, kind, place_of, level_in, level_of, means_of, many, most, Tail, grow, expr_steps, block_steps}
use Rattle.grammar.specs.Parse.{rest_of, exprs_of, args_of, arguments_of, enclosed_of, named_of, unary_of, primary_of, levelled, expr_of, index_of, call_of, ended_of, type_of, typed_of, declare_of, assign_of, store_of, run_of, change_of, return_of, emit_of, while_of, else_of, if_of, stmt_of, stmts_of, block_of, param_of, param_list_of, params_of, result_of, size_of, array_of, body_of, function_of, item_of, items_of, program_of}
use Rattle.grammar.proofs.TokenKinds.{kind_has, number_has, has, row_level, row_means}

-- what may follow an expression of level l: no operator of its level or a higher one, and nothing that makes a name an element or a call
pub record Follows (l k : ℕ) : Type 0 where
  pub low : level_of k < l
  pub bracket : k ≡ sign_kind Sign.left_bracket → ⊥
  pub paren : k ≡ sign_kind Sign.left_paren → ⊥

-- no operators
level_none : (k : ℕ) → k ≡ 0 → level_of k ≡ 0
unfolding level_of level_in operators sign_kind
level_none k e = rw e

module _ (s : Sign) where
  Ends : Type 0
  Ends = (level_of (sign_kind s) ≡ 0) × (eqb (sign_kind s) (sign_kind Sign.left_bracket) ≡ false) × (eqb (sign_kind s) (sign_kind Sign.left_paren) ≡ false)

  ends_follow : Ends → (l k : ℕ) → 0 < l → k ≡ sign_kind s → Follows l k
  unfolding Ends
  ends_follow h l k z e =
      record {
        low = omega (arith, ap level_of e ∙ h.0);
        bracket = λ q. borrow.Author.Tests.eqb-false (sign_kind s) (sign_kind Sign.left_bracket) h.1 (sym e ∙ q);
        paren = λ q. borrow.Author.Tests.eqb-false (sign_kind s) (sign_kind Sign.left_paren) h.2 (sym e ∙ q);
      }

close_paren : Ends Sign.right_paren
unfolding Ends level_of level_in operators sign_kind
close_paren = (refl, refl, refl)

close_bracket : Ends Sign.right_bracket
unfolding Ends level_of level_in operators sign_kind
close_bracket = (refl, refl, refl)

comma : Ends Sign.comma
unfolding Ends level_of level_in operators sign_kind
comma = (refl, refl, refl)

semicolon : Ends Sign.semicolon
unfolding Ends level_of level_in operators sign_kind
semicolon = (refl, refl, refl)

brace : Ends Sign.left_brace
unfolding Ends level_of level_in operators sign_kind
brace = (refl, refl, refl)

-- an operator follows what is of a higher level
paren_level : level_of (sign_kind Sign.left_paren) ≡ 0
unfolding level_of level_in operators sign_kind
paren_level = refl

bracket_level : level_of (sign_kind Sign.left_bracket) ≡ 0
unfolding level_of level_in operators sign_kind
bracket_level = refl

operator_follows : (l k : ℕ) → 0 < l → level_of k ≡ l → Follows (l + 1) k
operator_follows l k z e =
    record {
      low = omega arith;
      bracket = λ q. omega (arith, ap level_of q, bracket_level);
      paren = λ q. omega (arith, ap level_of q, paren_level);
    }

follows_on : {l m k : ℕ} → l ≤ m → Follows l k → Follows m k
follows_on h f = record { low = omega (arith, f.low); bracket = f.bracket; paren = f.paren }

module _ (tok : ℕ → Option Placed) where
  -- kinds of the tokens that are there
  sign_kind_lem : (i : ℕ) {s : Sign} → HasSign tok i s → kind tok i ≡ sign_kind s
  unfolding kind_of
  sign_kind_lem i e = kind_has (tok i) e

  word_kind_lem : (i : ℕ) {w : Word} → HasWord tok i w → kind tok i ≡ word_kind w
  unfolding kind_of
  word_kind_lem i e = kind_has (tok i) e

  num_kind : (i : ℕ) {n : ℕ} → Has tok i (Token.number n) → kind tok i ≡ 2
  unfolding kind_of
  num_kind i e = kind_has (tok i) e

  at_sign : {i : ℕ} {s : Sign} {p : Place} → At tok i (Token.sign s) p → kind tok i ≡ sign_kind s
  at_sign {i} h = sign_kind_lem i (has h)

  at_place : {i : ℕ} {t : Token} {p : Place} → At tok i t p → place_of tok i ≡ p
  unfolding place_in
  at_place h = ap place_in h

  mutual
    -- an expression has a token
    some : {l d i j : ℕ} {e : Expr} → IsExpr tok l d i j e → i < j
    some (IsExpr.chain h a r) = omega (arith, some a, on r)
    some (IsExpr.unary p q h a) = omega (arith, some a)
    some (IsExpr.number p e) = omega arith
    some (IsExpr.true p e) = omega arith
    some (IsExpr.false p e) = omega arith
    some (IsExpr.name p e) = omega arith
    some (IsExpr.element p q h a c e) = omega (arith, some a)
    some (IsExpr.call p q h a c e) = omega (arith, ons a)
    some (IsExpr.parens q h a c e) = omega (arith, some a)

    on : {l d i j : ℕ} {a e : Expr} → IsRest tok l d i j a e → i ≤ j
    on IsRest.done = omega arith
    on (IsRest.again n p q b r) = omega (arith, some b, on r)
    on (IsRest.once e p q b) = omega (arith, some b)

    ons : {d i j : ℕ} {es : Args} → IsArgs tok d i j es → i ≤ j
    ons IsArgs.none = omega arith
    ons (IsArgs.some x) = omega (arith, onss x)

    onss : {d i j : ℕ} {es : Args} → IsExprs tok d i j es → i < j
    onss (IsExprs.last x) = some x
    onss (IsExprs.comma x c r) = omega (arith, some x, onss r)

  -- what may stand after a first operand
  after : {l d i j : ℕ} {a e : Expr} → 0 < l → IsRest tok l d i j a e → Follows l (kind tok j) → Follows (l + 1) (kind tok i)
  after z IsRest.done f = follows_on (omega arith) f
  after {l} {d} {i} z (IsRest.again n p q b r) f = operator_follows l (kind tok i) z (ap level_of (at_sign p) ∙ row_level q)
  after {l} {d} {i} z (IsRest.once e p q b) f = operator_follows l (kind tok i) z (ap level_of (at_sign p) ∙ row_level q)

  -- the first token of an expression is there and closes nothing
  record Begins (k : ℕ) : Type 0 where
    pub there : 0 < k
    pub unclosed : k ≡ sign_kind Sign.right_paren → ⊥
    pub unended : k ≡ sign_kind Sign.semicolon → ⊥

  begins_sign : (s : Sign) (o : Unary) (k : ℕ) → In (s, o) unaries → k ≡ sign_kind s → Begins k
  unfolding unaries sign_kind
  begins_sign s o k (In.here q) e = let r : k ≡ 10 = e ∙ ap (λ (x : Sign × Unary). sign_kind x.0) q in record { there = omega arith; unclosed = λ w. omega arith; unended = λ w. omega arith }
  begins_sign s o k (In.there (In.here q)) e = let r : k ≡ 17 = e ∙ ap (λ (x : Sign × Unary). sign_kind x.0) q in record { there = omega arith; unclosed = λ w. omega arith; unended = λ w. omega arith }
  begins_sign s o k (there (there x9)) e = elim x9 [ ]

  begins_kind : (k n : ℕ) → k ≡ n → Begins n → Begins k
  begins_kind k n e h = subst Begins (sym e) h

  begins_name : Begins 1
  unfolding sign_kind
  begins_name = record { there = omega arith; unclosed = λ w. omega arith; unended = λ w. omega arith }

  begins_number : Begins 2
  unfolding sign_kind
  begins_number = record { there = omega arith; unclosed = λ w. omega arith; unended = λ w. omega arith }

  begins_true : Begins (word_kind Word.true)
  unfolding sign_kind word_kind
  begins_true = record { there = omega arith; unclosed = λ w. omega arith; unended = λ w. omega arith }

  begins_false : Begins (word_kind Word.false)
  unfolding sign_kind word_kind
  begins_false = record { there = omega arith; unclosed = λ w. omega arith; unended = λ w. omega arith }

  begins_paren : Begins (sign_kind Sign.left_paren)
  unfolding sign_kind
  begins_paren = record { there = omega arith; unclosed = λ w. omega arith; unended = λ w. omega arith }

  at_name : {i : ℕ} {x : Name} {p : Place} → At tok i (Token.name x) p → kind tok i ≡ 1
  unfolding kind_of
  at_name {i} h = kind_has (tok i) (has h)

  first : {l d i j : ℕ} {e : Expr} → IsExpr tok l d i j e → Begins (kind tok i)
  first (IsExpr.chain h a r) = first a
  first {i = i} (IsExpr.unary {s = s} {o = o} p q h a) = begins_sign s o (kind tok i) q (at_sign p)
  first {i = i} (IsExpr.number p e) = begins_kind (kind tok i) 2 (num_kind i p) begins_number
  first {i = i} (IsExpr.true p e) = begins_kind (kind tok i) _ (word_kind_lem i p) begins_true
  first {i = i} (IsExpr.false p e) = begins_kind (kind tok i) _ (word_kind_lem i p) begins_false
  first {i = i} (IsExpr.name p e) = begins_kind (kind tok i) 1 (at_name p) begins_name
  first {i = i} (IsExpr.element p q h a c e) = begins_kind (kind tok i) 1 (at_name p) begins_name
  first {i = i} (IsExpr.call p q h a c e) = begins_kind (kind tok i) 1 (at_name p) begins_name
  first {i = i} (IsExpr.parens q h a c e) = begins_kind (kind tok i) _ (sign_kind_lem i q) begins_paren

  first_of : {d i j : ℕ} {es : Args} → IsExprs tok d i j es → Begins (kind tok i)
  first_of (IsExprs.last x) = first x
  first_of (IsExprs.comma x c r) = first x

  -- One step of the parser.

  pub step : (h l d i : ℕ) → 0 < h → levelled tok h l d i ≡ pick (ltb l unary_level) (next (levelled tok (h - 1) (l + 1) d i) (λ a j. map (grow a) (rest_of tok (levelled tok (h - 1)) (most l) l d j))) (primary_of tok (levelled tok (h - 1)) d i)
  unfolding levelled
  step zero l d i z = absurd (omega arith)
  step (suc h) l d i z = let q : h ≡ suc h - 1 = omega arith in ap (λ (g : ℕ). pick (ltb l unary_level) (next (levelled tok g (l + 1) d i) (λ a j. map (grow a) (rest_of tok (levelled tok g) (most l) l d j))) (primary_of tok (levelled tok g) d i)) q

  module _ (sub : ℕ → ℕ → ℕ → Out Expr) (d i : ℕ) where
    c_number : {j n : ℕ} → Has tok i (Token.number n) → j ≡ i + 1 → primary_of tok sub d i ≡ ok (Expr.number n) j
    unfolding primary_of
    c_number h e = rw (num_kind i h, number_has (tok i) h, e)

    c_true : {j : ℕ} → HasWord tok i Word.true → j ≡ i + 1 → primary_of tok sub d i ≡ ok (Expr.truth true) j
    unfolding primary_of word_kind sign_kind
    c_true h e = rw (word_kind_lem i h, e)

    c_false : {j : ℕ} → HasWord tok i Word.false → j ≡ i + 1 → primary_of tok sub d i ≡ ok (Expr.truth false) j
    unfolding primary_of word_kind sign_kind
    c_false h e = rw (word_kind_lem i h, e)

    c_name : {j : ℕ} {x : Name} {p : Place} → At tok i (Token.name x) p → j ≡ i + 1 → Follows unary_level (kind tok j) → primary_of tok sub d i ≡ ok (Expr.name p x) j
    unfolding primary_of named_of kind_in kind_of place_in name_in name_of
    c_name {j} h e f = rw (h, ne_eqb (kind tok (i + 1)) (sign_kind Sign.left_bracket) (λ q. f.bracket (ap (kind tok) e ∙ q)), ne_eqb (kind tok (i + 1)) (sign_kind Sign.left_paren) (λ q. f.paren (ap (kind tok) e ∙ q)), e)

    c_enclosed : (s : Sign) {j k : ℕ} {e : Expr} → d < most_open → sub expr_level (d + 1) (i + 1) ≡ ok e j → HasSign tok j s → k ≡ j + 1 → enclosed_of tok sub (sign_kind s) d i ≡ ok e k
    unfolding enclosed_of
    c_enclosed s {j} z x c e = rw (lt-ltb d most_open z, x, eq-eqb (kind tok j) (sign_kind s) (sign_kind_lem j c), e)

    c_arguments : {j k : ℕ} {es : Args} → d < most_open → args_of tok sub (d + 1) (i + 1) ≡ ok es j → HasSign tok j Sign.right_paren → k ≡ j + 1 → arguments_of tok sub d i ≡ ok es k
    unfolding arguments_of
    c_arguments {j} z x c e = rw (lt-ltb d most_open z, x, eq-eqb (kind tok j) (sign_kind Sign.right_paren) (sign_kind_lem j c), e)

    c_element : {k : ℕ} {x : Name} {p : Place} {e : Expr} → At tok i (Token.name x) p → HasSign tok (i + 1) Sign.left_bracket → enclosed_of tok sub (sign_kind Sign.right_bracket) d (i + 1) ≡ ok e k → primary_of tok sub d i ≡ ok (Expr.element p x e) k
    unfolding primary_of named_of kind_in kind_of place_in name_in name_of
    c_element h b x = rw (h, eq-eqb (kind tok (i + 1)) (sign_kind Sign.left_bracket) (sign_kind_lem (i + 1) b), x)

    c_call : {k : ℕ} {x : Name} {p : Place} {es : Args} → At tok i (Token.name x) p → HasSign tok (i + 1) Sign.left_paren → arguments_of tok sub d (i + 1) ≡ ok es k → primary_of tok sub d i ≡ ok (Expr.call p x es) k
    unfolding primary_of named_of kind_of name_in name_of place_in sign_kind
    c_call h b x = rw (at_name h, sign_kind_lem (i + 1) b, h, x)

    c_parens : {k : ℕ} {e : Expr} → HasSign tok i Sign.left_paren → enclosed_of tok sub (sign_kind Sign.right_paren) d i ≡ ok e k → primary_of tok sub d i ≡ ok e k
    unfolding primary_of sign_kind word_kind
    c_parens b x = rw (sign_kind_lem i b, x)

    c_unary : {j : ℕ} {s : Sign} {o : Unary} {p : Place} {a : Expr} → At tok i (Token.sign s) p → In (s, o) unaries → d < most_open → sub unary_level (d + 1) (i + 1) ≡ ok a j → primary_of tok sub d i ≡ ok (Expr.unary p o a) j
    unfolding primary_of unary_of sign_kind word_kind unaries
    c_unary {s = s} {o = o} {p = p} h (In.here q) z x = let e : kind tok i ≡ 10 = at_sign h ∙ ap (λ (x : Sign × Unary). sign_kind x.0) q in let f : o ≡ Unary.negate = ap (λ (x : Sign × Unary). x.1) q in rw (e, lt-ltb d most_open z, x, f, at_place h)
    c_unary {s = s} {o = o} {p = p} h (In.there (In.here q)) z x = let e : kind tok i ≡ 17 = at_sign h ∙ ap (λ (x : Sign × Unary). sign_kind x.0) q in let f : o ≡ Unary.not = ap (λ (x : Sign × Unary). x.1) q in rw (e, lt-ltb d most_open z, x, f, at_place h)
    c_unary {j = j} {s = s} {o = o} {p = p} {a = a} h (there (there x18)) z x = elim x18 [ ]

  module _ (sub : ℕ → ℕ → ℕ → Out Expr) (l d i : ℕ) where
    c_done : (n : ℕ) → level_of (kind tok i) < l → rest_of tok sub n l d i ≡ ok Tail.done i
    unfolding rest_of
    c_done zero z = refl
    c_done (suc n) z = rw (ne_eqb (level_of (kind tok i)) l (λ e. omega arith))

    c_more : (n : ℕ) {j k : ℕ} {p : Place} {s : Sign} {o : Binary} {b : Expr} {r : Tail} → 0 < n → At tok i (Token.sign s) p → In (op s l o) operators → sub (l + 1) d (i + 1) ≡ ok b j → rest_of tok sub (n - 1) l d j ≡ ok r k
        → rest_of tok sub n l d i ≡ ok (Tail.more p o b r) k
    unfolding rest_of
    c_more zero z h q x y = absurd (omega arith)
    c_more (suc n) {j} {k} {p} {s} {o} {b} {r} z h q x y =
        let m : suc n - 1 ≡ n = omega arith in
        let w : rest_of tok sub n l d j ≡ ok r k = ap (λ (m : ℕ). rest_of tok sub m l d j) (sym m) ∙ y in
        let e : level_of (kind tok i) ≡ l = ap level_of (at_sign h) ∙ row_level q in
        let f : means_of (kind tok i) ≡ o = ap means_of (at_sign h) ∙ row_means q in
        rw (eq-eqb (level_of (kind tok i)) l e, x, w, f, at_place h)

  module _ (sub : ℕ → ℕ → ℕ → Out Expr) (d i : ℕ) where
    c_last : (n : ℕ) {j : ℕ} {e : Expr} → 0 < n → sub expr_level d i ≡ ok e j → (kind tok j ≡ sign_kind Sign.comma → ⊥) → exprs_of tok sub n d i ≡ ok (Args.more e Args.none) j
    unfolding exprs_of
    c_last zero z x c = absurd (omega arith)
    c_last (suc n) {j} z x c = rw (x, ne_eqb (kind tok j) (sign_kind Sign.comma) c)

    c_comma : (n : ℕ) {j k : ℕ} {e : Expr} {es : Args} → 0 < n → sub expr_level d i ≡ ok e j → HasSign tok j Sign.comma → exprs_of tok sub (n - 1) d (j + 1) ≡ ok es k → exprs_of tok sub n d i ≡ ok (Args.more e es) k
    unfolding exprs_of
    c_comma zero z x c y = absurd (omega arith)
    c_comma (suc n) {j} {k} {e} {es} z x c y =
        let m : suc n - 1 ≡ n = omega arith in
        let w : exprs_of tok sub n d (j + 1) ≡ ok es k = ap (λ (m : ℕ). exprs_of tok sub m d (j + 1)) (sym m) ∙ y in
        rw (x, eq-eqb (kind tok j) (sign_kind Sign.comma) (sign_kind_lem j c), w)

    c_none : HasSign tok i Sign.right_paren → args_of tok sub d i ≡ ok Args.none i
    unfolding args_of
    c_none c = rw (eq-eqb (kind tok i) (sign_kind Sign.right_paren) (sign_kind_lem i c))

    c_some : {j : ℕ} {es : Args} → (kind tok i ≡ sign_kind Sign.right_paren → ⊥) → exprs_of tok sub many d i ≡ ok es j → args_of tok sub d i ≡ ok es j
    unfolding args_of
    c_some c x = rw (ne_eqb (kind tok i) (sign_kind Sign.right_paren) c, x)

  no_comma : (k : ℕ) → k ≡ sign_kind Sign.right_paren → k ≡ sign_kind Sign.comma → ⊥
  unfolding sign_kind
  no_comma k a b = omega arith

  pub prim_step : (h d i : ℕ) → 0 < h → levelled tok h unary_level d i ≡ primary_of tok (levelled tok (h - 1)) d i
  prim_step h d i z = step h unary_level d i z

  pub chain_step : (h l d i : ℕ) → 0 < h → l < unary_level → levelled tok h l d i ≡ next (levelled tok (h - 1) (l + 1) d i) (λ a j. map (grow a) (rest_of tok (levelled tok (h - 1)) (most l) l d j))
  chain_step h l d i z lt = step h l d i z ∙ ap (λ (b : Bool). pick b (next (levelled tok (h - 1) (l + 1) d i) (λ a j. map (grow a) (rest_of tok (levelled tok (h - 1)) (most l) l d j))) (primary_of tok (levelled tok (h - 1)) d i)) (lt-ltb l unary_level lt)

  record RestDone (h n l d i k : ℕ) (a e : Expr) : Type 0 where
    pub tail : Tail
    pub says : rest_of tok (levelled tok h) n l d i ≡ ok tail k
    pub grown : grow a tail ≡ e

  grow_done : (a : Expr) → grow a Tail.done ≡ a
  unfolding grow
  grow_done a = refl

  grow_more : (a b : Expr) (p : Place) (o : Binary) (r : Tail) → grow a (Tail.more p o b r) ≡ grow (Expr.binary p o a b) r
  unfolding grow
  grow_more a b p o r = refl

  most_one : (l : ℕ) → l ≡ comp_level → most l ≡ 1
  unfolding most
  most_one l e = rw e

  most_many : (l : ℕ) → ¬ (l ≡ comp_level) → most l ≡ many
  unfolding most
  most_many l e = rw (ne_eqb l comp_level e)

  pub two : {A : Type 0} (f : ℕ → Out A) (o : Out A) (i : ℕ) → f (i + 2) ≡ o → f (i + 1 + 1) ≡ o
  two f o i e = let q : i + 1 + 1 ≡ i + 2 = omega arith in ap f q ∙ e

  -- One step of the statements' parser.

  module _ (d i : ℕ) where
    c_ended : {j k : ℕ} {e : Expr} → expr_of tok d i ≡ ok e j → HasSign tok j Sign.semicolon → k ≡ j + 1 → ended_of tok d i ≡ ok e k
    unfolding ended_of
    c_ended {j} x c e = rw (x, eq-eqb (kind tok j) (sign_kind Sign.semicolon) (sign_kind_lem j c), e)

  c_type : (i : ℕ) {t : Ty} → IsType tok i t → type_of tok i ≡ ok t (i + 1)
  unfolding type_of word_kind
  c_type i (IsType.int h) = rw (word_kind_lem i h)
  c_type i (IsType.bool h) = rw (word_kind_lem i h)

  c_typed : (i : ℕ) {x : Name} {p : Place} {t : Ty} → At tok i (Token.name x) p → HasSign tok (i + 1) Sign.colon → IsType tok (i + 2) t → typed_of tok i ≡ ok t (i + 3)
  unfolding typed_of
  c_typed i {t = t} h c x = let q : i + 2 + 1 ≡ i + 3 = omega arith in rw (at_name h, eq-eqb (kind tok (i + 1)) (sign_kind Sign.colon) (sign_kind_lem (i + 1) c), c_type (i + 2) x, q)

  module _ (block : ℕ → ℕ → Out Block) (d i : ℕ) where
    c_declare : {k : ℕ} {p : Place} {x : Name} {t : Ty} {e : Expr} → HasWord tok i Word.«let» → At tok (i + 1) (Token.name x) p → typed_of tok (i + 1) ≡ ok t (i + 4) → HasSign tok (i + 4) Sign.equals → ended_of tok d (i + 5) ≡ ok e k → stmt_of tok block d i ≡ ok (Stmt.declare p x t e) k
    unfolding stmt_of declare_of kind_of word_kind place_in name_in name_of
    c_declare w h y q x = let s : i + 4 + 1 ≡ i + 5 = omega arith in rw (word_kind_lem i w, y, eq-eqb (kind tok (i + 4)) (sign_kind Sign.equals) (sign_kind_lem (i + 4) q), s, x, h)

    c_assign : {k : ℕ} {p : Place} {x : Name} {e : Expr} → At tok i (Token.name x) p → HasSign tok (i + 1) Sign.equals → ended_of tok d (i + 2) ≡ ok e k → stmt_of tok block d i ≡ ok (Stmt.assign p x e) k
    unfolding stmt_of change_of assign_of kind_of place_in name_in name_of
    c_assign h q x = rw (at_name h, eq-eqb (kind tok (i + 1)) (sign_kind Sign.equals) (sign_kind_lem (i + 1) q), x, h)

    c_store : {j k : ℕ} {p : Place} {x : Name} {a e : Expr} → At tok i (Token.name x) p → HasSign tok (i + 1) Sign.left_bracket → index_of tok d (i + 1) ≡ ok a j → HasSign tok j Sign.equals → ended_of tok d (j + 1) ≡ ok e k → stmt_of tok block d i ≡ ok (Stmt.store p x a e) k
    unfolding stmt_of change_of store_of kind_of place_in name_in name_of sign_kind
    c_store {j} h b a q x = rw (at_name h, sign_kind_lem (i + 1) b, a, sign_kind_lem j q, x, h)

    c_run : {j k : ℕ} {p : Place} {x : Name} {es : Args} → At tok i (Token.name x) p → HasSign tok (i + 1) Sign.left_paren → call_of tok d (i + 1) ≡ ok es j → HasSign tok j Sign.semicolon → k ≡ j + 1 → stmt_of tok block d i ≡ ok (Stmt.run p x es) k
    unfolding stmt_of change_of run_of kind_of place_in name_in name_of sign_kind
    c_run {j} h b a q e = rw (at_name h, sign_kind_lem (i + 1) b, a, sign_kind_lem j q, h, e)

    c_leave : {j : ℕ} {p : Place} → At tok i (Token.word Word.return) p → HasSign tok (i + 1) Sign.semicolon → j ≡ i + 2 → stmt_of tok block d i ≡ ok (Stmt.leave p) j
    unfolding stmt_of return_of word_kind place_in
    c_leave h q e = rw (word_kind_lem i (has h), eq-eqb (kind tok (i + 1)) (sign_kind Sign.semicolon) (sign_kind_lem (i + 1) q), h, e)

    c_give : {k : ℕ} {p : Place} {e : Expr} → At tok i (Token.word Word.return) p → (kind tok (i + 1) ≡ sign_kind Sign.semicolon → ⊥) → ended_of tok d (i + 1) ≡ ok e k → stmt_of tok block d i ≡ ok (Stmt.give p e) k
    unfolding stmt_of return_of word_kind place_in
    c_give h q x = rw (word_kind_lem i (has h), ne_eqb (kind tok (i + 1)) (sign_kind Sign.semicolon) q, x, h)

    c_emit : {k : ℕ} {p : Place} {e : Expr} → At tok i (Token.word Word.emit) p → ended_of tok d (i + 1) ≡ ok e k → stmt_of tok block d i ≡ ok (Stmt.emit p e) k
    unfolding stmt_of emit_of word_kind place_in
    c_emit h x = rw (word_kind_lem i (has h), x, h)

    c_while : {j k : ℕ} {p : Place} {e : Expr} {b : Block} → At tok i (Token.word Word.while) p → expr_of tok d (i + 1) ≡ ok e j → block d j ≡ ok b k → stmt_of tok block d i ≡ ok (Stmt.while p e b) k
    unfolding stmt_of while_of word_kind place_in
    c_while h x y = rw (word_kind_lem i (has h), x, y, h)

    c_when : {j k : ℕ} {p : Place} {e : Expr} {b : Block} → At tok i (Token.word Word.if) p → expr_of tok d (i + 1) ≡ ok e j → block d j ≡ ok b k → (kind tok k ≡ word_kind Word.else → ⊥) → stmt_of tok block d i ≡ ok (Stmt.when p e b) k
    unfolding stmt_of if_of else_of word_kind place_in
    c_when {j} {k} h x y n = rw (word_kind_lem i (has h), x, y, ne_eqb (kind tok k) (word_kind Word.else) n, h)

    c_choose : {j k l : ℕ} {p : Place} {e : Expr} {b c : Block} → At tok i (Token.word Word.if) p → expr_of tok d (i + 1) ≡ ok e j → block d j ≡ ok b k → HasWord tok k Word.else → block d (k + 1) ≡ ok c l → stmt_of tok block d i ≡ ok (Stmt.choose p e b c) l
    unfolding stmt_of if_of else_of word_kind place_in
    c_choose {j} {k} h x y w z = rw (word_kind_lem i (has h), x, y, word_kind_lem k w, z, h)

    c_end : (n : ℕ) → 0 < n → HasSign tok i Sign.right_brace → stmts_of tok block n d i ≡ ok Block.end i
    unfolding stmts_of
    c_end zero z c = absurd (omega arith)
    c_end (suc n) z c = rw (eq-eqb (kind tok i) (sign_kind Sign.right_brace) (sign_kind_lem i c))

    c_then : (n : ℕ) {j k : ℕ} {s : Stmt} {b : Block} → 0 < n → (kind tok i ≡ sign_kind Sign.right_brace → ⊥) → stmt_of tok block d i ≡ ok s j → stmts_of tok block (n - 1) d j ≡ ok b k → stmts_of tok block n d i ≡ ok (Block.then s b) k
    unfolding stmts_of
    c_then zero z q x y = absurd (omega arith)
    c_then (suc n) {j} {k} {s} {b} z q x y =
        let m : suc n - 1 ≡ n = omega arith in
        let w : stmts_of tok block n d j ≡ ok b k = ap (λ (m : ℕ). stmts_of tok block m d j) (sym m) ∙ y in
        rw (ne_eqb (kind tok i) (sign_kind Sign.right_brace) q, x, w)

  c_block : (h d i : ℕ) {j k : ℕ} {b : Block} → 0 < h → HasSign tok i Sign.left_brace → d < most_open → stmts_of tok (block_of tok (h - 1)) many (d + 1) (i + 1) ≡ ok b j → HasSign tok j Sign.right_brace → k ≡ j + 1 → block_of tok h d i ≡ ok b k
  unfolding block_of
  c_block zero d i z o dd x c e = absurd (omega arith)
  c_block (suc h) d i {j} {k} {b} z o dd x c e =
      let m : suc h - 1 ≡ h = omega arith in
      let w : stmts_of tok (block_of tok h) many (d + 1) (i + 1) ≡ ok b j = ap (λ (m : ℕ). stmts_of tok (block_of tok m) many (d + 1) (i + 1)) (sym m) ∙ x in
      rw (eq-eqb (kind tok i) (sign_kind Sign.left_brace) (sign_kind_lem i o), lt-ltb d most_open dd, w, eq-eqb (kind tok j) (sign_kind Sign.right_brace) (sign_kind_lem j c), e)

  -- a statement begins with a name or a word, and with no `else`
  record Starts (k : ℕ) : Type 0 where
    pub there : 0 < k
    pub brace : k ≡ sign_kind Sign.right_brace → ⊥
    pub else : k ≡ word_kind Word.else → ⊥

  starts : (k n : ℕ) → k ≡ n → Starts n → Starts k
  starts k n e h = subst Starts (sym e) h

  starts_name : Starts 1
  unfolding sign_kind word_kind
  starts_name = record { there = omega arith; brace = λ w. omega arith; else = λ w. omega arith }

  starts_let : Starts (word_kind Word.«let»)
  unfolding sign_kind word_kind
  starts_let = record { there = omega arith; brace = λ w. omega arith; else = λ w. omega arith }

  starts_if : Starts (word_kind Word.if)
  unfolding sign_kind word_kind
  starts_if = record { there = omega arith; brace = λ w. omega arith; else = λ w. omega arith }

  starts_while : Starts (word_kind Word.while)
  unfolding sign_kind word_kind
  starts_while = record { there = omega arith; brace = λ w. omega arith; else = λ w. omega arith }

  starts_return : Starts (word_kind Word.return)
  unfolding sign_kind word_kind
  starts_return = record { there = omega arith; brace = λ w. omega arith; else = λ w. omega arith }

  starts_emit : Starts (word_kind Word.emit)
  unfolding sign_kind word_kind
  starts_emit = record { there = omega arith; brace = λ w. omega arith; else = λ w. omega arith }

  start : {d i j : ℕ} {s : Stmt} → IsStmt tok d i j s → Starts (kind tok i)
  start {i = i} (IsStmt.declare w h c t q x e k) = starts (kind tok i) _ (word_kind_lem i w) starts_let
  start {i = i} (IsStmt.assign h q x c e) = starts (kind tok i) _ (at_name h) starts_name
  start {i = i} (IsStmt.store h b z x c q y s e) = starts (kind tok i) _ (at_name h) starts_name
  start {i = i} (IsStmt.when h x b) = starts (kind tok i) _ (word_kind_lem i (has h)) starts_if
  start {i = i} (IsStmt.choose h x b w c) = starts (kind tok i) _ (word_kind_lem i (has h)) starts_if
  start {i = i} (IsStmt.while h x b) = starts (kind tok i) _ (word_kind_lem i (has h)) starts_while
  start {i = i} (IsStmt.leave h q e) = starts (kind tok i) _ (word_kind_lem i (has h)) starts_return
  start {i = i} (IsStmt.give h x c e) = starts (kind tok i) _ (word_kind_lem i (has h)) starts_return
  start {i = i} (IsStmt.emit h x c e) = starts (kind tok i) _ (word_kind_lem i (has h)) starts_emit
  start {i = i} (IsStmt.run h b z x c q e) = starts (kind tok i) _ (at_name h) starts_name

  brace_kind : (k : ℕ) → k ≡ sign_kind Sign.right_brace → (0 < k) × (k ≡ word_kind Word.else → ⊥)
  unfolding sign_kind word_kind
  brace_kind k e = (omega arith, λ w. omega arith)

  -- what follows a statement is no `else`
  after_stmt : {d i j : ℕ} {b : Block} → IsStmts tok d i j b → HasSign tok j Sign.right_brace → kind tok i ≡ word_kind Word.else → ⊥
  after_stmt {i = i} IsStmts.end c = (brace_kind (kind tok i) (sign_kind_lem i c)).1
  after_stmt (IsStmts.then x r) c = (start x).else

  mutual
    on_stmt : {d i j : ℕ} {s : Stmt} → IsStmt tok d i j s → i < j
    on_stmt (IsStmt.declare w h c t q x e k) = omega (arith, some x)
    on_stmt (IsStmt.assign h q x c e) = omega (arith, some x)
    on_stmt (IsStmt.store h b z x c q y s e) = omega (arith, some x, some y)
    on_stmt (IsStmt.when h x b) = omega (arith, some x, on_block b)
    on_stmt (IsStmt.choose h x b w c) = omega (arith, some x, on_block b, on_block c)
    on_stmt (IsStmt.while h x b) = omega (arith, some x, on_block b)
    on_stmt (IsStmt.leave h q e) = omega arith
    on_stmt (IsStmt.give h x c e) = omega (arith, some x)
    on_stmt (IsStmt.emit h x c e) = omega (arith, some x)
    on_stmt (IsStmt.run h b z x c q e) = omega (arith, ons x)

    on_stmts : {d i j : ℕ} {b : Block} → IsStmts tok d i j b → i ≤ j
    on_stmts IsStmts.end = omega arith
    on_stmts (IsStmts.then x r) = omega (arith, on_stmt x, on_stmts r)

    on_block : {d i j : ℕ} {b : Block} → IsBlock tok d i j b → i < j
    on_block (IsBlock.block o z x c e) = omega (arith, on_stmts x)

  open_brace : {d i j : ℕ} {b : Block} → IsBlock tok d i j b → HasSign tok i Sign.left_brace
  open_brace (IsBlock.block o z x c e) = o

  module _ (few : (k : ℕ) → many ≤ k → tok k ≡ Option.none) where
    none_kind : (k : ℕ) → many ≤ k → kind tok k ≡ 0
    unfolding kind_in
    none_kind k h = rw (few k h)

    -- a token that is there stands early
    early : (i : ℕ) → 0 < kind tok i → i < many
    early i h = elim (dec_lt i many) [ yes p ↦ p | no p ↦ absurd (omega (arith, none_kind i (omega arith))) ]

    sign_early : (i : ℕ) {s : Sign} {l : ℕ} {o : Binary} {p : Place} → At tok i (Token.sign s) p → In (op s l o) operators → 0 < l → i < many
    sign_early i {s} {l} h q z = elim (dec_lt i many) [ yes p ↦ p | no n ↦ absurd (omega (arith, level_none (kind tok i) (none_kind i (omega arith)), ap level_of (at_sign h), row_level q)) ]

    mutual
      pub complete : {l d i j : ℕ} {e : Expr} → IsExpr tok l d i j e → (h : ℕ) → d ≤ most_open → 231 ≤ h + l + 7 * d → Follows l (kind tok j) → levelled tok h l d i ≡ ok e j
      complete {l} {d} {i} {j} {e} (IsExpr.chain {a = a} lt x r) h dd f z =
          let s = rest_complete r (h - 1) (most l) dd (omega arith) lt (most_one l) (λ e. omega (arith, most_many l e)) z in
          chain_step h l d i (omega arith) lt
          ∙ ap (λ (w : Out Expr). next w (λ a j. map (grow a) (rest_of tok (levelled tok (h - 1)) (most l) l d j))) (complete x (h - 1) dd (omega arith) (after (omega (arith, z.low)) r z))
          ∙ ap (map (grow a)) s.says ∙ ap (λ (w : Expr). ok w j) s.grown
      complete {l} {d} {i} {j} (IsExpr.unary p q r x) h dd f z = prim_step h d i (omega arith) ∙ c_unary (levelled tok (h - 1)) d i p q r (complete x (h - 1) (omega arith) (omega arith) z)
      complete {l} {d} {i} {j} (IsExpr.number p e) h dd f z = prim_step h d i (omega arith) ∙ c_number (levelled tok (h - 1)) d i p e
      complete {l} {d} {i} {j} (IsExpr.true p e) h dd f z = prim_step h d i (omega arith) ∙ c_true (levelled tok (h - 1)) d i p e
      complete {l} {d} {i} {j} (IsExpr.false p e) h dd f z = prim_step h d i (omega arith) ∙ c_false (levelled tok (h - 1)) d i p e
      complete {l} {d} {i} {j} (IsExpr.name p e) h dd f z = prim_step h d i (omega arith) ∙ c_name (levelled tok (h - 1)) d i p e z
      complete {l} {d} {i} {j} (IsExpr.element {j = k} {e = a} p b r x c e) h dd f z =
          prim_step h d i (omega arith)
          ∙ c_element (levelled tok (h - 1)) d i p b (c_enclosed (levelled tok (h - 1)) d (i + 1) Sign.right_bracket r
          (two (levelled tok (h - 1) expr_level (d + 1)) (ok a k) i (complete x (h - 1) (omega arith) (omega arith) (ends_follow Sign.right_bracket close_bracket expr_level (kind tok k) (omega arith) (sign_kind_lem k c)))) c e)
      complete {l} {d} {i} {j} (IsExpr.call {j = k} {es = es} p b r x c e) h dd f z =
          prim_step h d i (omega arith)
          ∙ c_call (levelled tok (h - 1)) d i p b (c_arguments (levelled tok (h - 1)) d (i + 1) r (two (args_of tok (levelled tok (h - 1)) (d + 1)) (ok es k) i (args_complete x (h - 1) (omega arith) (omega arith) c)) c e)
      complete {l} {d} {i} {j} (IsExpr.parens {j = k} b r x c e) h dd f z =
          prim_step h d i (omega arith)
          ∙ c_parens (levelled tok (h - 1)) d i b (c_enclosed (levelled tok (h - 1)) d i Sign.right_paren r (complete x (h - 1) (omega arith) (omega arith) (ends_follow Sign.right_paren close_paren expr_level (kind tok k) (omega arith) (sign_kind_lem k c))) c e)

      args_complete : {d i j : ℕ} {es : Args} → IsArgs tok d i j es → (h : ℕ) → d ≤ most_open → 230 ≤ h + 7 * d → HasSign tok j Sign.right_paren → args_of tok (levelled tok h) d i ≡ ok es j
      args_complete {d} {i} IsArgs.none h dd f c = c_none (levelled tok h) d i c
      args_complete {d} {i} (IsArgs.some x) h dd f c = c_some (levelled tok h) d i (first_of x).unclosed (exprs_complete x h many dd f (omega arith) c)

      rest_complete : {l d i k : ℕ} {a e : Expr} → IsRest tok l d i k a e → (h n : ℕ) → d ≤ most_open → 231 ≤ h + (l + 1) + 7 * d → l < unary_level → (l ≡ comp_level → n ≡ 1) → (¬ (l ≡ comp_level) → many ≤ i + n)
          → Follows l (kind tok k) → RestDone h n l d i k a e
      rest_complete {l} {d} {i} {k} {a} {e} IsRest.done h n dd f lt o m z = record { tail = Tail.done; says = c_done (levelled tok h) l d i n z.low; grown = grow_done a }
      rest_complete {l} {d} {i} {k} {a} {e} (IsRest.again {j = j} {p = p} {o = s} {b = b} ne q r x y) h n dd f lt o m z =
          let w = rest_complete y h (n - 1) dd f lt (λ e. absurd (ne e)) (λ e. omega (arith, m ne, some x)) z in
          record {
            tail = Tail.more p s b w.tail;
            says = c_more (levelled tok h) l d i n (omega (arith, m ne, sign_early i q r (omega (arith, z.low)))) q r (complete x h dd f (after (omega (arith, z.low)) y z)) w.says;
            grown = grow_more a b p s w.tail ∙ w.grown;
          }
      rest_complete {l} {d} {i} {k} {a} {e} (IsRest.once {p = p} {o = s} {b = b} q r t x) h n dd f lt o m z =
          record {
            tail = Tail.more p s b Tail.done;
            says = c_more (levelled tok h) l d i n (omega (arith, o q)) r t (complete x h dd f (follows_on (omega arith) z)) (c_done (levelled tok h) l d k (n - 1) z.low);
            grown = grow_more a b p s Tail.done ∙ grow_done (Expr.binary p s a b);
          }

      exprs_complete : {d i k : ℕ} {es : Args} → IsExprs tok d i k es → (h n : ℕ) → d ≤ most_open → 230 ≤ h + 7 * d → many ≤ i + n → HasSign tok k Sign.right_paren → exprs_of tok (levelled tok h) n d i ≡ ok es k
      exprs_complete {d} {i} {k} (IsExprs.last x) h n dd f m c =
          c_last (levelled tok h) d i n (omega (arith, early i (first x).there)) (complete x h dd (omega arith) (ends_follow Sign.right_paren close_paren expr_level (kind tok k) (omega arith) (sign_kind_lem k c))) (no_comma (kind tok k) (sign_kind_lem k c))
      exprs_complete {d} {i} {k} (IsExprs.comma {j = j} x q r) h n dd f m c =
          c_comma (levelled tok h) d i n (omega (arith, early i (first x).there)) (complete x h dd (omega arith) (ends_follow Sign.comma comma expr_level (kind tok j) (omega arith) (sign_kind_lem j q))) q (exprs_complete r h (n - 1) dd f (omega (arith, some x)) c)

    expr_complete : {d i j : ℕ} {e : Expr} → IsExpr tok expr_level d i j e → d ≤ most_open → Follows expr_level (kind tok j) → expr_of tok d i ≡ ok e j
    unfolding expr_of
    expr_complete x dd f = complete x expr_steps dd (omega arith) f

    ended_complete : {d i j k : ℕ} {e : Expr} → IsExpr tok expr_level d i j e → d ≤ most_open → HasSign tok j Sign.semicolon → k ≡ j + 1 → ended_of tok d i ≡ ok e k
    ended_complete {d} {i} {j} x dd c e = c_ended d i (expr_complete x dd (ends_follow Sign.semicolon semicolon expr_level (kind tok j) (omega arith) (sign_kind_lem j c))) c e

    cond_complete : {d i j k : ℕ} {e : Expr} {b : Block} → IsExpr tok expr_level d i j e → d ≤ most_open → IsBlock tok d j k b → expr_of tok d i ≡ ok e j
    cond_complete {j = j} x dd b = expr_complete x dd (ends_follow Sign.left_brace brace expr_level (kind tok j) (omega arith) (sign_kind_lem j (open_brace b)))

    index_complete : (i : ℕ) {d j k : ℕ} {e : Expr} → IsExpr tok expr_level (d + 1) (i + 2) j e → d < most_open → HasSign tok j Sign.right_bracket → k ≡ j + 1 → index_of tok d (i + 1) ≡ ok e k
    unfolding index_of
    index_complete i {d} {j} {k} {e} x z c q =
        c_enclosed (levelled tok expr_steps) d (i + 1) Sign.right_bracket z
        (two (levelled tok expr_steps expr_level (d + 1)) (ok e j) i (complete x expr_steps (omega arith) (omega arith) (ends_follow Sign.right_bracket close_bracket expr_level (kind tok j) (omega arith) (sign_kind_lem j c)))) c q

    call_complete : (i : ℕ) {d j k : ℕ} {es : Args} → IsArgs tok (d + 1) (i + 2) j es → d < most_open → HasSign tok j Sign.right_paren → k ≡ j + 1 → call_of tok d (i + 1) ≡ ok es k
    unfolding call_of
    call_complete i {d} {j} {k} {es} x z c q =
        c_arguments (levelled tok expr_steps) d (i + 1) z (two (args_of tok (levelled tok expr_steps) (d + 1)) (ok es j) i (args_complete x expr_steps (omega arith) (omega arith) c)) c q

    mutual
      stmt_complete : {d i j : ℕ} {s : Stmt} → IsStmt tok d i j s → (h : ℕ) → d ≤ most_open → 33 ≤ h + d → (kind tok j ≡ word_kind Word.else → ⊥) → stmt_of tok (block_of tok h) d i ≡ ok s j
      stmt_complete {d} {i} {j} (IsStmt.declare {p = p} {x = x} {t = t} w n c y q e s k) h dd f z =
          let a : i + 1 + 1 ≡ i + 2 = omega arith in
          let b : i + 1 + 2 ≡ i + 3 = omega arith in
          let g : i + 1 + 3 ≡ i + 4 = omega arith in
          c_declare (block_of tok h) d i w n (c_typed (i + 1) n (subst (λ (m : ℕ). HasSign tok m Sign.colon) (sym a) c) (subst (λ (m : ℕ). IsType tok m t) (sym b) y) ∙ ap (ok t) g) q (ended_complete e dd s k)
      stmt_complete {d} {i} {j} (IsStmt.assign n q e s k) h dd f z = c_assign (block_of tok h) d i n q (ended_complete e dd s k)
      stmt_complete {d} {i} {j} (IsStmt.store {j = m} {a = a} n b r x c q e s k) h dd f z =
          let g : m + 1 + 1 ≡ m + 2 = omega arith in
          c_store (block_of tok h) d i n b (index_complete i x r c refl) q (ap (ended_of tok d) g ∙ ended_complete e dd s k)
      stmt_complete {d} {i} {j} (IsStmt.when n x b) h dd f z = c_when (block_of tok h) d i n (cond_complete x dd b) (block_complete b h f) z
      stmt_complete {d} {i} {j} (IsStmt.choose n x b w c) h dd f z = c_choose (block_of tok h) d i n (cond_complete x dd b) (block_complete b h f) w (block_complete c h f)
      stmt_complete {d} {i} {j} (IsStmt.while n x b) h dd f z = c_while (block_of tok h) d i n (cond_complete x dd b) (block_complete b h f)
      stmt_complete {d} {i} {j} (IsStmt.leave n q e) h dd f z = c_leave (block_of tok h) d i n q e
      stmt_complete {d} {i} {j} (IsStmt.give n x c e) h dd f z = c_give (block_of tok h) d i n (first x).unended (ended_complete x dd c e)
      stmt_complete {d} {i} {j} (IsStmt.emit n x c e) h dd f z = c_emit (block_of tok h) d i n (ended_complete x dd c e)
      stmt_complete {d} {i} {j} (IsStmt.run {j = m} n b r x c q e) h dd f z =
          let g : j ≡ m + 1 + 1 = e ∙ omega arith in
          c_run (block_of tok h) d i n b (call_complete i x r c refl) q g

      stmts_complete : {d i k : ℕ} {b : Block} → IsStmts tok d i k b → (h n : ℕ) → d ≤ most_open → 33 ≤ h + d → many ≤ i + n → HasSign tok k Sign.right_brace → stmts_of tok (block_of tok h) n d i ≡ ok b k
      stmts_complete {d} {i} {k} IsStmts.end h n dd f m c = c_end (block_of tok h) d i n (omega (arith, early i (brace_kind (kind tok i) (sign_kind_lem i c)).0)) c
      stmts_complete {d} {i} {k} (IsStmts.then {j = j} x r) h n dd f m c =
          c_then (block_of tok h) d i n (omega (arith, early i (start x).there)) (start x).brace (stmt_complete x h dd f (after_stmt r c)) (stmts_complete r h (n - 1) dd f (omega (arith, on_stmt x)) c)

      pub block_complete : {d i k : ℕ} {b : Block} → IsBlock tok d i k b → (h : ℕ) → 33 ≤ h + d → block_of tok h d i ≡ ok b k
      block_complete {d} {i} {k} (IsBlock.block o z x c e) h f = c_block h d i (omega arith) o z (stmts_complete x (h - 1) many (omega arith) (omega arith) (omega arith) c) c e

    -- Arrays and functions.

    param_complete : {i j : ℕ} {x : Param} → IsParam tok i j x → param_of tok i ≡ ok x j
    unfolding param_of place_in name_in name_of
    param_complete {i} {j} (IsParam.param h c t e) = rw (c_typed i h c t, h, e)

    c_param_last : (n i : ℕ) {j : ℕ} {x : Param} → 0 < n → param_of tok i ≡ ok x j → (kind tok j ≡ sign_kind Sign.comma → ⊥) → param_list_of tok n i ≡ ok (x ∷ []) j
    unfolding param_list_of
    c_param_last zero i z x c = absurd (omega arith)
    c_param_last (suc n) i {j} z x c = rw (x, ne_eqb (kind tok j) (sign_kind Sign.comma) c)

    c_param_comma : (n i : ℕ) {j k : ℕ} {x : Param} {xs : List Param} → 0 < n → param_of tok i ≡ ok x j → HasSign tok j Sign.comma → param_list_of tok (n - 1) (j + 1) ≡ ok xs k → param_list_of tok n i ≡ ok (x ∷ xs) k
    unfolding param_list_of
    c_param_comma zero i z x c y = absurd (omega arith)
    c_param_comma (suc n) i {j} {k} {x} {xs} z h c y =
        let m : suc n - 1 ≡ n = omega arith in
        let w : param_list_of tok n (j + 1) ≡ ok xs k = ap (λ (m : ℕ). param_list_of tok m (j + 1)) (sym m) ∙ y in
        rw (h, eq-eqb (kind tok j) (sign_kind Sign.comma) (sign_kind_lem j c), w)

    param_first : {i j : ℕ} {x : Param} → IsParam tok i j x → (kind tok i ≡ 1) × (i < j)
    param_first (IsParam.param h c t e) = (at_name h, omega arith)

    list_first : {i j : ℕ} {xs : List Param} → IsParamList tok i j xs → kind tok i ≡ 1
    list_first (IsParamList.last x) = (param_first x).0
    list_first (IsParamList.comma x c r) = (param_first x).0

    list_complete : {i k : ℕ} {xs : List Param} → IsParamList tok i k xs → (n : ℕ) → many ≤ i + n → HasSign tok k Sign.right_paren → param_list_of tok n i ≡ ok xs k
    list_complete {i} {k} (IsParamList.last x) n m c = c_param_last n i (omega (arith, early i (omega (arith, (param_first x).0)))) (param_complete x) (no_comma (kind tok k) (sign_kind_lem k c))
    list_complete {i} {k} (IsParamList.comma x q r) n m c = c_param_comma n i (omega (arith, early i (omega (arith, (param_first x).0)))) (param_complete x) q (list_complete r (n - 1) (omega (arith, (param_first x).1)) c)

    name_paren : (k : ℕ) → k ≡ 1 → k ≡ sign_kind Sign.right_paren → ⊥
    unfolding sign_kind
    name_paren k a b = omega arith

    params_complete : {i k : ℕ} {xs : List Param} → IsParams tok i k xs → HasSign tok k Sign.right_paren → params_of tok i ≡ ok xs k
    unfolding params_of
    params_complete {i} IsParams.none c = rw (eq-eqb (kind tok i) (sign_kind Sign.right_paren) (sign_kind_lem i c))
    params_complete {i} (IsParams.some x) c = rw (ne_eqb (kind tok i) (sign_kind Sign.right_paren) (name_paren (kind tok i) (list_first x)), list_complete x many (omega arith) c)

    brace_colon : (k : ℕ) → k ≡ sign_kind Sign.left_brace → k ≡ sign_kind Sign.colon → ⊥
    unfolding sign_kind
    brace_colon k a b = omega arith

    result_complete : {i k : ℕ} {t : Option Ty} → IsResult tok i k t → HasSign tok k Sign.left_brace → result_of tok i ≡ ok t k
    unfolding result_of
    result_complete {i} IsResult.none c = rw (ne_eqb (kind tok i) (sign_kind Sign.colon) (brace_colon (kind tok i) (sign_kind_lem i c)))
    result_complete {i} (IsResult.some q t e) c = let g : i + 1 + 1 ≡ i + 2 = omega arith in rw (eq-eqb (kind tok i) (sign_kind Sign.colon) (sign_kind_lem i q), c_type (i + 1) t, e, g)

    size_step : (i : ℕ) {n : ℕ} → HasSign tok (i + 4) Sign.left_bracket → Has tok (i + 5) (Token.number n) → HasSign tok (i + 6) Sign.right_bracket → HasSign tok (i + 7) Sign.semicolon → size_of tok (i + 4) ≡ ok n (i + 8)
    unfolding size_of
    size_step i {n} a m b s =
        let f : i + 4 + 1 ≡ i + 5 = omega arith in
        let g : i + 4 + 2 ≡ i + 6 = omega arith in
        let h : i + 4 + 3 ≡ i + 7 = omega arith in
        let k : i + 4 + 4 ≡ i + 8 = omega arith in
        rw (eq-eqb (kind tok (i + 4)) (sign_kind Sign.left_bracket) (sign_kind_lem (i + 4) a), f, g, h, k, num_kind (i + 5) m, eq-eqb (kind tok (i + 6)) (sign_kind Sign.right_bracket) (sign_kind_lem (i + 6) b), eq-eqb (kind tok (i + 7)) (sign_kind Sign.semicolon) (sign_kind_lem (i + 7) s), number_has (tok (i + 5)) m)

    array_step : (i : ℕ) {j n : ℕ} {p : Place} {x : Name} → HasWord tok i Word.var → At tok (i + 1) (Token.name x) p → HasSign tok (i + 2) Sign.colon → HasWord tok (i + 3) Word.int → size_of tok (i + 4) ≡ ok n (i + 8) → j ≡ i + 8 → item_of tok i ≡ ok (Item.array p x n) j
    unfolding item_of array_of place_in name_in name_of
    array_step i w h c t z e =
        rw (eq-eqb (kind tok i) (word_kind Word.var) (word_kind_lem i w), at_name h, eq-eqb (kind tok (i + 2)) (sign_kind Sign.colon) (sign_kind_lem (i + 2) c), eq-eqb (kind tok (i + 3)) (word_kind Word.int) (word_kind_lem (i + 3) t), z, h, e)

    function_step : (i : ℕ) {j k l : ℕ} {p : Place} {x : Name} {xs : List Param} {t : Option Ty} {b : Block} → HasWord tok i Word.fn → At tok (i + 1) (Token.name x) p → HasSign tok (i + 2) Sign.left_paren → params_of tok (i + 3) ≡ ok xs j → HasSign tok j Sign.right_paren → result_of tok (j + 1) ≡ ok t k → block_of tok block_steps 0 k ≡ ok b l
        → item_of tok i ≡ ok (Item.function p x xs t b) l
    unfolding item_of function_of body_of place_in name_in name_of word_kind
    function_step i {j} w h a x c t b =
        rw (word_kind_lem i w, at_name h, eq-eqb (kind tok (i + 2)) (sign_kind Sign.left_paren) (sign_kind_lem (i + 2) a), x, eq-eqb (kind tok j) (sign_kind Sign.right_paren) (sign_kind_lem j c), t, b, h)

    item_complete : {i j : ℕ} {x : Item} → IsItem tok i j x → (item_of tok i ≡ ok x j) × (i < j)
    item_complete {i} {j} (IsItem.array w h c t a m b s e) = (array_step i w h c t (size_step i a m b s) e, omega arith)
    item_complete {i} {j} (IsItem.function {j = m} {k = k} w h a x c t b) = (function_step i w h a (params_complete x c) c (result_complete t (open_brace b)) (block_complete b block_steps (omega arith)), omega (arith, on_params x, on_result t, on_block b))
      where
        on_list : {i j : ℕ} {xs : List Param} → IsParamList tok i j xs → i < j
        on_list (IsParamList.last x) = (param_first x).1
        on_list (IsParamList.comma x c r) = omega (arith, (param_first x).1, on_list r)

        on_params : {i j : ℕ} {xs : List Param} → IsParams tok i j xs → i ≤ j
        on_params IsParams.none = omega arith
        on_params (IsParams.some x) = omega (arith, on_list x)

        on_result : {i j : ℕ} {t : Option Ty} → IsResult tok i j t → i ≤ j
        on_result IsResult.none = omega arith
        on_result (IsResult.some c t e) = omega arith

    c_items_end : (count n i : ℕ) → 0 < n → i ≡ count → items_of tok count n i ≡ ok [] i
    unfolding items_of
    c_items_end count zero i z e = absurd (omega arith)
    c_items_end count (suc n) i z e = rw (eq-eqb i count e)

    c_items_then : (count n i : ℕ) {j k : ℕ} {x : Item} {xs : List Item} → 0 < n → (i ≡ count → ⊥) → item_of tok i ≡ ok x j → items_of tok count (n - 1) j ≡ ok xs k → items_of tok count n i ≡ ok (x ∷ xs) k
    unfolding items_of
    c_items_then count zero i z q x y = absurd (omega arith)
    c_items_then count (suc n) i {j} {k} {x} {xs} z q h y =
        let m : suc n - 1 ≡ n = omega arith in
        let w : items_of tok count n j ≡ ok xs k = ap (λ (m : ℕ). items_of tok count m j) (sym m) ∙ y in
        rw (ne_eqb i count q, h, w)

    on_items : {i j : ℕ} {xs : List Item} → IsItems tok i j xs → i ≤ j
    on_items IsItems.end = omega arith
    on_items (IsItems.then x r) = omega (arith, (item_complete x).1, on_items r)

    pub items_complete : {i k : ℕ} {xs : List Item} → IsItems tok i k xs → (n : ℕ) → k ≤ many → suc many ≤ i + n → items_of tok k n i ≡ ok xs k
    items_complete {i} {k} IsItems.end n m f = c_items_end k n i (omega arith) refl
    items_complete {i} {k} (IsItems.then x r) n m f =
        c_items_then k n i (omega (arith, (item_complete x).1, on_items r)) (λ e. omega (arith, (item_complete x).1, on_items r)) (item_complete x).0 (items_complete r (n - 1) m (omega (arith, (item_complete x).1)))

-- past the end of a list
pub past : (ts : List Placed) (k : ℕ) → length ts ≤ k → nth ts k ≡ Option.none
unfolding nth
past [] k h = refl
past (t ∷ ts) zero h = absurd (omega arith)
past (t ∷ ts) (suc k) h = past ts k (omega arith)

-- A tree that derives is read.
pub program_complete : (ts : List Placed) (items : List Item) → length ts ≤ many → Program ts items → program_of ts ≡ ok items (length ts)
unfolding program_of
program_complete ts items h x = items_complete (nth ts) (λ k q. past ts k (omega arith)) x (suc many) h (omega arith)
