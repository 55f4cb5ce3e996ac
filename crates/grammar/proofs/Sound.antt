-- What the parser reads derives: each clause of it is a constructor of the grammar.
use mathlib.Core.Path.{◌≡◌, refl, subst, ◌∙◌}
use mathlib.Core.List.{List}
use mathlib.Core.Option.{Option}
use Prim.Native.Nat.{ℕ, zero, suc, ◌+◌, ◌≤◌, ◌<◌}
use native.Mathlib.Omega.{arith}
use native.Mathlib.Decide.{ℕ_discrete}
use lib.Dec.{ltb, eqb}
use lib.ListN.{length}
use borrow.Author.Tests.{eqb-true, ltb-true, ltb-false}
use Rattle.word.specs.Choice.{pick}
use Rattle.language.specs.Tree.{Ty, Unary, Expr, Args, Stmt, Block, Param, Item}
use Rattle.language.specs.Tokens.{Word, Sign, Token, Placed, In}
use Rattle.language.specs.Grammar.{op, operators, unaries, most_open, expr_level, comp_level, unary_level, nth, At, Has, HasSign, HasWord, IsExpr, IsRest, IsArgs, IsExprs, IsType, IsStmt, IsStmts, IsBlock, IsParam, IsParamList, IsParams, IsResult, IsItem, IsItems, Program}
use Rattle.tokens.specs.Kinds.{sign_kind}
use Rattle.tokens.proofs.Lists.{pick_g}
use Rattle.grammar.specs.Parse.{Out, Out.ok, Out.bad, next, map, kind, place_of, name_at, number_at, is_sign, is_word, is_name, is_number, level_of, means_of, many, most, Tail, grow, expr_steps, block_steps, expect, opening}
use Rattle.grammar.specs.Parse.{rest_of, exprs_of, args_of, arguments_of, enclosed_of, named_of, unary_of, primary_of, levelled, expr_of, index_of, call_of, ended_of, type_of, typed_of, declare_of, assign_of, store_of, run_of, change_of, return_of, emit_of, while_of, else_of, if_of, stmt_of, stmts_of, block_of, param_of, param_list_of, params_of, result_of, size_of, array_of, body_of, function_of, item_of, items_of, program_of}
use Rattle.grammar.proofs.TokenKinds.{sign_at, word_at, name_at_lem, number_at_lem, has, Row, row_found}

-- A property of what is read; a refusal has every one.

abbrev pub Good : {A : Type 0} → (A → ℕ → Type 0) → Out A → Type 0
Good P (ok a j) = P a j
Good P (bad p) = Unit {0}

pub next_g : {A B : Type 0} (P : A → ℕ → Type 0) (Q : B → ℕ → Type 0) (o : Out A) (f : A → ℕ → Out B) → Good P o → ((a : A) (j : ℕ) → P a j → Good Q (f a j)) → Good Q (next o f)
next_g P Q (ok a j) f h k = k a j h
next_g P Q (bad p) f h k = tt

pub map_g : {A B : Type 0} (P : A → ℕ → Type 0) (Q : B → ℕ → Type 0) (o : Out A) (f : A → B) → Good P o → ((a : A) (j : ℕ) → P a j → Q (f a) j) → Good Q (map f o)
map_g P Q (ok a j) f h k = k a j h
map_g P Q (bad p) f h k = tt

module _ (tok : ℕ → Option Placed) where
  -- Tests.

  sign_g : {A : Type 0} (Q : A → ℕ → Type 0) (i : ℕ) (s : Sign) (x y : Out A) → (At tok i (Token.sign s) (place_of tok i) → Good Q x) → Good Q y → Good Q (pick (is_sign tok i s) x y)
  sign_g Q i s x y f g = pick_g (Good Q) (is_sign tok i s) x y (λ e. f (sign_at s (tok i) (eqb-true _ _ e))) (λ _. g)

  word_g : {A : Type 0} (Q : A → ℕ → Type 0) (i : ℕ) (w : Word) (x y : Out A) → (At tok i (Token.word w) (place_of tok i) → Good Q x) → Good Q y → Good Q (pick (is_word tok i w) x y)
  word_g Q i w x y f g = pick_g (Good Q) (is_word tok i w) x y (λ e. f (word_at w (tok i) (eqb-true _ _ e))) (λ _. g)

  name_g : {A : Type 0} (Q : A → ℕ → Type 0) (i : ℕ) (x y : Out A) → (At tok i (Token.name (name_at tok i)) (place_of tok i) → Good Q x) → Good Q y → Good Q (pick (is_name tok i) x y)
  name_g Q i x y f g = pick_g (Good Q) (is_name tok i) x y (λ e. f (name_at_lem (tok i) (eqb-true _ _ e))) (λ _. g)

  number_g : {A : Type 0} (Q : A → ℕ → Type 0) (i : ℕ) (x y : Out A) → (At tok i (Token.number (number_at tok i)) (place_of tok i) → Good Q x) → Good Q y → Good Q (pick (is_number tok i) x y)
  number_g Q i x y f g = pick_g (Good Q) (is_number tok i) x y (λ e. f (number_at_lem (tok i) (eqb-true _ _ e))) (λ _. g)

  expect_g : {A : Type 0} (Q : A → ℕ → Type 0) (i : ℕ) (s : Sign) (x : Out A) → (HasSign tok i s → Good Q x) → Good Q (expect tok i s x)
  expect_g Q i s x f = sign_g Q i s x (bad i) (λ a. f (has a)) tt

  opening_g : {A : Type 0} (Q : A → ℕ → Type 0) (d i : ℕ) (x : Out A) → (d < most_open → Good Q x) → Good Q (opening tok d i x)
  opening_g Q d i x f = pick_g (Good Q) (ltb d most_open) x (bad i) (λ e. f (ltb-true _ _ e)) (λ _. tt)

  -- Expressions.

  abbrev pub ExprIs : ℕ → ℕ → ℕ → Expr → ℕ → Type 0
  ExprIs l d i e j = IsExpr tok l d i j e

  abbrev RestIs : ℕ → ℕ → ℕ → Tail → ℕ → Type 0
  RestIs l d i r j = (a : Expr) → IsRest tok l d i j a (grow a r)

  abbrev ExprsIs : ℕ → ℕ → Args → ℕ → Type 0
  ExprsIs d i es j = IsExprs tok d i j es

  abbrev ArgsIs : ℕ → ℕ → Args → ℕ → Type 0
  ArgsIs d i es j = IsArgs tok d i j es

  -- a bracketed thing: what is inside, and the sign that closes
  record Enclosed (s : Sign) (d i : ℕ) (e : Expr) (k : ℕ) : Type 0 where
    pub depth : d < most_open
    pub end : ℕ
    pub inside : IsExpr tok expr_level (d + 1) (i + 1) end e
    pub close : HasSign tok end s
    pub after : k ≡ end + 1

  record Arguments (d i : ℕ) (es : Args) (k : ℕ) : Type 0 where
    pub depth : d < most_open
    pub end : ℕ
    pub inside : IsArgs tok (d + 1) (i + 1) end es
    pub close : HasSign tok end Sign.right_paren
    pub after : k ≡ end + 1

  module _ (sub : ℕ → ℕ → ℕ → Out Expr) (S : (l d i : ℕ) → 0 < l → l ≤ unary_level → Good (ExprIs l d i) (sub l d i)) where
    stay : (l d i : ℕ) → RestIs l d i Tail.done i
    unfolding grow
    stay l d i a = IsRest.done

    -- an operator of the level
    operator : (l i : ℕ) → 0 < l → level_of (kind tok i) ≡ l → (Q : Type 0) → ((s : Sign) → At tok i (Token.sign s) (place_of tok i) → In (op s l (means_of (kind tok i))) operators → Q) → Q
    unfolding level_of means_of
    operator l i z e Q f = let r : Row operators (kind tok i) l = row_found operators (kind tok i) l e z in f r.spelt (sign_at r.spelt (tok i) r.kind) r.row

    step_again : (l d i j : ℕ) (b : Expr) (r : Tail) (k : ℕ) → 0 < l → ¬ (l ≡ comp_level) → level_of (kind tok i) ≡ l → IsExpr tok (l + 1) d (i + 1) j b → RestIs l d j r k → RestIs l d i (Tail.more (place_of tok i) (means_of (kind tok i)) b r) k
    unfolding grow
    step_again l d i j b r k z ne e x h a = operator l i z e _ (λ s p q. IsRest.again ne p q x (h (Expr.binary (place_of tok i) (means_of (kind tok i)) a b)))

    step_once : (l d i j : ℕ) (b : Expr) → 0 < l → l ≡ comp_level → level_of (kind tok i) ≡ l → IsExpr tok (l + 1) d (i + 1) j b → RestIs l d i (Tail.more (place_of tok i) (means_of (kind tok i)) b Tail.done) j
    unfolding grow
    step_once l d i j b z q e x a = operator l i z e _ (λ s p r. IsRest.once q p r x)

    rest_sound : (n l d i : ℕ) → 0 < l → l < unary_level → (l ≡ comp_level → n ≤ 1) → Good (RestIs l d i) (rest_of tok sub n l d i)
    unfolding rest_of
    rest_sound zero l d i z h lim = stay l d i
    rest_sound (suc zero) l d i z h lim =
        pick_g (Good (RestIs l d i)) (eqb (level_of (kind tok i)) l) _ _
        (λ q. next_g (ExprIs (l + 1) d (i + 1)) (RestIs l d i) (sub (l + 1) d (i + 1)) _ (S (l + 1) d (i + 1) (omega arith) (omega arith)) (λ b j x.
        elim (ℕ_discrete l comp_level) [
          | yes p ↦ step_once l d i j b z p (eqb-true _ _ q) x
          | no p ↦ step_again l d i j b Tail.done j z p (eqb-true _ _ q) x (stay l d j)
        ]))
        (λ _. stay l d i)
    rest_sound (suc (suc n)) l d i z h lim =
        pick_g (Good (RestIs l d i)) (eqb (level_of (kind tok i)) l) _ _
        (λ q. next_g (ExprIs (l + 1) d (i + 1)) (RestIs l d i) (sub (l + 1) d (i + 1)) _ (S (l + 1) d (i + 1) (omega arith) (omega arith)) (λ b j x.
        map_g (RestIs l d j) (RestIs l d i) (rest_of tok sub (suc n) l d j) _ (rest_sound (suc n) l d j z h (λ p. absurd (omega (arith, lim p)))) (λ r k y.
        step_again l d i j b r k z (λ p. absurd (omega (arith, lim p))) (eqb-true _ _ q) x y)))
        (λ _. stay l d i)

    exprs_sound : (n d i : ℕ) → Good (ExprsIs d i) (exprs_of tok sub n d i)
    unfolding exprs_of
    exprs_sound zero d i = tt
    exprs_sound (suc n) d i =
        next_g (ExprIs expr_level d i) (ExprsIs d i) (sub expr_level d i) _ (S expr_level d i (omega arith) (omega arith)) (λ e j x.
        sign_g (ExprsIs d i) j Sign.comma _ _ (λ c. map_g (ExprsIs d (j + 1)) (ExprsIs d i) (exprs_of tok sub n d (j + 1)) _ (exprs_sound n d (j + 1)) (λ es k y. IsExprs.comma x (has c) y)) (IsExprs.last x))

    args_sound : (d i : ℕ) → Good (ArgsIs d i) (args_of tok sub d i)
    unfolding args_of
    args_sound d i = sign_g (ArgsIs d i) i Sign.right_paren _ _ (λ _. IsArgs.none) (map_good (exprs_of tok sub many d i) (exprs_sound many d i))
      where
        map_good : (o : Out Args) → Good (ExprsIs d i) o → Good (ArgsIs d i) o
        map_good (ok es j) h = IsArgs.some h
        map_good (bad p) h = tt

    arguments_sound : (d i : ℕ) → Good (Arguments d i) (arguments_of tok sub d i)
    unfolding arguments_of
    arguments_sound d i =
        opening_g (Arguments d i) d i _ (λ h. next_g (ArgsIs (d + 1) (i + 1)) (Arguments d i) (args_of tok sub (d + 1) (i + 1)) _ (args_sound (d + 1) (i + 1)) (λ es j x.
        expect_g (Arguments d i) j Sign.right_paren _ (λ c. record { depth = h; end = j; inside = x; close = c; after = refl })))

    enclosed_sound : (s : Sign) (d i : ℕ) → Good (Enclosed s d i) (enclosed_of tok sub (sign_kind s) d i)
    unfolding enclosed_of
    enclosed_sound s d i =
        opening_g (Enclosed s d i) d i _ (λ h. next_g (ExprIs expr_level (d + 1) (i + 1)) (Enclosed s d i) (sub expr_level (d + 1) (i + 1)) _ (S expr_level (d + 1) (i + 1) (omega arith) (omega arith)) (λ e j x.
        expect_g (Enclosed s d i) j s _ (λ c. record { depth = h; end = j; inside = x; close = c; after = refl })))

    two : (i : ℕ) → i + 1 + 1 ≡ i + 2
    two i = omega arith

    named_sound : (d i : ℕ) → At tok i (Token.name (name_at tok i)) (place_of tok i) → Good (ExprIs unary_level d i) (named_of tok sub d i)
    unfolding named_of
    named_sound d i h =
        sign_g (ExprIs unary_level d i) (i + 1) Sign.left_bracket _ _
        (λ b. map_g (Enclosed Sign.right_bracket d (i + 1)) (ExprIs unary_level d i) (enclosed_of tok sub (sign_kind Sign.right_bracket) d (i + 1)) _ (enclosed_sound Sign.right_bracket d (i + 1)) (λ e k x.
        IsExpr.element h (has b) x.depth (subst (λ (m : ℕ). IsExpr tok expr_level (d + 1) m x.end e) (two i) x.inside) x.close x.after))
        (sign_g (ExprIs unary_level d i) (i + 1) Sign.left_paren _ _
        (λ b. map_g (Arguments d (i + 1)) (ExprIs unary_level d i) (arguments_of tok sub d (i + 1)) _ (arguments_sound d (i + 1)) (λ es k x.
        IsExpr.call h (has b) x.depth (subst (λ (m : ℕ). IsArgs tok (d + 1) m x.end es) (two i) x.inside) x.close x.after))
        (IsExpr.name h refl))

    unary_sound : (o : Unary) (s : Sign) (d i : ℕ) → In (s, o) unaries → At tok i (Token.sign s) (place_of tok i) → Good (ExprIs unary_level d i) (unary_of tok sub o d i)
    unfolding unary_of
    unary_sound o s d i q h =
        opening_g (ExprIs unary_level d i) d i _ (λ z. map_g (ExprIs unary_level (d + 1) (i + 1)) (ExprIs unary_level d i) (sub unary_level (d + 1) (i + 1)) _ (S unary_level (d + 1) (i + 1) (omega arith) (omega arith)) (λ a j x.
        IsExpr.unary h q z x))

    minus_row : In (Sign.minus, Unary.negate) unaries
    unfolding unaries
    minus_row = In.here refl

    bang_row : In (Sign.bang, Unary.not) unaries
    unfolding unaries
    bang_row = In.there (In.here refl)

    parens_sound : (d i : ℕ) → At tok i (Token.sign Sign.left_paren) (place_of tok i) → (o : Out Expr) → Good (Enclosed Sign.right_paren d i) o → Good (ExprIs unary_level d i) o
    parens_sound d i b (ok e k) x = IsExpr.parens (has b) x.depth x.inside x.close x.after
    parens_sound d i b (bad p) x = tt

    primary_sound : (d i : ℕ) → Good (ExprIs unary_level d i) (primary_of tok sub d i)
    unfolding primary_of
    primary_sound d i =
        number_g (ExprIs unary_level d i) i _ _ (λ h. IsExpr.number (has h) refl)
        (name_g (ExprIs unary_level d i) i _ _ (λ h. named_sound d i h)
        (word_g (ExprIs unary_level d i) i Word.true _ _ (λ h. IsExpr.true (has h) refl)
        (word_g (ExprIs unary_level d i) i Word.false _ _ (λ h. IsExpr.false (has h) refl)
        (sign_g (ExprIs unary_level d i) i Sign.left_paren _ _ (λ h. parens_sound d i h (enclosed_of tok sub (sign_kind Sign.right_paren) d i) (enclosed_sound Sign.right_paren d i))
        (sign_g (ExprIs unary_level d i) i Sign.minus _ _ (λ h. unary_sound Unary.negate Sign.minus d i minus_row h)
        (sign_g (ExprIs unary_level d i) i Sign.bang _ _ (λ h. unary_sound Unary.not Sign.bang d i bang_row h) tt))))))

  most_one : (l : ℕ) → l ≡ comp_level → most l ≤ 1
  unfolding most
  most_one l e = rw e (omega arith)

  pub levelled_sound : (h l d i : ℕ) → 0 < l → l ≤ unary_level → Good (ExprIs l d i) (levelled tok h l d i)
  unfolding levelled
  levelled_sound zero l d i z le = tt
  levelled_sound (suc h) l d i z le =
      pick_g (Good (ExprIs l d i)) (ltb l unary_level) _ _
      (λ q. next_g (ExprIs (l + 1) d i) (ExprIs l d i) (levelled tok h (l + 1) d i) _ (levelled_sound h (l + 1) d i (omega arith) (omega (arith, ltb-true l unary_level q))) (λ a j x.
      map_g (RestIs l d j) (ExprIs l d i) (rest_of tok (levelled tok h) (most l) l d j) _ (rest_sound (levelled tok h) (levelled_sound h) (most l) l d j z (ltb-true _ _ q) (most_one l)) (λ r k y. IsExpr.chain (ltb-true _ _ q) x (y a))))
      (λ q. let e : unary_level ≡ l = omega (arith, ltb-false l unary_level q) in subst (λ (l : ℕ). Good (ExprIs l d i) (primary_of tok (levelled tok h) d i)) e (primary_sound (levelled tok h) (levelled_sound h) d i))

  expr_sound : (d i : ℕ) → Good (ExprIs expr_level d i) (expr_of tok d i)
  unfolding expr_of
  expr_sound d i = levelled_sound expr_steps expr_level d i (omega arith) (omega arith)

  index_sound : (d i : ℕ) → Good (Enclosed Sign.right_bracket d i) (index_of tok d i)
  unfolding index_of
  index_sound d i = enclosed_sound (levelled tok expr_steps) (levelled_sound expr_steps) Sign.right_bracket d i

  call_sound : (d i : ℕ) → Good (Arguments d i) (call_of tok d i)
  unfolding call_of
  call_sound d i = arguments_sound (levelled tok expr_steps) (levelled_sound expr_steps) d i

  record Ended (d i : ℕ) (e : Expr) (k : ℕ) : Type 0 where
    pub end : ℕ
    pub inside : IsExpr tok expr_level d i end e
    pub close : HasSign tok end Sign.semicolon
    pub after : k ≡ end + 1

  ended_sound : (d i : ℕ) → Good (Ended d i) (ended_of tok d i)
  unfolding ended_of
  ended_sound d i =
      next_g (ExprIs expr_level d i) (Ended d i) (expr_of tok d i) _ (expr_sound d i) (λ e j x.
      expect_g (Ended d i) j Sign.semicolon _ (λ c. record { end = j; inside = x; close = c; after = refl }))

  -- Types.

  record TypeIs (i : ℕ) (t : Ty) (j : ℕ) : Type 0 where
    pub is : IsType tok i t
    pub after : j ≡ i + 1

  type_sound : (i : ℕ) → Good (TypeIs i) (type_of tok i)
  unfolding type_of
  type_sound i =
      word_g (TypeIs i) i Word.int _ _ (λ h. record { is = IsType.int (has h); after = refl })
      (word_g (TypeIs i) i Word.bool _ _ (λ h. record { is = IsType.bool (has h); after = refl }) tt)

  record Typed (i : ℕ) (t : Ty) (j : ℕ) : Type 0 where
    pub named : At tok i (Token.name (name_at tok i)) (place_of tok i)
    pub colon : HasSign tok (i + 1) Sign.colon
    pub is : IsType tok (i + 2) t
    pub after : j ≡ i + 3

  typed_sound : (i : ℕ) → Good (Typed i) (typed_of tok i)
  unfolding typed_of
  typed_sound i =
      name_g (Typed i) i _ _ (λ n. expect_g (Typed i) (i + 1) Sign.colon _ (λ c. go n c (type_of tok (i + 2)) (type_sound (i + 2)))) tt
    where
      go : At tok i (Token.name (name_at tok i)) (place_of tok i) → HasSign tok (i + 1) Sign.colon → (o : Out Ty) → Good (TypeIs (i + 2)) o → Good (Typed i) o
      go n c (ok t j) h = record { named = n; colon = c; is = h.is; after = h.after ∙ omega arith }
      go n c (bad p) h = tt

  -- Statements.

  abbrev pub StmtIs : ℕ → ℕ → Stmt → ℕ → Type 0
  StmtIs d i s j = IsStmt tok d i j s

  abbrev pub StmtsIs : ℕ → ℕ → Block → ℕ → Type 0
  StmtsIs d i b j = IsStmts tok d i j b

  abbrev pub BlockIs : ℕ → ℕ → Block → ℕ → Type 0
  BlockIs d i b j = IsBlock tok d i j b

  declare_sound : (d i : ℕ) → HasWord tok i Word.«let» → Good (StmtIs d i) (declare_of tok d i)
  unfolding declare_of
  declare_sound d i h =
      next_g (Typed (i + 1)) (StmtIs d i) (typed_of tok (i + 1)) _ (typed_sound (i + 1)) (λ t j x.
      expect_g (StmtIs d i) j Sign.equals _ (λ q.
      map_g (Ended d (j + 1)) (StmtIs d i) (ended_of tok d (j + 1)) _ (ended_sound d (j + 1)) (λ e k y.
      let a : j ≡ i + 4 = x.after ∙ omega arith in
      let b : j + 1 ≡ i + 5 = omega arith in
      let c : i + 1 + 1 ≡ i + 2 = omega arith in
      let f : i + 1 + 2 ≡ i + 3 = omega arith in
      IsStmt.declare h x.named (subst (λ (m : ℕ). HasSign tok m Sign.colon) c x.colon) (subst (λ (m : ℕ). IsType tok m t) f x.is) (subst (λ (m : ℕ). HasSign tok m Sign.equals) a q) (subst (λ (m : ℕ). IsExpr tok expr_level d m y.end e) b y.inside) y.close y.after)))

  assign_sound : (d i : ℕ) → At tok i (Token.name (name_at tok i)) (place_of tok i) → HasSign tok (i + 1) Sign.equals → Good (StmtIs d i) (assign_of tok d i)
  unfolding assign_of
  assign_sound d i h q = map_g (Ended d (i + 2)) (StmtIs d i) (ended_of tok d (i + 2)) _ (ended_sound d (i + 2)) (λ e k y. IsStmt.assign h q y.inside y.close y.after)

  store_sound : (d i : ℕ) → At tok i (Token.name (name_at tok i)) (place_of tok i) → HasSign tok (i + 1) Sign.left_bracket → Good (StmtIs d i) (store_of tok d i)
  unfolding store_of
  store_sound d i h b =
      next_g (Enclosed Sign.right_bracket d (i + 1)) (StmtIs d i) (index_of tok d (i + 1)) _ (index_sound d (i + 1)) (λ a j x.
      expect_g (StmtIs d i) j Sign.equals _ (λ q.
      map_g (Ended d (j + 1)) (StmtIs d i) (ended_of tok d (j + 1)) _ (ended_sound d (j + 1)) (λ e k y.
      let s : i + 1 + 1 ≡ i + 2 = omega arith in
      let r : j + 1 ≡ x.end + 2 = omega (arith, x.after) in
      IsStmt.store h b x.depth (subst (λ (m : ℕ). IsExpr tok expr_level (d + 1) m x.end a) s x.inside) x.close (subst (λ (m : ℕ). HasSign tok m Sign.equals) x.after q) (subst (λ (m : ℕ). IsExpr tok expr_level d m y.end e) r y.inside) y.close y.after)))

  run_sound : (d i : ℕ) → At tok i (Token.name (name_at tok i)) (place_of tok i) → HasSign tok (i + 1) Sign.left_paren → Good (StmtIs d i) (run_of tok d i)
  unfolding run_of
  run_sound d i h b =
      next_g (Arguments d (i + 1)) (StmtIs d i) (call_of tok d (i + 1)) _ (call_sound d (i + 1)) (λ es j x.
      expect_g (StmtIs d i) j Sign.semicolon _ (λ q.
      let s : i + 1 + 1 ≡ i + 2 = omega arith in
      let r : j + 1 ≡ x.end + 2 = omega (arith, x.after) in
      IsStmt.run h b x.depth (subst (λ (m : ℕ). IsArgs tok (d + 1) m x.end es) s x.inside) x.close (subst (λ (m : ℕ). HasSign tok m Sign.semicolon) x.after q) r))

  change_sound : (d i : ℕ) → At tok i (Token.name (name_at tok i)) (place_of tok i) → Good (StmtIs d i) (change_of tok d i)
  unfolding change_of
  change_sound d i h =
      sign_g (StmtIs d i) (i + 1) Sign.equals _ _ (λ q. assign_sound d i h (has q))
      (sign_g (StmtIs d i) (i + 1) Sign.left_bracket _ _ (λ q. store_sound d i h (has q))
      (sign_g (StmtIs d i) (i + 1) Sign.left_paren _ _ (λ q. run_sound d i h (has q)) tt))

  return_sound : (d i : ℕ) → At tok i (Token.word Word.return) (place_of tok i) → Good (StmtIs d i) (return_of tok d i)
  unfolding return_of
  return_sound d i h =
      sign_g (StmtIs d i) (i + 1) Sign.semicolon _ _ (λ q. IsStmt.leave h (has q) refl)
      (map_g (Ended d (i + 1)) (StmtIs d i) (ended_of tok d (i + 1)) _ (ended_sound d (i + 1)) (λ e k y. IsStmt.give h y.inside y.close y.after))

  emit_sound : (d i : ℕ) → At tok i (Token.word Word.emit) (place_of tok i) → Good (StmtIs d i) (emit_of tok d i)
  unfolding emit_of
  emit_sound d i h = map_g (Ended d (i + 1)) (StmtIs d i) (ended_of tok d (i + 1)) _ (ended_sound d (i + 1)) (λ e k y. IsStmt.emit h y.inside y.close y.after)

  module _ (block : ℕ → ℕ → Out Block) (B : (d i : ℕ) → Good (BlockIs d i) (block d i)) where
    while_sound : (d i : ℕ) → At tok i (Token.word Word.while) (place_of tok i) → Good (StmtIs d i) (while_of tok block d i)
    unfolding while_of
    while_sound d i h =
        next_g (ExprIs expr_level d (i + 1)) (StmtIs d i) (expr_of tok d (i + 1)) _ (expr_sound d (i + 1)) (λ e j x.
        map_g (BlockIs d j) (StmtIs d i) (block d j) _ (B d j) (λ b k y. IsStmt.while h x y))

    else_sound : (d i j k : ℕ) (e : Expr) (b : Block) → At tok i (Token.word Word.if) (place_of tok i) → IsExpr tok expr_level d (i + 1) j e → IsBlock tok d j k b → Good (StmtIs d i) (else_of tok block d (place_of tok i) e b k)
    unfolding else_of
    else_sound d i j k e b h x y =
        word_g (StmtIs d i) k Word.else _ _ (λ w. map_g (BlockIs d (k + 1)) (StmtIs d i) (block d (k + 1)) _ (B d (k + 1)) (λ c m z. IsStmt.choose h x y (has w) z)) (IsStmt.when h x y)

    if_sound : (d i : ℕ) → At tok i (Token.word Word.if) (place_of tok i) → Good (StmtIs d i) (if_of tok block d i)
    unfolding if_of
    if_sound d i h =
        next_g (ExprIs expr_level d (i + 1)) (StmtIs d i) (expr_of tok d (i + 1)) _ (expr_sound d (i + 1)) (λ e j x.
        next_g (BlockIs d j) (StmtIs d i) (block d j) _ (B d j) (λ b k y. else_sound d i j k e b h x y))

    stmt_sound : (d i : ℕ) → Good (StmtIs d i) (stmt_of tok block d i)
    unfolding stmt_of
    stmt_sound d i =
        name_g (StmtIs d i) i _ _ (λ h. change_sound d i h)
        (word_g (StmtIs d i) i Word.«let» _ _ (λ h. declare_sound d i (has h))
        (word_g (StmtIs d i) i Word.if _ _ (λ h. if_sound d i h)
        (word_g (StmtIs d i) i Word.while _ _ (λ h. while_sound d i h)
        (word_g (StmtIs d i) i Word.return _ _ (λ h. return_sound d i h)
        (word_g (StmtIs d i) i Word.emit _ _ (λ h. emit_sound d i h) tt)))))

    stmts_sound : (n d i : ℕ) → Good (StmtsIs d i) (stmts_of tok block n d i)
    unfolding stmts_of
    stmts_sound zero d i = tt
    stmts_sound (suc n) d i =
        sign_g (StmtsIs d i) i Sign.right_brace _ _ (λ _. IsStmts.end)
        (next_g (StmtIs d i) (StmtsIs d i) (stmt_of tok block d i) _ (stmt_sound d i) (λ s j x.
        map_g (StmtsIs d j) (StmtsIs d i) (stmts_of tok block n d j) _ (stmts_sound n d j) (λ b k y. IsStmts.then x y)))

  pub block_sound : (h d i : ℕ) → Good (BlockIs d i) (block_of tok h d i)
  unfolding block_of
  block_sound zero d i = tt
  block_sound (suc h) d i =
      expect_g (BlockIs d i) i Sign.left_brace _ (λ q. opening_g (BlockIs d i) d i _ (λ z.
      next_g (StmtsIs (d + 1) (i + 1)) (BlockIs d i) (stmts_of tok (block_of tok h) many (d + 1) (i + 1)) _ (stmts_sound (block_of tok h) (block_sound h) many (d + 1) (i + 1)) (λ b j x.
      expect_g (BlockIs d i) j Sign.right_brace _ (λ c. IsBlock.block q z x c refl))))

  -- Arrays and functions.

  abbrev ParamIs : ℕ → Param → ℕ → Type 0
  ParamIs i x j = IsParam tok i j x

  abbrev ListIs : ℕ → List Param → ℕ → Type 0
  ListIs i xs j = IsParamList tok i j xs

  abbrev ParamsIs : ℕ → List Param → ℕ → Type 0
  ParamsIs i xs j = IsParams tok i j xs

  abbrev ResultIs : ℕ → Option Ty → ℕ → Type 0
  ResultIs i t j = IsResult tok i j t

  abbrev pub ItemIs : ℕ → Item → ℕ → Type 0
  ItemIs i x j = IsItem tok i j x

  param_sound : (i : ℕ) → Good (ParamIs i) (param_of tok i)
  unfolding param_of
  param_sound i = map_g (Typed i) (ParamIs i) (typed_of tok i) _ (typed_sound i) (λ t j x. IsParam.param x.named x.colon x.is x.after)

  list_sound : (n i : ℕ) → Good (ListIs i) (param_list_of tok n i)
  unfolding param_list_of
  list_sound zero i = tt
  list_sound (suc n) i =
      next_g (ParamIs i) (ListIs i) (param_of tok i) _ (param_sound i) (λ x j h.
      sign_g (ListIs i) j Sign.comma _ _ (λ c. map_g (ListIs (j + 1)) (ListIs i) (param_list_of tok n (j + 1)) _ (list_sound n (j + 1)) (λ xs k y. IsParamList.comma h (has c) y)) (IsParamList.last h))

  params_sound : (i : ℕ) → Good (ParamsIs i) (params_of tok i)
  unfolding params_of
  params_sound i = sign_g (ParamsIs i) i Sign.right_paren _ _ (λ _. IsParams.none) (go (param_list_of tok many i) (list_sound many i))
    where
      go : (o : Out (List Param)) → Good (ListIs i) o → Good (ParamsIs i) o
      go (ok xs j) h = IsParams.some h
      go (bad p) h = tt

  result_sound : (i : ℕ) → Good (ResultIs i) (result_of tok i)
  unfolding result_of
  result_sound i =
      sign_g (ResultIs i) i Sign.colon _ _ (λ c. map_g (TypeIs (i + 1)) (ResultIs i) (type_of tok (i + 1)) _ (type_sound (i + 1)) (λ t j x. IsResult.some (has c) x.is (x.after ∙ omega arith))) IsResult.none

  record Size (i n j : ℕ) : Type 0 where
    pub left : HasSign tok i Sign.left_bracket
    pub number : Has tok (i + 1) (Token.number n)
    pub right : HasSign tok (i + 2) Sign.right_bracket
    pub close : HasSign tok (i + 3) Sign.semicolon
    pub after : j ≡ i + 4

  size_sound : (i : ℕ) → Good (Size i) (size_of tok i)
  unfolding size_of
  size_sound i =
      expect_g (Size i) i Sign.left_bracket _ (λ a. number_g (Size i) (i + 1) _ _ (λ b. expect_g (Size i) (i + 2) Sign.right_bracket _ (λ c. expect_g (Size i) (i + 3) Sign.semicolon _ (λ d.
      record { left = a; number = has b; right = c; close = d; after = refl }))) tt)

  array_sound : (i : ℕ) → HasWord tok i Word.var → Good (ItemIs i) (array_of tok i)
  unfolding array_of
  array_sound i h =
      name_g (ItemIs i) (i + 1) _ _ (λ n. expect_g (ItemIs i) (i + 2) Sign.colon _ (λ c. word_g (ItemIs i) (i + 3) Word.int _ _ (λ w.
      map_g (Size (i + 4)) (ItemIs i) (size_of tok (i + 4)) _ (size_sound (i + 4)) (λ m j x.
      let p : i + 4 + 1 ≡ i + 5 = omega arith in
      let q : i + 4 + 2 ≡ i + 6 = omega arith in
      let r : i + 4 + 3 ≡ i + 7 = omega arith in
      IsItem.array h n c (has w) x.left (subst (λ (k : ℕ). Has tok k (Token.number m)) p x.number) (subst (λ (k : ℕ). HasSign tok k Sign.right_bracket) q x.right) (subst (λ (k : ℕ). HasSign tok k Sign.semicolon) r x.close) (x.after ∙ omega arith))) tt)) tt

  function_sound : (i : ℕ) → HasWord tok i Word.fn → Good (ItemIs i) (function_of tok i)
  unfolding function_of body_of
  function_sound i h =
      name_g (ItemIs i) (i + 1) _ _ (λ n. expect_g (ItemIs i) (i + 2) Sign.left_paren _ (λ a.
      next_g (ParamsIs (i + 3)) (ItemIs i) (params_of tok (i + 3)) _ (params_sound (i + 3)) (λ xs j x. expect_g (ItemIs i) j Sign.right_paren _ (λ c.
      next_g (ResultIs (j + 1)) (ItemIs i) (result_of tok (j + 1)) _ (result_sound (j + 1)) (λ t k y.
      map_g (BlockIs 0 k) (ItemIs i) (block_of tok block_steps 0 k) _ (block_sound block_steps 0 k) (λ b m z. IsItem.function h n a x c y z)))))) tt

  item_sound : (i : ℕ) → Good (ItemIs i) (item_of tok i)
  unfolding item_of
  item_sound i = word_g (ItemIs i) i Word.var _ _ (λ h. array_sound i (has h)) (word_g (ItemIs i) i Word.fn _ _ (λ h. function_sound i (has h)) tt)

  -- the items, and that they end at the last token
  record Items (count i : ℕ) (xs : List Item) (j : ℕ) : Type 0 where
    pub all : IsItems tok i j xs
    pub end : j ≡ count

  items_sound : (count n i : ℕ) → Good (Items count i) (items_of tok count n i)
  unfolding items_of
  items_sound count zero i = tt
  items_sound count (suc n) i =
      pick_g (Good (Items count i)) (eqb i count) _ _ (λ e. record { all = IsItems.end; end = eqb-true _ _ e })
      (λ _. next_g (ItemIs i) (Items count i) (item_of tok i) _ (item_sound i) (λ x j h.
      map_g (Items count j) (Items count i) (items_of tok count n j) _ (items_sound count n j) (λ xs k y. record { all = IsItems.then h y.all; end = y.end })))

-- A tree that is read derives.
pub program_sound : (ts : List Placed) (items : List Item) (j : ℕ) → program_of ts ≡ ok items j → Program ts items
unfolding program_of
program_sound ts items j e =
    let h : Items (nth ts) (length ts) 0 items j = subst (Good (Items (nth ts) (length ts) 0)) e (items_sound (nth ts) (length ts) (suc many) 0) in
    subst (λ (m : ℕ). IsItems (nth ts) 0 m items) h.end h.all
