-- A statement with blocks: its condition, its body and its other block, one after the other, then its header before them.
use mathlib.Core.Path.{◌≡◌, refl, sym, ap, subst, ◌∙◌}
use mathlib.Core.Bool.{Bool, true, false}
use mathlib.Core.List.{List, [], ◌∷◌, ◌++◌, append_assoc}
use mathlib.Core.Option.{Option}
use Prim.Native.Nat.{ℕ, ◌+◌, ◌*◌, ◌≤◌, ◌<◌}
use native.Mathlib.Omega.{arith}
use lib.Dec.{eqb}
use lib.ListN.{length, drop, length-append}
use lib.Seq.{sets}
use Rattle.word.specs.Choice.{pick, both}
use Rattle.language.specs.Tree.{Place, Ty, bool}
use Rattle.language.specs.Tree as T
use Rattle.language.specs.Core as C
use Rattle.language.specs.Rules.{Ruled, keeps, breaks, ◌>>=◌, Global, Local, Scope, want, expr, stmt, block, is_return, ends_in_return, most_locals}
use Rattle.grammar.specs.Flat as G
use Rattle.flat.specs.Items.{code}
use Rattle.flat.specs.Statements.{flat, flats}
use Rattle.flat.specs.Words as F
use Rattle.flat.specs.Words.{items_words, rest_length, block_length}
use Rattle.flat.proofs.Writing.{items_then, block_then}
use Rattle.rules.specs.Tables.{word, locals_in}
use Rattle.rules.specs.Named.{NamedExpr, NamedStmt, NamedBlock}
use Rattle.std.specs.Prelude.{Result, Ok, Err, ⊤}
use Rattle.rules.specs.declared.Broken.{Broken}
use Rattle.rules.specs.declared.Scope as S
use Rattle.rules.specs.Values.{broken_at, scope_at}
use Rattle.rules.specs.Post.{scope_of, Stated}
use Rattle.rules.specs.Statements.{Heads, Moves, Statement, Tested, TestCase, Conditions, Blocked, BlockCase, CountCase, Blocks, nest_words, holds_blocks}
use Rattle.rules.proofs.Kept.{assoc}
use Rattle.rules.proofs.Lengths.{expr_words_lem}
use Rattle.rules.proofs.Stating.{went, stopped, same_locals}
use Rattle.rules.proofs.Storing.{items_words_lem, row, in_front}
use Rattle.rules.proofs.Heading.{further, past_expr}
use Rattle.rules.proofs.Extents.{flat_block, past_block}
use Rattle.rules.proofs.Arms.{Truth}

-- One form for `if` and `while`: of those with one block, the other is empty.

unfoldable pub nest_of : ℕ → C.Expr → C.Block → C.Block → C.Stmt
nest_of k c a b = pick (eqb k 3) (C.while c a) (C.choose c a b)

module _ (gs : List Global) (result : Option Ty) where
  abbrev pub nest : ℕ → Place → T.Expr → T.Block → T.Block → Scope gs → Ruled (C.Stmt × Scope gs)
  nest k at e a b σ = (expr gs σ.visible e >>= want bool at) >>= λ c. block gs result a σ >>= λ x. block gs result b (record { visible = σ.visible; count = x.1 }) >>= λ y. keeps (nest_of k c x.0 y.0, record { visible = σ.visible; count = y.1 })

  pub record Nest (text : List ℕ) (s : T.Stmt) : Type 0 where
    pub kind : ℕ
    pub at : Place
    pub test : T.Expr
    pub body : T.Block
    pub other : T.Block
    pub words : (more : List ℕ) → G.stmt_words s more ≡ (kind ∷ at ∷ length (G.block_words body []) ∷ G.size test ∷ 0 ∷ G.count body ∷ G.count other ∷ (G.expr_length test + (length (G.block_words body []) + length (G.block_words other []))) ∷ G.expr_words test (G.block_words body (G.block_words other more)))
    pub is : (σ : Scope gs) → stmt gs result s σ ≡ nest kind at test body other σ
    pub named_test : NamedStmt text s → NamedExpr text test
    pub named_body : NamedStmt text s → NamedBlock text body
    pub named_other : NamedStmt text s → NamedBlock text other
    pub empty : eqb kind 3 ≡ true → other ≡ T.end
    pub returns : eqb kind 2 ≡ true → is_return s ≡ both (ends_in_return body) (ends_in_return other)

  nest_of_lem : (text : List ℕ) (s : T.Stmt) (more : List ℕ) → holds_blocks (word (G.stmt_words s more) 0) ≡ true → Nest text s
  unfolding stmt is_return G.stmt_words G.count NamedStmt holds_blocks nest_of G.declare_kind ◌>>=◌
  nest_of_lem text (T.declare p x Ty.int e) more h = absurd (subst Truth (sym h) tt)
  nest_of_lem text (T.declare p x Ty.bool e) more h = absurd (subst Truth (sym h) tt)
  nest_of_lem text (T.assign p x e) more h = absurd (subst Truth (sym h) tt)
  nest_of_lem text (T.store p x i e) more h = absurd (subst Truth (sym h) tt)
  nest_of_lem text (T.when p e a) more h = record {
    kind = 8;
    at = p;
    test = e;
    body = a;
    other = T.end;
    words = λ more. ap (λ (i : ℕ). 8 ∷ p ∷ length (G.block_words a []) ∷ G.size e ∷ 0 ∷ G.count a ∷ 0 ∷ i ∷ G.expr_words e (G.block_words a more)) {x = G.expr_length e + length (G.block_words a [])} {y = G.expr_length e + (length (G.block_words a []) + 0)} (omega arith);
    is = λ σ. sym (assoc (expr gs σ.visible e) (want bool p) _);
    named_test = λ n. n.0;
    named_body = λ n. n.1;
    named_other = λ n. tt;
    empty = λ e. refl;
    returns = λ e. absurd (subst Truth (sym e) tt);
  }
  nest_of_lem text (T.choose p e a b) more h = record {
    kind = 2;
    at = p;
    test = e;
    body = a;
    other = b;
    words = λ more. refl;
    is = λ σ. sym (assoc (expr gs σ.visible e) (want bool p) _);
    named_test = λ n. n.0;
    named_body = λ n. n.1;
    named_other = λ n. n.2;
    empty = λ e. absurd (subst Truth (sym e) tt);
    returns = λ e. refl;
  }
  nest_of_lem text (T.while p e a) more h = record {
    kind = 3;
    at = p;
    test = e;
    body = a;
    other = T.end;
    words = λ more. ap (λ (i : ℕ). 3 ∷ p ∷ length (G.block_words a []) ∷ G.size e ∷ 0 ∷ G.count a ∷ 0 ∷ i ∷ G.expr_words e (G.block_words a more)) {x = G.expr_length e + length (G.block_words a [])} {y = G.expr_length e + (length (G.block_words a []) + 0)} (omega arith);
    is = λ σ. sym (assoc (expr gs σ.visible e) (want bool p) _);
    named_test = λ n. n.0;
    named_body = λ n. n.1;
    named_other = λ n. tt;
    empty = λ e. refl;
    returns = λ e. absurd (subst Truth (sym e) tt);
  }
  nest_of_lem text (T.leave p) more h = absurd (subst Truth (sym h) tt)
  nest_of_lem text (T.give p e) more h = absurd (subst Truth (sym h) tt)
  nest_of_lem text (T.emit p e) more h = absurd (subst Truth (sym h) tt)
  nest_of_lem text (T.run p x xs) more h = absurd (subst Truth (sym h) tt)

-- Its words

end_of : (b : C.Block) → F.count (flats b) ≡ 0 → b ≡ C.end
unfolding flats F.count
end_of C.end h = refl
end_of (C.then s b) h = absurd (omega (arith, h))

module _ (c : C.Expr) (a : C.Block) where
  nest_rows : (b : C.Block) → (items_words (code c 0 []) [] ++ F.block_words (flats a) []) ++ F.block_words (flats b) [] ≡ items_words (code c 0 []) (F.block_words (flats a) (F.block_words (flats b) []))
  nest_rows b =
      append_assoc (items_words (code c 0 []) []) (F.block_words (flats a) []) (F.block_words (flats b) []) ∙
      (ap (λ (w : List ℕ). items_words (code c 0 []) [] ++ w) (sym (block_then (flats a) [] (F.block_words (flats b) []))) ∙ sym (items_then (code c 0 []) [] (F.block_words (flats a) (F.block_words (flats b) []))))

  go : (z : Bool) (b : C.Block) → (z ≡ true → b ≡ C.end) → (n s t rest size : ℕ) → size ≡ block_length (flats a) → n ≡ length (code c 0 []) → s ≡ F.count (flats a) → t ≡ F.count (flats b) → rest ≡ 4 * length (code c 0 []) + (block_length (flats a) + block_length (flats b)) →
      pick z (3 ∷ 0 ∷ 0 ∷ n ∷ 0 ∷ s ∷ t ∷ rest ∷ []) (2 ∷ size ∷ 0 ∷ n ∷ 0 ∷ s ∷ t ∷ rest ∷ []) ++ items_words (code c 0 []) (F.block_words (flats a) (F.block_words (flats b) [])) ≡
      F.stmt_words (flat (pick z (C.while c a) (C.choose c a b))) (rest_length (flat (pick z (C.while c a) (C.choose c a b)))) []
  unfolding flat F.stmt_words rest_length F.count
  go false b h n s t rest size e₁ e₂ e₃ e₄ e₅ = rw (e₁, e₂, e₃, e₄, e₅) refl
  go true C.end h n s t rest size e₁ e₂ e₃ e₄ e₅ = ap (λ (i : ℕ). 3 ∷ 0 ∷ 0 ∷ n ∷ 0 ∷ s ∷ t ∷ i ∷ items_words (code c 0 []) (F.block_words (flats a) [])) {x = rest} {y = 4 * length (code c 0 []) + block_length (flats a)} (omega (arith, e₅)) ∙ rw (e₂, e₃, e₄) refl
  go true (C.then s₁ b) h n s t rest size e₁ e₂ e₃ e₄ e₅ = absurd (omega (arith, ap (λ (w : C.Block). F.count (flats w)) (h refl)))

  nest_words_lem : (b : C.Block) (k size n s t rest : ℕ) → size ≡ block_length (flats a) → n ≡ length (code c 0 []) → s ≡ F.count (flats a) → t ≡ F.count (flats b) → rest ≡ 4 * length (code c 0 []) + (block_length (flats a) + block_length (flats b)) →
      (eqb k 3 ≡ true → b ≡ C.end) →
      nest_words k size n s t rest ++ ((items_words (code c 0 []) [] ++ F.block_words (flats a) []) ++ F.block_words (flats b) []) ≡ F.stmt_words (flat (nest_of k c a b)) (rest_length (flat (nest_of k c a b))) []
  unfolding nest_words nest_of
  nest_words_lem b k size n s t rest e₁ e₂ e₃ e₄ e₅ h = ap (λ (w : List ℕ). pick (eqb k 3) (3 ∷ 0 ∷ 0 ∷ n ∷ 0 ∷ s ∷ t ∷ rest ∷ []) (2 ∷ size ∷ 0 ∷ n ∷ 0 ∷ s ∷ t ∷ rest ∷ []) ++ w) (nest_rows b) ∙ go (eqb k 3) b h n s t rest size e₁ e₂ e₃ e₄ e₅

nest_length : (k size n s t rest : ℕ) → length (nest_words k size n s t rest) ≡ 8
unfolding nest_words
nest_length k size n s t rest = go (eqb k 3)
  where
    go : (b : Bool) → length (pick b (3 ∷ 0 ∷ 0 ∷ n ∷ 0 ∷ s ∷ t ∷ rest ∷ []) (2 ∷ size ∷ 0 ∷ n ∷ 0 ∷ s ∷ t ∷ rest ∷ [])) ≡ 8
    go true = refl
    go false = refl

no_statements : (b : T.Block) → b ≡ T.end → G.count b ≡ 0
unfolding G.count
no_statements b e = ap G.count e

-- The statement

module _ (text : List ℕ) (gs : List Global) (locals : List ℕ) (l count : ℕ) (result : Option Ty) (tree : List ℕ) (p q : ℕ) (core : List ℕ) {k at size n m s t rest : ℕ} (hd : Heads (drop p tree) k at size n m s t rest) (hb : holds_blocks k ≡ true) where
  abbrev Said : Result S.Scope Broken → List ℕ → List ℕ → Type 0
  Said r locals' core' = Statement text gs locals l count result (drop p tree) q core r locals' core'

  -- where its parts stand
  pub record Located (st : T.Stmt) (more : List ℕ) : Type 0 where
    pub form : Nest gs result text st
    pub is : stmt gs result st (scope_of gs text locals l count) ≡ nest gs result k at form.test form.body form.other (scope_of gs text locals l count)
    pub test_words : drop (p + 8) tree ≡ G.expr_words form.test (G.block_words form.body (G.block_words form.other more))
    pub body_words : drop (p + (8 + 4 * n)) tree ≡ G.block_words form.body (G.block_words form.other more)
    pub other_words : drop (p + (8 + 4 * n + size)) tree ≡ G.block_words form.other more
    pub is_kind : k ≡ form.kind
    pub is_size : size ≡ length (G.block_words form.body [])
    pub is_items : n ≡ G.size form.test
    pub is_body : s ≡ G.count form.body
    pub is_other : t ≡ G.count form.other
    pub is_rest : rest ≡ G.expr_length form.test + (length (G.block_words form.body []) + length (G.block_words form.other []))

  pub located : (st : T.Stmt) (more : List ℕ) → drop p tree ≡ G.stmt_words st more → Located st more
  located st more ew = go (nest_of_lem gs result text st more (ap holds_blocks (sym (hd.is_kind ∙ ap (λ (w : List ℕ). word w 0) ew)) ∙ hb))
    where
      at_words : (v : Nest gs result text st) → drop (p + 8) tree ≡ G.expr_words v.test (G.block_words v.body (G.block_words v.other more))
      at_words v = further tree p 8 (ew ∙ v.words more) refl

      items : (v : Nest gs result text st) → n ≡ G.size v.test
      items v = hd.is_items ∙ ap (λ (w : List ℕ). word w 3) (ew ∙ v.words more)

      sizes : (v : Nest gs result text st) → size ≡ length (G.block_words v.body [])
      sizes v = hd.is_size ∙ ap (λ (w : List ℕ). word w 2) (ew ∙ v.words more)

      at_body : (v : Nest gs result text st) → drop (p + 8 + 4 * n) tree ≡ G.block_words v.body (G.block_words v.other more)
      at_body v = further tree (p + 8) (4 * n) (at_words v) (past_expr v.test (4 * n) _ (omega (arith, items v)))

      at_other : (v : Nest gs result text st) → drop (p + 8 + 4 * n + size) tree ≡ G.block_words v.other more
      at_other v = further tree (p + 8 + 4 * n) size (at_body v) (past_block v.body size _ (sizes v))

      go : Nest gs result text st → Located st more
      go v = record {
        form = v;
        is = v.is (scope_of gs text locals l count) ∙ same v.kind v.at (hd.is_kind ∙ ap (λ (w : List ℕ). word w 0) (ew ∙ v.words more)) (hd.is_at ∙ ap (λ (w : List ℕ). word w 1) (ew ∙ v.words more));
        test_words = at_words v;
        body_words = ap (λ (i : ℕ). drop i tree) {x = p + (8 + 4 * n)} {y = p + 8 + 4 * n} (omega arith) ∙ at_body v;
        other_words = ap (λ (i : ℕ). drop i tree) {x = p + (8 + 4 * n + size)} {y = p + 8 + 4 * n + size} (omega arith) ∙ at_other v;
        is_kind = hd.is_kind ∙ ap (λ (w : List ℕ). word w 0) (ew ∙ v.words more);
        is_size = sizes v;
        is_items = items v;
        is_body = hd.is_statements ∙ ap (λ (w : List ℕ). word w 5) (ew ∙ v.words more);
        is_other = hd.is_more_statements ∙ ap (λ (w : List ℕ). word w 6) (ew ∙ v.words more);
        is_rest = hd.is_rest ∙ ap (λ (w : List ℕ). word w 7) (ew ∙ v.words more);
      }
        where
          same : (k' at' : ℕ) → k ≡ k' → at ≡ at' → nest gs result k' at' v.test v.body v.other (scope_of gs text locals l count) ≡ nest gs result k at v.test v.body v.other (scope_of gs text locals l count)
          same k' at' e f = rw (← e, ← f) refl

  -- more words than there are
  pub too_few : (st : T.Stmt) (more : List ℕ) → Located st more → 8 + rest < 8 + 4 * n + size → ⊥
  too_few st more a h = omega (arith, h, a.is_rest, a.is_items, a.is_size, expr_words_lem a.form.test [])

  pub nest_short : {core' : List ℕ} → 8 + rest < 8 + 4 * n + size → Said (Err (broken_at 0)) locals core'
  nest_short h = record { by = λ st more ew nm. absurd (too_few st more (located st more ew) h) }

  module _ {rc : Result ⊤ Broken} {core₁ : List ℕ} (x : Conditions text gs (locals_in text locals l) at n (drop (p + 8) tree) (q + 8) core rc core₁) where
    test : (st : T.Stmt) (more : List ℕ) → NamedStmt text st → (a : Located st more) → TestCase a.form.test (expr gs (locals_in text locals l) a.form.test >>= want bool at) (q + 8) core rc core₁
    test st more nm a = x.by a.form.test _ a.test_words a.is_items (a.form.named_test nm)

    pub test_fault : {b : Broken} {core' : List ℕ} → rc ≡ Err b → Said (Err b) locals core'
    test_fault {b} d = record { by = λ st more ew nm. go st more nm (located st more ew) }
      where
        go : (st : T.Stmt) (more : List ℕ) → NamedStmt text st → Located st more → stmt gs result st (scope_of gs text locals l count) ≡ breaks b.0
        go st more nm a = a.is ∙ stopped _ (subst (λ (o : Result ⊤ Broken). TestCase a.form.test (expr gs (locals_in text locals l) a.form.test >>= want bool at) (q + 8) core o core₁) d (test st more nm a))

    module _ (d : rc ≡ Ok tt) {ra : Result ℕ Broken} {locals₁ core₂ : List ℕ} (y : Blocks text gs locals l count result s (drop (p + (8 + 4 * n)) tree) (q + (8 + 4 * n)) core₁ ra locals₁ core₂) where
      tested : (st : T.Stmt) (more : List ℕ) → NamedStmt text st → (a : Located st more) → Tested a.form.test (expr gs (locals_in text locals l) a.form.test >>= want bool at) (q + 8) core core₁
      tested st more nm a = subst (λ (o : Result ⊤ Broken). TestCase a.form.test (expr gs (locals_in text locals l) a.form.test >>= want bool at) (q + 8) core o core₁) d (test st more nm a)

      abbrev Body : (st : T.Stmt) (more : List ℕ) → Located st more → Result ℕ Broken → Type 0
      Body st more a o = BlockCase a.form.body (block gs result a.form.body (scope_of gs text locals l count)) (q + (8 + 4 * n)) core₁ o core₂

      body_of : (st : T.Stmt) (more : List ℕ) → NamedStmt text st → (a : Located st more) → Body st more a ra
      body_of st more nm a = y.by a.form.body _ a.body_words a.is_body (a.form.named_body nm)

      pub body_fault : {b : Broken} {core' : List ℕ} → ra ≡ Err b → Said (Err b) locals₁ core'
      body_fault {b} f = record { by = λ st more ew nm. go st more nm (located st more ew) }
        where
          go : (st : T.Stmt) (more : List ℕ) → NamedStmt text st → Located st more → stmt gs result st (scope_of gs text locals l count) ≡ breaks b.0
          go st more nm a = a.is ∙ went _ (tested st more nm a).is (stopped _ (subst (Body st more a) f (body_of st more nm a)))

      module _ {c : ℕ} (f : ra ≡ Ok c) {rb : Result ℕ Broken} {locals₂ core₃ : List ℕ} (z : Blocks text gs locals₁ l c result t (drop (p + (8 + 4 * n + size)) tree) (q + (8 + 4 * n + size)) core₂ rb locals₂ core₃) where
        bodied : (st : T.Stmt) (more : List ℕ) → NamedStmt text st → (a : Located st more) → Blocked a.form.body (block gs result a.form.body (scope_of gs text locals l count)) (q + (8 + 4 * n)) core₁ c core₂
        bodied st more nm a = subst (Body st more a) f (body_of st more nm a)

        abbrev Other : (st : T.Stmt) (more : List ℕ) → Located st more → Result ℕ Broken → Type 0
        Other st more a o = BlockCase a.form.other (block gs result a.form.other (scope_of gs text locals l c)) (q + (8 + 4 * n + size)) core₂ o core₃

        -- what was visible before the body is visible after it
        other_of : (st : T.Stmt) (more : List ℕ) → NamedStmt text st → (a : Located st more) → Other st more a rb
        other_of st more nm a =
            subst (λ (ls : List Local). BlockCase a.form.other (block gs result a.form.other (record { visible = ls; count = c })) (q + (8 + 4 * n + size)) core₂ rb core₃) (same_locals text locals locals₁ l y.kept)
            (z.by a.form.other _ a.other_words a.is_other (a.form.named_other nm))

        pub other_fault : {b : Broken} {core' : List ℕ} → rb ≡ Err b → Said (Err b) locals₂ core'
        other_fault {b} g = record { by = λ st more ew nm. go st more nm (located st more ew) }
          where
            go : (st : T.Stmt) (more : List ℕ) → NamedStmt text st → Located st more → stmt gs result st (scope_of gs text locals l count) ≡ breaks b.0
            go st more nm a = a.is ∙ went _ (tested st more nm a).is (went _ (bodied st more nm a).is (stopped _ (subst (Other st more a) g (other_of st more nm a))))

        module _ {d' : ℕ} (g : rb ≡ Ok d') {core₄ : List ℕ} (h : core₄ ≡ sets core₃ q (nest_words k size n s t rest)) where
          final_locals : locals_in text locals₂ l ≡ locals_in text locals l
          final_locals = same_locals text locals₁ locals₂ l z.kept ∙ same_locals text locals locals₁ l y.kept

          there_at : (st : T.Stmt) (more : List ℕ) (a : Located st more) (u : Tested a.form.test (expr gs (locals_in text locals l) a.form.test >>= want bool at) (q + 8) core core₁) →
              (v : Blocked a.form.body (block gs result a.form.body (scope_of gs text locals l count)) (q + (8 + 4 * n)) core₁ c core₂) →
              (w : Blocked a.form.other (block gs result a.form.other (scope_of gs text locals l c)) (q + (8 + 4 * n + size)) core₂ d' core₃) →
              core₄ ≡ sets core q (F.stmt_words (flat (nest_of k u.value v.value w.value)) (rest_length (flat (nest_of k u.value v.value w.value))) [])
          there_at st more a u v w =
              in_front core q (q + 8) (nest_words k size n s t rest) ((items_words (code u.value 0 []) [] ++ F.block_words (flats v.value) []) ++ F.block_words (flats w.value) [])
              (row core (q + 8) (q + (8 + 4 * n + size)) (items_words (code u.value 0 []) [] ++ F.block_words (flats v.value) []) (F.block_words (flats w.value) [])
              (row core (q + 8) (q + (8 + 4 * n)) (items_words (code u.value 0 []) []) (F.block_words (flats v.value) []) u.there v.there (omega (arith, long)))
              w.there (omega (arith, long, wide, length-append (items_words (code u.value 0 []) []) (F.block_words (flats v.value) []))))
              h (omega (arith, eight)) ∙
              ap (sets core q) (nest_words_lem u.value v.value w.value k size n s t rest (a.is_size ∙ sym v.size) (a.is_items ∙ sym u.many) (a.is_body ∙ sym v.statements) (a.is_other ∙ sym w.statements)
              (omega (arith, a.is_rest, v.size, w.size, u.many, expr_words_lem a.form.test [])) empty)
            where
              long : length (items_words (code u.value 0 []) []) ≡ 4 * n
              long = omega (arith, items_words_lem (code u.value 0 []) [], u.many, a.is_items)

              wide : length (F.block_words (flats v.value) []) ≡ size
              wide = omega (arith, flat_block (flats v.value) [], v.size, a.is_size)

              eight : length (nest_words k size n s t rest) ≡ 8
              eight = nest_length k size n s t rest

              empty : eqb k 3 ≡ true → w.value ≡ C.end
              empty e = end_of w.value (w.statements ∙ no_statements a.form.other (a.form.empty (ap (λ (i : ℕ). eqb i 3) (sym a.is_kind) ∙ e)))

          final : (st : T.Stmt) (more : List ℕ) → NamedStmt text st → Located st more → Stated gs text (stmt gs result st (scope_of gs text locals l count)) q core l d' locals₂ core₄
          final st more nm a = record {
            value = nest_of k (tested st more nm a).value (bodied st more nm a).value others.value;
            is = a.is ∙ went _ (tested st more nm a).is (went _ (bodied st more nm a).is (went _ others.is (ap (λ (ls : List Local). keeps (nest_of k (tested st more nm a).value (bodied st more nm a).value others.value, record { visible = ls; count = d' })) (sym final_locals))));
            there = there_at st more a (tested st more nm a) (bodied st more nm a) others;
          }
            where
              others : Blocked a.form.other (block gs result a.form.other (scope_of gs text locals l c)) (q + (8 + 4 * n + size)) core₂ d' core₃
              others = subst (Other st more a) g (other_of st more nm a)

          pub nest_next : Said (Ok (scope_at l d')) locals₂ core₄
          nest_next = record { by = λ st more ew nm. final st more nm (located st more ew) }

-- The locals

module _ {text : List ℕ} {gs : List Global} {locals : List ℕ} {l count : ℕ} {result : Option Ty} {n : ℕ} {ws : List ℕ} {q : ℕ} {core : List ℕ} {ra : Result ℕ Broken} {locals₁ core₁ : List ℕ} (y : Blocks text gs locals l count result n ws q core ra locals₁ core₁) where
  pub body_moves : (b : Broken) → Moves l count locals (Err b) locals₁
  body_moves b = record { kept = y.kept; within = tt }

  module _ {c m : ℕ} {us : List ℕ} {i : ℕ} {core₂ : List ℕ} {rb : Result ℕ Broken} {locals₂ core₃ : List ℕ} (z : Blocks text gs locals₁ l c result m us i core₂ rb locals₂ core₃) where
    both_kept : (j : ℕ) → j < 4 * l → word locals₂ j ≡ word locals j
    both_kept j h = z.kept j h ∙ y.kept j h

    pub other_moves : (b : Broken) → Moves l count locals (Err b) locals₂
    other_moves b = record { kept = both_kept; within = tt }

    pub nest_moves : {d : ℕ} → ra ≡ Ok c → rb ≡ Ok d → Moves l count locals (Ok (scope_at l d)) locals₂
    nest_moves {d} f g = go (subst (CountCase count) f y.bounded) (subst (CountCase c) g z.bounded)
      where
        go : CountCase count (Ok c) → CountCase c (Ok d) → Moves l count locals (Ok (scope_at l d)) locals₂
        go a b = record { kept = both_kept; within = record { visible = omega arith; counted = omega (arith, a.0, b.0); among = λ h. omega (arith, h, a.0, b.0); few = λ h. b.1 } }

pub counted_so : {text : List ℕ} {gs : List Global} {locals : List ℕ} {l count : ℕ} {result : Option Ty} {n : ℕ} {ws : List ℕ} {q : ℕ} {core : List ℕ} {r : Result ℕ Broken} {locals₁ core₁ : List ℕ} {c : ℕ} → Blocks text gs locals l count result n ws q core r locals₁ core₁ → r ≡ Ok c →
    (count ≤ c) × (c ≤ most_locals)
counted_so {count = count} y f = subst (CountCase count) f y.bounded
