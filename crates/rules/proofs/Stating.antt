-- Statements with one expression: what the expression gives, then the statement's own rules, then its header before the items.
use mathlib.Core.Path.{◌≡◌, refl, sym, ap, subst, ◌∙◌}
use mathlib.Core.Bool.{Bool, true, false, not}
use mathlib.Core.List.{List, [], ◌∷◌, ◌++◌}
use mathlib.Core.Option.{Option, none, some}
use Prim.Native.Nat.{ℕ, zero, suc, ◌+◌, ◌*◌, ◌≤◌, ◌<◌}
use native.Mathlib.Numerals.{add-one}
use native.Mathlib.Omega.{arith}
use native.Mathlib.Nat.{add-suc, suc-add, add-zero}
use lib.ListN.{length, get_or, set}
use lib.Seq.{sets}
use borrow.Author.Tests.{lt-ltb, le-ltb}
use Rattle.language.specs.Tree.{Place, Ty, int, bool}
use Rattle.language.specs.Tree as T
use Rattle.language.specs.Core as C
use Rattle.language.specs.Rules.{Ruled, keeps, breaks, ◌>>=◌, need, found, fresh, same_ty, Global, Local, Scope, Typed, want, gives, leaves, local_of, expr, stmt}
use Rattle.grammar.specs.Flat as G
use Rattle.flat.specs.Items.{code, size}
use Rattle.flat.specs.Statements.{flat}
use Rattle.flat.specs.Words.{items_words, stmt_words, rest_length}
use Rattle.rules.specs.Tables.{part, type_of, local_at, locals_in}
use Rattle.rules.specs.Named.{NamedExpr}
use Rattle.std.specs.Prelude.{Some, None, Result, Ok, Err, ⊤}
use Rattle.std.specs.Prelude as P
use Rattle.std.specs.Prelude.{is_some}
use Rattle.rules.specs.declared.names.Local as N
use Rattle.rules.specs.declared.program.Global as H
use Rattle.rules.specs.declared.program.Program.{Program}
use Rattle.rules.specs.declared.Broken.{Broken}
use Rattle.grammar.specs.declared.tree.ValueType.{ValueType}
use Rattle.rules.specs.Values.{meant, result_in, known, FindsLocal, Enters, globals_of, FindsGlobal, broken_at, scope_at}
use Rattle.rules.specs.Post.{Freshly, Leaves, TypedAs, ExprCase, Elaborates, scope_of, Stated, States}
use Rattle.rules.proofs.Sizes.{sized}
use Rattle.rules.proofs.Lengths.{expr_words_lem, code_length}
use Rattle.rules.proofs.Stacks.{set_before, get_before, get_inside}

-- what is written in the gap that was left before
pub sets_before : (l : List ℕ) (i : ℕ) (h c : List ℕ) → sets (sets l (i + length h) c) i h ≡ sets l i (h ++ c)
sets_before l i [] c = ap (λ (k : ℕ). sets l k c) (add-zero i)
sets_before l i (x ∷ h) c =
    ap (λ (w : List ℕ). sets w (suc i) h) (set_before l (i + suc (length h)) i x c (omega arith))
    ∙ ap (λ (k : ℕ). sets (sets (set l i x) k c) (suc i) h) (add-suc i (length h) ∙ sym (suc-add i (length h)))
    ∙ sets_before (set l i x) (suc i) h c

pub went : {A B : Type 0} {m : Ruled A} {a : A} (f : A → Ruled B) {r : Ruled B} → m ≡ keeps a → f a ≡ r → m >>= f ≡ r
unfolding ◌>>=◌
went f e h = ap (λ n. n >>= f) e ∙ h

pub stopped : {A B : Type 0} {m : Ruled A} {at : Place} (f : A → Ruled B) → m ≡ breaks at → m >>= f ≡ breaks at
unfolding ◌>>=◌
stopped f e = ap (λ n. n >>= f) e

pub want_fine : (t : Ty) (at : Place) (v : Typed) {u : Ty} {b : Bool} → v.type ≡ u → b ≡ same_ty t u → b ≡ true → want t at v ≡ keeps v.expr
unfolding want need ◌>>=◌
want_fine t at v e q f = rw (e, ← q, f) refl

pub want_wrong : (t : Ty) (at : Place) (v : Typed) {u : Ty} {b : Bool} → v.type ≡ u → b ≡ same_ty t u → b ≡ false → want t at v ≡ breaks at
unfolding want need ◌>>=◌
want_wrong t at v e q f = rw (e, ← q, f) refl

-- the header's words, before the items
unfoldable pub headed : ℕ → ℕ → C.Expr → List ℕ
headed k a v = k ∷ a ∷ 0 ∷ length (code v 0 []) ∷ 0 ∷ 0 ∷ 0 ∷ 4 * length (code v 0 []) ∷ items_words (code v 0 []) []

module _ {text : List ℕ} {gs : List Global} {ls : List Local} {n : ℕ} {ws : List ℕ} (q : ℕ) {core : List ℕ} {r : Result ValueType Broken} {core₁ : List ℕ} (x : Elaborates text gs ls n ws (q + 8) core r core₁)
    (e : T.Expr) (more : List ℕ) (ew : ws ≡ G.expr_words e more) (en : n ≡ G.size e) (nm : NamedExpr text e) where
  pub typed : {ty : ValueType} → r ≡ Ok ty → TypedAs (expr gs ls e) (q + 8) core ty core₁
  typed d = subst (λ (o : Result ValueType Broken). ExprCase (expr gs ls e) (q + 8) core o core₁) d (x.by e more ew en nm)

  pub faulty : {at : Broken} → r ≡ Err at → expr gs ls e ≡ breaks at.0
  faulty d = subst (λ (o : Result ValueType Broken). ExprCase (expr gs ls e) (q + 8) core o core₁) d (x.by e more ew en nm)

  pub with_header : {ty : ValueType} (k a rest : ℕ) {core₂ : List ℕ} (t : TypedAs (expr gs ls e) (q + 8) core ty core₁) → rest ≡ G.expr_length e → core₂ ≡ sets core₁ q (k ∷ a ∷ 0 ∷ n ∷ 0 ∷ 0 ∷ 0 ∷ rest ∷ []) →
      core₂ ≡ sets core q (headed k a t.value.expr)
  unfolding headed
  with_header k a rest t er y =
      y ∙ (ap (λ (w : List ℕ). sets w q (k ∷ a ∷ 0 ∷ n ∷ 0 ∷ 0 ∷ 0 ∷ rest ∷ [])) t.there ∙ (sets_before core q (k ∷ a ∷ 0 ∷ n ∷ 0 ∷ 0 ∷ 0 ∷ rest ∷ []) (items_words (code t.value.expr 0 []) []) ∙
      same (length (code t.value.expr 0 [])) (en ∙ sym items) (er ∙ (expr_words_lem e [] ∙ omega (arith, items)))))
    where
      items : length (code t.value.expr 0 []) ≡ G.size e
      items = code_length t.value.expr 0 [] ∙ (omega (arith) ∙ ((sized gs ls e).holds t.value t.is).same)

      same : (m : ℕ) → n ≡ m → rest ≡ 4 * m →
          sets core q (k ∷ a ∷ 0 ∷ n ∷ 0 ∷ 0 ∷ 0 ∷ rest ∷ items_words (code t.value.expr 0 []) []) ≡ sets core q (k ∷ a ∷ 0 ∷ m ∷ 0 ∷ 0 ∷ 0 ∷ 4 * m ∷ items_words (code t.value.expr 0 []) [])
      same m e f = rw (e, f) refl

module _ (text : List ℕ) (gs : List Global) (locals : List ℕ) (l count : ℕ) (result : Option Ty) (at : Place) {n : ℕ} (rest : ℕ) {ws : List ℕ} (q : ℕ) {core : List ℕ} {r : Result ValueType Broken} {core₁ : List ℕ}
    (x : Elaborates text gs (locals_in text locals l) n ws (q + 8) core r core₁) where
  -- what no statement gets past
  pub expr_fault : {b : Broken} {core₂ : List ℕ} (build : T.Expr → T.Stmt) → ((e : T.Expr) → expr gs (locals_in text locals l) e ≡ breaks b.0 → stmt gs result (build e) (scope_of gs text locals l count) ≡ breaks b.0) → r ≡ Err b →
      States text gs locals l count result build n rest ws q core (Err b) locals core₂
  expr_fault build k d = record { by = λ e more ew en er nm. k e (faulty q x e more ew en nm d) }

  module _ {ty : ValueType} (d : r ≡ Ok ty) where
    emit_at : (e : T.Expr) {core₂ : List ℕ} (t : TypedAs (expr gs (locals_in text locals l) e) (q + 8) core ty core₁) → same_ty int (meant ty) ≡ true → core₂ ≡ sets core q (headed 6 0 t.value.expr) →
        Stated gs text (stmt gs result (T.emit at e) (scope_of gs text locals l count)) q core l count locals core₂
    unfolding stmt flat stmt_words rest_length headed
    emit_at e t f y = record { value = C.emit t.value.expr; is = went _ t.is (went _ (want_fine int at t.value t.type refl f) refl); there = y }

    pub emit_next : {core₂ : List ℕ} → same_ty int (meant ty) ≡ true → core₂ ≡ sets core₁ q (6 ∷ 0 ∷ 0 ∷ n ∷ 0 ∷ 0 ∷ 0 ∷ rest ∷ []) →
        States text gs locals l count result (λ e. T.emit at e) n rest ws q core (Ok (scope_at l count)) locals core₂
    emit_next f y = record { by = λ e more ew en er nm. emit_at e (typed q x e more ew en nm d) f (with_header q x e more ew en nm 6 0 rest (typed q x e more ew en nm d) er y) }

    emit_off : (e : T.Expr) → TypedAs (expr gs (locals_in text locals l) e) (q + 8) core ty core₁ → same_ty int (meant ty) ≡ false → stmt gs result (T.emit at e) (scope_of gs text locals l count) ≡ breaks at
    unfolding stmt
    emit_off e t f = went _ t.is (stopped _ (want_wrong int at t.value t.type refl f))

    pub emit_wrong : {core₂ : List ℕ} → same_ty int (meant ty) ≡ false → States text gs locals l count result (λ e. T.emit at e) n rest ws q core (Err (broken_at at)) locals core₂
    emit_wrong f = record { by = λ e more ew en er nm. emit_off e (typed q x e more ew en nm d) f }

  emit_stop : {b : Place} (e : T.Expr) → expr gs (locals_in text locals l) e ≡ breaks b → stmt gs result (T.emit at e) (scope_of gs text locals l count) ≡ breaks b
  unfolding stmt
  emit_stop e f = stopped _ f

  pub emit_fault : {b : Broken} {core₂ : List ℕ} → r ≡ Err b → States text gs locals l count result (λ e. T.emit at e) n rest ws q core (Err b) locals core₂
  emit_fault d = expr_fault (λ e. T.emit at e) (λ e f. emit_stop e f) d

  -- Returning a value

  give_stop : {b : Place} (e : T.Expr) → expr gs (locals_in text locals l) e ≡ breaks b → stmt gs result (T.give at e) (scope_of gs text locals l count) ≡ breaks b
  unfolding stmt
  give_stop e f = stopped _ f

  pub give_fault : {b : Broken} {core₂ : List ℕ} → r ≡ Err b → States text gs locals l count result (λ e. T.give at e) n rest ws q core (Err b) locals core₂
  give_fault d = expr_fault (λ e. T.give at e) (λ e f. give_stop e f) d

  module _ {ty : ValueType} (d : r ≡ Ok ty) where
    give_nothing_at : (e : T.Expr) → TypedAs (expr gs (locals_in text locals l) e) (q + 8) core ty core₁ → result ≡ none → stmt gs result (T.give at e) (scope_of gs text locals l count) ≡ breaks at
    unfolding stmt gives
    give_nothing_at e t z = went _ t.is (stopped _ (ap (λ (o : Option Ty). gives gs o at t.value) z))

    pub give_nothing : {core₂ : List ℕ} → result ≡ none → States text gs locals l count result (λ e. T.give at e) n rest ws q core (Err (broken_at at)) locals core₂
    give_nothing z = record { by = λ e more ew en er nm. give_nothing_at e (typed q x e more ew en nm d) z }

    module _ {u : Ty} (w : result ≡ some u) where
      give_at : (e : T.Expr) {core₂ : List ℕ} (t : TypedAs (expr gs (locals_in text locals l) e) (q + 8) core ty core₁) → same_ty u (meant ty) ≡ true → core₂ ≡ sets core q (headed 5 0 t.value.expr) →
          Stated gs text (stmt gs result (T.give at e) (scope_of gs text locals l count)) q core l count locals core₂
      unfolding stmt gives flat stmt_words rest_length headed
      give_at e t f y = record {
        value = C.give t.value.expr;
        is = went _ t.is (went _ (ap (λ (o : Option Ty). gives gs o at t.value) w ∙ went _ (want_fine u at t.value t.type refl f) refl) refl);
        there = y;
      }

      pub give_next : {core₂ : List ℕ} → same_ty u (meant ty) ≡ true → core₂ ≡ sets core₁ q (5 ∷ 0 ∷ 0 ∷ n ∷ 0 ∷ 0 ∷ 0 ∷ rest ∷ []) → States text gs locals l count result (λ e. T.give at e) n rest ws q core (Ok (scope_at l count)) locals core₂
      give_next f y = record { by = λ e more ew en er nm. give_at e (typed q x e more ew en nm d) f (with_header q x e more ew en nm 5 0 rest (typed q x e more ew en nm d) er y) }

      give_off : (e : T.Expr) → TypedAs (expr gs (locals_in text locals l) e) (q + 8) core ty core₁ → same_ty u (meant ty) ≡ false → stmt gs result (T.give at e) (scope_of gs text locals l count) ≡ breaks at
      unfolding stmt gives
      give_off e t f = went _ t.is (stopped _ (ap (λ (o : Option Ty). gives gs o at t.value) w ∙ stopped _ (want_wrong u at t.value t.type refl f)))

      pub give_wrong : {core₂ : List ℕ} → same_ty u (meant ty) ≡ false → States text gs locals l count result (λ e. T.give at e) n rest ws q core (Err (broken_at at)) locals core₂
      give_wrong f = record { by = λ e more ew en er nm. give_off e (typed q x e more ew en nm d) f }

  -- Assigning to a visible local

  module _ (size : ℕ) where
    assign_stop : {b : Place} (e : T.Expr) → expr gs (locals_in text locals l) e ≡ breaks b → stmt gs result (T.assign at (part text at size) e) (scope_of gs text locals l count) ≡ breaks b
    unfolding stmt
    assign_stop e f = stopped _ f

    pub assign_fault : {b : Broken} {core₂ : List ℕ} → r ≡ Err b → States text gs locals l count result (λ e. T.assign at (part text at size) e) n rest ws q core (Err b) locals core₂
    assign_fault d = expr_fault (λ e. T.assign at (part text at size) e) (λ e f. assign_stop e f) d

    module _ {ty : ValueType} (d : r ≡ Ok ty) where
      unknown_at : (e : T.Expr) → TypedAs (expr gs (locals_in text locals l) e) (q + 8) core ty core₁ → FindsLocal text locals l (part text at size) None → stmt gs result (T.assign at (part text at size) e) (scope_of gs text locals l count) ≡ breaks at
      unfolding stmt found
      unknown_at e t f = went _ t.is (stopped _ (ap (λ (o : Option Local). found o at) f.is))

      pub assign_unknown : {core₂ : List ℕ} → FindsLocal text locals l (part text at size) None → States text gs locals l count result (λ e. T.assign at (part text at size) e) n rest ws q core (Err (broken_at at)) locals core₂
      assign_unknown z = record { by = λ e more ew en er nm. unknown_at e (typed q x e more ew en nm d) z }

      module _ (v : N.Local) (f : FindsLocal text locals l (part text at size) (Some v)) where
        the_local : found (local_of (locals_in text locals l) (part text at size)) at ≡ keeps (known text v)
        unfolding found
        the_local = ap (λ (o : Option Local). found o at) f.is

        assign_off : (e : T.Expr) → TypedAs (expr gs (locals_in text locals l) e) (q + 8) core ty core₁ → same_ty (meant v.ty) (meant ty) ≡ false → stmt gs result (T.assign at (part text at size) e) (scope_of gs text locals l count) ≡ breaks at
        unfolding stmt
        assign_off e t k = went _ t.is (went _ the_local (stopped _ (want_wrong (meant v.ty) at t.value t.type refl k)))

        pub assign_wrong : {core₂ : List ℕ} → same_ty (meant v.ty) (meant ty) ≡ false → States text gs locals l count result (λ e. T.assign at (part text at size) e) n rest ws q core (Err (broken_at at)) locals core₂
        assign_wrong k = record { by = λ e more ew en er nm. assign_off e (typed q x e more ew en nm d) k }

        assign_at : (e : T.Expr) {core₂ : List ℕ} (t : TypedAs (expr gs (locals_in text locals l) e) (q + 8) core ty core₁) → same_ty (meant v.ty) (meant ty) ≡ true → core₂ ≡ sets core q (headed 0 v.slot t.value.expr) →
            Stated gs text (stmt gs result (T.assign at (part text at size) e) (scope_of gs text locals l count)) q core l count locals core₂
        unfolding stmt flat stmt_words rest_length headed
        assign_at e t k c = record { value = C.put v.slot t.value.expr; is = went _ t.is (went _ the_local (went _ (want_fine (meant v.ty) at t.value t.type refl k) refl)); there = c }

        pub assign_next : {core₂ : List ℕ} → same_ty (meant v.ty) (meant ty) ≡ true → core₂ ≡ sets core₁ q (0 ∷ v.slot ∷ 0 ∷ n ∷ 0 ∷ 0 ∷ 0 ∷ rest ∷ []) →
            States text gs locals l count result (λ e. T.assign at (part text at size) e) n rest ws q core (Ok (scope_at l count)) locals core₂
        assign_next k c = record { by = λ e more ew en er nm. assign_at e (typed q x e more ew en nm d) k (with_header q x e more ew en nm 0 v.slot rest (typed q x e more ew en nm d) er c) }

-- the result type

abbrev result_or : P.Option ValueType → Ty
result_or None = int
result_or (Some t) = meant t

pub no_result : (o : P.Option ValueType) → is_some o ≡ false → result_in o ≡ none
no_result None e = refl
no_result (Some t) e = cc

pub some_result : (o : P.Option ValueType) → is_some o ≡ true → result_in o ≡ some (result_or o)
some_result None e = cc
some_result (Some t) e = refl

-- Declaring a local

pub same_locals : (text ws us : List ℕ) (l : ℕ) → ((i : ℕ) → i < 4 * l → get_or us i 0 ≡ get_or ws i 0) → locals_in text us l ≡ locals_in text ws l
unfolding locals_in local_at
same_locals text ws us zero h = refl
same_locals text ws us (suc l) h =
    rw (h (4 * l) (omega arith), h (4 * l + 1) (omega arith), h (4 * l + 2) (omega arith), h (4 * l + 3) (omega arith), same_locals text ws us l (λ i k. h i (omega (arith, k)))) refl

entered_at : (text locals : List ℕ) (l at size ty slot : ℕ) → 4 * l + 4 ≤ length locals →
    locals_in text (sets locals (4 * l) (at ∷ size ∷ ty ∷ slot ∷ [])) (l + 1) ≡ record { name = part text at size; type = type_of ty; slot = slot } ∷ locals_in text locals l
unfolding locals_in local_at
entered_at text locals l at size ty slot h =
    rw (
      add-one l,
      get_inside locals (4 * l) (4 * l) 0 (at ∷ size ∷ ty ∷ slot ∷ []) (omega arith) (omega arith) (omega (arith, h)),
      get_inside locals (4 * l) (4 * l + 1) 1 (at ∷ size ∷ ty ∷ slot ∷ []) refl (omega arith) (omega (arith, h)),
      get_inside locals (4 * l) (4 * l + 2) 2 (at ∷ size ∷ ty ∷ slot ∷ []) refl (omega arith) (omega (arith, h)),
      get_inside locals (4 * l) (4 * l + 3) 3 (at ∷ size ∷ ty ∷ slot ∷ []) refl (omega arith) (omega (arith, h)),
      same_locals text locals (sets locals (4 * l) (at ∷ size ∷ ty ∷ slot ∷ [])) l (λ i k. get_before locals (4 * l) i (at ∷ size ∷ ty ∷ slot ∷ []) k),
    ) refl

pub entered : {locals locals' : List ℕ} (l ty : ℕ) (x : N.Local) → type_of ty ≡ meant x.ty → 4 * l + 4 ≤ length locals → locals' ≡ sets locals (4 * l) (x.name.place ∷ x.name.length ∷ ty ∷ x.slot ∷ []) → Enters locals l x locals'
entered {locals} l ty x t h e = record {
  is = λ text. ap (λ (w : List ℕ). locals_in text w (l + 1)) e ∙ (entered_at text locals l x.name.place x.name.length ty x.slot h ∙ rw t refl);
  before = λ i k. ap (λ (w : List ℕ). get_or w i 0) e ∙ get_before locals (4 * l) i (x.name.place ∷ x.name.length ∷ ty ∷ x.slot ∷ []) k;
}

module _ {p : Program} {locals : List ℕ} {l : ℕ} (at size : ℕ) where
  pub named_global : (o : P.Option H.Global) → FindsGlobal p (part p.text.now at size) o → is_some o ≡ true → Freshly p.text.now (globals_of p) locals l at size false
  unfolding fresh need ◌>>=◌
  named_global None f h = cc
  named_global (Some g) f h = record { is = rw f.is refl }

  pub named_local : (o : P.Option H.Global) → FindsGlobal p (part p.text.now at size) o → is_some o ≡ false → (v : P.Option N.Local) {b : Bool} → FindsLocal p.text.now locals l (part p.text.now at size) v → is_some v ≡ not b → Freshly p.text.now (globals_of p) locals l at size b
  unfolding fresh need ◌>>=◌
  named_local (Some g) f h v k q = cc
  named_local None f h None {b = true} k q = record { is = rw (f.is, k.is) refl }
  named_local None f h None {b = false} k q = cc
  named_local None f h (Some v) {b = true} k q = cc
  named_local None f h (Some v) {b = false} k q = record { is = rw (f.is, k.is) refl }

module _ (text : List ℕ) (gs : List Global) (locals : List ℕ) (l count : ℕ) (result : Option Ty) (at size : ℕ) (u : Ty) {n : ℕ} (rest : ℕ) {ws : List ℕ} (q : ℕ) {core : List ℕ} {r : Result ValueType Broken} {core₁ : List ℕ}
    (x : Elaborates text gs (locals_in text locals l) n ws (q + 8) core r core₁) where
  abbrev let_of : T.Expr → T.Stmt
  let_of e = T.declare at (part text at size) u e

  abbrev stmt_of_here : T.Expr → Ruled (C.Stmt × Scope gs)
  stmt_of_here e = stmt gs result (let_of e) (scope_of gs text locals l count)

  abbrev expr_of_here : T.Expr → Ruled Typed
  expr_of_here e = expr gs (locals_in text locals l) e

  declare_stop : {b : Place} (e : T.Expr) → expr_of_here e ≡ breaks b → stmt_of_here e ≡ breaks b
  unfolding stmt
  declare_stop e f = stopped _ f

  pub declare_fault : {b : Broken} {locals₂ core₂ : List ℕ} → r ≡ Err b → States text gs locals l count result (λ e. let_of e) n rest ws q core (Err b) locals₂ core₂
  declare_fault d = record { by = λ e more ew en er nm. declare_stop e (faulty q x e more ew en nm d) }

  module _ {ty : ValueType} (wanted : ValueType) (d : r ≡ Ok ty) (v : meant wanted ≡ u) where
    the_test : {b : Bool} → same_ty (meant wanted) (meant ty) ≡ b → same_ty u (meant ty) ≡ b
    the_test y = ap (λ (t : Ty). same_ty t (meant ty)) (sym v) ∙ y

    declare_off : (e : T.Expr) → TypedAs (expr_of_here e) (q + 8) core ty core₁ → same_ty (meant wanted) (meant ty) ≡ false → stmt_of_here e ≡ breaks at
    unfolding stmt
    declare_off e t f = went _ t.is (stopped _ (want_wrong u at t.value t.type refl (the_test f)))

    pub declare_wrong : {locals₂ core₂ : List ℕ} → same_ty (meant wanted) (meant ty) ≡ false → States text gs locals l count result (λ e. let_of e) n rest ws q core (Err (broken_at at)) locals₂ core₂
    declare_wrong f = record { by = λ e more ew en er nm. declare_off e (typed q x e more ew en nm d) f }

    module _ {c : Bool} (f : same_ty (meant wanted) (meant ty) ≡ true) (z : Freshly text gs locals l at size c) where
      declare_taken : (e : T.Expr) → TypedAs (expr_of_here e) (q + 8) core ty core₁ → c ≡ false → stmt_of_here e ≡ breaks at
      unfolding stmt need
      declare_taken e t k = went _ t.is (went _ (want_fine u at t.value t.type refl (the_test f)) (stopped _ (z.is ∙ ap (λ (v : Bool). need v at) k)))

      pub declare_again : {locals₂ core₂ : List ℕ} → c ≡ false → States text gs locals l count result (λ e. let_of e) n rest ws q core (Err (broken_at at)) locals₂ core₂
      declare_again k = record { by = λ e more ew en er nm. declare_taken e (typed q x e more ew en nm d) k }

      module _ (k : c ≡ true) where
        is_fresh : fresh gs (locals_in text locals l) at (part text at size) ≡ keeps tt
        unfolding need
        is_fresh = z.is ∙ ap (λ (v : Bool). need v at) k

        declare_full : (e : T.Expr) → TypedAs (expr_of_here e) (q + 8) core ty core₁ → 64 ≤ count → stmt_of_here e ≡ breaks at
        unfolding stmt need
        declare_full e t m = went _ t.is (went _ (want_fine u at t.value t.type refl (the_test f)) (went _ is_fresh (stopped _ (ap (λ (v : Bool). need v at) (le-ltb count 64 m)))))

        pub declare_many : {locals₂ core₂ : List ℕ} → 64 ≤ count → States text gs locals l count result (λ e. let_of e) n rest ws q core (Err (broken_at at)) locals₂ core₂
        declare_many m = record { by = λ e more ew en er nm. declare_full e (typed q x e more ew en nm d) m }

        declare_at : (e : T.Expr) {locals₂ core₂ : List ℕ} (t : TypedAs (expr_of_here e) (q + 8) core ty core₁) → count < 64 → Enters locals l (record { name = record { place = at; length = size }; ty = wanted; slot = count }) locals₂ → core₂ ≡ sets core q (headed 0 count t.value.expr) →
            Stated gs text (stmt_of_here e) q core (l + 1) (count + 1) locals₂ core₂
        unfolding stmt need flat stmt_words rest_length headed
        declare_at e {locals₂} t m w c' = record {
          value = C.put count t.value.expr;
          is = went _ t.is (went _ (want_fine u at t.value t.type refl (the_test f)) (went _ is_fresh (went _ (ap (λ (v : Bool). need v at) (lt-ltb count 64 m)) (rw (w.is text, add-one count, v) refl))));
          there = c';
        }

        pub declare_next : {locals₂ core₂ : List ℕ} → count < 64 → Enters locals l (record { name = record { place = at; length = size }; ty = wanted; slot = count }) locals₂ → core₂ ≡ sets core₁ q (0 ∷ count ∷ 0 ∷ n ∷ 0 ∷ 0 ∷ 0 ∷ rest ∷ []) →
            States text gs locals l count result (λ e. let_of e) n rest ws q core (Ok (scope_at (l + 1) (count + 1))) locals₂ core₂
        declare_next m w c' = record { by = λ e more ew en er nm. declare_at e (typed q x e more ew en nm d) m w (with_header q x e more ew en nm 0 count rest (typed q x e more ew en nm d) er c') }

-- Returning nothing

leave_at : (l count : ℕ) (result : Option Ty) (at q : ℕ) (core core' text : List ℕ) (gs : List Global) (locals : List ℕ) → result ≡ none → core' ≡ sets core q (4 ∷ 0 ∷ 0 ∷ 0 ∷ 0 ∷ 0 ∷ 0 ∷ 0 ∷ []) →
    Stated gs text (stmt gs result (T.leave at) (scope_of gs text locals l count)) q core l count locals core'
unfolding stmt leaves flat stmt_words rest_length ◌>>=◌
leave_at l count result at q core core' text gs locals e y = record { value = C.leave; is = rw e refl; there = y }

pub leave_next : {core core' : List ℕ} (l count : ℕ) (result : Option Ty) (at q : ℕ) → result ≡ none → core' ≡ sets core q (4 ∷ 0 ∷ 0 ∷ 0 ∷ 0 ∷ 0 ∷ 0 ∷ 0 ∷ []) → Leaves l count result at q core (Ok (scope_at l count)) core'
leave_next {core} {core'} l count result at q e y = record { by = λ text gs locals. leave_at l count result at q core core' text gs locals e y }

leave_off : (l count : ℕ) (result : Option Ty) {t : Ty} (at : ℕ) (text : List ℕ) (gs : List Global) (locals : List ℕ) → result ≡ some t → stmt gs result (T.leave at) (scope_of gs text locals l count) ≡ breaks at
unfolding stmt leaves ◌>>=◌
leave_off l count result at text gs locals e = rw e refl

pub leave_wrong : {core core' : List ℕ} (l count : ℕ) (result : Option Ty) {t : Ty} (at q : ℕ) → result ≡ some t → Leaves l count result at q core (Err (broken_at at)) core'
leave_wrong l count result at q e = record { by = λ text gs locals. leave_off l count result at text gs locals e }
