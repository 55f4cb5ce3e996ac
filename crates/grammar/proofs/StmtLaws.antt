-- Each way through the functions of statements is a clause of the parser.
use mathlib.Core.Path.{◌≡◌, refl, sym, ap, subst, ◌∙◌}
use mathlib.Core.Bool.{Bool}
use mathlib.Core.List.{List, [], ◌∷◌, ◌++◌, append-nil}
use Prim.Native.Nat.{ℕ, zero, suc, ◌+◌, ◌*◌, ◌-◌, ◌/◌, ◌≤◌, ◌<◌}
use native.Mathlib.Omega.{arith}
use lib.Dec.{ltb, eqb}
use lib.ListN.{length}
use lib.Seq.{sets}
use Rattle.tokens.proofs.Lists.{pick_g}
use borrow.Author.Tests.{eqb-true, lt-ltb, le-ltb}
use Rattle.word.specs.Choice.{pick}
use Rattle.language.specs.Tree.{Place, Name, Ty, Expr, Args, Stmt, Block}
use Rattle.tokens.specs.Kinds.{sign_kind, word_kind}
use Rattle.grammar.specs.Parse.{Out, Out.ok, Out.bad, next, map, place_in, name_in, kind, levelled, enclosed_of, arguments_of, expr_of, index_of, call_of, ended_of, type_of, typed_of, declare_of, assign_of, store_of, run_of, change_of, return_of, emit_of, while_of, else_of, if_of, stmt_of, stmts_of, block_of}
use Rattle.grammar.specs.Flat.{size, sizes, arg_count, expr_words, args_words, expr_length, run_words, stmt_words, block_words, count, declare_kind, type_number}
use Rattle.grammar.specs.Told.{Row, field_of, Holds, Form, Found, Told, Room, expr_form, args_form, single_form, type_form, stmt_form, block_form}
use Rattle.grammar.proofs.FlatLaws.{expr_linear, args_linear, stmt_linear, block_linear, expr_length_lem, args_length}
use Rattle.grammar.proofs.Steps.{Got, Done, Fault, fault, same, leaf, close, front, recast, front_two, front_three, Going, goes_done, goes_fault, goes_on, map_id, kind_is, kind_not, kind_eq, name_length, place_is}

-- items of so many words
quarter : (w s : ℕ) → w ≡ 4 * s + 0 → w / 4 ≡ s
quarter w s e = omega (arith, e)

pub items_of : (e : Expr) (w : ℕ) → w ≡ expr_length e → w / 4 ≡ size e
items_of e w q = quarter w (size e) (q ∙ expr_length_lem e [])

-- room after a statement's first part, which leaves a header's words free
pub room_go : {A : Type 0} {F : Form A} {f : Row → Out A} {ts : List ℕ} {n i at b j e c : ℕ} {xs ys : List ℕ} → Room n xs i at → b ≡ at + 8 → Found F f ts n xs (i + 1) b j e c ys → length ys ≡ length xs → (k : ℕ) → j ≤ k → k ≤ n → Room n ys k e
room_go r z f q k l l' = record { begins = l'; free = omega (arith, r.free, f.small) }

-- `ended`
module _ (d i : ℕ) {ts : List ℕ} {n at : ℕ} {xs : List ℕ} where
  pub ended_bad : {p : ℕ} {ys : List ℕ} → ((tok : Row) → Holds tok ts n → levelled tok 230 1 d i ≡ bad p) → Told expr_form (λ tok. ended_of tok d i) ts n xs i at (Fault p) ys
  unfolding ended_of expr_of
  ended_bad b = fault (λ tok H. rw (b tok H))

  pub ended_open : {j e c k : ℕ} {ys : List ℕ} → Found expr_form (λ tok. levelled tok 230 1 d i) ts n xs i at j e c ys → k ≡ field_of ts n j 0 → (k ≡ 25 → ⊥) → Told expr_form (λ tok. ended_of tok d i) ts n xs i at (Fault j) ys
  unfolding ended_of expr_of sign_kind
  ended_open {j} b q z = fault (λ tok H. rw ((b.says tok H).is, kind_not H j 25 q z))

  pub ended_done : {j e c k : ℕ} {ys : List ℕ} → Found expr_form (λ tok. levelled tok 230 1 d i) ts n xs i at j e c ys → k ≡ field_of ts n j 0 → k ≡ 25 → j < n → Told expr_form (λ tok. ended_of tok d i) ts n xs i at (Done (j + 1) e 1) ys
  unfolding ended_of expr_of sign_kind
  ended_done {j} b q z g =
      close (λ tok a. a) [] b refl (omega arith) (omega arith) (omega (arith, b.small)) (omega arith) (λ tok H a o _. (rw (o, kind_eq H j 25 q z), sym (append-nil (expr_words a [])), refl))

-- `single`
module _ (d k p x i : ℕ) {ts : List ℕ} {n at : ℕ} {xs : List ℕ} where
  pub single_bad : {q : ℕ} {ys : List ℕ} → ((tok : Row) → Holds tok ts n → ended_of tok d (i + 1) ≡ bad q) → Told (single_form k p x) (λ tok. ended_of tok d (i + 1)) ts n xs i at (Fault q) ys
  single_bad b = fault b

  pub single_done : {b j e c w : ℕ} {ys zs : List ℕ} → b ≡ at + 8 → Found expr_form (λ tok. ended_of tok d (i + 1)) ts n xs (i + 1) b j e c ys → w ≡ e - b → zs ≡ sets ys at (k ∷ p ∷ x ∷ w / 4 ∷ 0 ∷ 0 ∷ 0 ∷ w ∷ []) → Told (single_form k p x) (λ tok. ended_of tok d (i + 1)) ts n xs i at (Done j e c) zs
  single_done {b} {j} {e} {c} {w} q f r s =
      front (λ tok a. a) (k ∷ p ∷ x ∷ w / 4 ∷ 0 ∷ 0 ∷ 0 ∷ w ∷ []) q f s f.within (omega (arith, f.small)) f.fits
      (λ tok H a o v t.
      let u : w ≡ expr_length a = omega (arith, r, t) in
      (o, sym (ap (λ (m : ℕ). k ∷ p ∷ x ∷ m ∷ 0 ∷ 0 ∷ 0 ∷ w ∷ expr_words a []) (items_of a w u) ∙ ap (λ (m : ℕ). k ∷ p ∷ x ∷ size a ∷ 0 ∷ 0 ∷ 0 ∷ m ∷ expr_words a []) u), v))

-- `type_at` and `typed`
module _ (i : ℕ) {ts : List ℕ} {n : ℕ} where
  pub type_int : {k : ℕ} → k ≡ field_of ts n i 0 → k ≡ 35 → i < n → Told type_form (λ tok. type_of tok i) ts n [] i 0 (Done (i + 1) 0 1) []
  unfolding type_of word_kind type_number
  type_int q e l = leaf (λ tok. Ty.int) [] refl refl (omega arith) (omega arith) (omega arith) (λ tok H. (rw (kind_eq H i 35 q e), refl, refl))

  pub type_bool : {k : ℕ} → k ≡ field_of ts n i 0 → k ≡ 36 → i < n → Told type_form (λ tok. type_of tok i) ts n [] i 0 (Done (i + 1) 0 2) []
  unfolding type_of word_kind type_number
  type_bool q e l = leaf (λ tok. Ty.bool) [] refl refl (omega arith) (omega arith) (omega arith) (λ tok H. (rw (kind_eq H i 36 q e), refl, refl))

  pub type_none : {k : ℕ} → k ≡ field_of ts n i 0 → (k ≡ 35 → ⊥) → (k ≡ 36 → ⊥) → Told type_form (λ tok. type_of tok i) ts n [] i 0 (Fault i) []
  unfolding type_of word_kind
  type_none q a b = fault (λ tok H. rw (kind_not H i 35 q a, kind_not H i 36 q b))

  pub typed_unnamed : {k : ℕ} → k ≡ field_of ts n i 0 → (k ≡ 1 → ⊥) → Told type_form (λ tok. typed_of tok i) ts n [] (i + 1) 0 (Fault i) []
  unfolding typed_of
  typed_unnamed q a = fault (λ tok H. rw (kind_not H i 1 q a))

  module _ {k v : ℕ} (q : k ≡ field_of ts n i 0) (e : k ≡ 1) (r : v ≡ field_of ts n (i + 1) 0) where
    pub typed_bare : (v ≡ 24 → ⊥) → Told type_form (λ tok. typed_of tok i) ts n [] (i + 1) 0 (Fault (i + 1)) []
    unfolding typed_of sign_kind
    typed_bare a = fault (λ tok H. rw (kind_eq H i 1 q e, kind_not H (i + 1) 24 r a))

    pub typed_type : {g : Got} → v ≡ 24 → Told type_form (λ tok. type_of tok (i + 2)) ts n [] (i + 2) 0 g [] → Told type_form (λ tok. typed_of tok i) ts n [] (i + 1) 0 g []
    unfolding typed_of sign_kind
    typed_type a t = recast (λ tok H t. t) (omega arith) t (λ tok H. rw (kind_eq H i 1 q e, kind_eq H (i + 1) 24 r a) (map_id (type_of tok (i + 2)))) (λ tok H a. (refl, refl))

-- what is read as a typed name begins with a name
pub typed_name : (tok : Row) (i : ℕ) {t : Ty} {j : ℕ} → typed_of tok i ≡ ok t j → kind tok i ≡ 1
unfolding typed_of
typed_name tok i {t} {j} = pick_g (λ (o : Out Ty). o ≡ ok t j → kind tok i ≡ 1) (eqb (kind tok i) 1) _ (bad i) (λ b e. eqb-true _ _ b) (λ b e. absurd (let z : ◌≡◌ {A = ℕ} 0 1 = cc in omega arith))

-- `declare`
declare_kind_lem : (t : Ty) → declare_kind t ≡ pick (eqb (type_number t) 1) 9 10
unfolding declare_kind type_number
declare_kind_lem Ty.int = refl
declare_kind_lem Ty.bool = refl

module _ (d i : ℕ) {ts : List ℕ} {n at : ℕ} {xs : List ℕ} where
  pub declare_bad : {p : ℕ} {ys : List ℕ} → ((tok : Row) → Holds tok ts n → typed_of tok (i + 1) ≡ bad p) → Told stmt_form (λ tok. declare_of tok d i) ts n xs i at (Fault p) ys
  unfolding declare_of
  declare_bad b = fault (λ tok H. rw (b tok H))

  module _ {j e t k : ℕ} (a : Found type_form (λ tok. typed_of tok (i + 1)) ts n [] (i + 1 + 1) 0 j e t []) (q : k ≡ field_of ts n j 0) where
    pub declare_unset : {ys : List ℕ} → (k ≡ 16 → ⊥) → Told stmt_form (λ tok. declare_of tok d i) ts n xs i at (Fault j) ys
    unfolding declare_of sign_kind
    declare_unset z = fault (λ tok H. rw ((a.says tok H).is, kind_not H j 16 q z))

    pub declare_done : {u p v : ℕ} {r : Got} {ys : List ℕ} → k ≡ 16 → i + 1 ≤ j → u ≡ pick (eqb t 1) 9 10 → p ≡ field_of ts n (i + 1) 1 → v ≡ field_of ts n (i + 1) 2 → Told (single_form u p v) (λ tok. ended_of tok d (j + 1)) ts n xs j at r ys → Told stmt_form (λ tok. declare_of tok d i) ts n xs i at r ys
    unfolding declare_of sign_kind stmt_words
    declare_done {u} {p} {v} z l y w o s =
        recast (λ tok H e. Stmt.declare (place_in (tok (i + 1))) (name_in (tok (i + 1))) (a.says tok H).value e) (omega arith) s (λ tok H. rw ((a.says tok H).is, kind_eq H j 16 q z))
        (λ tok H e. (rw (declare_kind_lem (a.says tok H).value, sym (a.says tok H).told, sym y, place_is H (i + 1) w, name_length H (i + 1) refl (H.kind (i + 1) ∙ typed_name tok (i + 1) (a.says tok H).is) o), refl))

-- `store`
module _ (d i : ℕ) {ts : List ℕ} {n at : ℕ} {xs : List ℕ} where
  pub store_index_bad : {p : ℕ} {ys : List ℕ} → ((tok : Row) → Holds tok ts n → enclosed_of tok (levelled tok 230) 23 d (i + 1) ≡ bad p) → Told stmt_form (λ tok. store_of tok d i) ts n xs i at (Fault p) ys
  unfolding store_of index_of sign_kind
  store_index_bad b = fault (λ tok H. rw (b tok H))

  module _ {b j e c k : ℕ} {ys : List ℕ} (a : Found expr_form (λ tok. enclosed_of tok (levelled tok 230) 23 d (i + 1)) ts n xs (i + 1) b j e c ys) (q : k ≡ field_of ts n j 0) where
    pub store_unset : {zs : List ℕ} → (k ≡ 16 → ⊥) → Told stmt_form (λ tok. store_of tok d i) ts n xs i at (Fault j) zs
    unfolding store_of index_of sign_kind
    store_unset z = fault (λ tok H. rw ((a.says tok H).is, kind_not H j 16 q z))

    pub store_bad : {p : ℕ} {zs : List ℕ} → k ≡ 16 → ((tok : Row) → Holds tok ts n → ended_of tok d (j + 1) ≡ bad p) → Told stmt_form (λ tok. store_of tok d i) ts n xs i at (Fault p) zs
    unfolding store_of index_of sign_kind
    store_bad z h = fault (λ tok H. rw ((a.says tok H).is, kind_eq H j 16 q z, h tok H))

    pub store_done : {m f c' p v w₁ w₂ : ℕ} {zs us : List ℕ} → k ≡ 16 → b ≡ at + 8 → field_of ts n i 0 ≡ 1 → Found expr_form (λ tok. ended_of tok d (j + 1)) ts n ys (j + 1) e m f c' zs → p ≡ field_of ts n i 1 → v ≡ field_of ts n i 2 → w₁ ≡ e - b → w₂ ≡ f - e
        → us ≡ sets zs at (1 ∷ p ∷ v ∷ w₁ / 4 ∷ w₂ / 4 ∷ 0 ∷ 0 ∷ (w₁ + w₂) ∷ []) → Told stmt_form (λ tok. store_of tok d i) ts n xs i at (Done m f 1) us
    unfolding store_of index_of sign_kind stmt_words
    store_done {m} {f} {c'} {p} {v} {w₁} {w₂} z l o h r s t t' y =
        front_two (λ tok H x y. Stmt.store (place_in (tok i)) (name_in (tok i)) x y) (1 ∷ p ∷ v ∷ w₁ / 4 ∷ w₂ / 4 ∷ 0 ∷ 0 ∷ (w₁ + w₂) ∷ []) l a h y h.within (omega (arith, a.small, h.small)) (omega arith)
        (λ tok H x x' g g' _ _ u u'.
        let u₁ : w₁ ≡ expr_length x = omega (arith, t, u) in
        let u₂ : w₂ ≡ expr_length x' = omega (arith, t', u') in
        (rw (g, kind_eq H j 16 q z, g'), rw (items_of x w₁ u₁, items_of x' w₂ u₂, place_is H i r, name_length H i refl o s, sym u₁, sym u₂) (ap (λ (m : List ℕ). 1 ∷ p ∷ v ∷ size x ∷ size x' ∷ 0 ∷ 0 ∷ (w₁ + w₂) ∷ m) (expr_linear x (expr_words x' []))), refl))

-- `run`
pub items_of_run : (p : Place) (x : Name) (es : Args) (w : ℕ) → w ≡ length (run_words p x es []) → w / 4 ≡ sizes es + 1
unfolding run_words
items_of_run p x es w q = quarter w (sizes es + 1) (q ∙ args_length es (3 ∷ p ∷ length x ∷ arg_count es ∷ []) ∙ omega arith)

-- arguments and their call's item
abbrev called : Place → ℕ → ℕ → Form Args
called p v c = record { words = λ es. args_words es [] ++ (3 ∷ p ∷ v ∷ c ∷ []); tells = arg_count }

run_words_lem : (P : Place) (X : Name) (es : Args) (p v c : ℕ) → P ≡ p → length X ≡ v → c ≡ arg_count es → run_words P X es [] ≡ args_words es [] ++ (3 ∷ p ∷ v ∷ c ∷ [])
unfolding run_words
run_words_lem P X es p v c q r s = rw (q, r, sym s) (args_linear es (3 ∷ p ∷ v ∷ c ∷ []))

module _ (d i : ℕ) {ts : List ℕ} {n at : ℕ} {xs : List ℕ} where
  pub run_bad : {p : ℕ} {ys : List ℕ} → ((tok : Row) → Holds tok ts n → arguments_of tok (levelled tok 230) d (i + 1) ≡ bad p) → Told stmt_form (λ tok. run_of tok d i) ts n xs i at (Fault p) ys
  unfolding run_of call_of
  run_bad b = fault (λ tok H. rw (b tok H))

  module _ {b j e c k : ℕ} {ys : List ℕ} (a : Found args_form (λ tok. arguments_of tok (levelled tok 230) d (i + 1)) ts n xs (i + 1) b j e c ys) (q : k ≡ field_of ts n j 0) where
    pub run_open : {zs : List ℕ} → (k ≡ 25 → ⊥) → Told stmt_form (λ tok. run_of tok d i) ts n xs i at (Fault j) zs
    unfolding run_of call_of sign_kind
    run_open z = fault (λ tok H. rw ((a.says tok H).is, kind_not H j 25 q z))

    pub run_done : {p v f w : ℕ} {zs us : List ℕ} → k ≡ 25 → j < n → b ≡ at + 8 → field_of ts n i 0 ≡ 1 → p ≡ field_of ts n i 1 → v ≡ field_of ts n i 2 → zs ≡ sets ys e (3 ∷ p ∷ v ∷ c ∷ []) → f ≡ e + 4 → w ≡ f - b
        → us ≡ sets zs at (7 ∷ p ∷ v ∷ w / 4 ∷ 0 ∷ 0 ∷ 0 ∷ w ∷ []) → Told stmt_form (λ tok. run_of tok d i) ts n xs i at (Done (j + 1) f 1) us
    unfolding run_of call_of sign_kind stmt_words
    run_done {p} {v} {f} {w} {zs} z g l o r s y y' t u =
        let h : Told (called p v c) (λ tok. arguments_of tok (levelled tok 230) d (i + 1)) ts n xs i b (Done j f c) zs =
        close (λ tok es. es) (3 ∷ p ∷ v ∷ c ∷ []) a y y' a.within (omega (arith, a.small)) a.fits (λ tok H es g m. (g, refl, m)) in
        front (λ tok es. Stmt.run (place_in (tok i)) (name_in (tok i)) es) (7 ∷ p ∷ v ∷ w / 4 ∷ 0 ∷ 0 ∷ 0 ∷ w ∷ []) l h.by u (omega arith) (omega (arith, a.small)) (omega arith)
        (λ tok H es g m x.
        let rs : run_words (place_in (tok i)) (name_in (tok i)) es [] ≡ args_words es [] ++ (3 ∷ p ∷ v ∷ c ∷ []) = run_words_lem (place_in (tok i)) (name_in (tok i)) es p v c (place_is H i r) (name_length H i refl o s) m in
        let ws : w ≡ length (run_words (place_in (tok i)) (name_in (tok i)) es []) = omega (arith, t, x, ap length rs) in
        (rw (g, kind_eq H j 25 q z), rw (items_of_run (place_in (tok i)) (name_in (tok i)) es w ws, sym ws, rs, place_is H i r, name_length H i refl o s), refl))

-- `change`
module _ (d i : ℕ) {ts : List ℕ} {n at k : ℕ} {xs : List ℕ} (q : k ≡ field_of ts n (i + 1) 0) where
  pub change_assign : {p v : ℕ} {r : Got} {ys : List ℕ} → k ≡ 16 → field_of ts n i 0 ≡ 1 → p ≡ field_of ts n i 1 → v ≡ field_of ts n i 2 → Told (single_form 0 p v) (λ tok. ended_of tok d (i + 1 + 1)) ts n xs (i + 1) at r ys → Told stmt_form (λ tok. change_of tok d i) ts n xs i at r ys
  unfolding change_of assign_of sign_kind stmt_words
  change_assign z o w u s =
      let g : i + 1 + 1 ≡ i + 2 = omega arith in
      recast (λ tok H e. Stmt.assign (place_in (tok i)) (name_in (tok i)) e) (omega arith) s (λ tok H. rw (kind_eq H (i + 1) 16 q z, g)) (λ tok H e. (rw (place_is H i w, name_length H i refl o u), refl))

  pub change_store : {r : Got} {ys : List ℕ} → (k ≡ 16 → ⊥) → k ≡ 22 → Told stmt_form (λ tok. store_of tok d i) ts n xs i at r ys → Told stmt_form (λ tok. change_of tok d i) ts n xs i at r ys
  unfolding change_of sign_kind
  change_store _ z t = same (λ tok H. rw (kind_eq H (i + 1) 22 q z)) t

  pub change_run : {r : Got} {ys : List ℕ} → (k ≡ 16 → ⊥) → (k ≡ 22 → ⊥) → k ≡ 18 → Told stmt_form (λ tok. run_of tok d i) ts n xs i at r ys → Told stmt_form (λ tok. change_of tok d i) ts n xs i at r ys
  unfolding change_of sign_kind
  change_run _ _ z t = same (λ tok H. rw (kind_eq H (i + 1) 18 q z)) t

  pub change_none : {ys : List ℕ} → (k ≡ 16 → ⊥) → (k ≡ 22 → ⊥) → (k ≡ 18 → ⊥) → Told stmt_form (λ tok. change_of tok d i) ts n xs i at (Fault (i + 1)) ys
  unfolding change_of sign_kind
  change_none a b c = fault (λ tok H. rw (kind_not H (i + 1) 16 q a, kind_not H (i + 1) 22 q b, kind_not H (i + 1) 18 q c))

-- `give`
module _ (d i : ℕ) {ts : List ℕ} {n at k p : ℕ} {xs : List ℕ} (w : p ≡ field_of ts n i 1) (q : k ≡ field_of ts n (i + 1) 0) where
  pub give_leave : {e : ℕ} {ys : List ℕ} → k ≡ 25 → i + 1 < n → ys ≡ sets xs at (4 ∷ p ∷ 0 ∷ 0 ∷ 0 ∷ 0 ∷ 0 ∷ 0 ∷ []) → e ≡ at + 8 → Told stmt_form (λ tok. return_of tok d i) ts n xs i at (Done (i + 2) e 1) ys
  unfolding return_of sign_kind stmt_words
  give_leave z l s t =
      leaf (λ tok. Stmt.leave (place_in (tok i))) (4 ∷ p ∷ 0 ∷ 0 ∷ 0 ∷ 0 ∷ 0 ∷ 0 ∷ []) s t (omega arith) (omega arith) (omega arith) (λ tok H. (rw (kind_eq H (i + 1) 25 q z), rw (place_is H i w), refl))

  pub give_done : {r : Got} {ys : List ℕ} → (k ≡ 25 → ⊥) → Told (single_form 5 p 0) (λ tok. ended_of tok d (i + 1)) ts n xs i at r ys → Told stmt_form (λ tok. return_of tok d i) ts n xs i at r ys
  unfolding return_of sign_kind stmt_words
  give_done z t = recast (λ tok H e. Stmt.give (place_in (tok i)) e) (omega arith) t (λ tok H. rw (kind_not H (i + 1) 25 q z)) (λ tok H e. (rw (place_is H i w), refl))

-- `block`
module _ (h d i : ℕ) where
  block_step : (tok : Row) → ¬ (h ≡ 0) → block_of tok h d i ≡ pick (eqb (kind tok i) 20) (pick (ltb d 32) (next (stmts_of tok (block_of tok (h - 1)) 65536 (d + 1) (i + 1)) (λ b j. pick (eqb (kind tok j) 21) (ok b (j + 1)) (bad j))) (bad i)) (bad i)
  unfolding block_of sign_kind
  block_step tok = go h
    where
      go : (h : ℕ) → ¬ (h ≡ 0) → block_of tok h d i ≡ pick (eqb (kind tok i) 20) (pick (ltb d 32) (next (stmts_of tok (block_of tok (h - 1)) 65536 (d + 1) (i + 1)) (λ b j. pick (eqb (kind tok j) 21) (ok b (j + 1)) (bad j))) (bad i)) (bad i)
      go zero e = absurd (e refl)
      go (suc h) e =
          let q : h ≡ suc h - 1 = omega arith in
          ap (λ (g : ℕ). pick (eqb (kind tok i) 20) (pick (ltb d 32) (next (stmts_of tok (block_of tok g) 65536 (d + 1) (i + 1)) (λ b j. pick (eqb (kind tok j) 21) (ok b (j + 1)) (bad j))) (bad i)) (bad i)) q

  module _ {ts : List ℕ} {n at : ℕ} {xs : List ℕ} where
    pub block_out : {ys : List ℕ} → h ≡ 0 → Told block_form (λ tok. block_of tok h d i) ts n xs i at (Fault i) ys
    unfolding block_of
    block_out e = fault (λ tok H. ap (λ (g : ℕ). block_of tok g d i) e)

    module _ {k : ℕ} (z : ¬ (h ≡ 0)) (q : k ≡ field_of ts n i 0) where
      pub block_closed : {ys : List ℕ} → (k ≡ 20 → ⊥) → Told block_form (λ tok. block_of tok h d i) ts n xs i at (Fault i) ys
      block_closed a = fault (λ tok H. block_step tok z ∙ rw (kind_not H i 20 q a))

      pub block_deep : {ys : List ℕ} → k ≡ 20 → 32 ≤ d → Told block_form (λ tok. block_of tok h d i) ts n xs i at (Fault i) ys
      block_deep a l = fault (λ tok H. block_step tok z ∙ rw (kind_eq H i 20 q a, le-ltb d 32 l))

      module _ (a : k ≡ 20) (l : d < 32) where
        pub block_bad : {p : ℕ} {ys : List ℕ} → ((tok : Row) → Holds tok ts n → stmts_of tok (block_of tok (h - 1)) 65536 (d + 1) (i + 1) ≡ bad p) → Told block_form (λ tok. block_of tok h d i) ts n xs i at (Fault p) ys
        block_bad b = fault (λ tok H. block_step tok z ∙ rw (kind_eq H i 20 q a, lt-ltb d 32 l, b tok H))

        pub block_open : {j e c v : ℕ} {ys : List ℕ} → Found block_form (λ tok. stmts_of tok (block_of tok (h - 1)) 65536 (d + 1) (i + 1)) ts n xs (i + 1) at j e c ys → v ≡ field_of ts n j 0 → (v ≡ 21 → ⊥) → Told block_form (λ tok. block_of tok h d i) ts n xs i at (Fault j) ys
        block_open {j} b w x = fault (λ tok H. block_step tok z ∙ rw (kind_eq H i 20 q a, lt-ltb d 32 l, (b.says tok H).is, kind_not H j 21 w x))

        pub block_done : {j e c v : ℕ} {ys : List ℕ} → Found block_form (λ tok. stmts_of tok (block_of tok (h - 1)) 65536 (d + 1) (i + 1)) ts n xs (i + 1) at j e c ys → v ≡ field_of ts n j 0 → v ≡ 21 → j < n → Told block_form (λ tok. block_of tok h d i) ts n xs i at (Done (j + 1) e c) ys
        block_done {j} b w x g =
            close (λ tok s. s) [] b refl (omega arith) (omega arith) (omega (arith, b.small)) b.fits
            (λ tok H s o t. (block_step tok z ∙ rw (kind_eq H i 20 q a, lt-ltb d 32 l, o, kind_eq H j 21 w x), sym (append-nil (block_words s [])), t))

-- `stmts`
module _ (h d m i : ℕ) where
  stmts_step : (tok : Row) → 0 < m → stmts_of tok (block_of tok h) m d i ≡ pick (eqb (kind tok i) 21) (ok Block.end i) (next (stmt_of tok (block_of tok h) d i) (λ s j. map (Block.then s) (stmts_of tok (block_of tok h) (m - 1) d j)))
  unfolding stmts_of sign_kind
  stmts_step tok = go m
    where
      go : (m : ℕ) → 0 < m → stmts_of tok (block_of tok h) m d i ≡ pick (eqb (kind tok i) 21) (ok Block.end i) (next (stmt_of tok (block_of tok h) d i) (λ s j. map (Block.then s) (stmts_of tok (block_of tok h) (m - 1) d j)))
      go zero z = absurd (omega arith)
      go (suc m) z = let q : m ≡ suc m - 1 = omega arith in ap (λ (m : ℕ). pick (eqb (kind tok i) 21) (ok Block.end i) (next (stmt_of tok (block_of tok h) d i) (λ s j. map (Block.then s) (stmts_of tok (block_of tok h) m d j)))) q

  stmts_on : {ts : List ℕ} {n k : ℕ} (tok : Row) → Holds tok ts n → 0 < m → k ≡ field_of ts n i 0 → (k ≡ 21 → ⊥) → stmts_of tok (block_of tok h) m d i ≡ next (stmt_of tok (block_of tok h) d i) (λ s j. map (Block.then s) (stmts_of tok (block_of tok h) (m - 1) d j))
  stmts_on tok H z q e = stmts_step tok z ∙ ap (λ (b : Bool). pick b (ok Block.end i) (next (stmt_of tok (block_of tok h) d i) (λ s j. map (Block.then s) (stmts_of tok (block_of tok h) (m - 1) d j)))) (kind_not H i 21 q e)

  module _ {ts : List ℕ} {n : ℕ} {f : Row → Out Block} {s start at c : ℕ} {xs ys : List ℕ} (a : Going block_form f (λ tok. stmts_of tok (block_of tok h) m d i) ts n xs s start i at c ys) where
    pub stmts_out : m ≤ 0 → Told block_form f ts n xs s start (Fault i) ys
    unfolding stmts_of
    stmts_out z = let q : m ≡ 0 = omega arith in goes_fault a (λ tok H. ap (λ (m : ℕ). stmts_of tok (block_of tok h) m d i) q)

    pub stmts_end : {k : ℕ} → 0 < m → c + m ≤ 65536 → k ≡ field_of ts n i 0 → k ≡ 21 → Told block_form f ts n xs s start (Done i at c) ys
    unfolding block_words count
    stmts_end z l q e =
        goes_done a (leaf (λ tok. Block.end) [] refl (omega arith) a.within (omega arith) (omega arith)
        (λ tok H. (stmts_step tok z ∙ ap (λ (b : Bool). pick b (ok Block.end i) (next (stmt_of tok (block_of tok h) d i) (λ s j. map (Block.then s) (stmts_of tok (block_of tok h) (m - 1) d j)))) (kind_is H i 21 q e), refl, refl))) (omega arith) (omega arith)

    pub stmts_bad : {k p : ℕ} {zs : List ℕ} → 0 < m → k ≡ field_of ts n i 0 → (k ≡ 21 → ⊥) → ((tok : Row) → Holds tok ts n → stmt_of tok (block_of tok h) d i ≡ bad p) → Told block_form f ts n xs s start (Fault p) zs
    stmts_bad z q e b = goes_fault a (λ tok H. stmts_on tok H z q e ∙ ap (λ (o : Out Stmt). next o (λ s j. map (Block.then s) (stmts_of tok (block_of tok h) (m - 1) d j))) (b tok H))

    pub stmts_again : {k j e x m' : ℕ} {zs : List ℕ} → m - 1 ≡ m' → 0 < m → k ≡ field_of ts n i 0 → (k ≡ 21 → ⊥) → Found stmt_form (λ tok. stmt_of tok (block_of tok h) d i) ts n ys i at j e x zs → Going block_form f (λ tok. stmts_of tok (block_of tok h) m' d j) ts n xs s start j e (c + 1) zs
    unfolding block_words count
    stmts_again {k} {j} {e} {x} {m'} {zs} w z q ne b =
        subst (λ (m : ℕ). Going block_form f (λ tok. stmts_of tok (block_of tok h) m d j) ts n xs s start j e (c + 1) zs) w
        (goes_on (λ tok s b. Block.then s b) 1 a b (omega arith) b.within refl
        (λ tok H s o. stmts_on tok H z q ne ∙ ap (λ (o : Out Stmt). next o (λ s j. map (Block.then s) (stmts_of tok (block_of tok h) (m - 1) d j))) o)
        (λ tok s b. (stmt_linear s (block_words b []), omega arith)))

-- `stmt`
module _ (h d i : ℕ) {ts : List ℕ} {n at k : ℕ} {xs : List ℕ} (y : k ≡ field_of ts n i 0) where
  pub stmt_change : {r : Got} {ys : List ℕ} → k ≡ 1 → Told stmt_form (λ tok. change_of tok d i) ts n xs i at r ys → Told stmt_form (λ tok. stmt_of tok (block_of tok h) d i) ts n xs i at r ys
  unfolding stmt_of
  stmt_change q t = same (λ tok H. rw (kind_eq H i 1 y q)) t

  pub stmt_declare : {r : Got} {ys : List ℕ} → k ≡ 29 → Told stmt_form (λ tok. declare_of tok d i) ts n xs i at r ys → Told stmt_form (λ tok. stmt_of tok (block_of tok h) d i) ts n xs i at r ys
  unfolding stmt_of word_kind
  stmt_declare q t = same (λ tok H. rw (kind_eq H i 29 y q)) t

  pub stmt_if : {r : Got} {ys : List ℕ} → k ≡ 30 → Told stmt_form (λ tok. if_of tok (block_of tok h) d i) ts n xs i at r ys → Told stmt_form (λ tok. stmt_of tok (block_of tok h) d i) ts n xs i at r ys
  unfolding stmt_of word_kind
  stmt_if q t = same (λ tok H. rw (kind_eq H i 30 y q)) t

  pub stmt_while : {r : Got} {ys : List ℕ} → k ≡ 32 → Told stmt_form (λ tok. while_of tok (block_of tok h) d i) ts n xs i at r ys → Told stmt_form (λ tok. stmt_of tok (block_of tok h) d i) ts n xs i at r ys
  unfolding stmt_of word_kind
  stmt_while q t = same (λ tok H. rw (kind_eq H i 32 y q)) t

  pub stmt_return : {r : Got} {ys : List ℕ} → k ≡ 33 → Told stmt_form (λ tok. return_of tok d i) ts n xs i at r ys → Told stmt_form (λ tok. stmt_of tok (block_of tok h) d i) ts n xs i at r ys
  unfolding stmt_of word_kind
  stmt_return q t = same (λ tok H. rw (kind_eq H i 33 y q)) t

  pub stmt_emit : {p : ℕ} {r : Got} {ys : List ℕ} → k ≡ 34 → p ≡ field_of ts n i 1 → Told (single_form 6 p 0) (λ tok. ended_of tok d (i + 1)) ts n xs i at r ys → Told stmt_form (λ tok. stmt_of tok (block_of tok h) d i) ts n xs i at r ys
  unfolding stmt_of emit_of word_kind stmt_words
  stmt_emit q w t = recast (λ tok H e. Stmt.emit (place_in (tok i)) e) (omega arith) t (λ tok H. rw (kind_eq H i 34 y q)) (λ tok H e. (rw (place_is H i w), refl))

  pub stmt_none : {ys : List ℕ} → (k ≡ 1 → ⊥) → (k ≡ 29 → ⊥) → (k ≡ 30 → ⊥) → (k ≡ 32 → ⊥) → (k ≡ 33 → ⊥) → (k ≡ 34 → ⊥) → Told stmt_form (λ tok. stmt_of tok (block_of tok h) d i) ts n xs i at (Fault i) ys
  unfolding stmt_of word_kind
  stmt_none a b c e f g = fault (λ tok H. rw (kind_not H i 1 y a, kind_not H i 29 y b, kind_not H i 30 y c, kind_not H i 32 y e, kind_not H i 33 y f, kind_not H i 34 y g))

-- `repeat` and `choose`
module _ (h d i : ℕ) {ts : List ℕ} {n at : ℕ} {xs : List ℕ} where
  pub while_bad : {p : ℕ} {ys : List ℕ} → ((tok : Row) → Holds tok ts n → levelled tok 230 1 d (i + 1) ≡ bad p) → Told stmt_form (λ tok. while_of tok (block_of tok h) d i) ts n xs i at (Fault p) ys
  unfolding while_of expr_of
  while_bad b = fault (λ tok H. rw (b tok H))

  pub if_bad : {p : ℕ} {ys : List ℕ} → ((tok : Row) → Holds tok ts n → levelled tok 230 1 d (i + 1) ≡ bad p) → Told stmt_form (λ tok. if_of tok (block_of tok h) d i) ts n xs i at (Fault p) ys
  unfolding if_of expr_of
  if_bad b = fault (λ tok H. rw (b tok H))

  module _ {b j e c : ℕ} {ys : List ℕ} (a : Found expr_form (λ tok. levelled tok 230 1 d (i + 1)) ts n xs (i + 1) b j e c ys) where
    pub while_body_bad : {p : ℕ} {zs : List ℕ} → ((tok : Row) → Holds tok ts n → block_of tok h d j ≡ bad p) → Told stmt_form (λ tok. while_of tok (block_of tok h) d i) ts n xs i at (Fault p) zs
    unfolding while_of expr_of
    while_body_bad g = fault (λ tok H. rw ((a.says tok H).is, g tok H))

    pub while_done : {m f c' p w₁ w₂ : ℕ} {zs us : List ℕ} → b ≡ at + 8 → Found block_form (λ tok. block_of tok h d j) ts n ys j e m f c' zs → p ≡ field_of ts n i 1 → w₁ ≡ e - b → w₂ ≡ f - e → us ≡ sets zs at (3 ∷ p ∷ w₂ ∷ w₁ / 4 ∷ 0 ∷ c' ∷ 0 ∷ (w₁ + w₂) ∷ [])
        → Told stmt_form (λ tok. while_of tok (block_of tok h) d i) ts n xs i at (Done m f 1) us
    unfolding while_of expr_of stmt_words
    while_done {m} {f} {c'} {p} {w₁} {w₂} l g r t t' y =
        front_two (λ tok H x y. Stmt.while (place_in (tok i)) x y) (3 ∷ p ∷ w₂ ∷ w₁ / 4 ∷ 0 ∷ c' ∷ 0 ∷ (w₁ + w₂) ∷ []) l a g y g.within (omega (arith, a.small, g.small)) (omega arith)
        (λ tok H x s o o' _ v u u'.
        let u₁ : w₁ ≡ expr_length x = omega (arith, t, u) in
        let u₂ : w₂ ≡ length (block_words s []) = omega (arith, t', u') in
        (rw (o, o'), rw (items_of x w₁ u₁, place_is H i r, sym u₁, sym u₂, sym v) (ap (λ (m : List ℕ). 3 ∷ p ∷ w₂ ∷ size x ∷ 0 ∷ c' ∷ 0 ∷ (w₁ + w₂) ∷ m) (expr_linear x (block_words s []))), refl))

    pub if_first_bad : {p : ℕ} {zs : List ℕ} → ((tok : Row) → Holds tok ts n → block_of tok h d j ≡ bad p) → Told stmt_form (λ tok. if_of tok (block_of tok h) d i) ts n xs i at (Fault p) zs
    unfolding if_of expr_of
    if_first_bad g = fault (λ tok H. rw ((a.says tok H).is, g tok H))

    module _ {m f c' p w₁ w₂ k : ℕ} {zs : List ℕ} (l : b ≡ at + 8) (g : Found block_form (λ tok. block_of tok h d j) ts n ys j e m f c' zs) (r : p ≡ field_of ts n i 1) (t : w₁ ≡ e - b) (t' : w₂ ≡ f - e) (q : k ≡ field_of ts n m 0) where
      pub if_when : {us : List ℕ} → (k ≡ 31 → ⊥) → us ≡ sets zs at (8 ∷ p ∷ w₂ ∷ w₁ / 4 ∷ 0 ∷ c' ∷ 0 ∷ (w₁ + w₂) ∷ []) → Told stmt_form (λ tok. if_of tok (block_of tok h) d i) ts n xs i at (Done m f 1) us
      unfolding if_of else_of expr_of stmt_words word_kind
      if_when z y =
          front_two (λ tok H x y. Stmt.when (place_in (tok i)) x y) (8 ∷ p ∷ w₂ ∷ w₁ / 4 ∷ 0 ∷ c' ∷ 0 ∷ (w₁ + w₂) ∷ []) l a g y g.within (omega (arith, a.small, g.small)) (omega arith)
          (λ tok H x s o o' _ v u u'.
          let u₁ : w₁ ≡ expr_length x = omega (arith, t, u) in
          let u₂ : w₂ ≡ length (block_words s []) = omega (arith, t', u') in
          (rw (o, o', kind_not H m 31 q z), rw (items_of x w₁ u₁, place_is H i r, sym u₁, sym u₂, sym v) (ap (λ (m : List ℕ). 8 ∷ p ∷ w₂ ∷ size x ∷ 0 ∷ c' ∷ 0 ∷ (w₁ + w₂) ∷ m) (expr_linear x (block_words s []))), refl))

      pub if_second_bad : {p' : ℕ} {us : List ℕ} → k ≡ 31 → ((tok : Row) → Holds tok ts n → block_of tok h d (m + 1) ≡ bad p') → Told stmt_form (λ tok. if_of tok (block_of tok h) d i) ts n xs i at (Fault p') us
      unfolding if_of else_of expr_of word_kind
      if_second_bad z y = fault (λ tok H. rw ((a.says tok H).is, (g.says tok H).is, kind_eq H m 31 q z, y tok H))

      pub if_choose : {x x' c₃ w₃ w : ℕ} {vs us : List ℕ} → k ≡ 31 → Found block_form (λ tok. block_of tok h d (m + 1)) ts n zs (m + 1) f x x' c₃ vs → w₃ ≡ x' - f → w ≡ w₁ + (w₂ + w₃) → us ≡ sets vs at (2 ∷ p ∷ w₂ ∷ w₁ / 4 ∷ 0 ∷ c' ∷ c₃ ∷ w ∷ [])
          → Told stmt_form (λ tok. if_of tok (block_of tok h) d i) ts n xs i at (Done x x' 1) us
      unfolding if_of else_of expr_of stmt_words word_kind
      if_choose {x} {x'} {c₃} {w₃} {w} z g₃ t₃ tw y =
          front_three (λ tok x y z. Stmt.choose (place_in (tok i)) x y z) (2 ∷ p ∷ w₂ ∷ w₁ / 4 ∷ 0 ∷ c' ∷ c₃ ∷ w ∷ []) l a g g₃ y g₃.within (omega (arith, a.small, g.small, g₃.small)) (omega arith)
          (λ tok H x s s₃ o o' o₃ _ v v₃ u u' u''.
          let u₁ : w₁ ≡ expr_length x = omega (arith, t, u) in
          let u₂ : w₂ ≡ length (block_words s []) = omega (arith, t', u') in
          let u₃ : w₃ ≡ length (block_words s₃ []) = omega (arith, t₃, u'') in
          (rw (o, o', kind_eq H m 31 q z, o₃), rw (items_of x w₁ u₁, place_is H i r, tw, sym u₁, sym u₂, sym u₃, sym v, sym v₃) (ap (λ (m : List ℕ). 2 ∷ p ∷ w₂ ∷ size x ∷ 0 ∷ c' ∷ c₃ ∷ (w₁ + (w₂ + w₃)) ∷ m) (expr_linear x (block_words s (block_words s₃ [])) ∙ ap (λ (m : List ℕ). expr_words x [] ++ m) (block_linear s (block_words s₃ [])))), refl))
