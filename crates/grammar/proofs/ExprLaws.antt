-- Each way through the functions of expressions is a clause of the parser.
use mathlib.Core.Path.{◌≡◌, refl, sym, ap, subst, ◌∙◌}
use mathlib.Core.Bool.{Bool, true, false}
use mathlib.Core.List.{List, [], ◌∷◌, append-nil}
use Prim.Native.Nat.{ℕ, zero, suc, ◌+◌, ◌*◌, ◌-◌, ◌/◌, ◌≤◌, ◌<◌}
use native.Mathlib.Omega.{arith}
use lib.Dec.{eqb}
use lib.Seq.{sets}
use borrow.Author.Tests.{lt-ltb, le-ltb, eq-eqb, ne_eqb}
use Rattle.word.specs.Choice.{pick}
use Rattle.language.specs.Tree.{Place, Strict, Binary, Expr, Args}
use Rattle.language.specs.Tokens.{Sign}
use Rattle.tokens.specs.Kinds.{sign_kind, word_kind}
use Rattle.grammar.specs.Parse.{Out, Out.ok, Out.bad, next, map, kind_in, place_in, name_in, number_in, kind, place_of, level_of, means_of, most, Tail, grow, rest_of, exprs_of, args_of, arguments_of, enclosed_of, named_of, unary_of, primary_of, levelled}
use Rattle.grammar.specs.Flat.{item, size, arg_count, expr_words, args_words, right_words, tail_words, unary_number, strict_number, truth_number}
use Rattle.flat.specs.Numbers as N
use denote.Enum.Declared.{tag_of}
use Rattle.flat.specs.contracts.operator.Unary as UnaryProofs
use Rattle.flat.specs.contracts.operator.Strict as StrictProofs
use Rattle.flat.specs.declared.operator.Unary as U
use Rattle.flat.specs.declared.operator.Unary.TheVariants as unary
use Rattle.flat.specs.declared.operator.Strict as O
use Rattle.flat.specs.declared.operator.Strict.TheVariants as strict
use Rattle.grammar.specs.declared.operators.Operation.{Operation}
use Rattle.grammar.specs.declared.operators.Operation.TheVariants as operation
use Rattle.grammar.specs.Operator.{binary_of}
use Rattle.grammar.specs.declared.input.Read as input
use Rattle.std.specs.Prelude.{Result}
use mathlib.Core.Logic.{inl, inr}
use Rattle.grammar.specs.Told.{IsNoKind, Row, field_of, Holds, Form, Found, Told, Right, operand_of, unary_at, item_kind, item_number, expr_form, right_form, tail_form, args_form}
use Rattle.grammar.proofs.FlatLaws.{expr_linear, args_linear, right_linear, grow_words, expr_length_lem}
use Rattle.grammar.proofs.Complete.{step, chain_step}
use Rattle.grammar.proofs.Steps.{Got, Done, Fault, fault, same, leaf, close, front, seq, Going, begun, goes_done, goes_fault, goes_on, kind_is, kind_not, kind_eq, name_length, number_is, place_is}

-- a part that fails
pub stop : {A B : Type 0} {K : Form B} {f : Row → Out A} {k : Row → Out B} {ts : List ℕ} {n i at p : ℕ} {xs ys : List ℕ} (g : Row → A → ℕ → Out B) → ((tok : Row) → Holds tok ts n → f tok ≡ bad p) → ((tok : Row) → Holds tok ts n → k tok ≡ next (f tok) (g tok)) → Told K k ts n xs i at (Fault p) ys
stop g h q = fault (λ tok H. q tok H ∙ ap (λ (o : Out _). next o (g tok)) (h tok H))

pub stop_map : {A B : Type 0} {K : Form B} {f : Row → Out A} {k : Row → Out B} {ts : List ℕ} {n i at p : ℕ} {xs ys : List ℕ} (g : Row → A → B) → ((tok : Row) → Holds tok ts n → f tok ≡ bad p) → ((tok : Row) → Holds tok ts n → k tok ≡ map (g tok) (f tok)) → Told K k ts n xs i at (Fault p) ys
stop_map g h q = fault (λ tok H. q tok H ∙ ap (map (g tok)) (h tok H))

-- `level`
module _ (h l d i : ℕ) {ts : List ℕ} {n at : ℕ} {xs : List ℕ} where
  pub level_out : {ys : List ℕ} → h ≡ 0 → Told expr_form (λ tok. levelled tok h l d i) ts n xs i at (Fault i) ys
  unfolding levelled
  level_out e = fault (λ tok H. ap (λ (g : ℕ). levelled tok g l d i) e)

  pub level_prim : {r : Got} {ys : List ℕ} → ¬ (h ≡ 0) → 6 ≤ l → Told expr_form (λ tok. primary_of tok (levelled tok (h - 1)) d i) ts n xs i at r ys → Told expr_form (λ tok. levelled tok h l d i) ts n xs i at r ys
  level_prim z f t =
      same (λ tok H. step tok h l d i (omega arith) ∙ ap (λ (b : Bool). pick b (next (levelled tok (h - 1) (l + 1) d i) (λ a j. map (grow a) (rest_of tok (levelled tok (h - 1)) (most l) l d j))) (primary_of tok (levelled tok (h - 1)) d i)) (le-ltb l 6 f)) t

  pub level_rest : {j e c m : ℕ} {r : Got} {ys zs : List ℕ} → ¬ (h ≡ 0) → l < 6 → Found expr_form (λ tok. levelled tok (h - 1) (l + 1) d i) ts n xs i at j e c ys → m ≡ most l
      → Told tail_form (λ tok. rest_of tok (levelled tok (h - 1)) m l d j) ts n ys j e r zs → Told expr_form (λ tok. levelled tok h l d i) ts n xs i at r zs
  level_rest {j} {e} {c} {m} z f a q b =
      seq (λ tok j. rest_of tok (levelled tok (h - 1)) m l d j) (λ tok a r. grow a r) a b
      (λ tok H. chain_step tok h l d i (omega arith) f ∙ ap (λ (m : ℕ). next (levelled tok (h - 1) (l + 1) d i) (λ a j. map (grow a) (rest_of tok (levelled tok (h - 1)) m l d j))) (sym q))
      (λ tok a r. (grow_words r a [] ∙ expr_linear a (tail_words r []), refl))

  pub level_bad : {p : ℕ} {ys : List ℕ} → ¬ (h ≡ 0) → l < 6 → ((tok : Row) → Holds tok ts n → levelled tok (h - 1) (l + 1) d i ≡ bad p) → Told expr_form (λ tok. levelled tok h l d i) ts n xs i at (Fault p) ys
  level_bad z f b = stop (λ tok a j. map (grow a) (rest_of tok (levelled tok (h - 1)) (most l) l d j)) b (λ tok H. chain_step tok h l d i (omega arith) f)

-- `rest`
next_map : {A B C : Type 0} (g : A → B) (f : B → ℕ → Out C) (o : Out A) → next (map g o) f ≡ next o (λ a j. f (g a) j)
next_map g f (ok a j) = refl
next_map g f (bad p) = refl

abbrev more : Right → Tail → Tail
more r t = Tail.more r.place r.operator r.side t

module _ (h l d m i : ℕ) where
  rest_step : (tok : Row) → 0 < m → rest_of tok (levelled tok h) m l d i ≡ pick (eqb (level_of (kind tok i)) l) (next (operand_of tok (levelled tok h) l d i) (λ r j. map (more r) (rest_of tok (levelled tok h) (m - 1) l d j))) (ok Tail.done i)
  unfolding rest_of operand_of
  rest_step tok = go m
    where
      go : (m : ℕ) → 0 < m → rest_of tok (levelled tok h) m l d i ≡ pick (eqb (level_of (kind tok i)) l) (next (operand_of tok (levelled tok h) l d i) (λ r j. map (more r) (rest_of tok (levelled tok h) (m - 1) l d j))) (ok Tail.done i)
      go zero z = absurd (omega arith)
      go (suc m) z =
          let q : m ≡ suc m - 1 = omega arith in
          ap (λ (o : Out Tail). pick (eqb (level_of (kind tok i)) l) o (ok Tail.done i))
          (ap (λ (m : ℕ). next (levelled tok h (l + 1) d (i + 1)) (λ b j. map (Tail.more (place_of tok i) (means_of (kind tok i)) b) (rest_of tok (levelled tok h) m l d j))) q
          ∙ sym (next_map (λ b. record { place = place_in (tok i); operator = means_of (kind_in (tok i)); side = b }) (λ r j. map (more r) (rest_of tok (levelled tok h) (suc m - 1) l d j)) (levelled tok h (l + 1) d (i + 1))))

  rest_on : {ts : List ℕ} {n : ℕ} (tok : Row) → Holds tok ts n → {k v : ℕ} → 0 < m → k ≡ field_of ts n i 0 → v ≡ level_of k → v ≡ l → rest_of tok (levelled tok h) m l d i ≡ next (operand_of tok (levelled tok h) l d i) (λ r j. map (more r) (rest_of tok (levelled tok h) (m - 1) l d j))
  rest_on tok H z y q e =
      rest_step tok z ∙ ap (λ (b : Bool). pick b (next (operand_of tok (levelled tok h) l d i) (λ r j. map (more r) (rest_of tok (levelled tok h) (m - 1) l d j))) (ok Tail.done i)) (eq-eqb (level_of (kind tok i)) l (ap level_of (sym (H.kind i) ∙ sym y) ∙ sym q ∙ e))

  pub rest_begun : {m' at n : ℕ} {ts xs : List ℕ} → i ≤ n → m ≡ m' → Going tail_form (λ tok. rest_of tok (levelled tok h) m l d i) (λ tok. rest_of tok (levelled tok h) m' l d i) ts n xs i at i at 0 xs
  rest_begun {at = at} {n = n} {ts = ts} {xs = xs} b q = subst (λ (k : ℕ). Going tail_form (λ tok. rest_of tok (levelled tok h) m l d i) (λ tok. rest_of tok (levelled tok h) k l d i) ts n xs i at i at 0 xs) q (begun b)

  module _ {ts : List ℕ} {n : ℕ} {f : Row → Out Tail} {s start at : ℕ} {xs ys : List ℕ} (a : Going tail_form f (λ tok. rest_of tok (levelled tok h) m l d i) ts n xs s start i at 0 ys) where
    pub rest_stop : {k v : ℕ} → 0 < m → k ≡ field_of ts n i 0 → v ≡ level_of k → (v ≡ l → ⊥) → Told tail_form f ts n xs s start (Done i at 1) ys
    unfolding tail_words
    rest_stop {k} {v} z y q e =
        goes_done a (leaf (λ tok. Tail.done) [] refl (omega arith) a.within (omega arith) (omega arith)
        (λ tok H. (rest_step tok z ∙ ap (λ (b : Bool). pick b (next (operand_of tok (levelled tok h) l d i) (λ r j. map (more r) (rest_of tok (levelled tok h) (m - 1) l d j))) (ok Tail.done i)) (ne_eqb (level_of (kind tok i)) l (λ w. e (q ∙ ap level_of (y ∙ H.kind i) ∙ w))), refl, refl))) refl (omega arith)

    pub rest_end : m ≤ 0 → Told tail_form f ts n xs s start (Done i at 1) ys
    unfolding tail_words rest_of
    rest_end z =
        let q : m ≡ 0 = omega arith in
        goes_done a (leaf (λ tok. Tail.done) [] refl (omega arith) a.within (omega arith) (omega arith) (λ tok H. (ap (λ (m : ℕ). rest_of tok (levelled tok h) m l d i) q, refl, refl))) refl (omega arith)

    pub rest_bad : {k v p : ℕ} {zs : List ℕ} → 0 < m → k ≡ field_of ts n i 0 → v ≡ level_of k → v ≡ l → ((tok : Row) → Holds tok ts n → operand_of tok (levelled tok h) v d i ≡ bad p) → Told tail_form f ts n xs s start (Fault p) zs
    rest_bad {p = p} z y q e b =
        goes_fault a (λ tok H. rest_on tok H z y q e ∙ ap (λ (o : Out Right). next o (λ r j. map (more r) (rest_of tok (levelled tok h) (m - 1) l d j))) (subst (λ (l : ℕ). operand_of tok (levelled tok h) l d i ≡ bad p) e (b tok H)))

    pub rest_again : {k v j e c m' : ℕ} {zs : List ℕ} → m - 1 ≡ m' → 0 < m → k ≡ field_of ts n i 0 → v ≡ level_of k → v ≡ l → Found right_form (λ tok. operand_of tok (levelled tok h) v d i) ts n ys i at j e c zs
        → Going tail_form f (λ tok. rest_of tok (levelled tok h) m' l d j) ts n xs s start j e 0 zs
    unfolding tail_words
    rest_again {j = j} {e = e} {c = c} {zs = zs} w z y q t b =
        let b' : Found right_form (λ tok. operand_of tok (levelled tok h) l d i) ts n ys i at j e c zs = subst (λ (l : ℕ). Found right_form (λ tok. operand_of tok (levelled tok h) l d i) ts n ys i at j e c zs) t b in
        subst (λ (m : ℕ). Going tail_form f (λ tok. rest_of tok (levelled tok h) m l d j) ts n xs s start j e 0 zs) w
        (goes_on (λ tok r t. more r t) 0 a b' (omega arith) b'.within refl
        (λ tok H r w. rest_on tok H z y q t ∙ ap (λ (o : Out Right). next o (λ r j. map (more r) (rest_of tok (levelled tok h) (m - 1) l d j))) w)
        (λ tok r t. (right_linear r.place r.operator r.side (tail_words t []), refl)))

-- `operand`
strict_words : (o : Binary) (p : Place) (b : Expr) (more : List ℕ) → item_kind o ≡ 5 → right_words p o b more ≡ expr_words b (item 5 p (item_number o) 0 more)
unfolding right_words item_kind item_number
strict_words Binary.or p b more e = absurd (omega arith)
strict_words Binary.and p b more e = absurd (omega arith)
strict_words (Binary.strict s) p b more e = refl

lazy_words : (o : Binary) (p : Place) (b : Expr) (more : List ℕ) → (item_kind o ≡ 5 → ⊥) → right_words p o b more ≡ item (item_kind o) p (size b) 0 (expr_words b (item 8 p 0 0 more))
unfolding right_words item_kind
lazy_words Binary.or p b more e = refl
lazy_words Binary.and p b more e = refl
lazy_words (Binary.strict s) p b more e = absurd (e refl)

abbrev right : Row → ℕ → Expr → Right
right tok i b = record { place = place_in (tok i); operator = means_of (kind_in (tok i)); side = b }

means : (i k : ℕ) {ts : List ℕ} {n : ℕ} (tok : Row) → Holds tok ts n → k ≡ field_of ts n i 0 → means_of (kind_in (tok i)) ≡ means_of k
means i k tok H y = ap means_of (sym (H.kind i) ∙ sym y)

-- a right side with its item before it
abbrev opened : ℕ → Place → Form Expr
opened w p = record { words = λ b. w ∷ p ∷ size b ∷ 0 ∷ expr_words b []; tells = λ _. 1 }

pub size_is : (e b at s : ℕ) → b ≡ at + 4 → e ≡ b + (4 * s + 0) → (e - at - 4) / 4 ≡ s
size_is e b at s q r = omega (arith, q, r)

module _ (h l d i : ℕ) {ts : List ℕ} {n at k p : ℕ} {xs : List ℕ} (y : k ≡ field_of ts n i 0) (z : p ≡ field_of ts n i 1) where
  pub operand_bad : {q : ℕ} {ys : List ℕ} → ((tok : Row) → Holds tok ts n → levelled tok h (l + 1) d (i + 1) ≡ bad q) → Told right_form (λ tok. operand_of tok (levelled tok h) l d i) ts n xs i at (Fault q) ys
  unfolding operand_of
  operand_bad b = stop_map (λ tok b. right tok i b) b (λ tok H. refl)

  pub operand_strict : {s : Strict} {v j e c e' : ℕ} {ys zs : List ℕ} → Binary.strict s ≡ means_of k → Found expr_form (λ tok. levelled tok h (l + 1) d (i + 1)) ts n xs (i + 1) at j e c ys → v ≡ item_number (Binary.strict s) → zs ≡ sets ys e (5 ∷ p ∷ v ∷ 0 ∷ []) → e' ≡ e + 4
      → Told right_form (λ tok. operand_of tok (levelled tok h) l d i) ts n xs i at (Done j e' 1) zs
  unfolding operand_of item_kind
  operand_strict {v = v} {j} {e} q b u s t =
      close (λ tok b. right tok i b) (5 ∷ p ∷ v ∷ 0 ∷ []) b s t b.within (omega (arith, b.small)) (omega arith)
      (λ tok H a o _. (
        ap (map (right tok i)) o,
        strict_words (means_of (kind_in (tok i))) (place_in (tok i)) a [] (ap item_kind (means i k tok H y ∙ sym q)) ∙ rw (place_is H i z, ap item_number (means i k tok H y ∙ sym q), sym u) (expr_linear a (5 ∷ p ∷ v ∷ 0 ∷ [])),
        refl,
      ))

  pub operand_lazy : {w b j e c e' : ℕ} {ys zs us : List ℕ} → w ≡ item_kind (means_of k) → (w ≡ 5 → ⊥) → b ≡ at + 4 → Found expr_form (λ tok. levelled tok h (l + 1) d (i + 1)) ts n xs (i + 1) b j e c ys
      → zs ≡ sets ys at (w ∷ p ∷ (e - at - 4) / 4 ∷ 0 ∷ []) → us ≡ sets zs e (8 ∷ p ∷ 0 ∷ 0 ∷ []) → e' ≡ e + 4 → Told right_form (λ tok. operand_of tok (levelled tok h) l d i) ts n xs i at (Done j e' 1) us
  unfolding operand_of
  operand_lazy {w} {b} {j} {e} {c} {e'} {ys} {zs} {us} q r x g s t u =
      let o : Told (opened w p) (λ tok. levelled tok h (l + 1) d (i + 1)) ts n xs i at (Done j e 1) zs =
      front (λ tok b. b) (w ∷ p ∷ (e - at - 4) / 4 ∷ 0 ∷ []) x g s g.within (omega (arith, g.small)) (omega arith)
      (λ tok H a o _ f. (o, ap (λ (m : ℕ). w ∷ p ∷ m ∷ 0 ∷ expr_words a []) (sym (size_is e b at (size a) x (f ∙ ap (λ (m : ℕ). b + m) (expr_length_lem a [])))), refl)) in
      close (λ tok b. right tok i b) (8 ∷ p ∷ 0 ∷ 0 ∷ []) o.by t u g.within (omega (arith, g.small)) (omega arith)
      (λ tok H a o _. (
        ap (map (right tok i)) o,
        lazy_words (means_of (kind_in (tok i))) (place_in (tok i)) a [] (λ v. r (q ∙ sym (ap item_kind (means i k tok H y)) ∙ v)) ∙ rw (place_is H i z, ap item_kind (means i k tok H y), sym q) (ap (λ (m : List ℕ). w ∷ p ∷ size a ∷ 0 ∷ m) (expr_linear a (8 ∷ p ∷ 0 ∷ 0 ∷ []))),
        refl,
      ))

-- `args`
module _ (h d m i : ℕ) where
  args_step : (tok : Row) → 0 < m → exprs_of tok (levelled tok h) m d i ≡ next (levelled tok h 1 d i) (λ e j. pick (eqb (kind tok j) (sign_kind Sign.comma)) (map (Args.more e) (exprs_of tok (levelled tok h) (m - 1) d (j + 1))) (ok (Args.more e Args.none) j))
  unfolding exprs_of
  args_step tok = go m
    where
      go : (m : ℕ) → 0 < m → exprs_of tok (levelled tok h) m d i ≡ next (levelled tok h 1 d i) (λ e j. pick (eqb (kind tok j) (sign_kind Sign.comma)) (map (Args.more e) (exprs_of tok (levelled tok h) (m - 1) d (j + 1))) (ok (Args.more e Args.none) j))
      go zero z = absurd (omega arith)
      go (suc m) z = let q : m ≡ suc m - 1 = omega arith in ap (λ (m : ℕ). next (levelled tok h 1 d i) (λ e j. pick (eqb (kind tok j) (sign_kind Sign.comma)) (map (Args.more e) (exprs_of tok (levelled tok h) m d (j + 1))) (ok (Args.more e Args.none) j))) q

  args_next : (tok : Row) {j : ℕ} {a : Expr} → 0 < m → levelled tok h 1 d i ≡ ok a j → exprs_of tok (levelled tok h) m d i ≡ pick (eqb (kind tok j) (sign_kind Sign.comma)) (map (Args.more a) (exprs_of tok (levelled tok h) (m - 1) d (j + 1))) (ok (Args.more a Args.none) j)
  args_next tok z o = args_step tok z ∙ ap (λ (o : Out Expr). next o (λ e j. pick (eqb (kind tok j) (sign_kind Sign.comma)) (map (Args.more e) (exprs_of tok (levelled tok h) (m - 1) d (j + 1))) (ok (Args.more e Args.none) j))) o

  module _ {ts : List ℕ} {n : ℕ} {f : Row → Out Args} {s start at c : ℕ} {xs ys : List ℕ} (a : Going args_form f (λ tok. exprs_of tok (levelled tok h) m d i) ts n xs s start i at c ys) where
    pub args_out : m ≤ 0 → Told args_form f ts n xs s start (Fault i) ys
    unfolding exprs_of
    args_out z = let q : m ≡ 0 = omega arith in goes_fault a (λ tok H. ap (λ (m : ℕ). exprs_of tok (levelled tok h) m d i) q)

    pub args_bad : {p : ℕ} {zs : List ℕ} → 0 < m → ((tok : Row) → Holds tok ts n → levelled tok h 1 d i ≡ bad p) → Told args_form f ts n xs s start (Fault p) zs
    args_bad z b = goes_fault a (λ tok H. args_step tok z ∙ ap (λ (o : Out Expr). next o (λ e j. pick (eqb (kind tok j) (sign_kind Sign.comma)) (map (Args.more e) (exprs_of tok (levelled tok h) (m - 1) d (j + 1))) (ok (Args.more e Args.none) j))) (b tok H))

    pub args_last : {j e x k : ℕ} {zs : List ℕ} → 0 < m → c + m ≤ 65536 → Found expr_form (λ tok. levelled tok h 1 d i) ts n ys i at j e x zs → k ≡ field_of ts n j 0 → (k ≡ 26 → ⊥) → Told args_form f ts n xs s start (Done j e (c + 1)) zs
    unfolding args_words arg_count sign_kind
    args_last {j} {e} {x} {k} {zs} z l b q r =
        let o : Told args_form (λ tok. exprs_of tok (levelled tok h) m d i) ts n ys i at (Done j e 1) zs =
        close (λ tok a. Args.more a Args.none) [] b refl (omega arith) b.within b.small (omega arith)
        (λ tok H a o _. (args_next tok z o ∙ ap (λ (t : Bool). pick t (map (Args.more a) (exprs_of tok (levelled tok h) (m - 1) d (j + 1))) (ok (Args.more a Args.none) j)) (kind_not H j 26 q r), sym (append-nil (expr_words a [])), refl)) in
        goes_done a o refl (omega arith)

    pub args_again : {j e x k m' : ℕ} {zs : List ℕ} → m - 1 ≡ m' → 0 < m → Found expr_form (λ tok. levelled tok h 1 d i) ts n ys i at j e x zs → k ≡ field_of ts n j 0 → k ≡ 26 → j < n
        → Going args_form f (λ tok. exprs_of tok (levelled tok h) m' d (j + 1)) ts n xs s start (j + 1) e (c + 1) zs
    unfolding args_words arg_count sign_kind
    args_again {j} {e} {x} {k} {m'} {zs} w z b q r l =
        subst (λ (m : ℕ). Going args_form f (λ tok. exprs_of tok (levelled tok h) m d (j + 1)) ts n xs s start (j + 1) e (c + 1) zs) w
        (goes_on (λ tok b es. Args.more b es) 1 a b (omega arith) (omega arith) refl
        (λ tok H b o. args_next tok z o ∙ ap (λ (t : Bool). pick t (map (Args.more b) (exprs_of tok (levelled tok h) (m - 1) d (j + 1))) (ok (Args.more b Args.none) j)) (kind_is H j 26 q r))
        (λ tok b es. (expr_linear b (args_words es []), omega arith)))

-- `arguments`
some_args : (h d i : ℕ) {ts : List ℕ} {n k : ℕ} (tok : Row) → Holds tok ts n → k ≡ field_of ts n i 0 → (k ≡ 19 → ⊥) → args_of tok (levelled tok h) d i ≡ exprs_of tok (levelled tok h) 65536 d i
unfolding args_of sign_kind
some_args h d i tok H q e = ap (λ (t : Bool). pick t (ok Args.none i) (exprs_of tok (levelled tok h) 65536 d i)) (kind_not H i 19 q e)

no_args : (h d i : ℕ) {ts : List ℕ} {n k : ℕ} (tok : Row) → Holds tok ts n → k ≡ field_of ts n i 0 → k ≡ 19 → args_of tok (levelled tok h) d i ≡ ok Args.none i
unfolding args_of sign_kind
no_args h d i tok H q e = ap (λ (t : Bool). pick t (ok Args.none i) (exprs_of tok (levelled tok h) 65536 d i)) (kind_is H i 19 q e)

module _ (h d i : ℕ) {ts : List ℕ} {n at : ℕ} {xs : List ℕ} where
  pub arguments_deep : {ys : List ℕ} → 32 ≤ d → Told args_form (λ tok. arguments_of tok (levelled tok h) d i) ts n xs i at (Fault i) ys
  unfolding arguments_of
  arguments_deep l = fault (λ tok H. rw (le-ltb d 32 l))

  pub arguments_none : {k : ℕ} → d < 32 → k ≡ field_of ts n (i + 1) 0 → k ≡ 19 → i + 1 < n → Told args_form (λ tok. arguments_of tok (levelled tok h) d i) ts n xs i at (Done (i + 2) at 0) xs
  unfolding arguments_of args_words arg_count sign_kind
  arguments_none l q e b =
      let s : i + 1 + 1 ≡ i + 2 = omega arith in
      leaf (λ tok. Args.none) [] refl (omega arith) (omega arith) (omega arith) (omega arith) (λ tok H. (rw (lt-ltb d 32 l, no_args h (d + 1) (i + 1) tok H q e, kind_eq H (i + 1) 19 q e, s), refl, refl))

  module _ {k : ℕ} (l : d < 32) (q : k ≡ field_of ts n (i + 1) 0) (e : k ≡ 19 → ⊥) where
    pub arguments_bad : {p : ℕ} {ys : List ℕ} → ((tok : Row) → Holds tok ts n → exprs_of tok (levelled tok h) 65536 (d + 1) (i + 1) ≡ bad p) → Told args_form (λ tok. arguments_of tok (levelled tok h) d i) ts n xs i at (Fault p) ys
    unfolding arguments_of
    arguments_bad b = fault (λ tok H. rw (lt-ltb d 32 l, some_args h (d + 1) (i + 1) tok H q e, b tok H))

    pub arguments_open : {j x c v : ℕ} {ys : List ℕ} → Found args_form (λ tok. exprs_of tok (levelled tok h) 65536 (d + 1) (i + 1)) ts n xs (i + 1) at j x c ys → v ≡ field_of ts n j 0 → (v ≡ 19 → ⊥) → Told args_form (λ tok. arguments_of tok (levelled tok h) d i) ts n xs i at (Fault j) ys
    unfolding arguments_of sign_kind
    arguments_open {j} b w z = fault (λ tok H. rw (lt-ltb d 32 l, some_args h (d + 1) (i + 1) tok H q e, (b.says tok H).is, kind_not H j 19 w z))

    pub arguments_done : {j x c v : ℕ} {ys : List ℕ} → Found args_form (λ tok. exprs_of tok (levelled tok h) 65536 (d + 1) (i + 1)) ts n xs (i + 1) at j x c ys → v ≡ field_of ts n j 0 → v ≡ 19 → j < n → Told args_form (λ tok. arguments_of tok (levelled tok h) d i) ts n xs i at (Done (j + 1) x c) ys
    unfolding arguments_of sign_kind
    arguments_done {j} {x} {c} {v} {ys} b w z g =
        close (λ tok es. es) [] b refl (omega arith) (omega arith) (omega (arith, b.small)) b.fits
        (λ tok H es o t. (rw (lt-ltb d 32 l, some_args h (d + 1) (i + 1) tok H q e, o, kind_eq H j 19 w z), sym (append-nil (args_words es [])), t))

-- `enclosed`
module _ (h s d i : ℕ) {ts : List ℕ} {n at : ℕ} {xs : List ℕ} where
  pub enclosed_deep : {ys : List ℕ} → 32 ≤ d → Told expr_form (λ tok. enclosed_of tok (levelled tok h) s d i) ts n xs i at (Fault i) ys
  unfolding enclosed_of
  enclosed_deep l = fault (λ tok H. rw (le-ltb d 32 l))

  pub enclosed_bad : {p : ℕ} {ys : List ℕ} → d < 32 → ((tok : Row) → Holds tok ts n → levelled tok h 1 (d + 1) (i + 1) ≡ bad p) → Told expr_form (λ tok. enclosed_of tok (levelled tok h) s d i) ts n xs i at (Fault p) ys
  unfolding enclosed_of
  enclosed_bad l b = fault (λ tok H. rw (lt-ltb d 32 l, b tok H))

  pub enclosed_open : {j e c k : ℕ} {ys : List ℕ} → d < 32 → Found expr_form (λ tok. levelled tok h 1 (d + 1) (i + 1)) ts n xs (i + 1) at j e c ys → k ≡ field_of ts n j 0 → (k ≡ s → ⊥) → Told expr_form (λ tok. enclosed_of tok (levelled tok h) s d i) ts n xs i at (Fault j) ys
  unfolding enclosed_of
  enclosed_open {j} l b q z = fault (λ tok H. rw (lt-ltb d 32 l, (b.says tok H).is, kind_not H j s q z))

  pub enclosed_done : {j e c k : ℕ} {ys : List ℕ} → d < 32 → Found expr_form (λ tok. levelled tok h 1 (d + 1) (i + 1)) ts n xs (i + 1) at j e c ys → k ≡ field_of ts n j 0 → k ≡ s → j < n → Told expr_form (λ tok. enclosed_of tok (levelled tok h) s d i) ts n xs i at (Done (j + 1) e 1) ys
  unfolding enclosed_of
  enclosed_done {j} l b q z g =
      close (λ tok a. a) [] b refl (omega arith) (omega arith) (omega (arith, b.small)) (omega arith)
      (λ tok H a o _. (rw (lt-ltb d 32 l, o, kind_is H j s q z), sym (append-nil (expr_words a [])), refl))

-- `named`
module _ (h d i : ℕ) {ts : List ℕ} {n at k p v : ℕ} {xs : List ℕ} (y : k ≡ field_of ts n (i + 1) 0) (z : p ≡ field_of ts n i 1) (w : v ≡ field_of ts n i 2) (u : field_of ts n i 0 ≡ 1) where
  pub named_index_bad : {q : ℕ} {ys : List ℕ} → k ≡ 22 → ((tok : Row) → Holds tok ts n → enclosed_of tok (levelled tok h) 23 d (i + 1) ≡ bad q) → Told expr_form (λ tok. named_of tok (levelled tok h) d i) ts n xs i at (Fault q) ys
  unfolding named_of sign_kind
  named_index_bad e b = fault (λ tok H. rw (kind_eq H (i + 1) 22 y e, b tok H))

  pub named_index : {j e c e' : ℕ} {ys zs : List ℕ} → k ≡ 22 → Found expr_form (λ tok. enclosed_of tok (levelled tok h) 23 d (i + 1)) ts n xs (i + 1) at j e c ys → zs ≡ sets ys e (2 ∷ p ∷ v ∷ 0 ∷ []) → e' ≡ e + 4
      → Told expr_form (λ tok. named_of tok (levelled tok h) d i) ts n xs i at (Done j e' 1) zs
  unfolding named_of sign_kind expr_words
  named_index e b s t =
      close (λ tok a. Expr.element (place_in (tok i)) (name_in (tok i)) a) (2 ∷ p ∷ v ∷ 0 ∷ []) b s t b.within (omega (arith, b.small)) (omega arith)
      (λ tok H a o _. (rw (kind_eq H (i + 1) 22 y e, o), rw (place_is H i z, name_length H i refl u w) (expr_linear a (2 ∷ p ∷ v ∷ 0 ∷ [])), refl))

  pub named_call_bad : {q : ℕ} {ys : List ℕ} → (k ≡ 22 → ⊥) → k ≡ 18 → ((tok : Row) → Holds tok ts n → arguments_of tok (levelled tok h) d (i + 1) ≡ bad q) → Told expr_form (λ tok. named_of tok (levelled tok h) d i) ts n xs i at (Fault q) ys
  unfolding named_of sign_kind
  named_call_bad _ e b = fault (λ tok H. rw (kind_eq H (i + 1) 18 y e, b tok H))

  pub named_call : {j e c e' : ℕ} {ys zs : List ℕ} → (k ≡ 22 → ⊥) → k ≡ 18 → Found args_form (λ tok. arguments_of tok (levelled tok h) d (i + 1)) ts n xs (i + 1) at j e c ys → zs ≡ sets ys e (3 ∷ p ∷ v ∷ c ∷ []) → e' ≡ e + 4
      → Told expr_form (λ tok. named_of tok (levelled tok h) d i) ts n xs i at (Done j e' 1) zs
  unfolding named_of sign_kind expr_words
  named_call {j} {e} {c} _ q b s t =
      close (λ tok es. Expr.call (place_in (tok i)) (name_in (tok i)) es) (3 ∷ p ∷ v ∷ c ∷ []) b s t b.within (omega (arith, b.small)) (omega arith)
      (λ tok H es o m. (rw (kind_eq H (i + 1) 18 y q, o), rw (place_is H i z, name_length H i refl u w, sym m) (args_linear es (3 ∷ p ∷ v ∷ c ∷ [])), refl))

  pub named_name : {e : ℕ} {ys : List ℕ} → (k ≡ 22 → ⊥) → (k ≡ 18 → ⊥) → ys ≡ sets xs at (1 ∷ p ∷ v ∷ 0 ∷ []) → e ≡ at + 4 → i < n → Told expr_form (λ tok. named_of tok (levelled tok h) d i) ts n xs i at (Done (i + 1) e 1) ys
  unfolding named_of sign_kind expr_words
  named_name a b s t l =
      leaf (λ tok. Expr.name (place_in (tok i)) (name_in (tok i))) (1 ∷ p ∷ v ∷ 0 ∷ []) s t (omega arith) (omega arith) (omega arith)
      (λ tok H. (rw (kind_not H (i + 1) 22 y a, kind_not H (i + 1) 18 y b), rw (place_is H i z, name_length H i refl u w), refl))

-- `unary`
unary_number_lem : (o : ℕ) → o < 2 → unary_number (unary_at o) ≡ o
unfolding unary_number unary_at
unary_number_lem zero h = refl
unary_number_lem (suc zero) h = refl
unary_number_lem (suc (suc o)) h = absurd (omega arith)

pub unary_tag : (o : U.Unary) → tag_of UnaryProofs.the_type o ≡ N.unary_number o
unary_tag unary.Negate = refl
unary_tag unary.Not = refl

pub unary_low : (o : U.Unary) → N.unary_number o < 2
unary_low unary.Negate = omega arith
unary_low unary.Not = omega arith

module _ (h o d i : ℕ) {ts : List ℕ} {n at : ℕ} {xs : List ℕ} where
  pub unary_deep : {ys : List ℕ} → 32 ≤ d → Told expr_form (λ tok. unary_of tok (levelled tok h) (unary_at o) d i) ts n xs i at (Fault i) ys
  unfolding unary_of
  unary_deep l = fault (λ tok H. rw (le-ltb d 32 l))

  pub unary_bad : {p : ℕ} {ys : List ℕ} → d < 32 → ((tok : Row) → Holds tok ts n → levelled tok h 6 (d + 1) (i + 1) ≡ bad p) → Told expr_form (λ tok. unary_of tok (levelled tok h) (unary_at o) d i) ts n xs i at (Fault p) ys
  unfolding unary_of
  unary_bad l b = fault (λ tok H. rw (lt-ltb d 32 l, b tok H))

  pub unary_done : {j e c p v e' : ℕ} {ys zs : List ℕ} → d < 32 → o < 2 → v ≡ o → p ≡ field_of ts n i 1 → Found expr_form (λ tok. levelled tok h 6 (d + 1) (i + 1)) ts n xs (i + 1) at j e c ys → zs ≡ sets ys e (4 ∷ p ∷ v ∷ 0 ∷ []) → e' ≡ e + 4
      → Told expr_form (λ tok. unary_of tok (levelled tok h) (unary_at o) d i) ts n xs i at (Done j e' 1) zs
  unfolding unary_of expr_words
  unary_done {j} {e} {c} {p} {ys = ys} l m w z b s t =
      close (λ tok a. Expr.unary (place_in (tok i)) (unary_at o) a) (4 ∷ p ∷ o ∷ 0 ∷ []) b (s ∙ ap (λ (n : ℕ). sets ys e (4 ∷ p ∷ n ∷ 0 ∷ [])) w) t b.within (omega (arith, b.small)) (omega arith)
      (λ tok H a q _. (rw (lt-ltb d 32 l, q), rw (place_is H i z, unary_number_lem o m) (expr_linear a (4 ∷ p ∷ o ∷ 0 ∷ [])), refl))

-- `primary`
module _ (h d i : ℕ) {ts : List ℕ} {n at k : ℕ} {xs : List ℕ} (y : k ≡ field_of ts n i 0) where
  pub primary_number : {v e : ℕ} {ys : List ℕ} → k ≡ 2 → v ≡ field_of ts n i 2 → ys ≡ sets xs at (0 ∷ 0 ∷ v ∷ 0 ∷ []) → e ≡ at + 4 → i < n → Told expr_form (λ tok. primary_of tok (levelled tok h) d i) ts n xs i at (Done (i + 1) e 1) ys
  unfolding primary_of expr_words
  primary_number {v} q w s t l =
      leaf (λ tok. Expr.number (number_in (tok i))) (0 ∷ 0 ∷ v ∷ 0 ∷ []) s t (omega arith) (omega arith) (omega arith)
      (λ tok H. (rw (kind_eq H i 2 y q), rw (number_is H i y q w), refl))

  pub primary_name : {r : Got} {ys : List ℕ} → k ≡ 1 → Told expr_form (λ tok. named_of tok (levelled tok h) d i) ts n xs i at r ys → Told expr_form (λ tok. primary_of tok (levelled tok h) d i) ts n xs i at r ys
  unfolding primary_of
  primary_name q t = same (λ tok H. rw (kind_eq H i 1 y q)) t

  pub primary_true : {e : ℕ} {ys : List ℕ} → k ≡ 37 → ys ≡ sets xs at (9 ∷ 0 ∷ 1 ∷ 0 ∷ []) → e ≡ at + 4 → i < n → Told expr_form (λ tok. primary_of tok (levelled tok h) d i) ts n xs i at (Done (i + 1) e 1) ys
  unfolding primary_of expr_words truth_number word_kind
  primary_true q s t l = leaf (λ tok. Expr.truth true) (9 ∷ 0 ∷ 1 ∷ 0 ∷ []) s t (omega arith) (omega arith) (omega arith) (λ tok H. (rw (kind_eq H i 37 y q), refl, refl))

  pub primary_false : {e : ℕ} {ys : List ℕ} → k ≡ 38 → ys ≡ sets xs at (9 ∷ 0 ∷ 0 ∷ 0 ∷ []) → e ≡ at + 4 → i < n → Told expr_form (λ tok. primary_of tok (levelled tok h) d i) ts n xs i at (Done (i + 1) e 1) ys
  unfolding primary_of expr_words truth_number word_kind
  primary_false q s t l = leaf (λ tok. Expr.truth false) (9 ∷ 0 ∷ 0 ∷ 0 ∷ []) s t (omega arith) (omega arith) (omega arith) (λ tok H. (rw (kind_eq H i 38 y q), refl, refl))

  pub primary_paren : {r : Got} {ys : List ℕ} → k ≡ 18 → Told expr_form (λ tok. enclosed_of tok (levelled tok h) 19 d i) ts n xs i at r ys → Told expr_form (λ tok. primary_of tok (levelled tok h) d i) ts n xs i at r ys
  unfolding primary_of sign_kind word_kind
  primary_paren q t = same (λ tok H. rw (kind_eq H i 18 y q)) t

  pub primary_minus : {r : Got} {ys : List ℕ} → k ≡ 10 → Told expr_form (λ tok. unary_of tok (levelled tok h) (unary_at 0) d i) ts n xs i at r ys → Told expr_form (λ tok. primary_of tok (levelled tok h) d i) ts n xs i at r ys
  unfolding primary_of sign_kind word_kind unary_at
  primary_minus q t = same (λ tok H. rw (kind_eq H i 10 y q)) t

  pub primary_bang : {r : Got} {ys : List ℕ} → k ≡ 17 → Told expr_form (λ tok. unary_of tok (levelled tok h) (unary_at 1) d i) ts n xs i at r ys → Told expr_form (λ tok. primary_of tok (levelled tok h) d i) ts n xs i at r ys
  unfolding primary_of sign_kind word_kind unary_at
  primary_bang q t = same (λ tok H. rw (kind_eq H i 17 y q)) t

  pub primary_none : {ys : List ℕ} → (k ≡ 2 → ⊥) → (k ≡ 1 → ⊥) → (k ≡ 37 → ⊥) → (k ≡ 38 → ⊥) → (k ≡ 18 → ⊥) → (k ≡ 10 → ⊥) → (k ≡ 17 → ⊥) → Told expr_form (λ tok. primary_of tok (levelled tok h) d i) ts n xs i at (Fault i) ys
  unfolding primary_of sign_kind word_kind
  primary_none a b c e f g m = fault (λ tok H. rw (kind_not H i 2 y a, kind_not H i 1 y b, kind_not H i 37 y c, kind_not H i 38 y e, kind_not H i 18 y f, kind_not H i 10 y g, kind_not H i 17 y m))

-- a strict operator's number in the tree is that of the flat form
pub strict_number_is : (s : O.Strict) → tag_of StrictProofs.the_type s ≡ item_number (Binary.strict (N.strict_of s))
unfolding item_number strict_number
strict_number_is strict.Eq = refl
strict_number_is strict.Ne = refl
strict_number_is strict.Lt = refl
strict_number_is strict.Le = refl
strict_number_is strict.Gt = refl
strict_number_is strict.Ge = refl
strict_number_is strict.Add = refl
strict_number_is strict.Sub = refl
strict_number_is strict.Mul = refl
strict_number_is strict.Div = refl
strict_number_is strict.Rem = refl

-- an item of two sides is a strict operator's or a lazy one's
pub not_strict : (o : Operation) → ((s : O.Strict) → o ≡ operation.Strict s → ⊥) → item_kind (binary_of o) ≡ 5 → ⊥
unfolding item_kind
not_strict (operation.Strict s) h e = h s refl
not_strict operation.And h e = absurd (omega arith)
not_strict operation.Or h e = absurd (omega arith)

-- what was read, by what is known of it
pub as_read : {A : Type 0} {F : Form A} {f : Row → Out A} {ts : List ℕ} {n i at j c : ℕ} {xs ys : List ℕ} {r : input.Read} → r.next ≡ j → r.told ≡ c → Told F f ts n xs i at (Done j r.end c) ys → Told F f ts n xs i at (Result.Ok r) ys
as_read {F = F} {f = f} {ts = ts} {n = n} {i = i} {at = at} {j = j} {xs = xs} {ys = ys} {r = r} p q t =
    subst (λ (k : ℕ). Told F f ts n xs i at (Done k r.end r.told) ys) (sym p) (subst (λ (k : ℕ). Told F f ts n xs i at (Done j r.end k) ys) (sym q) t)

-- what is no kind's number is none of these
pub no_kind : {k v : ℕ} → IsNoKind k → k ≡ v → 0 < v → v ≤ 38 → ⊥
no_kind (inl h) e z l = omega arith
no_kind (inr h) e z l = omega arith
