-- From the promises of the parts to the promise of the whole.
use mathlib.Core.Path.{◌≡◌, refl, sym, ap, subst, ◌∙◌}
use mathlib.Core.List.{List, [], ◌∷◌}
use mathlib.Core.Logic.{inl}
use mathlib.Core.Option.{Option}
use Prim.Native.Nat.{ℕ, zero, suc, ◌+◌, ◌*◌, ◌≤◌, ◌<◌}
use native.Mathlib.Omega.{arith}
use native.Mathlib.Decide.{dec_lt}
use lib.ListN.{length, get_or}
use lib.Seq.{sets}
use borrow.Author.Tests.{lt-ltb, le-ltb}
use Rattle.language.specs.Tree.{Item}
use Rattle.language.specs.Tokens.{Placed, Answer.good, Answer.refused}
use Rattle.language.specs.Grammar.{nth}
use Rattle.tokens.specs.Kinds.{flat}
use Rattle.tokens.specs.Told.{ReadWell}
use Rattle.tokens.specs.Told as T
use Rattle.std.specs.Prelude.{Result}
use Rattle.std.specs.Result.{IsErrAnd}
use Rattle.std.proofs.lemmas.Result.{err_from_is_err_and}
use Rattle.tokens.specs.declared.Unread.{Unread}
use Rattle.tokens.specs.declared.Unread.TheVariants as unread
use Rattle.grammar.specs.declared.Parsed.{Parsed}
use Rattle.tokens.proofs.Room.{kind_at, place_at, value_at_lem}
use Rattle.grammar.specs.Parse.{Out, Out.ok, Out.bad, kind_in, place_in, items_of, program_of, fault_at, answer_of, tree_in, tree_of}
use Rattle.grammar.specs.Flat.{tree_words}
use Rattle.grammar.specs.Told.{Row, field_of, value_in, Holds, Says, Found, Room, items_form}
use Rattle.grammar.specs.Answers.{Answers}
use Rattle.grammar.proofs.Complete.{past}
use Rattle.grammar.proofs.Main.{few, tree_sound, refused_none}

-- The tokens that the room holds.

there : (ts : List Placed) (i : ℕ) → i < length ts → (P : Option Placed → Type 0) → ((t : Placed) → nth ts i ≡ Option.some t → P (Option.some t)) → P (nth ts i)
unfolding nth
there [] i h P f = absurd (omega arith)
there (t ∷ ts) zero h P f = f t refl
there (t ∷ ts) (suc i) h P f = there ts i (omega arith) P f

module _ (before : List ℕ) (ts : List Placed) (h : 3 * length ts ≤ length before) where
  word_of : (k : ℕ) (w : Option Placed → ℕ) → w Option.none ≡ 0 → ((i : ℕ) (t : Placed) → nth ts i ≡ Option.some t → get_or (sets before 0 (flat ts)) (3 * i + k) 0 ≡ w (Option.some t)) → (i : ℕ) → field_of (sets before 0 (flat ts)) (length ts) i k ≡ w (nth ts i)
  unfolding field_of
  word_of k w z f i =
      elim (dec_lt i (length ts)) [
        | yes p ↦ rw (lt-ltb i (length ts) p) (there ts i p (λ (o : Option Placed). get_or (sets before 0 (flat ts)) (3 * i + k) 0 ≡ w o) (λ t e. f i t e))
        | no p ↦ rw (le-ltb i (length ts) (omega arith), past ts i (omega arith)) (sym z)
      ]

  held : Holds (nth ts) (sets before 0 (flat ts)) (length ts)
  unfolding kind_in place_in value_in
  held =
      record {
        kind = word_of 0 kind_in refl (λ i t e. ap (λ (m : ℕ). get_or (sets before 0 (flat ts)) m 0) (let z : 3 * i + 0 ≡ 3 * i = omega arith in z) ∙ kind_at before ts i t e h);
        place = word_of 1 place_in refl (λ i t e. place_at before ts i t e h);
        value = word_of 2 value_in refl (λ i t e. value_at_lem before ts i t e h);
      }

module _ {text before after : List ℕ} {n : ℕ} (g : ReadWell text before n after) where
  pub few_tokens : n ≤ 65536
  few_tokens = omega (arith, g.count, few g.reads)

  pub holds : Holds (nth g.tokens) after n
  holds = subst (λ (m : ℕ). Holds (nth g.tokens) after m) (sym g.count) (subst (λ (l : List ℕ). Holds (nth g.tokens) l (length g.tokens)) (sym g.room) (held before g.tokens (omega (arith, g.enough, few g.reads))))

  pub start : {tree : List ℕ} → length after ≡ length before → 524288 ≤ length tree → Room n tree 0 0
  start q l = record { begins = omega arith; free = omega (arith, few_tokens) }

  pub held_words : length after ≡ length before → 3 * n ≤ length after
  held_words q = omega (arith, g.enough, few_tokens)

  program_is : (o : Out (List Item)) → items_of (nth g.tokens) n 65537 0 ≡ o → tree_of text ≡ answer_of g.tokens (length text) o
  unfolding tree_of tree_in program_of
  program_is o e = ap (tree_in (length text)) g.says ∙ ap (answer_of g.tokens (length text)) (ap (λ (m : ℕ). items_of (nth g.tokens) m 65537 0) (sym g.count) ∙ e)

  pub whole : {room xs ys : List ℕ} {j e c : ℕ} → Found items_form (λ tok. items_of tok n 65537 0) after n xs 0 0 j e c ys → Answers text room xs (Result.Ok (record { items = c; words = e })) ys
  unfolding answer_of tree_words
  whole {room} {xs} {ys} {j} {e} {c} f =
      let s : Says items_form (items_of (nth g.tokens) n 65537 0) xs 0 j e c ys = f.says (nth g.tokens) holds in
      let t : tree_of text ≡ good s.value = program_is (ok s.value j) s.is in
      record { by = record { items = s.value; parses = tree_sound text s.value t; says = t; count = s.told; size = s.end ∙ omega arith; words = s.buffer } }

  bad_at : (p q : ℕ) → items_of (nth g.tokens) n 65537 0 ≡ bad p → fault_at (nth g.tokens p) (length text) ≡ q → {room xs ys : List ℕ} → Answers text room xs (Result.Err (unread.Unreadable q)) ys
  unfolding answer_of
  bad_at p q e r = let t : tree_of text ≡ refused q = program_is (bad p) e ∙ ap (λ (m : ℕ). refused m) r in record { by = record { says = t; never = refused_none text q t } }

  pub whole_fault : {room xs ys : List ℕ} {p q : ℕ} → ((tok : Row) → Holds tok after n → items_of tok n 65537 0 ≡ bad p) → p < n → q ≡ field_of after n p 1 → Answers text room xs (Result.Err (unread.Unreadable q)) ys
  unfolding fault_at place_in
  whole_fault {p = p} {q = q} f l e = bad_at p q (f (nth g.tokens) holds) (there g.tokens p (omega (arith, g.count)) (λ (o : Option Placed). place_in o ≡ q → fault_at o (length text) ≡ q) (λ t _ w. w) (sym (e ∙ holds.place p)))

  pub whole_end : {room xs ys : List ℕ} {p : ℕ} → ((tok : Row) → Holds tok after n → items_of tok n 65537 0 ≡ bad p) → n ≤ p → Answers text room xs (Result.Err (unread.Unreadable (length text))) ys
  unfolding fault_at
  whole_end {p = p} f l = bad_at p (length text) (f (nth g.tokens) holds) (ap (λ (o : Option Placed). fault_at o (length text)) (past g.tokens p (omega (arith, g.count))))

pub untold : {text before room xs ys : List ℕ} {p : ℕ} → T.Unreadable text before p → Answers text room xs (Result.Err (unread.Unreadable p)) ys
unfolding tree_of tree_in
untold {text} {p = p} u = let t : tree_of text ≡ refused p = ap (tree_in (length text)) u.says in record { by = record { says = t; never = refused_none text p t } }

-- a text that gives no tokens
untold_by : {text room after xs ys : List ℕ} (e : Unread) → T.Told text room (Result.Err e) after → Answers text room xs (Result.Err e) ys
untold_by (unread.Unreadable p) h = untold h.by
untold_by unread.NoRoom h = record { by = inl h.by.0 }

pub handed_on : {text room after xs ys : List ℕ} {r : Result Parsed Unread} {e : Unread} → IsErrAnd r (λ x. x ≡ e) → T.Told text room (Result.Err e) after → Answers text room xs r ys
handed_on {text} {room} {after} {xs} {ys} {r} {e} h t =
    let w = err_from_is_err_and r h in
    subst (λ (g : Result Parsed Unread). Answers text room xs g ys) (sym (w.1 ∙ ap (λ (x : Unread). Result.Err x) w.2)) (untold_by e t)
