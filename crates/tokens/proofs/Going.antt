-- The loop over a text: what was written so far, and what is left to read.
use mathlib.Core.Path.{◌≡◌, refl, sym, ap, subst, ◌∙◌}
use mathlib.Core.Bool.{true, false}
use mathlib.Core.List.{List, [], ◌∷◌, ◌++◌}
use mathlib.Core.Option.{none, some}
use Prim.Native.Nat.{ℕ, suc, ◌+◌, ◌*◌, ◌-◌, ◌≤◌, ◌<◌}
use native.Mathlib.Omega.{arith}
use native.Mathlib.Nat.{add-suc, suc-add, add-zero}
use lib.ListN.{length, length-append, length-drop, get_or, drop, drop_of_length-le}
use lib.Seq.{sets, length-sets, drop-cons, drop-drop}
use borrow.Author.Tests.{le-leb, lt-leb}
use Rattle.language.specs.Tree.{Place}
use Rattle.language.specs.Tokens.{Token, Placed, placed, Answer, Answer.good, Answer.refused, Found, is, is_blank, in_comment, span, token_at, also, read_from, tokens_of, longest_text}
use Rattle.tokens.specs.Kinds.{kind_of, value_of, flat, token_room}
use Rattle.tokens.specs.Seen.{Seen, seen}
use Rattle.tokens.specs.Told.{Told}
use Rattle.std.specs.Prelude.{Result}
use Rattle.tokens.specs.declared.Unread.TheVariants as unread
use Rattle.tokens.proofs.Steps.{read_blank, read_comment, read_token, read_fault}
use Rattle.tokens.proofs.Sound.{There, TokenThere, token_there, tokens_sound}
use Rattle.tokens.proofs.Complete.{tokens_complete}

-- tokens read before
abbrev pub prepend : List Placed → Answer (List Placed) → Answer (List Placed)
prepend [] o = o
prepend (t ∷ ts) o = also t (prepend ts o)

prepend_also : (ts : List Placed) (t : Placed) (o : Answer (List Placed)) → prepend ts (also t o) ≡ prepend (ts ++ t ∷ []) o
prepend_also [] t o = refl
prepend_also (x ∷ ts) t o = ap (also x) (prepend_also ts t o)

prepend_good : (ts : List Placed) → prepend ts (good []) ≡ good ts
unfolding also
prepend_good [] = refl
prepend_good (x ∷ ts) = ap (also x) (prepend_good ts)

prepend_refused : (ts : List Placed) (p : Place) → prepend ts (refused p) ≡ refused p
unfolding also
prepend_refused [] p = refl
prepend_refused (x ∷ ts) p = ap (also x) (prepend_refused ts p)

flat_snoc : (ts : List Placed) (t : Placed) → flat (ts ++ t ∷ []) ≡ flat ts ++ kind_of t.token ∷ t.place ∷ value_of t.token ∷ []
unfolding flat
flat_snoc [] t = refl
flat_snoc (x ∷ ts) t = ap (λ (w : List ℕ). kind_of x.token ∷ x.place ∷ value_of x.token ∷ w) (flat_snoc ts t)

pub flat_length : (ts : List Placed) → length (flat ts) ≡ 3 * length ts
unfolding flat
flat_length [] = refl
flat_length (x ∷ ts) = omega (arith, flat_length ts)

-- stores one after the other
sets_append : (l : List ℕ) (i : ℕ) (a b : List ℕ) → sets (sets l i a) (i + length a) b ≡ sets l i (a ++ b)
sets_append l i [] b = ap (λ (k : ℕ). sets l k b) (add-zero i)
sets_append l i (x ∷ a) b = ap (λ (k : ℕ). sets (sets l i (x ∷ a)) k b) (add-suc i (length a) ∙ sym (suc-add i (length a))) ∙ sets_append (lib.ListN.set l i x) (suc i) a b

-- a token has at least one byte and ends within the text
pub token_size : (text : List ℕ) (i k v s : ℕ) → i ≤ length text → Seen.Token k v s ≡ seen (token_at (drop i text)) → (0 < s) × (i + s ≤ length text)
unfolding seen
token_size text i k v s h q = go (token_at (drop i text)) refl (token_there (drop i text))
  where
    go : (o : Found) → token_at (drop i text) ≡ o → There (drop i text) o → (0 < s) × (i + s ≤ length text)
    go none e t = let p : Seen.Token k v s ≡ Seen.Fault = q ∙ ap seen e in absurd (let z : ◌≡◌ {A = ℕ} 0 1 = cc in omega arith)
    go (some f) e t =
        let p : Seen.Token k v s ≡ Seen.Token (kind_of f.0) (value_of f.0) f.1 = q ∙ ap seen e in
        let c : f.1 ≡ s = cc in
        let a : length (drop i text) ≡ length t.spelt + length (drop f.1 (drop i text)) = ap length t.split ∙ length-append t.spelt (drop f.1 (drop i text)) in
        let b : length (drop i text) ≡ length text - i = length-drop i text in
        (omega (arith, t.some_bytes), omega (arith, t.size, t.some_bytes))

-- n tokens stand in the room, and the text is to be read from byte i on
pub record Going (text before : List ℕ) (n i : ℕ) (after : List ℕ) : Type 0 where
  pub tokens : List Placed
  pub says : read_from 0 0 text ≡ prepend tokens (read_from 0 i (drop i text))
  pub count : n ≡ length tokens
  pub room : after ≡ sets before 0 (flat tokens)
  pub within : i ≤ length text
  pub few : n ≤ i

pub begun : (text before : List ℕ) → Going text before 0 0 before
unfolding flat
begun text before = record { tokens = []; says = refl; count = refl; room = refl; within = omega arith; few = omega arith }

module _ {text before after : List ℕ} {n i : ℕ} (g : Going text before n i after) where
  -- the room keeps its length
  pub keeps : length after ≡ length before
  keeps = ap length g.room ∙ length-sets before 0 (flat g.tokens)

  -- nothing was written: what is read next is read
  pass : (j : ℕ) → read_from 0 i (drop i text) ≡ read_from 0 j (drop j text) → i ≤ j → j ≤ length text → Going text before n j after
  pass j e h l = record { tokens = g.tokens; says = g.says ∙ ap (prepend g.tokens) e; count = g.count; room = g.room; within = l; few = omega (arith, g.few) }

  module _ (h : i < length text) where
    first : drop i text ≡ get_or text i 0 ∷ drop (suc i) text
    first = drop-cons text i 0 h

    one : suc i ≡ i + 1
    one = omega arith

    pub on_blank : is_blank (get_or text i 0) ≡ true → Going text before n (i + 1) after
    on_blank e = pass (i + 1) (ap (read_from 0 i) first ∙ read_blank i (get_or text i 0) (drop (suc i) text) e ∙ ap (λ (k : ℕ). read_from 0 (i + 1) (drop k text)) one) (omega arith) (omega arith)

    module _ (nb : is_blank (get_or text i 0) ≡ false) where
      pub on_comment : is "#" (get_or text i 0) ≡ true → (e : ℕ) → e ≡ i + 1 + length (span in_comment (drop (i + 1) text)) → e ≤ length text → Going text before n e after
      on_comment c e q l =
          let s : read_from 0 i (drop i text) ≡ read_from 0 e (drop e text) =
          ap (read_from 0 i) first
          ∙ read_comment i (get_or text i 0) (drop (suc i) text) nb c
          ∙ ap (λ (k : ℕ). read_from 0 (i + 1 + length (span in_comment (drop k text))) (drop (length (span in_comment (drop k text))) (drop k text))) one
          ∙ ap (read_from 0 (i + 1 + length (span in_comment (drop (i + 1) text)))) (drop-drop (length (span in_comment (drop (i + 1) text))) (i + 1) text)
          ∙ ap (λ (k : ℕ). read_from 0 k (drop k text)) (sym q) in
          pass e s (omega arith) l

      module _ (nc : is "#" (get_or text i 0) ≡ false) where
        found : (f : Token × ℕ) → token_at (drop i text) ≡ some f → 0 < f.1 → read_from 0 i (drop i text) ≡ also (placed f.0 i) (read_from 0 (i + f.1) (drop (i + f.1) text))
        found f e p =
            ap (read_from 0 i) first
            ∙ read_token i (get_or text i 0) (drop (suc i) text) nb nc f (ap token_at (sym first) ∙ e) p
            ∙ ap (λ (l : List ℕ). also (placed f.0 i) (read_from 0 (i + f.1) (drop f.1 l))) (sym first)
            ∙ ap (λ (l : List ℕ). also (placed f.0 i) (read_from 0 (i + f.1) l)) (drop-drop f.1 i text)

        onward : (f : Token × ℕ) → token_at (drop i text) ≡ some f → TokenThere (drop i text) f → i + f.1 ≤ length text → (later : List ℕ) → later ≡ sets after (3 * n) (kind_of f.0 ∷ i ∷ value_of f.0 ∷ []) → Going text before (n + 1) (i + f.1) later
        onward f e t s later w =
            record {
              tokens = g.tokens ++ placed f.0 i ∷ [];
              says = g.says ∙ ap (prepend g.tokens) (found f e t.some_bytes) ∙ prepend_also g.tokens (placed f.0 i) (read_from 0 (i + f.1) (drop (i + f.1) text));
              count = simp length-append (omega (arith, g.count));
              room =
                  w
                  ∙ ap (λ (l : List ℕ). sets l (3 * n) (kind_of f.0 ∷ i ∷ value_of f.0 ∷ [])) g.room
                  ∙ ap (λ (k : ℕ). sets (sets before 0 (flat g.tokens)) k (kind_of f.0 ∷ i ∷ value_of f.0 ∷ [])) (let z : 3 * n ≡ 0 + length (flat g.tokens) = omega (arith, flat_length g.tokens, g.count) in z)
                  ∙ sets_append before 0 (flat g.tokens) (kind_of f.0 ∷ i ∷ value_of f.0 ∷ [])
                  ∙ ap (sets before 0) (sym (flat_snoc g.tokens (placed f.0 i)));
              within = s;
              few = omega (arith, g.few, t.some_bytes);
            }

        pub on_token : (k v s : ℕ) → Seen.Token k v s ≡ seen (token_at (drop i text)) → (later : List ℕ) → later ≡ sets after (3 * n) (k ∷ i ∷ v ∷ []) → Going text before (n + 1) (i + s) later
        unfolding seen
        on_token k v s q later w = go (token_at (drop i text)) refl (token_there (drop i text))
          where
            go : (o : Found) → token_at (drop i text) ≡ o → There (drop i text) o → Going text before (n + 1) (i + s) later
            go none e t = let p : Seen.Token k v s ≡ Seen.Fault = q ∙ ap seen e in absurd (let z : ◌≡◌ {A = ℕ} 0 1 = cc in omega arith)
            go (some f) e t =
                let p : Seen.Token k v s ≡ Seen.Token (kind_of f.0) (value_of f.0) f.1 = q ∙ ap seen e in
                let a : k ≡ kind_of f.0 = cc in
                let b : v ≡ value_of f.0 = cc in
                let c : f.1 ≡ s = cc in
                subst (λ (m : ℕ). Going text before (n + 1) (i + m) later) c (onward f e t (omega (arith, (token_size text i k v s g.within q).1)) later (w ∙ ap (λ (x : ℕ). sets after (3 * n) (x ∷ i ∷ v ∷ [])) a ∙ ap (λ (x : ℕ). sets after (3 * n) (kind_of f.0 ∷ i ∷ x ∷ [])) b))

        pub on_fault : Seen.Fault ≡ seen (token_at (drop i text)) → read_from 0 0 text ≡ refused i
        unfolding seen
        on_fault q = go (token_at (drop i text)) refl
          where
            go : (o : Found) → token_at (drop i text) ≡ o → read_from 0 0 text ≡ refused i
            go none e = g.says ∙ ap (prepend g.tokens) (ap (read_from 0 i) first ∙ read_fault i (get_or text i 0) (drop (suc i) text) nb nc (ap token_at (sym first) ∙ e)) ∙ prepend_refused g.tokens i
            go (some f) e = let p : Seen.Fault ≡ Seen.Token (kind_of f.0) (value_of f.0) f.1 = q ∙ ap seen e in absurd (let z : ◌≡◌ {A = ℕ} 0 1 = cc in omega arith)

  -- all was read
  pub at_end : length text ≤ i → read_from 0 0 text ≡ good g.tokens
  unfolding read_from
  at_end h = g.says ∙ ap (λ (l : List ℕ). prepend g.tokens (read_from 0 i l)) (drop_of_length-le text h) ∙ prepend_good g.tokens

-- The answers.

module _ (text before : List ℕ) where
  unreadable : (p : Place) → token_room ≤ length before → tokens_of text ≡ refused p → (after : List ℕ) → Told text before (Result.Err (unread.Unreadable p)) after
  unreadable p r e after =
      record {
        by = record {
          enough = r;
          says = e;
          never = λ ts h. let q : ◌≡◌ {A = Answer (List Placed)} (good ts) (refused p) = sym (tokens_complete text ts h) ∙ e in let z : ◌≡◌ {A = ℕ} 0 1 = cc in omega arith;
        };
      }

  pub no_room : length before < token_room → Told text before (Result.Err unread.NoRoom) before
  no_room h = record { by = (h, refl) }

  pub too_long : token_room ≤ length before → longest_text < length text → (after : List ℕ) → Told text before (Result.Err (unread.Unreadable longest_text)) after
  unfolding tokens_of
  too_long r h after = unreadable longest_text r (rw (lt-leb (length text) longest_text h)) after

  module _ (r : token_room ≤ length before) (l : length text ≤ longest_text) where
    whole : tokens_of text ≡ read_from 0 0 text
    unfolding tokens_of
    whole = rw (le-leb (length text) longest_text l)

    pub at_fault : (p : Place) → read_from 0 0 text ≡ refused p → (after : List ℕ) → Told text before (Result.Err (unread.Unreadable p)) after
    at_fault p e after = unreadable p r (whole ∙ e) after

    pub well : {n i : ℕ} {after : List ℕ} → Going text before n i after → length text ≤ i → Told text before (Result.Ok n) after
    well {n} {i} {after} g h =
        let e : tokens_of text ≡ good g.tokens = whole ∙ at_end g h in
        record { by = record { enough = r; tokens = g.tokens; reads = tokens_sound text g.tokens e; says = e; count = g.count; room = g.room } }
