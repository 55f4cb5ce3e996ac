-- What stands at byte i, as the code finds it out: a name, a number, a sign.
use mathlib.Core.Path.{◌≡◌, refl, sym, ap, ◌∙◌}
use mathlib.Core.Bool.{Bool, true, false, not}
use mathlib.Core.List.{List, [], ◌∷◌, ◌++◌}
use mathlib.Core.Option.{Option, none, some}
use Prim.Native.Nat.{ℕ, suc, ◌+◌, ◌*◌, ◌-◌, ◌≤◌, ◌<◌}
use Prim.Native.String.{String}
use native.Mathlib.Omega.{arith}
use native.Mathlib.Numerals.{add-one}
use lib.Dec.{ltb, eqb}
use lib.ListN.{length, get_or, take, drop, length-drop, length-append, drop_of_length-le}
use lib.Seq.{drop-cons, drop-drop, get_or-drop, take-append_seam}
use borrow.Author.Tests.{ne_eqb, eqb-true, le-leb, lt-leb, ltb-true}
use Rattle.word.specs.Choice.{pick, both}
use Rattle.language.specs.Tokens.{all, Word, Sign, In, bytes, signs, begins, as_sign, unpadded, decimal, is_letter, is_digit, in_name, words, starts, same, span, find, or_name, name_at, number_at, token_at}
use Rattle.tokens.specs.Kinds.{kind_of, value_of, word_kind, sign_kind}
use Rattle.tokens.specs.Seen.{Seen, seen, kind_or_none, sign_in}
use Rattle.tokens.proofs.Lists.{span_split, every, every_in, both_true, either_right, Hit, find_hit}
use Rattle.tokens.proofs.Scan.{starts_at}
use Rattle.tokens.proofs.Tables.{letter_in}

-- the longest beginning is its first bytes
pub span_part : (P : ℕ → Bool) (text : List ℕ) (i n : ℕ) → n ≡ length (span P (drop i text)) → take (i + n - i) (drop i text) ≡ span P (drop i text)
span_part P text i n q =
    let m : i + n - i ≡ length (span P (drop i text)) = omega arith in
    ap (λ (k : ℕ). take k (drop i text)) m ∙ ap (take (length (span P (drop i text)))) (span_split P (drop i text)) ∙ take-append_seam (span P (drop i text)) (drop (length (span P (drop i text))) (drop i text))

-- it is within the text
pub span_within : (P : ℕ → Bool) (text : List ℕ) (i n : ℕ) → i ≤ length text → n ≡ length (span P (drop i text)) → i + n ≤ length text
span_within P text i n h q =
    let m : length (drop i text) ≡ length text - i = length-drop i text in
    let k : length (span P (drop i text) ++ drop (length (span P (drop i text))) (drop i text)) ≡ length (span P (drop i text)) + length (drop (length (span P (drop i text))) (drop i text)) = length-append (span P (drop i text)) (drop (length (span P (drop i text))) (drop i text)) in
    omega (arith, q, m, k, ap length (span_split P (drop i text)))

module _ (text : List ℕ) (i : ℕ) where
  pub name_some : i < length text → is_letter (get_or text i 0) ≡ true → {n : ℕ} → n ≡ length (span in_name (drop i text)) → 0 < n
  unfolding span
  name_some h l {n} q =
      let p : span in_name (drop i text) ≡ get_or text i 0 ∷ span in_name (drop (suc i) text) = rw (drop-cons text i 0 h, letter_in (get_or text i 0) l) in
      omega (arith, q, ap length p)

-- a word's kind is no name's
word_other : (x : Word) → 1 < word_kind x
unfolding word_kind
word_other Word.var = omega arith
word_other Word.fn = omega arith
word_other Word.«let» = omega arith
word_other Word.if = omega arith
word_other Word.else = omega arith
word_other Word.while = omega arith
word_other Word.return = omega arith
word_other Word.emit = omega arith
word_other Word.int = omega arith
word_other Word.bool = omega arith
word_other Word.true = omega arith
word_other Word.false = omega arith

plain_value : (w : List ℕ) (o : Option (Word × String)) → kind_of (or_name w o) ≡ 1 → value_of (or_name w o) ≡ length w
unfolding kind_of value_of or_name
plain_value w none e = refl
plain_value w (some r) e = absurd (omega (arith, word_other r.0))

word_value : (w : List ℕ) (o : Option (Word × String)) → (kind_of (or_name w o) ≡ 1 → ⊥) → value_of (or_name w o) ≡ 0
unfolding kind_of value_of or_name
word_value w none n = absurd (n refl)
word_value w (some r) n = refl

module _ (text : List ℕ) (i n : ℕ) (q : n ≡ length (span in_name (drop i text))) where
  pub name_long : 32 < n → Seen.Fault ≡ seen (name_at (span in_name (drop i text)))
  unfolding name_at seen
  name_long h = let m : 32 < length (span in_name (drop i text)) = omega arith in rw (lt-leb (length (span in_name (drop i text))) 32 m)

  short_name : n ≤ 32 → seen (name_at (span in_name (drop i text))) ≡ Seen.Token (kind_of (or_name (span in_name (drop i text)) (find (same (span in_name (drop i text))) words))) (value_of (or_name (span in_name (drop i text)) (find (same (span in_name (drop i text))) words))) (length (span in_name (drop i text)))
  unfolding name_at seen
  short_name h = let m : length (span in_name (drop i text)) ≤ 32 = omega arith in rw (le-leb (length (span in_name (drop i text))) 32 m)

  module _ (k : ℕ) (h : n ≤ 32) (r : k ≡ kind_of (or_name (take (i + n - i) (drop i text)) (find (same (take (i + n - i) (drop i text))) words))) where
    kind : k ≡ kind_of (or_name (span in_name (drop i text)) (find (same (span in_name (drop i text))) words))
    kind = r ∙ ap (λ (w : List ℕ). kind_of (or_name w (find (same w) words))) (span_part in_name text i n q)

    pub name_plain : k ≡ 1 → Seen.Token k (n) (n) ≡ seen (name_at (span in_name (drop i text)))
    name_plain o = cc (short_name h, kind, q, plain_value (span in_name (drop i text)) (find (same (span in_name (drop i text))) words) (sym kind ∙ o))

    pub name_word : (k ≡ 1 → ⊥) → Seen.Token k 0 (n) ≡ seen (name_at (span in_name (drop i text)))
    name_word o = cc (short_name h, kind, q, word_value (span in_name (drop i text)) (find (same (span in_name (drop i text))) words) (λ z. o (kind ∙ z)))

-- Numbers.

pub name_zero : in_name 0 ≡ false
unfolding in_name is_letter is_digit
name_zero = refl

pub letter_zero : is_letter 0 ≡ false
unfolding is_letter
letter_zero = refl

pub digit_zero : is_digit 0 ≡ false
unfolding is_digit
digit_zero = refl

-- more digits make no less
pub decimal_grows : (v : ℕ) (w : List ℕ) → v ≤ decimal v w
unfolding decimal
decimal_grows v [] = omega arith
decimal_grows v (b ∷ w) = omega (arith, decimal_grows (v * 10 + (b - 48)) w)

-- the digit at k, which counts d, and those after it
module _ (w : List ℕ) (k : ℕ) (h : k < length w) where
  pub digit_on : all is_digit (drop k w) ≡ true → (is_digit (get_or w k 0) ≡ true) × (all is_digit (drop (k + 1) w) ≡ true)
  unfolding all
  digit_on e =
      let q : both (is_digit (get_or w k 0)) (all is_digit (drop (suc k) w)) ≡ true = ap (all is_digit) (sym (drop-cons w k 0 h)) ∙ e in
      let r : (is_digit (get_or w k 0) ≡ true) × (all is_digit (drop (suc k) w) ≡ true) = both_true _ _ q in
      (r.0, ap (λ (m : ℕ). all is_digit (drop m w)) (add-one k) ∙ r.1)

  pub decimal_drop : (v d : ℕ) → d ≡ get_or w k 0 - 48 → decimal v (drop k w) ≡ decimal (v * 10 + d) (drop (k + 1) w)
  unfolding decimal
  decimal_drop v d q = rw (drop-cons w k 0 h, add-one, q)

-- one digit more, which counts d
module _ (text : List ℕ) (j : ℕ) (h : j < length text) (v d : ℕ) (e : is_digit (get_or text j 0) ≡ true) (q : d ≡ get_or text j 0 - 48) where
  pub decimal_on : decimal v (span is_digit (drop j text)) ≡ decimal (v * 10 + d) (span is_digit (drop (j + 1) text))
  unfolding decimal span
  decimal_on = rw (drop-cons text j 0 h, e, add-one, q)

  pub decimal_big : (w : List ℕ) → decimal 0 w ≡ decimal v (span is_digit (drop j text)) → 2147483647 < v * 10 + d → 2147483647 < decimal 0 w
  decimal_big w r l = omega (arith, r, decimal_on, decimal_grows (v * 10 + d) (span is_digit (drop (j + 1) text)))

-- at the end of the digits nothing is left of them
pub decimal_off : (text : List ℕ) (j : ℕ) → j < length text → (v : ℕ) → is_digit (get_or text j 0) ≡ false → v ≡ decimal v (span is_digit (drop j text))
unfolding decimal span
decimal_off text j h v e = rw (drop-cons text j 0 h, e)

pub decimal_out : (text : List ℕ) (j : ℕ) → length text ≤ j → (v : ℕ) → v ≡ decimal v (span is_digit (drop j text))
unfolding decimal span
decimal_out text j h v = rw (drop_of_length-le text h)

both_no : (a b : Bool) → both a (both b false) ≡ false
both_no true true = refl
both_no true false = refl
both_no false b = refl

pub number_big : (text : List ℕ) (i : ℕ) → 2147483647 < decimal 0 (span is_digit (drop i text)) → Seen.Fault ≡ seen (number_at (span is_digit (drop i text)) (drop (length (span is_digit (drop i text))) (drop i text)))
unfolding number_at seen
number_big text i l = rw (lt-leb (decimal 0 (span is_digit (drop i text))) 2147483647 l, both_no)

padded : (w : List ℕ) → get_or w 0 0 ≡ 48 → 1 < length w → unpadded w ≡ false
unfolding unpadded same starts bytes
padded [] e h = absurd (omega arith)
padded (b ∷ []) e h = absurd (omega arith)
padded (b ∷ c ∷ w) e h = rw e

alone : (w : List ℕ) → length w ≤ 1 → 0 < length w → get_or w 0 0 ≡ 48 → unpadded w ≡ true
unfolding unpadded same starts bytes
alone [] h p e = absurd (omega arith)
alone (b ∷ []) h p e = rw e
alone (b ∷ c ∷ w) h p e = absurd (omega arith)

other : (w : List ℕ) → 0 < length w → (get_or w 0 0 ≡ 48 → ⊥) → unpadded w ≡ true
unfolding unpadded starts
other [] p n = absurd (omega arith)
other (b ∷ w) p n = either_right (same (b ∷ w) (bytes "0")) (not (eqb b 48)) (rw (ne_eqb b 48 n))

module _ (text : List ℕ) (i n : ℕ) (h : i < length text) (d : is_digit (get_or text i 0) ≡ true) (q : n ≡ length (span is_digit (drop i text))) where
  digits : List ℕ
  digits = span is_digit (drop i text)

  after : List ℕ
  after = drop (length (span is_digit (drop i text))) (drop i text)

  first : span is_digit (drop i text) ≡ get_or text i 0 ∷ span is_digit (drop (suc i) text)
  unfolding span
  first = rw (drop-cons text i 0 h, d)

  some_digits : 0 < length (span is_digit (drop i text))
  some_digits = omega (arith, ap length first)

  head : get_or (span is_digit (drop i text)) 0 0 ≡ get_or text i 0
  head = rw first

  next : starts in_name (drop (length (span is_digit (drop i text))) (drop i text)) ≡ in_name (get_or text (i + n) 0)
  next = rw (drop-drop (length (span is_digit (drop i text))) i text, ← q) (starts_at in_name name_zero text (i + n))

  both_mid : (a c : Bool) → both a (both false c) ≡ false
  both_mid true c = refl
  both_mid false c = refl

  pub number_letter : in_name (get_or text (i + n) 0) ≡ true → Seen.Fault ≡ seen (number_at (span is_digit (drop i text)) (drop (length (span is_digit (drop i text))) (drop i text)))
  unfolding number_at seen
  number_letter l = rw (next ∙ l)

  pub number_padded : get_or text i 0 ≡ 48 → 1 < n → Seen.Fault ≡ seen (number_at (span is_digit (drop i text)) (drop (length (span is_digit (drop i text))) (drop i text)))
  unfolding number_at seen
  number_padded z l = rw (padded (span is_digit (drop i text)) (head ∙ z) (omega arith), both_mid)

  good : (v : ℕ) → v ≡ decimal 0 (span is_digit (drop i text)) → v ≤ 2147483647 → in_name (get_or text (i + n) 0) ≡ false → unpadded (span is_digit (drop i text)) ≡ true → Seen.Token 2 v (n) ≡ seen (number_at (span is_digit (drop i text)) (drop (length (span is_digit (drop i text))) (drop i text)))
  unfolding number_at seen kind_of value_of
  good v e l o u =
      let m : decimal 0 (span is_digit (drop i text)) ≤ 2147483647 = omega arith in
      rw (next ∙ o, u, le-leb (decimal 0 (span is_digit (drop i text))) 2147483647 m, e, q)

  pub number_good : (v : ℕ) → v ≡ decimal 0 (span is_digit (drop i text)) → v ≤ 2147483647 → in_name (get_or text (i + n) 0) ≡ false → (get_or text i 0 ≡ 48 → ⊥) → Seen.Token 2 v (n) ≡ seen (number_at (span is_digit (drop i text)) (drop (length (span is_digit (drop i text))) (drop i text)))
  number_good v e l o u = good v e l o (other (span is_digit (drop i text)) some_digits (λ z. u (sym head ∙ z)))

  pub number_zero : (v : ℕ) → v ≡ decimal 0 (span is_digit (drop i text)) → v ≤ 2147483647 → in_name (get_or text (i + n) 0) ≡ false → get_or text i 0 ≡ 48 → n ≤ 1 → Seen.Token 2 v (n) ≡ seen (number_at (span is_digit (drop i text)) (drop (length (span is_digit (drop i text))) (drop i text)))
  number_zero v e l o u z = good v e l o (alone (span is_digit (drop i text)) (omega arith) some_digits (head ∙ u))

-- Signs.

-- two bytes are enough to tell a sign, and 0 may stand for the end
two_enough : (b : ℕ) (l : List ℕ) → find (λ s. begins s (b ∷ l)) signs ≡ find (λ s. begins s (b ∷ get_or l 0 0 ∷ [])) signs
unfolding find begins signs bytes
two_enough b [] = refl
two_enough b (c ∷ l) = refl

-- a row of two bytes whose first byte is there: the second decides
pub pair_kind : (t : Bool) (r : Sign × String) (o : Option (Sign × String)) → pick t (sign_kind r.0) (kind_or_none o) ≡ kind_or_none (pick (both t true) (some r) o)
unfolding kind_or_none
pair_kind true r o = refl
pair_kind false r o = refl

size_test : Sign × String → Bool
size_test r = both (ltb 0 (sign_kind r.0)) (eqb (length (bytes r.1)) (pick (ltb (sign_kind r.0) 9) 2 1))

signs_sizes : every size_test signs ≡ true
unfolding size_test signs bytes sign_kind
signs_sizes = refl

sign_size : (r : Sign × String) → In r signs → (0 < sign_kind r.0) × (length (bytes r.1) ≡ pick (ltb (sign_kind r.0) 9) 2 1)
unfolding size_test
sign_size r i =
    let t : (ltb 0 (sign_kind r.0) ≡ true) × (eqb (length (bytes r.1)) (pick (ltb (sign_kind r.0) 9) 2 1) ≡ true) = both_true _ _ (every_in size_test r signs signs_sizes i) in
    (ltb-true 0 (sign_kind r.0) t.0, eqb-true (length (bytes r.1)) (pick (ltb (sign_kind r.0) 9) 2 1) t.1)

no_kind : (P : List ℕ → Bool) (o : Option (Sign × String)) → Hit P signs o → kind_or_none o ≡ 0 → Seen.Fault ≡ seen (as_sign o)
unfolding kind_or_none as_sign seen
no_kind P none h e = refl
no_kind P (some r) h e = absurd (omega (arith, (sign_size r h.0).0))

a_kind : (P : List ℕ → Bool) (o : Option (Sign × String)) → Hit P signs o → (kind_or_none o ≡ 0 → ⊥) → Seen.Token (kind_or_none o) 0 (pick (ltb (kind_or_none o) 9) 2 1) ≡ seen (as_sign o)
unfolding kind_or_none as_sign seen kind_of value_of
a_kind P none h n = absurd (n refl)
a_kind P (some r) h n = rw (sign_size r h.0).1

module _ (text : List ℕ) (i k : ℕ) (h : i < length text) (q : k ≡ sign_in (get_or text i 0 ∷ get_or text (i + 1) 0 ∷ [])) where
  kind_there : k ≡ kind_or_none (find (λ s. begins s (drop i text)) signs)
  unfolding sign_in
  kind_there =
      let n : get_or (drop (suc i) text) 0 0 ≡ get_or text (i + 1) 0 = get_or-drop (suc i) text 0 0 ∙ ap (λ (m : ℕ). get_or text m 0) (omega arith) in
      q ∙ sym (ap (λ (l : List ℕ). kind_or_none (find (λ s. begins s l) signs)) (drop-cons text i 0 h) ∙ ap kind_or_none (two_enough (get_or text i 0) (drop (suc i) text)) ∙ ap (λ (m : ℕ). kind_or_none (find (λ s. begins s (get_or text i 0 ∷ m ∷ [])) signs)) n)

  pub sign_none : k ≡ 0 → Seen.Fault ≡ seen (as_sign (find (λ s. begins s (drop i text)) signs))
  sign_none z = no_kind (λ s. begins s (drop i text)) (find (λ s. begins s (drop i text)) signs) (find_hit (λ s. begins s (drop i text)) signs) (sym kind_there ∙ z)

  pub sign_some : (k ≡ 0 → ⊥) → Seen.Token k 0 (pick (ltb k 9) 2 1) ≡ seen (as_sign (find (λ s. begins s (drop i text)) signs))
  sign_some z = ap (λ (m : ℕ). Seen.Token m 0 (pick (ltb m 9) 2 1)) kind_there ∙ a_kind (λ s. begins s (drop i text)) (find (λ s. begins s (drop i text)) signs) (find_hit (λ s. begins s (drop i text)) signs) (λ e. z (kind_there ∙ e))

-- Tokens.

module _ (text : List ℕ) (i : ℕ) where
  pub token_name : is_letter (get_or text i 0) ≡ true → name_at (span in_name (drop i text)) ≡ token_at (drop i text)
  unfolding token_at
  token_name e = sym (rw (starts_at is_letter letter_zero text i ∙ e))

  module _ (n : is_letter (get_or text i 0) ≡ false) where
    pub token_number : is_digit (get_or text i 0) ≡ true → number_at (span is_digit (drop i text)) (drop (length (span is_digit (drop i text))) (drop i text)) ≡ token_at (drop i text)
    unfolding token_at
    token_number e = sym (rw (starts_at is_letter letter_zero text i ∙ n, starts_at is_digit digit_zero text i ∙ e))

    pub token_sign : is_digit (get_or text i 0) ≡ false → as_sign (find (λ s. begins s (drop i text)) signs) ≡ token_at (drop i text)
    unfolding token_at
    token_sign e = sym (rw (starts_at is_letter letter_zero text i ∙ n, starts_at is_digit digit_zero text i ∙ e))
