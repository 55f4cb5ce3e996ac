-- Facts of each row of the two tables, by computation; and which bytes begin what.
use mathlib.Core.Path.{◌≡◌, refl, sym}
use mathlib.Core.Bool.{Bool, true, false, not}
use mathlib.Core.List.{List, [], ◌∷◌}
use mathlib.Core.Option.{some}
use mathlib.Core.Logic.{⊎_elim}
use Prim.Native.Nat.{ℕ, ◌≤◌}
use Prim.Native.String.{String}
use native.Mathlib.Omega.{arith}
use lib.Dec.{leb, eqb}
use lib.ListN.{length}
use borrow.Author.Tests.{eqb-true, eqb-false, leb-true, ne_eqb, le-leb, not-true}
use Rattle.word.specs.Choice.{both, either}
use Rattle.language.specs.Tokens.{Word, Sign, In, bytes, words, signs, all, starts, same, find, is, allowed, is_blank, is_letter, is_digit, in_name, longest_name}
use Rattle.tokens.proofs.Lists.{clash, either_true, both_true, every, every_in, distinct, sorted, find_only}

-- what a first byte is not
pub record Plain (b : ℕ) : Type 0 where
  pub blank : is_blank b ≡ false
  pub hash : is "#" b ≡ false
  pub fine : allowed b ≡ true

plain : (b : ℕ) → 33 ≤ b → b ≤ 126 → (b ≡ 35 → ⊥) → Plain b
unfolding is_blank allowed
plain b l h n =
    record {
      blank = rw (ne_eqb b 32 (λ (e : b ≡ 32). omega arith), ne_eqb b 9 (λ (e : b ≡ 9). omega arith), ne_eqb b 10 (λ (e : b ≡ 10). omega arith), ne_eqb b 13 (λ (e : b ≡ 13). omega arith));
      hash = ne_eqb b 35 n;
      fine = rw (le-leb 32 b (omega arith), le-leb b 126 h);
    }

pub letter_range : (b : ℕ) → is_letter b ≡ true → (95 ≤ b) × (b ≤ 122)
unfolding is_letter
letter_range b e =
    ⊎_elim
    (λ (h : both (leb 97 b) (leb b 122) ≡ true). let q : (leb 97 b ≡ true) × (leb b 122 ≡ true) = both_true (leb 97 b) (leb b 122) h in (omega (arith, leb-true 97 b q.0), leb-true b 122 q.1))
    (λ (h : eqb b 95 ≡ true). let q : b ≡ 95 = eqb-true b 95 h in (omega arith, omega arith))
    (either_true (both (leb 97 b) (leb b 122)) (eqb b 95) e)

pub digit_range : (b : ℕ) → is_digit b ≡ true → (48 ≤ b) × (b ≤ 57)
unfolding is_digit
digit_range b h = let q : (leb 48 b ≡ true) × (leb b 57 ≡ true) = both_true (leb 48 b) (leb b 57) h in (leb-true 48 b q.0, leb-true b 57 q.1)

pub letter_plain : (b : ℕ) → is_letter b ≡ true → Plain b
letter_plain b e = let r : (95 ≤ b) × (b ≤ 122) = letter_range b e in plain b (omega (arith, r.0)) (omega (arith, r.1)) (λ (q : b ≡ 35). omega (arith, r.0))

pub digit_plain : (b : ℕ) → is_digit b ≡ true → Plain b
digit_plain b e = let r : (48 ≤ b) × (b ≤ 57) = digit_range b e in plain b (omega (arith, r.0)) (omega (arith, r.1)) (λ (q : b ≡ 35). omega (arith, r.0))

-- a digit is no letter, and is in names
pub digit_letter : (b : ℕ) → is_digit b ≡ true → is_letter b ≡ false
digit_letter b e = go (is_letter b) refl
  where
    go : (t : Bool) → is_letter b ≡ t → t ≡ false
    go true h = absurd (omega (arith, (letter_range b h).0, (digit_range b e).1))
    go false h = refl

pub letter_in : (b : ℕ) → is_letter b ≡ true → in_name b ≡ true
unfolding in_name
letter_in b e = rw e

pub name_end : (b : ℕ) → in_name b ≡ false → is_digit b ≡ false
unfolding in_name
name_end b = go (is_letter b)
  where
    go : (t : Bool) → either t (is_digit b) ≡ false → is_digit b ≡ false
    go true e = clash e
    go false e = e

-- Words: a row's spelling is a name's, and no other row has it.

pub record WordRow (r : Word × String) : Type 0 where
  pub only : find (same (bytes r.1)) words ≡ some r
  pub letters : all in_name (bytes r.1) ≡ true
  pub begin : starts is_letter (bytes r.1) ≡ true
  pub short : leb (length (bytes r.1)) longest_name ≡ true

word_test : Word × String → Bool
word_test r = both (all in_name (bytes r.1)) (both (starts is_letter (bytes r.1)) (leb (length (bytes r.1)) longest_name))

words_distinct : distinct words ≡ true
unfolding words same bytes
words_distinct = refl

words_test : every word_test words ≡ true
unfolding words word_test bytes all starts in_name is_letter is_digit
words_test = refl

pub word_row : (r : Word × String) → In r words → WordRow r
unfolding word_test
word_row r i =
    let t : (all in_name (bytes r.1) ≡ true) × (both (starts is_letter (bytes r.1)) (leb (length (bytes r.1)) longest_name) ≡ true) = both_true _ _ (every_in word_test r words words_test i) in
    let u : (starts is_letter (bytes r.1) ≡ true) × (leb (length (bytes r.1)) longest_name ≡ true) = both_true _ _ t.1 in
    record { only = find_only r words words_distinct i; letters = t.0; begin = u.0; short = u.1 }

-- Signs: no other row has a row's spelling, and its first byte begins nothing else.

sign_byte : ℕ → Bool
sign_byte b = both (both (leb 33 b) (both (leb b 126) (not (is "#" b)))) (both (not (is_letter b)) (not (is_digit b)))

sign_test : Sign × String → Bool
sign_test r = starts sign_byte (bytes r.1)

signs_distinct : distinct signs ≡ true
unfolding signs same bytes
signs_distinct = refl

pub signs_sorted : sorted signs ≡ true
unfolding signs bytes
signs_sorted = refl

signs_test : every sign_test signs ≡ true
unfolding signs sign_test sign_byte bytes starts is_letter is_digit
signs_test = refl

pub sign_only : (r : Sign × String) → In r signs → find (same (bytes r.1)) signs ≡ some r
sign_only r i = find_only r signs signs_distinct i

pub record SignFirst (w : List ℕ) : Type 0 where
  pub first : ℕ
  pub others : List ℕ
  pub spelt : w ≡ first ∷ others
  pub plain : Plain first
  pub letter : is_letter first ≡ false
  pub digit : is_digit first ≡ false

sign_bytes : (w : List ℕ) → starts sign_byte w ≡ true → SignFirst w
unfolding starts sign_byte
sign_bytes [] e = clash (sym e)
sign_bytes (b ∷ w) e =
    let q : (both (leb 33 b) (both (leb b 126) (not (is "#" b))) ≡ true) × (both (not (is_letter b)) (not (is_digit b)) ≡ true) = both_true _ _ e in
    let r : (leb 33 b ≡ true) × (both (leb b 126) (not (is "#" b)) ≡ true) = both_true _ _ q.0 in
    let s : (leb b 126 ≡ true) × (not (is "#" b) ≡ true) = both_true _ _ r.1 in
    let t : (not (is_letter b) ≡ true) × (not (is_digit b) ≡ true) = both_true _ _ q.1 in
    record { first = b; others = w; spelt = refl; plain = plain b (leb-true 33 b r.0) (leb-true b 126 s.0) (eqb-false b 35 (not-true (eqb b 35) s.1)); letter = not-true (is_letter b) t.0; digit = not-true (is_digit b) t.1 }

pub sign_first : (r : Sign × String) → In r signs → SignFirst (bytes r.1)
unfolding sign_test
sign_first r i = sign_bytes (bytes r.1) (every_in sign_test r signs signs_test i)
