-- Loops that go through a list once: what the rest gives from where the loop is, is what the whole gives.
use mathlib.Core.Path.{◌≡◌, refl, sym, ap, ◌∙◌}
use mathlib.Core.List.{List, [], ◌∷◌}
use mathlib.Core.Bool.{Bool, true, false}
use Prim.Native.Nat.{ℕ, zero, suc, ◌+◌, ◌*◌, ◌-◌, ◌≤◌, ◌<◌}
use native.Mathlib.Omega.{arith}
use native.Mathlib.Numerals.{add-one}
use lib.Dec.{eqb, leb}
use lib.ListN.{length, get_or, drop, drop_of_length-le}
use lib.Seq.{drop-cons}
use borrow.Author.Tests.{le-leb, lt-leb, leb-false}
use Rattle.word.specs.Choice.{pick}
use Rattle.language.specs.Tokens.{is_digit, all, decimal}
use Rattle.tokens.proofs.Lists.{both_true}
use Rattle.console.specs.Arguments.{then, fresh, see_of, see_all, ended, said}
use Rattle.console.specs.declared.arguments.Command.{Command}
use Rattle.console.specs.declared.arguments.Word.{Word}
use Rattle.console.specs.declared.arguments.Wrong.{Wrong}
use Rattle.console.specs.declared.arguments.Given.{Given}
use Rattle.console.specs.declared.arguments.Seen.{Seen}
use Rattle.console.specs.Table as T
use Rattle.console.specs.declared.table.Seen as P
use Rattle.console.specs.Places.{at, after_byte, after_all}
use Rattle.console.specs.declared.place.Place.{Place}
use Rattle.console.specs.Numbers.{Input, at_most, number_of, read_byte, read_bytes}
use Rattle.console.specs.declared.numbers.NumberError.TheVariants.{TooLarge, NoNumber}
use Rattle.std.specs.Prelude.{Option, Result, Ok, Err}

module _ (c : Command) (ws : List Word) (i : ℕ) where
  pub see_on : (r : Result Seen Wrong) (s t : Seen) (d : Word) → r ≡ see_all c (drop i ws) (i + 2) s → i < length ws → Ok t ≡ see_of c (get_or ws i d) (i + 2) s → r ≡ see_all c (drop (i + 1) ws) (i + 1 + 2) t
  unfolding see_all then
  see_on r s t d e h o =
      let n : suc (i + 2) ≡ suc i + 2 = omega arith in
      e ∙ rw (drop-cons ws i d h, sym o, add-one i) (ap (λ k. see_all c (drop (suc i) ws) k t) n)

  pub see_off : (r : Result Seen Wrong) (s : Seen) (d : Word) (x : Wrong) → r ≡ see_all c (drop i ws) (i + 2) s → i < length ws → Err x ≡ see_of c (get_or ws i d) (i + 2) s → r ≡ Err x
  unfolding see_all then
  see_off r s d x e h o = e ∙ rw (drop-cons ws i d h, sym o)

  pub see_out : (r : Result Seen Wrong) (s : Seen) → r ≡ see_all c (drop i ws) (i + 2) s → length ws ≤ i → r ≡ Ok s
  unfolding see_all
  see_out r s e h = e ∙ rw (drop_of_length-le ws h)

pub said_bad : (c : Command) (ws : List Word) (x : Wrong) (r : Result Given Wrong) → see_all c ws 2 fresh ≡ Err x → r ≡ Err x → r ≡ said c ws
unfolding said then
said_bad c ws x r e h = rw (e, h)

pub said_good : (c : Command) (ws : List Word) (s : Seen) (r : Result Given Wrong) → see_all c ws 2 fresh ≡ Ok s → r ≡ ended c s → r ≡ said c ws
unfolding said then
said_good c ws s r e h = rw (e, h)

-- The same by the numbers of places.

module _ (c : Option Command) (ps : List ℕ) (i : ℕ) where
  pub line_on : (w l m : T.Line) → w ≡ T.see_all c (drop i ps) (i + 2) l → i < length ps → m ≡ T.see_of c (get_or ps i 0) (i + 2) l → w ≡ T.see_all c (drop (i + 1) ps) (i + 1 + 2) m
  unfolding T.see_all
  line_on w l m e h q =
      let n : suc (i + 2) ≡ suc i + 2 = omega arith in
      e ∙ rw (drop-cons ps i 0 h, q, add-one i) (ap (λ k. T.see_all c (drop (suc i) ps) k (T.see_of c (get_or ps i 0) (i + 2) l)) n)

  pub line_out : (w l : T.Line) → w ≡ T.see_all c (drop i ps) (i + 2) l → length ps ≤ i → w ≡ l
  unfolding T.see_all
  line_out w l e h = e ∙ rw (drop_of_length-le ps h)

pub line_said : (c : Option Command) (ps g : List ℕ) (r : P.Seen) (l : T.Line) → T.see_all c ps 2 (T.line T.fresh g) ≡ l → r ≡ T.ended c l.seen l.given → T.line r l.given ≡ T.said c ps g
unfolding T.said
line_said c ps g r l e h = rw (e, h)

-- An input text.

module _ (text : List ℕ) (i : ℕ) where
  pub read_on : (w s t : Input) → w ≡ read_bytes (drop i text) s → i < length text → t ≡ read_byte (get_or text i 0) s → w ≡ read_bytes (drop (i + 1) text) t
  unfolding read_bytes
  read_on w s t e h q = e ∙ rw (drop-cons text i 0 h, q, add-one i)

  pub read_out : (w s : Input) → w ≡ read_bytes (drop i text) s → length text ≤ i → s ≡ w
  unfolding read_bytes
  read_out w s e h = sym (e ∙ rw (drop_of_length-le text h))

-- Digits.

module _ (P : ℕ → Bool) (w : List ℕ) (i : ℕ) (inv : all P w ≡ all P (drop i w)) where
  pub all_on : i < length w → P (get_or w i 0) ≡ true → all P w ≡ all P (drop (i + 1) w)
  unfolding all
  all_on h e = inv ∙ rw (drop-cons w i 0 h, e, add-one i)

  pub all_off : i < length w → P (get_or w i 0) ≡ false → false ≡ all P w
  unfolding all
  all_off h e = sym (inv ∙ rw (drop-cons w i 0 h, e))

  pub all_out : length w ≤ i → true ≡ all P w
  unfolding all
  all_out h = sym (inv ∙ rw (drop_of_length-le w h))

pub all_at : (P : ℕ → Bool) (w : List ℕ) (i : ℕ) → all P w ≡ true → i < length w → P (get_or w i 0) ≡ true
unfolding all
all_at P [] i e h = absurd (omega arith)
all_at P (b ∷ w) zero e h = (both_true (P b) (all P w) e).0
all_at P (b ∷ w) (suc i) e h = all_at P w i (both_true (P b) (all P w) e).1 (omega arith)

-- more digits make no smaller number
pub decimal_grows : (v : ℕ) (w : List ℕ) → v ≤ decimal v w
unfolding decimal
decimal_grows v [] = omega arith
decimal_grows v (b ∷ w) = omega (arith, decimal_grows (v * 10 + (b - 48)) w)

module _ (most : ℕ) (w : List ℕ) (n i d : ℕ) (inv : decimal 0 w ≡ decimal n (drop i w)) where
  pub value_on : i < length w → d ≡ get_or w i 0 - 48 → decimal 0 w ≡ decimal (n * 10 + d) (drop (i + 1) w)
  unfolding decimal
  value_on h e = inv ∙ rw (drop-cons w i 0 h, e, add-one i)

  pub value_off : i < length w → d ≡ get_or w i 0 - 48 → leb (n * 10 + d) most ≡ false → Err TooLarge ≡ at_most most (decimal 0 w)
  unfolding at_most
  value_off h e t =
      let more : n * 10 + d ≤ decimal 0 w = rw (value_on h e) (decimal_grows (n * 10 + d) (drop (i + 1) w)) in
      rw (lt-leb (decimal 0 w) most (omega (arith, leb-false (n * 10 + d) most t)))

  pub value_out : length w ≤ i → n ≤ most → Ok n ≡ at_most most (decimal 0 w)
  unfolding at_most decimal
  value_out h m = let e : decimal 0 w ≡ n = inv ∙ rw (drop_of_length-le w h) in rw (e, le-leb n most m)

pub no_digits : (most : ℕ) (w : List ℕ) → length w ≡ 0 → Err NoNumber ≡ number_of most w
unfolding number_of
no_digits most [] e = refl
no_digits most (b ∷ w) e = absurd (omega arith)

pub some_digits : (most : ℕ) (w : List ℕ) → (length w ≡ 0 → ⊥) → pick (all is_digit w) (at_most most (decimal 0 w)) (Err NoNumber) ≡ number_of most w
unfolding number_of
some_digits most [] n = absurd (n refl)
some_digits most (b ∷ w) n = refl

-- Lines and columns.

module _ (text : List ℕ) (i : ℕ) where
  pub place_on : (w p q : Place) → w ≡ after_all (drop i text) p → i < length text → q ≡ after_byte (get_or text i 0) p → w ≡ after_all (drop (i + 1) text) q
  unfolding after_all
  place_on w p q e h f = e ∙ rw (drop-cons text i 0 h, f, add-one i)

  pub place_out : (w p : Place) → w ≡ after_all (drop i text) p → length text ≤ i → p ≡ w
  unfolding after_all
  place_out w p e h = sym (e ∙ rw (drop_of_length-le text h))

-- a byte moves the place by one at most
pub after_small : (b i : ℕ) (p q : Place) → q ≡ after_byte b p → p.line ≤ i + 1 → p.column ≤ i + 1 → (q.line ≤ i + 1 + 1) × (q.column ≤ i + 1 + 1)
unfolding after_byte
after_small b i p q e h k = rw e (go (eqb b 10))
  where
    go : (t : Bool) → ((pick t (at (p.line + 1) 1) (at p.line (p.column + 1))).line ≤ i + 1 + 1) × ((pick t (at (p.line + 1) 1) (at p.line (p.column + 1))).column ≤ i + 1 + 1)
    go true = (omega arith, omega arith)
    go false = (omega arith, omega arith)
