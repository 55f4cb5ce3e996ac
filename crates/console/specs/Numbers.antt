-- Numbers as people write them: of an option, and of an input text.
use Rattle.std.specs.Prelude.{ℕ, ◌+◌, ◌*◌, ◌-◌, ◌/◌, Bool, true, false, List, [], ◌∷◌, Result, Ok, Err, leb, ltb, length}
use Rattle.word.specs.Choice.{pick}
use Rattle.word.specs.Word.{neg_w}
use Rattle.processor.specs.declared.Width.TheVariants.{Word}
use Rattle.processor.specs.Execute.{write_at}
use Rattle.language.specs.Tokens.{is_blank, is_digit, is, all, decimal, largest_number}
use Rattle.console.specs.declared.numbers.NumberError.{NumberError}
use Rattle.console.specs.declared.numbers.NumberError.TheVariants as E
use Rattle.console.specs.declared.numbers.Fault.TheVariants.{NoNumber, OutOfRange, TooMany}
use Rattle.console.specs.declared.numbers.Phase.{Phase}
use Rattle.console.specs.declared.numbers.Phase.TheVariants.{Between, Dash, Positive, Negative, Faulty, Other}
use Rattle.console.specs.declared.numbers.Reading.{Reading}

-- a number that is to be at most `most`
unfoldable pub at_most : ℕ → ℕ → Result ℕ NumberError
at_most most n = pick (leb n most) (Ok n) (Err E.TooLarge)

-- the number that a word is: one digit or more
unfoldable pub number_of : ℕ → List ℕ → Result ℕ NumberError
number_of most [] = Err E.NoNumber
number_of most (b ∷ w) = pick (all is_digit (b ∷ w)) (at_most most (decimal 0 (b ∷ w))) (Err E.NoNumber)

-- the magnitude of -2147483648
abbrev pub largest_magnitude : ℕ
largest_magnitude = 2147483648

-- An input text: decimal numbers from -2147483648 to 2147483647 between blanks. Where its reading is: between numbers, after a dash, in the digits of
-- a number without or with one; or at a fault, or in a phase of the caller's own, where it stays.

-- The reading so far, and the words of the numbers that are read.
pub record Input : Type 0 where
  pub reading : Reading
  pub block : List ℕ

abbrev pub input : Reading → List ℕ → Input
input r b = record { reading = r; block = b }

-- nothing yet
abbrev pub fresh : Reading
fresh = record { phase = Between; value = 0; count = 0 }

abbrev pub at : Phase → ℕ → Reading → Reading
at p v r = record { phase = p; value = v; count = r.count }

-- a word more, if there is room
unfoldable pub stored : ℕ → Input → Input
stored w s =
    pick
    (ltb s.reading.count (length s.block / 4))
    (input (record { phase = Between; value = 0; count = s.reading.count + 1 }) (write_at Word s.block (s.reading.count * 4) w))
    (input (at (Faulty TooMany) 0 s.reading) s.block)

-- a blank, or the text's end
unfoldable pub blank_in : Phase → Input → Input
blank_in Between s = s
blank_in Dash s = input (at (Faulty NoNumber) 0 s.reading) s.block
blank_in Positive s = stored s.reading.value s
blank_in Negative s = stored (neg_w s.reading.value) s
blank_in (Faulty f) s = s
blank_in (Other n) s = s

unfoldable pub blank_after : Input → Input
blank_after s = blank_in s.reading.phase s

unfoldable pub dash_in : Phase → Reading → Reading
dash_in Between r = at Dash 0 r
dash_in Dash r = at (Faulty NoNumber) 0 r
dash_in Positive r = at (Faulty NoNumber) 0 r
dash_in Negative r = at (Faulty NoNumber) 0 r
dash_in (Faulty f) r = at (Faulty NoNumber) 0 r
dash_in (Other n) r = at (Faulty NoNumber) 0 r

unfoldable pub dash_after : Reading → Reading
dash_after r = dash_in r.phase r

-- one digit more of a number of this sign
unfoldable pub more_of : Phase → ℕ → ℕ → Reading → Reading
more_of p most d r = pick (leb (r.value * 10 + d) most) (at p (r.value * 10 + d) r) (at (Faulty OutOfRange) 0 r)

unfoldable pub digit_in : Phase → ℕ → Reading → Reading
digit_in Between d r = more_of Positive largest_number d r
digit_in Dash d r = more_of Negative largest_magnitude d r
digit_in Positive d r = more_of Positive largest_number d r
digit_in Negative d r = more_of Negative largest_magnitude d r
digit_in (Faulty f) d r = more_of Positive largest_number d r
digit_in (Other n) d r = more_of Positive largest_number d r

unfoldable pub digit_after : ℕ → Reading → Reading
digit_after d r = digit_in r.phase d r

-- a byte more that is no blank
unfoldable pub sign_after : ℕ → Reading → Reading
sign_after b r = pick (is "-" b) (dash_after r) (pick (is_digit b) (digit_after (b - 48) r) (at (Faulty NoNumber) 0 r))

-- a byte more; at a fault, or in a phase of the caller's own, the reading stays
unfoldable pub is_fault : Phase → Bool
is_fault Between = false
is_fault Dash = false
is_fault Positive = false
is_fault Negative = false
is_fault (Faulty f) = true
is_fault (Other n) = true

unfoldable pub read_byte : ℕ → Input → Input
read_byte b s =
    pick
    (is_fault s.reading.phase)
    s
    (pick (is_blank b) (blank_after s) (input (sign_after b s.reading) s.block))

unfoldable pub read_bytes : List ℕ → Input → Input
read_bytes [] s = s
read_bytes (b ∷ bs) s = read_bytes bs (read_byte b s)
