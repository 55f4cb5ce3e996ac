-- The phases of the reading of an input text: what is done in one that no arm names, and that a phase of the caller's own comes only of such a phase.
use mathlib.Core.Path.{◌≡◌, refl}
use Prim.Native.Nat.{ℕ, ◌+◌, ◌-◌, ◌*◌, ◌/◌}
use lib.Dec.{ltb, leb}
use lib.ListN.{length}
use mathlib.Core.Bool.{Bool, true, false}
use mathlib.Core.List.{List, [], ◌∷◌}
use mathlib.Core.Logic.{◌⊎◌, ⊎_elim}
use Rattle.word.specs.Choice.{pick}
use Rattle.processor.specs.Execute.{write_at}
use Rattle.processor.specs.declared.Width.TheVariants.{Word}
use Rattle.language.specs.Tokens.{is, is_digit, largest_number, is_blank}
use Rattle.console.specs.declared.numbers.Fault.{Fault}
use Rattle.console.specs.declared.numbers.Fault.TheVariants.{NoNumber, OutOfRange, TooMany}
use Rattle.console.specs.declared.numbers.Phase.{Phase}
use Rattle.console.specs.declared.numbers.Phase.TheVariants.{Between, Dash, Positive, Negative, Faulty, Other}
use Rattle.console.specs.declared.numbers.Reading.{Reading}
use Rattle.console.specs.Numbers.{Input, input, at, blank_in, dash_in, more_of, digit_in, largest_magnitude, is_fault, stored, blank_after, dash_after, digit_after, sign_after, read_byte, read_bytes}

pub dash_other : (p : Phase) (r : Reading) → (p ≡ Between → ⊥) → dash_in p r ≡ at (Faulty NoNumber) 0 r
unfolding dash_in
dash_other Between r h = absurd (h refl)
dash_other Dash r h = refl
dash_other Positive r h = refl
dash_other Negative r h = refl
dash_other (Faulty f) r h = refl
dash_other (Other n) r h = refl

pub digit_other : (p : Phase) (d : ℕ) (r : Reading) → (p ≡ Dash → ⊥) → (p ≡ Negative → ⊥) → digit_in p d r ≡ more_of Positive largest_number d r
unfolding digit_in
digit_other Between d r h k = refl
digit_other Dash d r h k = absurd (h refl)
digit_other Positive d r h k = refl
digit_other Negative d r h k = absurd (k refl)
digit_other (Faulty f) d r h k = refl
digit_other (Other n) d r h k = refl

no_fault : (p : Phase) → ((f : Fault) → p ≡ Faulty f → ⊥) → ((n : ℕ) → p ≡ Other n → ⊥) → is_fault p ≡ false
unfolding is_fault
no_fault Between h k = refl
no_fault Dash h k = refl
no_fault Positive h k = refl
no_fault Negative h k = refl
no_fault (Faulty f) h k = absurd (h f refl)
no_fault (Other n) h k = absurd (k n refl)

-- a byte more: at a fault, and in a phase that is neither a fault nor the caller's own
pub read_faulty : (b : ℕ) (s : Input) (f : Fault) → s.reading.phase ≡ Faulty f → s ≡ read_byte b s
unfolding read_byte is_fault
read_faulty b s f e = rw e

pub read_going : (b : ℕ) (s : Input) → ((f : Fault) → s.reading.phase ≡ Faulty f → ⊥) → ((n : ℕ) → s.reading.phase ≡ Other n → ⊥) →
    pick (is_blank b) (blank_after s) (input (sign_after b s.reading) s.block) ≡ read_byte b s
unfolding read_byte
read_going b s h k = rw (no_fault s.reading.phase h k)

-- a blank, or the text's end, where the reading stays
pub blank_stays : (s : Input) → ((f : Fault) × s.reading.phase ≡ Faulty f) ⊎ ((n : ℕ) × s.reading.phase ≡ Other n) → s ≡ blank_after s
unfolding blank_after blank_in
blank_stays s k = ⊎_elim (λ e. rw e.1) (λ e. rw e.1) k

pub digit_negative : (p : Phase) (d : ℕ) (r : Reading) → (p ≡ Dash) ⊎ (p ≡ Negative) → more_of Negative largest_magnitude d r ≡ digit_in p d r
unfolding digit_in
digit_negative p d r k = ⊎_elim (λ e. rw e) (λ e. rw e) k

-- From the reading's phases come only the reading's: a caller that hands over no phase of its own gets none back.

abbrev pub OfReading : Phase → Type 0
OfReading Between = Unit {0}
OfReading Dash = Unit {0}
OfReading Positive = Unit {0}
OfReading Negative = Unit {0}
OfReading (Faulty f) = Unit {0}
OfReading (Other n) = ⊥

one : {A : Type 0} (P : A → Type 0) (b : Bool) (x y : A) → P x → P y → P (pick b x y)
one P true x y h k = h
one P false x y h k = k

abbrev Reads : Reading → Type 0
Reads r = OfReading r.phase

abbrev ReadsOn : Input → Type 0
ReadsOn s = OfReading s.reading.phase

stored_phase : (w : ℕ) (s : Input) → OfReading (stored w s).reading.phase
unfolding stored
stored_phase w s =
    one ReadsOn (ltb s.reading.count (length s.block / 4)) (input (record { phase = Between; value = 0; count = s.reading.count + 1 }) (write_at Word s.block (s.reading.count * 4) w))
    (input (at (Faulty TooMany) 0 s.reading) s.block) tt tt

pub blank_phase_in : (p : Phase) (s : Input) → OfReading p → OfReading s.reading.phase → OfReading (blank_in p s).reading.phase
unfolding blank_in
blank_phase_in Between s h k = k
blank_phase_in Dash s h k = tt
blank_phase_in Positive s h k = stored_phase _ s
blank_phase_in Negative s h k = stored_phase _ s
blank_phase_in (Faulty f) s h k = k
blank_phase_in (Other n) s h k = absurd h

pub blank_phase : (s : Input) → OfReading s.reading.phase → OfReading (blank_after s).reading.phase
unfolding blank_after
blank_phase s h = blank_phase_in s.reading.phase s h h

pub dash_phase : (p : Phase) (r : Reading) → OfReading (dash_in p r).phase
unfolding dash_in
dash_phase Between r = tt
dash_phase Dash r = tt
dash_phase Positive r = tt
dash_phase Negative r = tt
dash_phase (Faulty f) r = tt
dash_phase (Other n) r = tt

more_phase : (p : Phase) (most d : ℕ) (r : Reading) → OfReading p → OfReading (more_of p most d r).phase
unfolding more_of
more_phase p most d r h = one Reads (leb (r.value * 10 + d) most) (at p (r.value * 10 + d) r) (at (Faulty OutOfRange) 0 r) h tt

pub digit_phase : (p : Phase) (d : ℕ) (r : Reading) → OfReading (digit_in p d r).phase
unfolding digit_in
digit_phase Between d r = more_phase Positive _ d r tt
digit_phase Dash d r = more_phase Negative _ d r tt
digit_phase Positive d r = more_phase Positive _ d r tt
digit_phase Negative d r = more_phase Negative _ d r tt
digit_phase (Faulty f) d r = more_phase Positive _ d r tt
digit_phase (Other n) d r = more_phase Positive _ d r tt

pub sign_phase : (b : ℕ) (r : Reading) → OfReading (sign_after b r).phase
unfolding sign_after dash_after digit_after
sign_phase b r =
    one Reads (is "-" b) (dash_after r) (pick (is_digit b) (digit_after (b - 48) r) (at (Faulty NoNumber) 0 r)) (dash_phase r.phase r)
    (one Reads (is_digit b) (digit_after (b - 48) r) (at (Faulty NoNumber) 0 r) (digit_phase r.phase (b - 48) r) tt)

pub byte_phase : (b : ℕ) (s : Input) → OfReading s.reading.phase → OfReading (read_byte b s).reading.phase
unfolding read_byte
byte_phase b s h =
    one ReadsOn (is_fault s.reading.phase) s (pick (is_blank b) (blank_after s) (input (sign_after b s.reading) s.block)) h
    (one ReadsOn (is_blank b) (blank_after s) (input (sign_after b s.reading) s.block) (blank_phase s h) (sign_phase b s.reading))

pub bytes_phase : (text : List ℕ) (s : Input) → OfReading s.reading.phase → OfReading (read_bytes text s).reading.phase
unfolding read_bytes
bytes_phase [] s h = h
bytes_phase (b ∷ text) s h = bytes_phase text (read_byte b s) (byte_phase b s h)
