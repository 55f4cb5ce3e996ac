-- What one look at the text gives, as the code holds it.
use Rattle.std.proofs.Math.Option.{Option, none, some}
use Rattle.std.specs.Prelude as std
use Rattle.std.specs.Prelude.{◌≡◌, Bool, ℕ, ◌≤◌, ◌<◌, List, length}
use Prim.Native.String.{String}
use Rattle.language.specs.Tokens.{Sign, Found, begins, find, signs, span, largest_number}
use Rattle.tokens.specs.Kinds.{kind_of, value_of, sign_kind}
use Rattle.tokens.specs.Numbers.{number_of_kind}
use Rattle.tokens.specs.declared.Token as code

-- a token's kind, value and length; or no token
pub data Seen : Type 0 where
  Token : ℕ → ℕ → ℕ → Seen
  Fault : Seen

-- kind, value and length of what was found
unfoldable pub seen : Found → Seen
seen none = Seen.Fault
seen (some f) = Seen.Token (kind_of f.0) (value_of f.0) f.1

-- what the code says of it
abbrev pub seen_in : std.Option code.Token → Seen
seen_in std.Option.None = Seen.Fault
seen_in (std.Option.Some t) = Seen.Token (number_of_kind t.kind) t.value t.size

unfoldable pub kind_or_none : Option (Sign × String) → ℕ
kind_or_none none = 0
kind_or_none (some r) = sign_kind r.0

-- the kind of the sign that a text begins with; 0 for none
unfoldable pub sign_in : List ℕ → ℕ
sign_in text = kind_or_none (find (λ s. begins s text) signs)

-- the number and how many digits it has, or none where it is too large
abbrev pub MeansNumber : ℕ → ℕ → std.Option (ℕ × ℕ) → Type 0
MeansNumber v n std.Option.None = largest_number < v
MeansNumber v n (std.Option.Some r) = (r.0 ≡ v) × (v ≤ largest_number) × (r.1 ≡ n)

-- how long the longest beginning is whose bytes pass a test, by what the test says
pub record SpansBy (says : ℕ → Bool → Type 0) (rest : List ℕ) (n : ℕ) : Type 0 where
  pub by : (P : ℕ → Bool) → ((b : ℕ) (r : Bool) → b < 256 → says b r → r ≡ P b) → n ≡ length (span P rest)
