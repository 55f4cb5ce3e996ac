-- Choice by a test, and tests joined.
use Rattle.std.specs.Prelude.{Bool, true, false}

-- a if the test holds, else b
abbrev pub pick {ℓ} : {A : Type ℓ} → Bool → A → A → A
pick true a b = a
pick false a b = b

abbrev pub both : Bool → Bool → Bool
both true b = b
both false b = false

abbrev pub either : Bool → Bool → Bool
either true b = true
either false b = b

-- two tests that agree
abbrev pub agree : Bool → Bool → Bool
agree true b = b
agree false b = pick b false true
