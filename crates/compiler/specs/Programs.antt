-- What the functions for whole programs ensure, of every program that the words may hold.
use Rattle.std.specs.Prelude.{ℕ, ◌+◌, ◌-◌, ◌*◌, ◌≤◌, ◌<◌, ◌≡◌, List, ◌++◌, ◌⊎◌, length, get_or, drop, Result, Ok, Err, MatchResult}
use Rattle.language.specs.Core.{Function, Program}
use Rattle.flat.specs.Words.{word, words_then}
use Rattle.codegen.specs.Owed.{nothing, Owed}
use Rattle.codegen.specs.Statements.{function}
use Rattle.codegen.specs.Image.{functions_start, entry_from, functions_from, image}
use Rattle.emission.specs.Tape.{Emits}
use Rattle.compiler.specs.declared.TooLong.{TooLong}
use Rattle.compiler.specs.Post.{entry_in}
use Rattle.compiler.specs.Functions.{FunctionAt}

-- the words of functions, one behind the other
pub record FunctionsAt (ws : List ℕ) (gs : List Function) : Type 0 where
  pub each : (f : ℕ) → f < length gs → FunctionAt ws (3 + 4 * f) (get_or gs f nothing)

-- how long a function's code is, unless it is longer than what is counted
pub record Lengths (ws : List ℕ) (base r : ℕ) : Type 0 where
  pub each : (g : Function) → FunctionAt ws base g → r ≡ 262144 - (262144 - length (function (λ _. 0) g))

-- where n functions begin, and where the last one ends, or that this is past the longest code
pub record Fits (ws es : List ℕ) (n end : ℕ) : Type 0 where
  pub small : end ≤ 131072
  pub each : (gs : List Function) → FunctionsAt ws gs → length gs ≡ n →
      (end ≡ entry_from gs functions_start n) × ((f : ℕ) → f < length es → get_or es f 0 ≡ entry_from gs functions_start f)

pub record Exceeds (ws : List ℕ) (n : ℕ) : Type 0 where
  pub each : (gs : List Function) → FunctionsAt ws gs → length gs ≡ n → 131072 < entry_from gs functions_start n

abbrev pub Layout : List ℕ → List ℕ → ℕ → Result ℕ TooLong → Type 0
Layout ws es n r = MatchResult r (Fits ws es n) (λ _. Exceeds ws n)

-- the code of n functions
pub record Bodies (ws es : List ℕ) (n at : ℕ) (us us' : List ℕ) (r : ℕ) : Type 0 where
  pub each : (gs : List Function) → FunctionsAt ws gs → length gs ≡ n → Emits (functions_from (entry_in es) gs) at us us' r

-- a program's words
pub record ProgramAt (ws : List ℕ) (p : Program) : Type 0 where
  pub count : word ws 0 ≡ length p.functions
  pub main : word ws 1 ≡ p.main
  pub functions : FunctionsAt ws p.functions

-- "The code is at most 524,288 bytes" (document 03 §5).
abbrev pub longest_code : ℕ
longest_code = 524288

-- the image and its length; or it is too long, or there is no room for it, and the bytes stay as they were
abbrev pub Gives : Program → List ℕ → Result ℕ TooLong → List ℕ → Type 0
Gives p bytes (Ok n) bytes' = (n ≡ length (image p)) × (bytes' ≡ image p ++ drop n bytes)
Gives p bytes (Err e) bytes' = ((longest_code < length (image p)) ⊎ (length bytes < length (image p))) × (bytes' ≡ bytes)

pub record Pictures (ws bytes : List ℕ) (c : Result ℕ TooLong) (bytes' : List ℕ) : Type 0 where
  pub each : (p : Program) → ProgramAt ws p → Gives p bytes c bytes'

-- of every program that keeps the rules and whose words these are
pub record Compiles (ws bytes : List ℕ) (c : Result ℕ TooLong) (bytes' : List ℕ) : Type 0 where
  pub each : (p : Program) (more : List ℕ) → ws ≡ words_then p more → Owed p → Gives p bytes c bytes'

-- no image is longer than that
abbrev pub Bounded : Result ℕ TooLong → Type 0
Bounded (Ok n) = n ≤ longest_code
Bounded (Err e) = Unit {0}
