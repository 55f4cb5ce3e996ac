-- What the functions for whole functions ensure, of every function whose four words begin where they look.
use Rattle.std.specs.Prelude.{ℕ, ◌+◌, ◌-◌, ◌≤◌, ◌≡◌, Bool, List, length}
use Rattle.language.specs.Core.{Function}
use Rattle.flat.specs.Words.{word}
use Rattle.codegen.specs.Statements.{function_by, near_in}
use Rattle.emission.specs.Tape.{Emits}
use Rattle.compiler.specs.Standing.{most_words, Stand}
use Rattle.compiler.specs.Post.{entry_in}

-- a function's words: the place of its body, how many statements that has, its parameters, its lets
pub record FunctionAt (ws : List ℕ) (base : ℕ) (g : Function) : Type 0 where
  pub inside : word ws base ≤ most_words
  pub body : Stand ws g.body (word ws base) (word ws (base + 1))
  pub parameters : word ws (base + 2) ≡ g.parameters
  pub lets : word ws (base + 3) ≡ g.lets
  pub few : g.parameters ≤ 64
  pub small : g.lets ≤ 64

pub record Functions (ws es : List ℕ) (near : Bool) (base at : ℕ) (us us' : List ℕ) (r : ℕ) : Type 0 where
  pub each : (g : Function) → FunctionAt ws base g → Emits (function_by (entry_in es) near g) at us us' r

-- how long the code is, wherever functions begin, unless it is longer than what is counted
pub record Measures (ws : List ℕ) (near : Bool) (base r : ℕ) : Type 0 where
  pub each : (g : Function) → FunctionAt ws base g → (entry : ℕ → ℕ) → r ≡ 262144 - (262144 - length (function_by entry near g))

pub record Nearness (ws : List ℕ) (base : ℕ) (near : Bool) : Type 0 where
  pub each : (g : Function) → FunctionAt ws base g → near ≡ near_in g
