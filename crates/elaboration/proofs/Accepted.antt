-- The front page: what an accepted program owes the compiler's theorem and the interpreter's flat form, and what it never reads.
--   accepted : the program of an accepted text is proper for code generation, and fits the flat form
--   accepted_light : it has no more weight than the text has bytes
--   accepted_settled : on every path it writes a local before it reads it, and reads the values of functions that give one
--   accepted_returns : its functions with a result type give a value on every path
--   accepted_unseen : its run is the same whatever its lets start at, and whatever stands for a value that a function did not give
use mathlib.Core.List.{List}
use mathlib.Core.Path.{◌≡◌}
use Prim.Native.Nat.{ℕ, ◌≤◌, ◌<◌}
use native.Mathlib.Omega.{arith}
use lib.ListN.{length}
use Rattle.language.specs.Tokens.{Token, Placed, Readable}
use Rattle.language.specs.Grammar.{Has, nth}
use Rattle.language.specs.Core.{Program}
use Rattle.language.specs.Meaning.{run_of}
use Rattle.language.specs.Text.{Accepted}
use Rattle.flat.specs.Fits.{Fits}
use Rattle.codegen.specs.Owed.{Owed, most_nodes}
use Rattle.codegen.proofs.Bounds.{program_weight}
use Rattle.elaboration.specs.Settled.{Settled}
use Rattle.elaboration.specs.Results.{Returning}
use Rattle.elaboration.specs.Otherwise.{Choices}
use Rattle.elaboration.specs.Otherwise as O
use Rattle.elaboration.proofs.Tokens.{tokens_few, number_small, token_inside}
use Rattle.elaboration.proofs.Programs.{program_owed}
use Rattle.elaboration.proofs.Settled.{program_settled}
use Rattle.elaboration.proofs.Unseen.{unseen}

-- a text has fewer tokens than nodes are allowed
inside : {text : List ℕ} {ts : List Placed} → Readable text ts → (i : ℕ) (t : Token) → Has (nth ts) i t → i < most_nodes
inside {ts = ts} r i t h = omega (arith, token_inside ts i t h, tokens_few r.reads, r.short)

-- all of them together
given : (text : List ℕ) (p : Program) (a : Accepted text p) → Owed p × Fits p × (program_weight p.functions ≤ length a.parses.tokens)
given text p a = (program_owed (nth a.parses.tokens) (number_small a.parses.reads) (inside a.parses.reads) a.parses.derives (length text)).holds p a.ruled

pub accepted : (text : List ℕ) (p : Program) → Accepted text p → Owed p × Fits p
accepted text p a = let g = given text p a in (g.0, g.1)

pub accepted_light : (text : List ℕ) (p : Program) → Accepted text p → program_weight p.functions ≤ length text
accepted_light text p a = let g = given text p a in omega (arith, g.2, tokens_few a.parses.reads.reads)

pub accepted_settled : (text : List ℕ) (p : Program) → Accepted text p → Settled p
accepted_settled text p a = record { each = ((program_settled a.items (length text)).holds p a.ruled).0; main = (accepted text p a).0.main_alone }

pub accepted_returns : (text : List ℕ) (p : Program) (a : Accepted text p) → Returning a.items p.functions
accepted_returns text p a = ((program_settled a.items (length text)).holds p a.ruled).1

pub accepted_unseen : (text : List ℕ) (p : Program) → Accepted text p → (choices : Choices) (arrays : List ℕ) (fuel room : ℕ) →
    O.run_of choices room p arrays fuel ≡ run_of p arrays fuel room
accepted_unseen text p a = unseen p (accepted_settled text p a)
