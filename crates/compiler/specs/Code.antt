-- What a contract says of a program's words, of where its functions begin, and of whether branches are near, said of the struct that holds them.
use Rattle.std.specs.Prelude.{ℕ, List, Bool}
use Rattle.compiler.specs.declared.Code.{Code}

abbrev pub of_code : {X : Type 1} → (List ℕ → List ℕ → Bool → X) → Code → X
of_code f c = f c.words.now c.entries.now c.near
