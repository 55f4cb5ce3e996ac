-- What the functions for statements and blocks ensure, of every statement that may stand where they look.
use Rattle.std.specs.Prelude.{ℕ, zero, suc, ◌-◌, ◌≤◌, ◌≡◌, Bool, List, [], ◌∷◌}
use Rattle.language.specs.Core.{Expr, Stmt, Block}
use Rattle.language.specs.Core as C
use Rattle.symbolic.specs.Symbolic.{jump}
use Rattle.codegen.specs.Statements.{answering, statement, block}
use Rattle.emission.specs.Tape.{Emits}
use Rattle.compiler.specs.Lies.{Lies}
use Rattle.compiler.specs.Standing.{Standing, Stand}
use Rattle.compiler.specs.Post.{entry_in}

-- a value comes to the register of results
pub record Answers (ws es : List ℕ) (near : Bool) (j at : ℕ) (us us' : List ℕ) (r : ℕ) : Type 0 where
  pub each : (e : Expr) (i : ℕ) → Lies ws e i j → Emits (answering (entry_in es) near e) at us us' r

pub record Statements (ws es : List ℕ) (near : Bool) (p at : ℕ) (us us' : List ℕ) (r : ℕ) : Type 0 where
  pub each : (s : Stmt) → Standing ws s p → Emits (statement (entry_in es) near s) at us us' r

pub record Blocks (ws es : List ℕ) (near : Bool) (p n at : ℕ) (us us' : List ℕ) (r : ℕ) : Type 0 where
  pub each : (b : Block) → Stand ws b p n → Emits (block (entry_in es) near b) at us us' r

-- a block without its first m statements
unfoldable pub rest : Block → Block
rest C.end = C.end
rest (C.then s b) = b

unfoldable pub without : ℕ → Block → Block
without zero b = b
without (suc m) b = rest (without m b)

-- it stands from q on
pub record Skips (ws : List ℕ) (p m q : ℕ) : Type 0 where
  pub each : (b : Block) (n : ℕ) → Stand ws b p n → m ≤ n → Stand ws (without m b) q (n - m)

-- a jump over the code between r and `at`, unless there is none
pub record PassesOver (n at r : ℕ) (us us' : List ℕ) (r' : ℕ) : Type 0 where
  pub stays : n ≡ 0 → r' ≡ r
  pub words : n ≡ 0 → us' ≡ us
  pub jumps : (n ≡ 0 → ⊥) → Emits (jump (suc (at - r)) ∷ []) r us us' r'
