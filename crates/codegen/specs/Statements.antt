-- The code of statements, blocks and functions.
use Rattle.std.specs.Prelude.{ℕ, zero, suc, ◌+◌, ◌*◌, Bool, true, false, List, [], ◌∷◌, ◌++◌, length, ltb}
use Rattle.processor.specs.declared.Alu.TheVariants.{Add}
use Rattle.processor.specs.declared.Cond.TheVariants.{Ne}
use Rattle.language.specs.Core.{Expr, Stmt, Block, Function}
use Rattle.language.specs.Core as C
use Rattle.symbolic.specs.Symbolic.{x0, reg, Fixed, ra, sp, answer, Reg, Instruction, opi, lw, sw, branch, jump, jump_back, call, ret, ecall}
use Rattle.symbolic.specs.Fine as F
use Rattle.codegen.specs.Places.{above, local_word, source, fetch, bring}
use Rattle.codegen.specs.Operators.{stub, writing}
use Rattle.codegen.specs.Expressions.{place_of, places_of, code, codes, condition, calling}

-- x3 holds the stack's end, where no activation may begin
abbrev pub limit : Reg
limit = reg Fixed 2

abbrev pub leaving : List Instruction
leaving = lw ra sp 0 ∷ ret ∷ []

-- A block that isn't empty, behind another that jumps over it.
abbrev pub over : Block → ℕ
over C.end = 0
over (C.then s b) = 1

abbrev pub otherwise : Block → List Instruction → List Instruction
otherwise C.end c = []
otherwise (C.then s b) c = jump (suc (length c)) ∷ c

module _ (entry : ℕ → ℕ) (near : Bool) where
  -- A value comes to the register of results. A call's is there already.
  abbrev pub brought : Expr → List Instruction
  brought e = code entry near e 0 ++ bring (place_of e 0)

  unfoldable pub answering : Expr → List Instruction
  answering (C.call f xs) = codes entry near xs 0 ++ calling (entry f) (places_of xs 0) 0
  answering (C.number n) = brought (C.number n)
  answering (C.local x) = brought (C.local x)
  answering (C.element a i) = brought (C.element a i)
  answering (C.unary o e) = brought (C.unary o e)
  answering (C.strict o a b) = brought (C.strict o a b)
  answering (C.and a b) = brought (C.and a b)
  answering (C.or a b) = brought (C.or a b)

  unfoldable mutual
    pub statement : Stmt → List Instruction
    statement (C.put x e) = code entry near e 0 ++ (fetch (place_of e 0) 0 ++ (sw (source (place_of e 0) 0) sp (4 * local_word x) ∷ []))
    statement (C.store a i e) =
        code entry near i 0 ++ (code entry near e (above (place_of i 0) 0) ++ writing a (place_of i 0) (place_of e (above (place_of i 0) 0)))
    statement (C.choose e a b) =
        condition entry near e false 0 (length (block a) + over b) ++ (block a ++ otherwise b (block b))
    statement (C.while e b) =
        condition entry near e false 0 (suc (length (block b)))
        ++ (block b ++ (jump_back (length (condition entry near e false 0 (suc (length (block b)))) + length (block b)) ∷ []))
    statement C.leave = opi Add answer x0 0 ∷ leaving
    statement (C.give e) = answering e ++ leaving
    statement (C.emit e) = answering e ++ (ecall ∷ [])
    statement (C.run f xs) = codes entry near xs 0 ++ calling (entry f) (places_of xs 0) 0

    pub block : Block → List Instruction
    block C.end = []
    block (C.then s b) = statement s ++ block b

-- the lets start at 0: n words of locals from the first let on
unfoldable pub clears : ℕ → ℕ → List Instruction
clears first zero = []
clears first (suc n) = clears first n ++ (sw x0 sp (4 * local_word (first + n)) ∷ [])

-- A function: is there room for one more activation? Then the return address is stored, the lets are cleared, the body runs, and without a return
-- the result is 0.
unfoldable pub function_by : (ℕ → ℕ) → Bool → Function → List Instruction
function_by entry near g =
    branch Ne sp limit 2 ∷ call (stub 3) ∷ sw ra sp 0
    ∷ (clears g.parameters g.lets ++ (block entry near g.body ++ (opi Add answer x0 0 ∷ leaving)))

-- branches are near where they reach all of the function
unfoldable pub near_in : Function → Bool
near_in g = ltb (length (function_by (λ _. 0) true g)) F.near

unfoldable pub function : (ℕ → ℕ) → Function → List Instruction
function entry g = function_by entry (near_in g) g
