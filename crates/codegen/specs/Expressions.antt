-- The code of expressions: as values, which are then at their places, and as conditions, which jump.
-- In postfix order an item's code follows from the places of its operands and from what comes next: it is a condition where, behind the `!`s that follow it,
-- a side of `&&` or `||` or a whole condition ends, and a value elsewhere. Jumps forward are filled in where they arrive.
use Rattle.std.specs.Prelude.{ℕ, zero, suc, ◌+◌, ◌-◌, ◌*◌, ◌^◌, Bool, true, false, List, [], ◌∷◌, ◌++◌, length}
use Rattle.std.proofs.Math.Bool as B
use Rattle.std.proofs.Math.Option.{Option, none, some}
use Rattle.word.specs.Choice.{pick}
use Rattle.processor.specs.declared.Alu.TheVariants.{Add}
use Rattle.processor.specs.declared.Cond.{Cond}
use Rattle.processor.specs.declared.Cond.TheVariants.{Ne}
use Rattle.language.specs.Tree as T
use Rattle.language.specs.Core.{Expr, Args}
use Rattle.language.specs.Core as C
use Rattle.symbolic.specs.Symbolic.{Temporary, x0, reg, sp, answer, Instruction, opi, mv, lw, sw, jump, call}
use Rattle.codegen.specs.Places.{Place, constant, local, temporary, above, in_registers, in_register, frame_bytes, local_word, temporary_word, source, fetch, target, keep, settle, move}
use Rattle.codegen.specs.Operators.{skip, sense, operating, result, applying, relation, comparing, testing, always, reading}

-- where an expression's value is once its code has run, when d temporaries are in use before
unfoldable pub place_of : Expr → ℕ → Place
place_of (C.number n) d = constant n
place_of (C.local x) d = local x
place_of (C.element a i) d = temporary d
place_of (C.call f xs) d = temporary d
place_of (C.unary o e) d = result o (place_of e d) d
place_of (C.strict o a b) d = temporary d
place_of (C.and a b) d = temporary d
place_of (C.or a b) d = temporary d

unfoldable pub places_of : Args → ℕ → List Place
places_of C.none d = []
places_of (C.more e xs) d = place_of e d ∷ places_of xs (above (place_of e d) d)

-- Calls: arguments go to the locals of the frame behind this one; temporaries in registers are saved, and loaded afterwards.

unfoldable pub passes : List Place → ℕ → List Instruction
passes [] i = []
passes (p ∷ ps) i = fetch p 0 ++ (sw (source p 0) sp (frame_bytes + 4 * local_word i) ∷ passes ps (suc i))

unfoldable pub saves : ℕ → List Instruction
saves zero = []
saves (suc n) = saves n ++ (sw (reg Temporary n) sp (4 * temporary_word n) ∷ [])

unfoldable pub loads : ℕ → List Instruction
loads zero = []
loads (suc n) = loads n ++ (lw (reg Temporary n) sp (4 * temporary_word n) ∷ [])

-- so many of d temporaries are in registers
abbrev pub registers_of : ℕ → ℕ
registers_of d = pick (in_register d) d in_registers

abbrev pub returning : ℕ → List Instruction
returning d = opi Add sp sp (2 ^ 32 - frame_bytes) ∷ loads (registers_of d)

abbrev pub entering : ℕ → ℕ → List Instruction
entering target d = opi Add sp sp frame_bytes ∷ call target ∷ returning d

abbrev pub calling : ℕ → List Place → ℕ → List Instruction
calling target ps d = passes ps 0 ++ (saves (registers_of d) ++ entering target d)

-- `entry f` is where function f begins; `near` is whether branches reach all of the function.
module _ (entry : ℕ → ℕ) (near : Bool) where
  abbrev pub deciding_by : Option (Cond × Bool) → Bool → T.Strict → Place → Place → ℕ → ℕ → List Instruction
  deciding_by (some (c, turned)) t o p q d k = comparing near t c turned p q k
  deciding_by none t o p q d k = operating o p q d ++ testing near t (temporary d) k

  unfoldable mutual
    -- the value comes to place_of e d
    pub code : Expr → ℕ → List Instruction
    code (C.number n) d = []
    code (C.local x) d = []
    code (C.element a i) d = code i d ++ reading a (place_of i d) d
    code (C.call f xs) d = codes xs d ++ (calling (entry f) (places_of xs d) d ++ (mv (target d) answer ∷ keep d))
    code (C.unary o e) d = code e d ++ applying o (place_of e d) d
    code (C.strict o a b) d =
        code a d ++ (code b (above (place_of a d) d) ++ operating o (place_of a d) (place_of b (above (place_of a d) d)) d)
    -- the right side where the left side is true, else 0
    code (C.and a b) d =
        condition a false d (suc (length (code b d ++ move (place_of b d) d)))
        ++ ((code b d ++ move (place_of b d) d) ++ (jump (suc (length (settle 0 d))) ∷ settle 0 d))
    -- the right side where the left side is false, else 1
    code (C.or a b) d =
        condition a true d (suc (length (code b d ++ move (place_of b d) d)))
        ++ ((code b d ++ move (place_of b d) d) ++ (jump (suc (length (settle 1 d))) ∷ settle 1 d))

    pub codes : Args → ℕ → List Instruction
    codes C.none d = []
    codes (C.more e xs) d = code e d ++ codes xs (above (place_of e d) d)

    -- if the expression's truth is t, over the k instructions that follow
    pub condition : Expr → Bool → ℕ → ℕ → List Instruction
    condition (C.number n) t d k = always t n k
    condition (C.local x) t d k = testing near t (local x) k
    condition (C.element a i) t d k = code i d ++ (reading a (place_of i d) d ++ testing near t (temporary d) k)
    condition (C.call f xs) t d k = codes xs d ++ (calling (entry f) (places_of xs d) d ++ skip near (sense t Ne) answer x0 k)
    condition (C.unary T.not e) t d k = condition e (B.not t) d k
    condition (C.unary T.negate e) t d k = code e d ++ (applying T.negate (place_of e d) d ++ testing near t (result T.negate (place_of e d) d) k)
    condition (C.strict o a b) t d k =
        code a d ++ (code b (above (place_of a d) d)
        ++ deciding_by (relation o) t o (place_of a d) (place_of b (above (place_of a d) d)) d k)
    condition (C.and a b) false d k = condition a false d (length (condition b false d k) + k) ++ condition b false d k
    condition (C.and a b) true d k = condition a false d (length (condition b true d k)) ++ condition b true d k
    condition (C.or a b) true d k = condition a true d (length (condition b true d k) + k) ++ condition b true d k
    condition (C.or a b) false d k = condition a true d (length (condition b false d k)) ++ condition b false d k
