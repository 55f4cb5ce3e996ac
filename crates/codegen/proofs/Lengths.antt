-- Code is as long wherever the functions begin and however far a condition jumps.
use mathlib.Core.Path.{◌≡◌, refl, sym, ap, ◌∙◌}
use mathlib.Core.Bool.{Bool, true, false}
use mathlib.Core.Bool as B2
use mathlib.Core.List.{List, [], ◌∷◌, ◌++◌}
use mathlib.Core.Option.{Option, none, some}
use Prim.Native.Nat.{ℕ, zero, suc, ◌+◌, ◌*◌}
use lib.ListN.{length, length-append}
use Rattle.processor.specs.declared.Alu.TheVariants.{Add}
use Rattle.processor.specs.declared.Cond.{Cond}
use Rattle.processor.specs.declared.Cond.TheVariants.{Ne}
use Rattle.language.specs.Tree.{Strict}
use Rattle.language.specs.Tree as T
use Rattle.language.specs.Core.{Expr, Args, Stmt, Block, Function}
use Rattle.language.specs.Core as C
use Rattle.symbolic.specs.Symbolic.{Reg, Instruction, opi, mv, sw, sp, answer, x0, jump, jump_back, ecall}
use Rattle.codegen.specs.Places.{Place, local, temporary, above, local_word, fetch, target, keep, settle, move, bring, source}
use Rattle.codegen.specs.Operators.{skip, operating, applying, result, relation, sense, left, right, testing, always, reading, writing}
use Rattle.codegen.specs.Expressions.{place_of, places_of, passes, saves, calling, registers_of, deciding_by, code, codes, condition}
use Rattle.codegen.specs.Statements.{over, otherwise, leaving, brought, answering, statement, block, clears, function_by, near_in, function}

-- two pieces of one length
pub record Len (a b : List Instruction) : Type 0 where
  pub eq : length a ≡ length b

same : (c : List Instruction) → Len c c
same c = record { eq = refl }

joins : {a a' b b' : List Instruction} → Len a a' → Len b b' → Len (a ++ b) (a' ++ b')
joins {a} {a'} {b} {b'} e f = record { eq = length-append a b ∙ ap (λ (n : ℕ). n + length b) e.eq ∙ ap (λ (n : ℕ). length a' + n) f.eq ∙ sym (length-append a' b') }

puts_before : {c c' : List Instruction} (i j : Instruction) → Len c c' → Len (i ∷ c) (j ∷ c')
puts_before i j e = record { eq = ap suc e.eq }

skip_len : (near : Bool) (c : Cond) (r s : Reg) (k k' : ℕ) → Len (skip near c r s k) (skip near c r s k')
skip_len true c r s k k' = record { eq = refl }
skip_len false c r s k k' = record { eq = refl }

always_len : (t : Bool) (n k k' : ℕ) → Len (always t n k) (always t n k')
always_len true zero k k' = record { eq = refl }
always_len true (suc n) k k' = record { eq = refl }
always_len false zero k k' = record { eq = refl }
always_len false (suc n) k k' = record { eq = refl }

module _ (near : Bool) (e e' : ℕ → ℕ) where
  calling_len : (f : ℕ) (ps : List Place) (d : ℕ) → Len (calling (e f) ps d) (calling (e' f) ps d)
  calling_len f ps d = joins (same (passes ps 0)) (joins (same (saves (registers_of d))) (record { eq = refl }))

  testing_len : (t : Bool) (p : Place) (k k' : ℕ) → Len (testing near t p k) (testing near t p k')
  testing_len t p k k' = joins (same (fetch p 0)) (skip_len near (sense t Ne) (source p 0) x0 k k')

  deciding_len : (s : Option (Cond × Bool)) (t : Bool) (o : Strict) (p q : Place) (d k k' : ℕ) → Len (deciding_by e near s t o p q d k) (deciding_by e' near s t o p q d k')
  deciding_len none t o p q d k k' = joins (same (operating o p q d)) (testing_len t (temporary d) k k')
  deciding_len (some (c, turned)) t o p q d k k' =
      joins (same (fetch p 0)) (joins (same (fetch q 1)) (skip_len near (sense t c) (left turned (source p 0) (source q 1)) (right turned (source p 0) (source q 1)) k k'))

  mutual
    unfolding code codes condition

    pub code_len : (x : Expr) (d : ℕ) → Len (code e near x d) (code e' near x d)
    code_len (C.number n) d = same []
    code_len (C.local x) d = same []
    code_len (C.element a i) d = joins (code_len i d) (same (reading a (place_of i d) d))
    code_len (C.call f xs) d = joins (codes_len xs d) (joins (calling_len f (places_of xs d) d) (same (mv (target d) answer ∷ keep d)))
    code_len (C.unary o x) d = joins (code_len x d) (same (applying o (place_of x d) d))
    code_len (C.strict o a b) d =
        joins (code_len a d) (joins (code_len b (above (place_of a d) d)) (same (operating o (place_of a d) (place_of b (above (place_of a d) d)) d)))
    code_len (C.and a b) d =
        joins (condition_len a false d (suc (length (code e near b d ++ move (place_of b d) d))) (suc (length (code e' near b d ++ move (place_of b d) d))))
        (joins (joins (code_len b d) (same (move (place_of b d) d))) (same (jump (suc (length (settle 0 d))) ∷ settle 0 d)))
    code_len (C.or a b) d =
        joins (condition_len a true d (suc (length (code e near b d ++ move (place_of b d) d))) (suc (length (code e' near b d ++ move (place_of b d) d))))
        (joins (joins (code_len b d) (same (move (place_of b d) d))) (same (jump (suc (length (settle 1 d))) ∷ settle 1 d)))

    pub codes_len : (xs : Args) (d : ℕ) → Len (codes e near xs d) (codes e' near xs d)
    codes_len C.none d = same []
    codes_len (C.more x xs) d = joins (code_len x d) (codes_len xs (above (place_of x d) d))

    pub condition_len : (x : Expr) (t : Bool) (d k k' : ℕ) → Len (condition e near x t d k) (condition e' near x t d k')
    condition_len (C.number n) t d k k' = always_len t n k k'
    condition_len (C.local x) t d k k' = testing_len t (local x) k k'
    condition_len (C.element a i) t d k k' = joins (code_len i d) (joins (same (reading a (place_of i d) d)) (testing_len t (temporary d) k k'))
    condition_len (C.call f xs) t d k k' =
        joins (codes_len xs d) (joins (calling_len f (places_of xs d) d) (skip_len near (sense t Ne) answer x0 k k'))
    condition_len (C.unary T.not x) t d k k' = condition_len x (B2.not t) d k k'
    condition_len (C.unary T.negate x) t d k k' =
        joins (code_len x d) (joins (same (applying T.negate (place_of x d) d)) (testing_len t (result T.negate (place_of x d) d) k k'))
    condition_len (C.strict o a b) t d k k' =
        joins (code_len a d) (joins (code_len b (above (place_of a d) d)) (deciding_len (relation o) t o (place_of a d) (place_of b (above (place_of a d) d)) d k k'))
    condition_len (C.and a b) false d k k' =
        joins (condition_len a false d (length (condition e near b false d k) + k) (length (condition e' near b false d k') + k')) (condition_len b false d k k')
    condition_len (C.and a b) true d k k' =
        joins (condition_len a false d (length (condition e near b true d k)) (length (condition e' near b true d k'))) (condition_len b true d k k')
    condition_len (C.or a b) true d k k' =
        joins (condition_len a true d (length (condition e near b true d k) + k) (length (condition e' near b true d k') + k')) (condition_len b true d k k')
    condition_len (C.or a b) false d k k' =
        joins (condition_len a true d (length (condition e near b false d k)) (length (condition e' near b false d k'))) (condition_len b false d k k')

  brought_len : (x : Expr) → Len (brought e near x) (brought e' near x)
  brought_len x = joins (code_len x 0) (same (bring (place_of x 0)))

  answering_len : (x : Expr) → Len (answering e near x) (answering e' near x)
  unfolding answering
  answering_len (C.call f xs) = joins (codes_len xs 0) (calling_len f (places_of xs 0) 0)
  answering_len (C.number n) = brought_len (C.number n)
  answering_len (C.local x) = brought_len (C.local x)
  answering_len (C.element a i) = brought_len (C.element a i)
  answering_len (C.unary o x) = brought_len (C.unary o x)
  answering_len (C.strict o a b) = brought_len (C.strict o a b)
  answering_len (C.and a b) = brought_len (C.and a b)
  answering_len (C.or a b) = brought_len (C.or a b)

  otherwise_len : (b : Block) (c c' : List Instruction) → Len c c' → Len (otherwise b c) (otherwise b c')
  otherwise_len C.end c c' h = same []
  otherwise_len (C.then s b) c c' h = puts_before (jump (suc (length c))) (jump (suc (length c'))) h

  mutual
    unfolding statement block

    pub statement_len : (s : Stmt) → Len (statement e near s) (statement e' near s)
    statement_len (C.put x v) = joins (code_len v 0) (same (fetch (place_of v 0) 0 ++ (sw (source (place_of v 0) 0) sp (4 * local_word x) ∷ [])))
    statement_len (C.store a i v) =
        joins (code_len i 0) (joins (code_len v (above (place_of i 0) 0)) (same (writing a (place_of i 0) (place_of v (above (place_of i 0) 0)))))
    statement_len (C.choose x a b) =
        joins (condition_len x false 0 (length (block e near a) + over b) (length (block e' near a) + over b))
        (joins (block_len a) (otherwise_len b (block e near b) (block e' near b) (block_len b)))
    statement_len (C.while x b) =
        joins (condition_len x false 0 (suc (length (block e near b))) (suc (length (block e' near b))))
        (joins (block_len b) (puts_before (jump_back (length (condition e near x false 0 (suc (length (block e near b)))) + length (block e near b)))
        (jump_back (length (condition e' near x false 0 (suc (length (block e' near b)))) + length (block e' near b))) (same [])))
    statement_len C.leave = same (opi Add answer x0 0 ∷ leaving)
    statement_len (C.give v) = joins (answering_len v) (same leaving)
    statement_len (C.emit v) = joins (answering_len v) (same (ecall ∷ []))
    statement_len (C.run f xs) = joins (codes_len xs 0) (calling_len f (places_of xs 0) 0)

    pub block_len : (b : Block) → Len (block e near b) (block e' near b)
    block_len C.end = same []
    block_len (C.then s b) = joins (statement_len s) (block_len b)

  pub by_len : (g : Function) → length (function_by e near g) ≡ length (function_by e' near g)
  unfolding function_by
  by_len g = ap (λ (n : ℕ). suc (suc (suc n))) (joins (same (clears g.parameters g.lets)) (joins (block_len g.body) (same (opi Add answer x0 0 ∷ leaving)))).eq

pub function_len : (e e' : ℕ → ℕ) (g : Function) → length (function e g) ≡ length (function e' g)
unfolding function
function_len e e' g = by_len (near_in g) e e' g
