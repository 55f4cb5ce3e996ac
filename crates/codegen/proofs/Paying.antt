-- What each piece of code has at most, by the tokens that it is made of: `Bounds.antt` has how many instructions a token pays for.
use mathlib.Core.Bool.{Bool, true, false}
use mathlib.Core.Bool as B2
use mathlib.Core.List.{List, [], ◌∷◌, ◌++◌}
use mathlib.Core.Option.{Option, none, some}
use Prim.Native.Nat.{ℕ, zero, suc, ◌+◌, ◌*◌, ◌≤◌}
use native.Mathlib.Omega.{arith}
use lib.ListN.{length, length-append}
use Rattle.word.specs.Choice.{pick}
use Rattle.processor.specs.declared.Alu.{Alu}
use Rattle.processor.specs.declared.Cond.{Cond}
use Rattle.processor.specs.declared.Cond.TheVariants.{Ne}
use Rattle.language.specs.Tree.{Unary, Strict}
use Rattle.language.specs.Tree as T
use Rattle.language.specs.Core.{Array, Expr, Args, Stmt, Block, Function, Program}
use Rattle.language.specs.Core as C
use Rattle.symbolic.specs.Symbolic.{Reg, x0, scratch, answer, Instruction}
use Rattle.symbolic.proofs.Start.{image_length}
use Rattle.codegen.specs.Places.{Place, constant, local, temporary, above, in_register, short, constant_by, constant_to, source, fetch, keep, settle, move, bring}
use Rattle.codegen.specs.Operators.{skip, sense, Work, plain, divided, tested, work, working, immediate, operating_by, operating, result, applying, relation, left, right, testing, always, inside, locate_by, locate, reading, writing}
use Rattle.codegen.specs.Expressions.{place_of, places_of, passes, saves, loads, registers_of, calling, deciding_by, code, codes, condition}
use Rattle.codegen.specs.Statements.{otherwise, brought, answering, statement, block, clears, function_by, near_in, function}
use Rattle.codegen.specs.Image.{functions_start, entry_of, functions_from, instructions_of, image}
use Rattle.codegen.proofs.Ranges.{registers_few}
use Rattle.codegen.proofs.Bounds.{weight, weights, stmt_weight, block_weight, function_weight, program_weight, instructions_each}

-- a piece of code, and so many instructions more, are at most this many
record Pays (most spare : ℕ) (c : List Instruction) : Type 0 where
  enough : length c + spare ≤ most

nothing : Pays 0 0 []
nothing = record { enough = omega arith }

first : {n r : ℕ} {c : List Instruction} (i : Instruction) → Pays n r c → Pays (suc n) r (i ∷ c)
first i h = record { enough = omega (arith, h.enough) }

joins : {m n r s : ℕ} {a b : List Instruction} → Pays m r a → Pays n s b → Pays (m + n) (r + s) (a ++ b)
joins {a = a} {b = b} h k = record { enough = rw (length-append a b) (omega (arith, h.enough, k.enough)) }

looser : {m n r s : ℕ} {c : List Instruction} → m + s ≤ n + r → Pays m r c → Pays n s c
looser e h = record { enough = omega (arith, h.enough, e) }

picks : {n r : ℕ} {a b : List Instruction} (t : Bool) → Pays n r a → Pays n r b → Pays n r (pick t a b)
picks true h k = h
picks false h k = k

-- Places.

-- so many instructions bring a value from its place at most
abbrev reach : Place → ℕ
reach (constant n) = 2
reach (local y) = 1
reach (temporary d) = 1

reach_most : (p : Place) → reach p ≤ 2
reach_most (constant n) = omega arith
reach_most (local y) = omega arith
reach_most (temporary d) = omega arith

one : (i : Instruction) → Pays 1 0 (i ∷ [])
one i = first i nothing

constant_pays : (r : Reg) (n : ℕ) → Pays 2 0 (constant_to r n)
constant_pays r n = go (short n)
  where
    go : (t : Bool) → Pays 2 0 (constant_by t r n)
    go true = record { enough = omega arith }
    go false = record { enough = omega arith }

fetch_pays : (p : Place) (w : ℕ) → Pays (reach p) 0 (fetch p w)
fetch_pays (constant zero) w = record { enough = omega arith }
fetch_pays (constant (suc n)) w = constant_pays (scratch w) (suc n)
fetch_pays (local y) w = one _
fetch_pays (temporary d) w = picks (in_register d) (record { enough = omega arith }) (one _)

keep_pays : (d : ℕ) → Pays 1 0 (keep d)
keep_pays d = picks (in_register d) (record { enough = omega arith }) (one _)

settle_pays : (v d : ℕ) → Pays 2 0 (settle v d)
settle_pays v d = first _ (keep_pays d)

move_pays : (p : Place) (d : ℕ) → Pays (reach p + 2) 0 (move p d)
move_pays (constant n) d = joins (fetch_pays (constant n) 0) (first _ (keep_pays d))
move_pays (local y) d = joins (fetch_pays (local y) 0) (first _ (keep_pays d))
move_pays (temporary j) d = record { enough = omega arith }

bring_pays : (p : Place) → Pays (reach p) 0 (bring p)
bring_pays (constant n) = constant_pays answer n
bring_pays (local y) = one _
bring_pays (temporary d) = picks (in_register d) (one _) (one _)

-- Operators.

skip_pays : (near : Bool) (c : Cond) (r s : Reg) (k : ℕ) → Pays 2 0 (skip near c r s k)
skip_pays true c r s k = record { enough = omega arith }
skip_pays false c r s k = record { enough = omega arith }

testing_pays : (near t : Bool) (p : Place) (k : ℕ) → Pays (reach p + 2) 0 (testing near t p k)
testing_pays near t p k = joins (fetch_pays p 0) (skip_pays near (sense t Ne) (source p 0) x0 k)

always_pays : (t : Bool) (n k : ℕ) → Pays 1 0 (always t n k)
always_pays true zero k = record { enough = omega arith }
always_pays true (suc n) k = one _
always_pays false zero k = one _
always_pays false (suc n) k = record { enough = omega arith }

working_pays : (o : Work) (r s : Reg) (d : ℕ) → Pays 5 0 (working o r s d)
working_pays (plain o t) r s d = looser (omega arith) (first _ (keep_pays d))
working_pays (divided o) r s d = looser (omega arith) (first _ (first _ (first _ (keep_pays d))))
working_pays (tested c t) r s d = first _ (first _ (first _ (first _ (keep_pays d))))

operating_pays : (o : Strict) (p q : Place) (d : ℕ) → Pays (reach p + reach q + 5) 0 (operating o p q d)
operating_pays o p q d = go (immediate o q)
  where
    go : (m : Option (Alu × ℕ)) → Pays (reach p + reach q + 5) 0 (operating_by m o p q d)
    go (some (k, m)) = looser (omega arith) (joins (fetch_pays p 0) (first _ (keep_pays d)))
    go none = looser (omega arith) (joins (fetch_pays p 0) (joins (fetch_pays q 1) (working_pays (work o) (source p 0) (source q 1) d)))

applying_pays : (o : Unary) (p : Place) (d : ℕ) → Pays (reach p + 2) 0 (applying o p d)
applying_pays o (constant n) d = record { enough = omega arith }
applying_pays o (local y) d = joins (fetch_pays (local y) 0) (first _ (keep_pays d))
applying_pays o (temporary j) d = joins (fetch_pays (temporary j) 0) (first _ (keep_pays d))

locate_pays : (a : Array) (p : Place) → Pays (reach p + 7) 0 (locate a p)
locate_pays a p = go (inside a p)
  where
    go : (t : Bool) → Pays (reach p + 7) 0 (locate_by t a p)
    go true = looser (omega arith) (one _)
    go false = looser (omega arith) (joins (fetch_pays p 0) (joins (constant_pays (scratch 1) a.size) (first _ (first _ (first _ (first _ (one _)))))))

reading_pays : (a : Array) (p : Place) (d : ℕ) → Pays (reach p + 9) 0 (reading a p d)
reading_pays a p d = looser (omega arith) (joins (locate_pays a p) (first _ (keep_pays d)))

writing_pays : (a : Array) (p v : Place) → Pays (reach p + reach v + 8) 0 (writing a p v)
writing_pays a p v = looser (omega arith) (joins (locate_pays a p) (joins (fetch_pays v 1) (one _)))

-- Calls.

abbrev reaches : List Place → ℕ
reaches [] = 0
reaches (p ∷ ps) = reach p + 1 + reaches ps

passes_pays : (ps : List Place) (i : ℕ) → Pays (reaches ps) 0 (passes ps i)
unfolding passes
passes_pays [] i = nothing
passes_pays (p ∷ ps) i = looser (omega arith) (joins (fetch_pays p 0) (first _ (passes_pays ps (suc i))))

saves_pays : (n : ℕ) → Pays n 0 (saves n)
unfolding saves
saves_pays zero = nothing
saves_pays (suc n) = looser (omega arith) (joins (saves_pays n) (one _))

loads_pays : (n : ℕ) → Pays n 0 (loads n)
unfolding loads
loads_pays zero = nothing
loads_pays (suc n) = looser (omega arith) (joins (loads_pays n) (one _))

-- registers are saved and loaded; three instructions besides
calling_pays : (target : ℕ) (ps : List Place) (d : ℕ) → Pays (reaches ps + 17) 0 (calling target ps d)
calling_pays target ps d =
    let few = registers_few d in
    looser (omega (arith, few)) (joins (passes_pays ps 0) (joins (saves_pays (registers_of d)) (first _ (first _ (first _ (loads_pays (registers_of d)))))))

-- Expressions. What a value's tokens pay for includes what brings it from its place, and one instruction more.

module _ (entry : ℕ → ℕ) (near : Bool) where
  deciding_pays : (r : Option (Cond × Bool)) (t : Bool) (o : Strict) (p q : Place) (d k : ℕ) → Pays (reach p + reach q + 8) 0 (deciding_by entry near r t o p q d k)
  deciding_pays none t o p q d k = looser (omega arith) (joins (operating_pays o p q d) (testing_pays near t (temporary d) k))
  deciding_pays (some (c, turned)) t o p q d k =
      looser (omega arith) (joins (fetch_pays p 0) (joins (fetch_pays q 1)
      (skip_pays near (sense t c) (left turned (source p 0) (source q 1)) (right turned (source p 0) (source q 1)) k)))

  mutual
    unfolding code codes condition place_of places_of weight

    code_pays : (e : Expr) (d : ℕ) → Pays (instructions_each * weight e) (reach (place_of e d) + 1) (code entry near e d)
    code_pays (C.number n) d = looser (omega arith) nothing
    code_pays (C.local x) d = looser (omega arith) nothing
    code_pays (C.element a i) d = looser (omega arith) (joins (code_pays i d) (reading_pays a (place_of i d) d))
    code_pays (C.call f xs) d = looser (omega arith) (joins (codes_pays xs d) (joins (calling_pays (entry f) (places_of xs d) d) (first _ (keep_pays d))))
    code_pays (C.unary o e) d = let h = reach_most (result o (place_of e d) d) in looser (omega (arith, h)) (joins (code_pays e d) (applying_pays o (place_of e d) d))
    code_pays (C.strict o a b) d =
        looser (omega arith) (joins (code_pays a d) (joins (code_pays b (above (place_of a d) d)) (operating_pays o (place_of a d) (place_of b (above (place_of a d) d)) d)))
    code_pays (C.and a b) d =
        looser (omega arith) (joins (condition_pays a false d _) (joins (joins (code_pays b d) (move_pays (place_of b d) d)) (first _ (settle_pays 0 d))))
    code_pays (C.or a b) d =
        looser (omega arith) (joins (condition_pays a true d _) (joins (joins (code_pays b d) (move_pays (place_of b d) d)) (first _ (settle_pays 1 d))))

    codes_pays : (xs : Args) (d : ℕ) → Pays (instructions_each * weights xs) (reaches (places_of xs d)) (codes entry near xs d)
    codes_pays C.none d = nothing
    codes_pays (C.more e xs) d = looser (omega arith) (joins (code_pays e d) (codes_pays xs (above (place_of e d) d)))

    condition_pays : (e : Expr) (t : Bool) (d k : ℕ) → Pays (instructions_each * weight e) 0 (condition entry near e t d k)
    condition_pays (C.number n) t d k = looser (omega arith) (always_pays t n k)
    condition_pays (C.local x) t d k = looser (omega arith) (testing_pays near t (local x) k)
    condition_pays (C.element a i) t d k = looser (omega arith) (joins (code_pays i d) (joins (reading_pays a (place_of i d) d) (testing_pays near t (temporary d) k)))
    condition_pays (C.call f xs) t d k =
        looser (omega arith) (joins (codes_pays xs d) (joins (calling_pays (entry f) (places_of xs d) d) (skip_pays near (sense t Ne) answer x0 k)))
    condition_pays (C.unary T.not e) t d k = looser (omega arith) (condition_pays e (B2.not t) d k)
    condition_pays (C.unary T.negate e) t d k =
        let h = reach_most (result T.negate (place_of e d) d) in
        looser (omega (arith, h)) (joins (code_pays e d) (joins (applying_pays T.negate (place_of e d) d) (testing_pays near t (result T.negate (place_of e d) d) k)))
    condition_pays (C.strict o a b) t d k =
        looser (omega arith) (joins (code_pays a d) (joins (code_pays b (above (place_of a d) d)) (deciding_pays (relation o) t o (place_of a d) (place_of b (above (place_of a d) d)) d k)))
    condition_pays (C.and a b) false d k = looser (omega arith) (joins (condition_pays a false d _) (condition_pays b false d k))
    condition_pays (C.and a b) true d k = looser (omega arith) (joins (condition_pays a false d _) (condition_pays b true d k))
    condition_pays (C.or a b) true d k = looser (omega arith) (joins (condition_pays a true d _) (condition_pays b true d k))
    condition_pays (C.or a b) false d k = looser (omega arith) (joins (condition_pays a true d _) (condition_pays b false d k))

  -- Statements.

  brought_pays : (e : Expr) → Pays (instructions_each * weight e) 1 (brought entry near e)
  brought_pays e = looser (omega arith) (joins (code_pays e 0) (bring_pays (place_of e 0)))

  answering_pays : (e : Expr) → Pays (instructions_each * weight e) 1 (answering entry near e)
  unfolding answering weight
  answering_pays (C.call f xs) = looser (omega arith) (joins (codes_pays xs 0) (calling_pays (entry f) (places_of xs 0) 0))
  answering_pays (C.number n) = brought_pays (C.number n)
  answering_pays (C.local x) = brought_pays (C.local x)
  answering_pays (C.element a i) = brought_pays (C.element a i)
  answering_pays (C.unary o e) = brought_pays (C.unary o e)
  answering_pays (C.strict o a b) = brought_pays (C.strict o a b)
  answering_pays (C.and a b) = brought_pays (C.and a b)
  answering_pays (C.or a b) = brought_pays (C.or a b)

  otherwise_pays : {n : ℕ} {c : List Instruction} (b : Block) → Pays n 0 c → Pays (suc n) 0 (otherwise b c)
  otherwise_pays C.end h = looser (omega arith) nothing
  otherwise_pays (C.then s b) h = first _ h

  mutual
    unfolding statement block stmt_weight

    statement_pays : (s : Stmt) → Pays (instructions_each * stmt_weight s) 0 (statement entry near s)
    statement_pays (C.put x e) = looser (omega arith) (joins (code_pays e 0) (joins (fetch_pays (place_of e 0) 0) (one _)))
    statement_pays (C.store a i e) =
        looser (omega arith) (joins (code_pays i 0) (joins (code_pays e (above (place_of i 0) 0)) (writing_pays a (place_of i 0) (place_of e (above (place_of i 0) 0)))))
    statement_pays (C.choose e a b) = looser (omega arith) (joins (condition_pays e false 0 _) (joins (block_pays a) (otherwise_pays b (block_pays b))))
    statement_pays (C.while e b) = looser (omega arith) (joins (condition_pays e false 0 _) (joins (block_pays b) (one _)))
    statement_pays C.leave = looser (omega arith) (first _ (first _ (one _)))
    statement_pays (C.give e) = looser (omega arith) (joins (answering_pays e) (first _ (one _)))
    statement_pays (C.emit e) = looser (omega arith) (joins (answering_pays e) (one _))
    statement_pays (C.run f xs) = looser (omega arith) (joins (codes_pays xs 0) (calling_pays (entry f) (places_of xs 0) 0))

    block_pays : (b : Block) → Pays (instructions_each * block_weight b) 0 (block entry near b)
    block_pays C.end = nothing
    block_pays (C.then s b) = looser (omega arith) (joins (statement_pays s) (block_pays b))

clears_pays : (p n : ℕ) → Pays n 0 (clears p n)
unfolding clears
clears_pays p zero = nothing
clears_pays p (suc n) = looser (omega arith) (joins (clears_pays p n) (one _))

by_pays : (entry : ℕ → ℕ) (near : Bool) (g : Function) → Pays (instructions_each * function_weight g) 1 (function_by entry near g)
unfolding function_by
by_pays entry near g =
    looser (omega arith) (first _ (first _ (first _ (joins (clears_pays g.parameters g.lets) (joins (block_pays entry near g.body) (first _ (first _ (one _))))))))

functions_pay : (entry : ℕ → ℕ) (gs : List Function) → Pays (instructions_each * program_weight gs) 0 (functions_from entry gs)
unfolding functions_from function program_weight
functions_pay entry [] = nothing
functions_pay entry (g ∷ gs) = looser (omega arith) (joins (by_pays entry (near_in g) g) (functions_pay entry gs))

instructions_few : (p : Program) → length (instructions_of p) ≤ functions_start + instructions_each * program_weight p.functions
unfolding instructions_of
instructions_few p = let h = functions_pay (entry_of p) p.functions in omega (arith, h.enough)

-- the image's bytes: four for each instruction
pub image_short : (p : Program) → length (image p) ≤ 4 * (functions_start + instructions_each * program_weight p.functions)
unfolding image
image_short p = let e = image_length (instructions_of p) in let h = instructions_few p in omega (arith, e, h)
