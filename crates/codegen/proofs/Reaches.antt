-- Every instruction of a program's code has a word: expressions, statements, functions, the whole.
use mathlib.Core.Path.{◌≡◌, refl, ap, ◌∙◌}
use mathlib.Core.Bool.{Bool, true, false}
use mathlib.Core.Bool as B2
use mathlib.Core.List.{List, [], ◌∷◌, ◌++◌}
use Prim.Native.Nat.{ℕ, zero, suc, ◌+◌, ◌-◌, ◌*◌, ◌≤◌, ◌<◌}
use native.Mathlib.Omega.{arith}
use lib.ListN.{length, length-append, get_or}
use Rattle.processor.specs.declared.Alu.TheVariants.{Add}
use Rattle.processor.specs.declared.Cond.TheVariants.{Ne}
use Rattle.language.specs.Tree.{Unary, Strict}
use Rattle.language.specs.Tree as T
use Rattle.language.specs.Core.{Array, Expr, Args, Stmt, Block, Function, Program}
use Rattle.language.specs.Core as C
use Rattle.symbolic.specs.Symbolic.{Instruction, x0, sp, answer, opi, mv, sw, jump, jump_back, ecall}
use Rattle.symbolic.specs.Fine.{Fine, AllFine, most_instructions}
use Rattle.symbolic.proofs.AllFine.{fine_append}
use Rattle.codegen.specs.Places.{Place, constant, local, temporary, above, local_word, source, fetch, target, keep, settle, move, bring, most_temporaries, most_locals}
use Rattle.codegen.specs.Operators.{skip, sense, operating, result, applying, relation, testing, reading, writing}
use Rattle.codegen.specs.Expressions.{place_of, places_of, calling, deciding_by, code, codes, condition}
use Rattle.codegen.specs.Statements.{leaving, over, otherwise, brought, answering, statement, block, clears, function_by}
use Rattle.language.specs.Rules.{most_elements_in_all, most_parameters}
use Rattle.codegen.specs.Owed.{count, nothing, Callable, Fits, FitsAll, Tests, Runs, RunsAll}
use Rattle.codegen.proofs.Frame.{There}
use Rattle.codegen.proofs.Operators.{apply_lt}
use Rattle.codegen.proofs.Ranges.{Within, within_less, within_far, small, valid_source, valid_target, fine_fetch, fine_keep, fine_move, fine_bring, fine_skip, fine_operating, fine_applying, fine_testing, fine_always, fine_reading, fine_writing, AllThere, fine_calling, fine_deciding}

-- what is left of the reach in a piece's parts
head_in : (near : Bool) (a b : List Instruction) → Within near (length (a ++ b)) → Within near (length a)
head_in near a b w = within_less near (let e = length-append a b in omega (arith, e)) w

tail_in : (near : Bool) (a b : List Instruction) → Within near (length (a ++ b)) → Within near (length b)
tail_in near a b w = within_less near (let e = length-append a b in omega (arith, e)) w

-- with k instructions more to skip over
head_over : (near : Bool) (k : ℕ) (a b : List Instruction) → Within near (k + length (a ++ b)) → Within near (length a)
head_over near k a b w = within_less near (let e = length-append a b in omega (arith, e)) w

tail_over : (near : Bool) (k : ℕ) (a b : List Instruction) → Within near (k + length (a ++ b)) → Within near (k + length b)
tail_over near k a b w = within_less near (let e = length-append a b in omega (arith, e)) w

module _ (functions : List Function) (elements : ℕ) (few : elements ≤ most_elements_in_all) (entry : ℕ → ℕ)
    (low : (f : ℕ) → f < length functions → entry f ≤ most_instructions) (takes : (f : ℕ) → f < length functions → (get_or functions f nothing).parameters ≤ most_parameters) (N : ℕ) (locals : N ≤ most_locals) where
  there_result : (o : Unary) (pl : Place) (d : ℕ) → d < most_temporaries → There (result o pl d)
  there_result o (constant n) d h = apply_lt o n
  there_result o (local y) d h = h
  there_result o (temporary j) d h = h

  there_of : (e : Expr) (d m : ℕ) → Fits functions elements N e m → d + m ≤ most_temporaries → There (place_of e d)
  unfolding Fits place_of
  there_of (C.number n) d m w h = w
  there_of (C.local x) d m w h = omega arith
  there_of (C.element a i) d m w h = omega (arith, w.0)
  there_of (C.call f xs) d m w h = omega (arith, w.0)
  there_of (C.unary o e) d m w h = there_result o (place_of e d) d (omega (arith, w.0))
  there_of (C.strict o a b) d m w h = omega (arith, w.0)
  there_of (C.and a b) d m w h = omega (arith, w.0)
  there_of (C.or a b) d m w h = omega (arith, w.0)

  above_result : (o : Unary) (pl : Place) (d : ℕ) → above (result o pl d) d ≤ suc d
  above_result o (constant n) d = omega arith
  above_result o (local y) d = omega arith
  above_result o (temporary j) d = omega arith

  left_of : (e : Expr) (d m : ℕ) → Fits functions elements N e m → d + m ≤ most_temporaries → above (place_of e d) d + (m - 1) ≤ most_temporaries
  unfolding Fits place_of
  left_of (C.number n) d m w h = omega arith
  left_of (C.local x) d m w h = omega arith
  left_of (C.element a i) d m w h = omega (arith, w.0)
  left_of (C.call f xs) d m w h = omega (arith, w.0)
  left_of (C.unary o e) d m w h = let k = above_result o (place_of e d) d in omega (arith, w.0, k)
  left_of (C.strict o a b) d m w h = omega (arith, w.0)
  left_of (C.and a b) d m w h = omega (arith, w.0)
  left_of (C.or a b) d m w h = omega (arith, w.0)

  all_there : (xs : Args) (d m : ℕ) → FitsAll functions elements N xs m → d + m ≤ most_temporaries → AllThere (places_of xs d)
  unfolding FitsAll places_of
  all_there C.none d m w h = tt
  all_there (C.more e xs) d m w h = (there_of e d m w.0 h, all_there xs (above (place_of e d) d) (m - 1) w.1 (left_of e d m w.0 h))

  places_count : (xs : Args) (d : ℕ) → length (places_of xs d) ≡ count xs
  unfolding places_of
  places_count C.none d = refl
  places_count (C.more e xs) d = ap suc (places_count xs (above (place_of e d) d))

  fine_call : (f : ℕ) (xs : Args) (d m : ℕ) → Callable functions elements f xs → FitsAll functions elements N xs m → d + m ≤ most_temporaries → AllFine (calling (entry f) (places_of xs d) d)
  fine_call f xs d m c w h =
      fine_calling (entry f) (places_of xs d) d (low f c.known) (all_there xs d m w h)
      (let k = places_count xs d ∙ c.arity in let s = takes f c.known in omega (arith, k, s))

  module _ (near : Bool) where
    mutual
      unfolding code codes condition Fits FitsAll Tests Fine

      fine_code : (e : Expr) (d m : ℕ) → Fits functions elements N e m → d + m ≤ most_temporaries → Within near (length (code entry near e d)) → AllFine (code entry near e d)
      fine_code (C.number n) d m w h r = tt
      fine_code (C.local x) d m w h r = tt
      fine_code (C.element a i) d m w h r =
          fine_append (code entry near i d) _ (fine_code i d m w.2 h (head_in near (code entry near i d) (reading a (place_of i d) d) r))
          (fine_reading a (place_of i d) d (there_of i d m w.2 h) (omega (arith, w.1)) (omega (arith, w.0)))
      fine_code (C.call f xs) d m w h r =
          let last = mv (target d) answer ∷ keep d in
          fine_append (codes entry near xs d) _ (fine_codes xs d m w.2 h (head_in near (codes entry near xs d) (calling (entry f) (places_of xs d) d ++ last) r))
          (fine_append (calling (entry f) (places_of xs d) d) last (fine_call f xs d m w.1 w.2 h) ((valid_target d, omega arith), fine_keep d (omega (arith, w.0))))
      fine_code (C.unary o e) d m w h r =
          fine_append (code entry near e d) _ (fine_code e d m w.1 h (head_in near (code entry near e d) (applying o (place_of e d) d) r))
          (fine_applying o (place_of e d) d (there_of e d m w.1 h) (omega (arith, w.0)))
      fine_code (C.strict o a b) d m w h r =
          let d2 = above (place_of a d) d in
          let k = left_of a d m w.1 h in
          let last = operating o (place_of a d) (place_of b d2) d in
          let r2 = tail_in near (code entry near a d) (code entry near b d2 ++ last) r in
          fine_append (code entry near a d) _ (fine_code a d m w.1 h (head_in near (code entry near a d) (code entry near b d2 ++ last) r))
          (fine_append (code entry near b d2) _ (fine_code b d2 (m - 1) w.2 k (head_in near (code entry near b d2) last r2))
          (fine_operating o (place_of a d) (place_of b d2) d (there_of a d m w.1 h) (there_of b d2 (m - 1) w.2 k) (omega (arith, w.0))))
      fine_code (C.and a b) d m w h r =
          let cb = code entry near b d in
          let rest = cb ++ move (place_of b d) d in
          let other = jump (suc (length (settle 0 d))) ∷ settle 0 d in
          let test = condition entry near a false d (suc (length rest)) in
          let x = length-append test (rest ++ other) in
          let y = length-append rest other in
          let z = length-append cb (move (place_of b d) d) in
          let o = within_far near r in
          fine_append test (rest ++ other) (fine_condition a false d (m - 1) (suc (length rest)) w.1 (omega arith) (within_less near (omega (arith, x, y)) r))
          (fine_append rest other
          (fine_append cb (move (place_of b d) d) (fine_code b d m w.2 h (within_less near (omega (arith, x, y, z)) r)) (fine_move (place_of b d) d (there_of b d m w.2 h) (omega (arith, w.0))))
          (omega (arith, x, y, o), ((refl, valid_target d, tt, small 0 (omega arith)), fine_keep d (omega (arith, w.0)))))
      fine_code (C.or a b) d m w h r =
          let cb = code entry near b d in
          let rest = cb ++ move (place_of b d) d in
          let other = jump (suc (length (settle 1 d))) ∷ settle 1 d in
          let test = condition entry near a true d (suc (length rest)) in
          let x = length-append test (rest ++ other) in
          let y = length-append rest other in
          let z = length-append cb (move (place_of b d) d) in
          let o = within_far near r in
          fine_append test (rest ++ other) (fine_condition a true d (m - 1) (suc (length rest)) w.1 (omega arith) (within_less near (omega (arith, x, y)) r))
          (fine_append rest other
          (fine_append cb (move (place_of b d) d) (fine_code b d m w.2 h (within_less near (omega (arith, x, y, z)) r)) (fine_move (place_of b d) d (there_of b d m w.2 h) (omega (arith, w.0))))
          (omega (arith, x, y, o), ((refl, valid_target d, tt, small 1 (omega arith)), fine_keep d (omega (arith, w.0)))))

      fine_codes : (xs : Args) (d m : ℕ) → FitsAll functions elements N xs m → d + m ≤ most_temporaries → Within near (length (codes entry near xs d)) → AllFine (codes entry near xs d)
      fine_codes C.none d m w h r = tt
      fine_codes (C.more e xs) d m w h r =
          let d2 = above (place_of e d) d in
          fine_append (code entry near e d) _ (fine_code e d m w.0 h (head_in near (code entry near e d) (codes entry near xs d2) r))
          (fine_codes xs d2 (m - 1) w.1 (left_of e d m w.0 h) (tail_in near (code entry near e d) (codes entry near xs d2) r))

      fine_condition : (e : Expr) (t : Bool) (d m k : ℕ) → Tests functions elements N e m → d + m ≤ most_temporaries → Within near (k + length (condition entry near e t d k)) → AllFine (condition entry near e t d k)
      fine_condition (C.number n) t d m k w h r = fine_always near t n k r
      fine_condition (C.local x) t d m k w h r = fine_testing near t (local x) k (omega arith) r
      fine_condition (C.element a i) t d m k w h r =
          let last = testing near t (temporary d) k in
          let r2 = tail_over near k (code entry near i d) (reading a (place_of i d) d ++ last) r in
          fine_append (code entry near i d) _ (fine_code i d m w.2 h (head_over near k (code entry near i d) (reading a (place_of i d) d ++ last) r))
          (fine_append (reading a (place_of i d) d) last (fine_reading a (place_of i d) d (there_of i d m w.2 h) (omega (arith, w.1)) (omega (arith, w.0)))
          (fine_testing near t (temporary d) k (omega (arith, w.0)) (tail_over near k (reading a (place_of i d) d) last r2)))
      fine_condition (C.call f xs) t d m k w h r =
          let last = skip near (sense t Ne) answer x0 k in
          let r2 = tail_over near k (codes entry near xs d) (calling (entry f) (places_of xs d) d ++ last) r in
          fine_append (codes entry near xs d) _ (fine_codes xs d m w.2 h (head_over near k (codes entry near xs d) (calling (entry f) (places_of xs d) d ++ last) r))
          (fine_append (calling (entry f) (places_of xs d) d) last (fine_call f xs d m w.1 w.2 h)
          (fine_skip near (sense t Ne) answer x0 k (omega arith) tt (tail_over near k (calling (entry f) (places_of xs d) d) last r2)))
      fine_condition (C.unary T.not e) t d m k w h r = fine_condition e (B2.not t) d m k w h r
      fine_condition (C.unary T.negate e) t d m k w h r =
          let last = testing near t (result T.negate (place_of e d) d) k in
          let r2 = tail_over near k (code entry near e d) (applying T.negate (place_of e d) d ++ last) r in
          fine_append (code entry near e d) _ (fine_code e d m w.1 h (head_over near k (code entry near e d) (applying T.negate (place_of e d) d ++ last) r))
          (fine_append (applying T.negate (place_of e d) d) last (fine_applying T.negate (place_of e d) d (there_of e d m w.1 h) (omega (arith, w.0)))
          (fine_testing near t (result T.negate (place_of e d) d) k (there_result T.negate (place_of e d) d (omega (arith, w.0))) (tail_over near k (applying T.negate (place_of e d) d) last r2)))
      fine_condition (C.strict o a b) t d m k w h r =
          let d2 = above (place_of a d) d in
          let l = left_of a d m w.1 h in
          let last = deciding_by entry near (relation o) t o (place_of a d) (place_of b d2) d k in
          let r2 = tail_over near k (code entry near a d) (code entry near b d2 ++ last) r in
          fine_append (code entry near a d) _ (fine_code a d m w.1 h (head_over near k (code entry near a d) (code entry near b d2 ++ last) r))
          (fine_append (code entry near b d2) _ (fine_code b d2 (m - 1) w.2 l (head_over near k (code entry near b d2) last r2))
          (fine_deciding entry near (relation o) t o (place_of a d) (place_of b d2) d k (there_of a d m w.1 h) (there_of b d2 (m - 1) w.2 l) (omega (arith, w.0))
          (tail_over near k (code entry near b d2) last r2)))
      fine_condition (C.and a b) false d m k w h r =
          let right = condition entry near b false d k in
          let test = condition entry near a false d (length right + k) in
          fine_append test right (fine_condition a false d m (length right + k) w.0 h (within_less near (let e = length-append test right in omega (arith, e)) r))
          (fine_condition b false d m k w.1 h (tail_over near k test right r))
      fine_condition (C.and a b) true d m k w h r =
          let right = condition entry near b true d k in
          let test = condition entry near a false d (length right) in
          fine_append test right (fine_condition a false d m (length right) w.0 h (within_less near (let e = length-append test right in omega (arith, e)) r))
          (fine_condition b true d m k w.1 h (tail_over near k test right r))
      fine_condition (C.or a b) true d m k w h r =
          let right = condition entry near b true d k in
          let test = condition entry near a true d (length right + k) in
          fine_append test right (fine_condition a true d m (length right + k) w.0 h (within_less near (let e = length-append test right in omega (arith, e)) r))
          (fine_condition b true d m k w.1 h (tail_over near k test right r))
      fine_condition (C.or a b) false d m k w h r =
          let right = condition entry near b false d k in
          let test = condition entry near a true d (length right) in
          fine_append test right (fine_condition a true d m (length right) w.0 h (within_less near (let e = length-append test right in omega (arith, e)) r))
          (fine_condition b false d m k w.1 h (tail_over near k test right r))

    fine_leaving : AllFine leaving
    unfolding Fine
    fine_leaving = ((omega arith, omega arith, small 0 (omega arith)), (tt, tt))

    fine_brought : (e : Expr) → Fits functions elements N e most_temporaries → Within near (length (brought entry near e)) → AllFine (brought entry near e)
    fine_brought e w r =
        fine_append (code entry near e 0) _ (fine_code e 0 most_temporaries w (omega arith) (head_in near (code entry near e 0) (bring (place_of e 0)) r))
        (fine_bring (place_of e 0) (there_of e 0 most_temporaries w (omega arith)))

    fine_answering : (e : Expr) → Fits functions elements N e most_temporaries → Within near (length (answering entry near e)) → AllFine (answering entry near e)
    unfolding answering Fits
    fine_answering (C.call f xs) w r =
        fine_append (codes entry near xs 0) _ (fine_codes xs 0 most_temporaries w.2 (omega arith) (head_in near (codes entry near xs 0) (calling (entry f) (places_of xs 0) 0) r))
        (fine_call f xs 0 most_temporaries w.1 w.2 (omega arith))
    fine_answering (C.number n) w r = fine_brought (C.number n) w r
    fine_answering (C.local x) w r = fine_brought (C.local x) w r
    fine_answering (C.element a i) w r = fine_brought (C.element a i) w r
    fine_answering (C.unary o e) w r = fine_brought (C.unary o e) w r
    fine_answering (C.strict o a b) w r = fine_brought (C.strict o a b) w r
    fine_answering (C.and a b) w r = fine_brought (C.and a b) w r
    fine_answering (C.or a b) w r = fine_brought (C.or a b) w r

    -- an `if`'s blocks
    fine_otherwise : (b : Block) (c : List Instruction) → Within near (length (otherwise b c)) → AllFine c → AllFine (otherwise b c)
    unfolding Fine
    fine_otherwise C.end c w f = tt
    fine_otherwise (C.then s b) c w f = ((let y = within_far near w in omega (arith, y)), f)

    otherwise_in : (b : Block) (c : List Instruction) → (b ≡ C.end → length c ≡ 0) → length c ≤ length (otherwise b c)
    otherwise_in C.end c e = (let y = e refl in omega (arith, y))
    otherwise_in (C.then s b) c e = omega arith

    over_in : (b : Block) (c : List Instruction) → over b ≤ length (otherwise b c)
    over_in C.end c = omega arith
    over_in (C.then s b) c = omega arith

    end_length : (b : Block) → b ≡ C.end → length (block entry near b) ≡ 0
    unfolding block
    end_length b e = ap (λ (x : Block). length (block entry near x)) e

    mutual
      unfolding statement block Runs RunsAll Fine

      fine_statement : (s : Stmt) → Runs functions elements N s → Within near (length (statement entry near s)) → AllFine (statement entry near s)
      fine_statement (C.put x e) w r =
          let last = fetch (place_of e 0) 0 ++ (sw (source (place_of e 0) 0) sp (4 * local_word x) ∷ []) in
          fine_append (code entry near e 0) _ (fine_code e 0 most_temporaries w.1 (omega arith) (head_in near (code entry near e 0) last r))
          (fine_append (fetch (place_of e 0) 0) _ (fine_fetch (place_of e 0) 0 (omega arith) (there_of e 0 most_temporaries w.1 (omega arith)))
          ((valid_source (place_of e 0) 0 (omega arith), omega arith, small (4 * local_word x) (omega (arith, w.0))), tt))
      fine_statement (C.store a i e) w r =
          let d = above (place_of i 0) 0 in
          let k = left_of i 0 most_temporaries w.1 (omega arith) in
          let last = writing a (place_of i 0) (place_of e d) in
          let r2 = tail_in near (code entry near i 0) (code entry near e d ++ last) r in
          fine_append (code entry near i 0) _ (fine_code i 0 most_temporaries w.1 (omega arith) (head_in near (code entry near i 0) (code entry near e d ++ last) r))
          (fine_append (code entry near e d) last (fine_code e d (most_temporaries - 1) w.2 k (head_in near (code entry near e d) last r2))
          (fine_writing a (place_of i 0) (place_of e d) (there_of i 0 most_temporaries w.1 (omega arith)) (there_of e d (most_temporaries - 1) w.2 k) (omega (arith, w.0))))
      fine_statement (C.choose e a b) w r =
          let ca = block entry near a in
          let cb = block entry near b in
          let last = otherwise b cb in
          let test = condition entry near e false 0 (length ca + over b) in
          let r2 = tail_in near test (ca ++ last) r in
          let r3 = tail_in near ca last r2 in
          fine_append test _ (fine_condition e false 0 most_temporaries (length ca + over b) w.0 (omega arith)
          (within_less near (let x = length-append test (ca ++ last) in let y = length-append ca last in let z = over_in b cb in omega (arith, x, y, z)) r))
          (fine_append ca last (fine_block a w.1 (head_in near ca last r2))
          (fine_otherwise b cb r3 (fine_block b w.2 (within_less near (otherwise_in b cb (end_length b)) r3))))
      fine_statement (C.while e b) w r =
          let cb = block entry near b in
          let test = condition entry near e false 0 (suc (length cb)) in
          let last = jump_back (length test + length cb) ∷ [] in
          let r2 = tail_in near test (cb ++ last) r in
          fine_append test _ (fine_condition e false 0 most_temporaries (suc (length cb)) w.0 (omega arith)
          (within_less near (let x = length-append test (cb ++ last) in let y = length-append cb last in omega (arith, x, y)) r))
          (fine_append cb last (fine_block b w.1 (head_in near cb last r2)) (tt, tt))
      fine_statement C.leave w r = ((refl, omega arith, tt, small 0 (omega arith)), fine_leaving)
      fine_statement (C.give e) w r = fine_append (answering entry near e) leaving (fine_answering e w (head_in near (answering entry near e) leaving r)) fine_leaving
      fine_statement (C.emit e) w r = fine_append (answering entry near e) (ecall ∷ []) (fine_answering e w (head_in near (answering entry near e) (ecall ∷ []) r)) (tt, tt)
      fine_statement (C.run f xs) w r =
          fine_append (codes entry near xs 0) _ (fine_codes xs 0 most_temporaries w.1 (omega arith) (head_in near (codes entry near xs 0) (calling (entry f) (places_of xs 0) 0) r))
          (fine_call f xs 0 most_temporaries w.0 w.1 (omega arith))

      fine_block : (b : Block) → RunsAll functions elements N b → Within near (length (block entry near b)) → AllFine (block entry near b)
      fine_block C.end w r = tt
      fine_block (C.then s b) w r =
          fine_append (statement entry near s) _ (fine_statement s w.0 (head_in near (statement entry near s) (block entry near b) r))
          (fine_block b w.1 (tail_in near (statement entry near s) (block entry near b) r))

    fine_clears : (first n : ℕ) → first + n ≤ most_locals → AllFine (clears first n)
    unfolding clears Fine
    fine_clears first zero h = tt
    fine_clears first (suc n) h = fine_append (clears first n) _ (fine_clears first n (omega arith)) ((tt, omega arith, small _ (omega arith)), tt)

    pub fine_by : (g : Function) → g.parameters + g.lets ≡ N → RunsAll functions elements N g.body → Within near (length (function_by entry near g)) → AllFine (function_by entry near g)
    unfolding function_by Fine
    fine_by g hN w r =
        let cl = clears g.parameters g.lets in
        let bl = block entry near g.body in
        let last = opi Add answer x0 0 ∷ leaving in (
          (omega arith, omega arith, omega arith),
          (
            omega arith,
            (
              (omega arith, omega arith, small 0 (omega arith)),
              fine_append cl _ (fine_clears g.parameters g.lets (omega arith))
                  (fine_append bl last (fine_block g.body w (within_less near (let x = length-append cl (bl ++ last) in let y = length-append bl last in omega (arith, x, y)) r))
                  ((refl, omega arith, tt, small 0 (omega arith)), fine_leaving)),
            ),
          ),
        )
