-- A run that is out of fuel has none left: nothing gives fuel back, each expression takes some, and a `while` has as many rounds as there is fuel.
use mathlib.Core.Path.{◌≡◌, refl}
use mathlib.Core.List.{List, []}
use Prim.Native.Nat.{ℕ, zero, suc, ◌+◌, ◌≤◌}
use native.Mathlib.Omega.{arith}
use lib.Dec.{eqb, ltb}
use lib.ListN.{length, get_or}
use Rattle.language.specs.Tree.{Strict, eq, ne, lt, le, gt, ge, add, sub, mul, div, rem}
use Rattle.language.specs.Core.{Array, Expr, Args, Stmt, Block, Function, Program}
use Rattle.language.specs.Core as C
use Rattle.language.specs.Meaning.{World, trapped, out_of_fuel, most_activations, Result, goes, stops, Act, bind, value, trap, begin, begin_on, branch, divided, operate, tested, read, write, fetch, assign}
use Rattle.language.specs.Meaning.{Flow, next, returned, followed, rounds, append, eval, evals, exec, block, back, nothing, call_at, stopped, ended, run_of}
use Rattle.tokens.proofs.Lists.{pick_g}

-- what is left of f units of fuel: at least c less where the run goes on, none where it is out of fuel
abbrev Left : {A : Type 0} → ℕ → ℕ → Result A → Type 0
Left c f (goes a ls w) = c + w.fuel ≤ f
Left c f (stops (trapped t) w) = Unit {0}
Left c f (stops out_of_fuel w) = w.fuel ≡ 0

left_more : {A : Type 0} (c d f g : ℕ) (r : Result A) → c + g ≤ f + d → Left d g r → Left c f r
left_more c d f g (goes a ls w) h l = omega arith
left_more c d f g (stops (trapped t) w) h l = tt
left_more c d f g (stops out_of_fuel w) h l = l

left_bind : {A B : Type 0} (c d f : ℕ) (r : Result A) (k : A → Act B) → Left c f r →
    ((a : A) (ls : List ℕ) (w : World) → c + w.fuel ≤ f → Left d w.fuel (k a ls w)) → Left c f (bind r k)
unfolding bind
left_bind c d f (goes a ls w) k l h = left_more c d f w.fuel (k a ls w) (omega (arith, l)) (h a ls w l)
left_bind c d f (stops (trapped t) w) k l h = tt
left_bind c d f (stops out_of_fuel w) k l h = l

-- The action takes at least c units of fuel.
record Takes {A : Type 0} (c : ℕ) (m : Act A) : Type 0 where
  left : (ls : List ℕ) (w : World) → Left c w.fuel (m ls w)

takes_bind : {A B : Type 0} {c d : ℕ} {m : Act A} {k : A → Act B} → Takes c m → ((a : A) → Takes d (k a)) → Takes c (λ ls w. bind (m ls w) k)
takes_bind {c = c} {d = d} {m = m} {k = k} h g =
    record { left = λ ls w. left_bind c d w.fuel (m ls w) k (h.left ls w) (λ a ls w l. (g a).left ls w) }

takes_less : {A : Type 0} {m : Act A} → Takes 1 m → Takes 0 m
takes_less {m = m} h = record { left = λ ls w. left_more 0 1 w.fuel w.fuel (m ls w) (omega arith) (h.left ls w) }

takes_value : {A : Type 0} (a : A) → Takes 0 (value a)
takes_value a = record { left = λ ls w. omega arith }

takes_trap : {A : Type 0} (t : ℕ) → Takes {A = A} 0 (trap t)
takes_trap t = record { left = λ ls w. tt }

takes_branch : {A : Type 0} (v : ℕ) (m n : Act A) → Takes 0 m → Takes 0 n → Takes 0 (branch v m n)
takes_branch zero m n h g = g
takes_branch (suc v) m n h g = h

takes_begin : Takes 1 begin
unfolding begin
takes_begin = record { left = λ ls w. go w.fuel ls w refl }
  where
    go : (f : ℕ) (ls : List ℕ) (w : World) → w.fuel ≡ f → Left 1 w.fuel (begin_on f ls w)
    go zero ls w e = e
    go (suc f) ls w e = omega arith

begun : {A : Type 0} {d : ℕ} {m : Act A} → Takes d m → Takes 1 (λ ls w. bind (begin ls w) (λ _. m))
begun h = takes_bind takes_begin (λ _. h)

-- What expressions and statements are made of.

takes_divided : (b q : ℕ) → Takes 0 (divided b q)
takes_divided b q = pick_g (Takes 0) (eqb b 0) _ _ (λ _. takes_trap _) (λ _. takes_value q)

takes_operate : (o : Strict) (a b : ℕ) → Takes 0 (operate o a b)
unfolding operate
takes_operate add a b = takes_value _
takes_operate sub a b = takes_value _
takes_operate mul a b = takes_value _
takes_operate div a b = takes_divided b _
takes_operate rem a b = takes_divided b _
takes_operate eq a b = takes_value _
takes_operate ne a b = takes_value _
takes_operate lt a b = takes_value _
takes_operate le a b = takes_value _
takes_operate gt a b = takes_value _
takes_operate ge a b = takes_value _

takes_tested : {A : Type 0} (a : Array) (i : ℕ) {m : Act A} → Takes 0 m → Takes 0 (tested a i m)
takes_tested a i h = pick_g (Takes 0) (ltb i a.size) _ _ (λ _. h) (λ _. takes_trap _)

takes_read : (a : Array) (i : ℕ) → Takes 0 (read a i)
unfolding read
takes_read a i = takes_tested a i (record { left = λ ls w. omega arith })

takes_write : (a : Array) (i v : ℕ) → Takes 0 (write a i v)
unfolding write
takes_write a i v = takes_tested a i (record { left = λ ls w. omega arith })

takes_fetch : (x : ℕ) → Takes 0 (fetch x)
unfolding fetch
takes_fetch x = record { left = λ ls w. omega arith }

takes_assign : (x v : ℕ) → Takes 0 (assign x v)
unfolding assign
takes_assign x v = record { left = λ ls w. omega arith }

takes_append : (room v : ℕ) → Takes 0 (append room v)
unfolding append
takes_append room v = record { left = λ ls w. pick_g (Left 0 w.fuel) (ltb (length w.log) room) _ _ (λ _. omega arith) (λ _. tt) }

takes_followed : {m : Act Flow} (f : Flow) → Takes 0 m → Takes 0 (followed f m)
takes_followed next h = h
takes_followed (returned v) h = takes_value _

-- The rounds of a `while`: the condition of each takes fuel, so that as many as there is fuel are enough.

module _ (n : ℕ) (rest : Act Flow) (h : (ls : List ℕ) (w : World) → w.fuel ≤ n → Left 0 w.fuel (rest ls w)) where
  after_body : (f : Flow) (ls : List ℕ) (w : World) → w.fuel ≤ n → Left 0 w.fuel (followed f rest ls w)
  after_body next ls w l = h ls w l
  after_body (returned v) ls w l = omega arith

  after_test : {body : Act Flow} → Takes 0 body → (v : ℕ) (ls : List ℕ) (w : World) → w.fuel ≤ n →
      Left 0 w.fuel (branch v (λ ls w. bind (body ls w) (λ f. followed f rest)) (value next) ls w)
  after_test b zero ls w l = omega arith
  after_test {body = body} b (suc v) ls w l = left_bind 0 0 w.fuel (body ls w) _ (b.left ls w) (λ f ls w k. after_body f ls w (omega (arith, k)))

rounds_left : {test : Act ℕ} {body : Act Flow} → Takes 1 test → Takes 0 body → (n : ℕ) (ls : List ℕ) (w : World) → w.fuel ≤ n →
    Left 0 w.fuel (rounds n test body ls w)
unfolding rounds
rounds_left t b zero ls w h = omega arith
rounds_left {test = test} {body = body} t b (suc n) ls w h =
    left_more 0 1 w.fuel w.fuel (rounds (suc n) test body ls w) (omega arith)
    (left_bind 1 0 w.fuel (test ls w) _ (t.left ls w) (λ v ls w k. after_test n (rounds n test body) (rounds_left t b n) b v ls w (omega (arith, h, k))))

-- Expressions and statements, where no call gives fuel back.

module _ (room : ℕ) (call : ℕ → List ℕ → Act ℕ) (calls : (f : ℕ) (vs : List ℕ) → Takes 0 (call f vs)) where
  mutual
    unfolding eval evals

    takes_eval : (e : Expr) → Takes 1 (eval room call e)
    takes_eval (C.number n) = begun (takes_value n)
    takes_eval (C.local x) = begun (takes_fetch x)
    takes_eval (C.element a i) = begun (takes_bind (takes_eval i) (takes_read a))
    takes_eval (C.call f xs) = begun (takes_bind (takes_evals xs) (calls f))
    takes_eval (C.unary o a) = begun (takes_bind (takes_eval a) (λ x. takes_value _))
    takes_eval (C.strict o a b) = begun (takes_bind (takes_eval a) (λ x. takes_bind (takes_eval b) (takes_operate o x)))
    takes_eval (C.and a b) = begun (takes_bind (takes_eval a) (λ x. takes_branch x _ _ (takes_less (takes_eval b)) (takes_value 0)))
    takes_eval (C.or a b) = begun (takes_bind (takes_eval a) (λ x. takes_branch x _ _ (takes_value 1) (takes_less (takes_eval b))))

    takes_evals : (xs : Args) → Takes 0 (evals room call xs)
    takes_evals C.none = takes_value []
    takes_evals (C.more e xs) = takes_less (takes_bind (takes_eval e) (λ v. takes_bind (takes_evals xs) (λ vs. takes_value _)))

  mutual
    unfolding exec block

    takes_exec : (s : Stmt) → Takes 1 (exec room call s)
    takes_exec (C.put x e) = begun (takes_bind (takes_eval e) (λ v. takes_bind (takes_assign x v) (λ _. takes_value _)))
    takes_exec (C.store a i e) = begun (takes_bind (takes_eval i) (λ k. takes_bind (takes_eval e) (λ v. takes_bind (takes_write a k v) (λ _. takes_value _))))
    takes_exec (C.choose e a b) = begun (takes_bind (takes_eval e) (λ v. takes_branch v _ _ (takes_block a) (takes_block b)))
    takes_exec (C.while e b) = begun {d = 0} (record { left = λ ls w. rounds_left (takes_eval e) (takes_block b) w.fuel ls w (omega arith) })
    takes_exec C.leave = begun (takes_value _)
    takes_exec (C.give e) = begun (takes_bind (takes_eval e) (λ v. takes_value _))
    takes_exec (C.emit e) = begun (takes_bind (takes_eval e) (λ v. takes_bind (takes_append room v) (λ _. takes_value _)))
    takes_exec (C.run f xs) = begun (takes_bind (takes_evals xs) (λ vs. takes_bind (calls f vs) (λ _. takes_value _)))

    takes_block : (b : Block) → Takes 0 (block room call b)
    takes_block C.end = takes_value _
    takes_block (C.then s b) = takes_less (takes_bind (takes_exec s) (λ f. takes_followed f (takes_block b)))

-- Calls, by the activations that are left; then the run.

back_left : (room f : ℕ) (ls : List ℕ) (r : Result Flow) → Left 0 f r → Left 0 f (back room ls r)
unfolding back
back_left room f ls (goes v ls' w) l = l
back_left room f ls (stops (trapped t) w) l = tt
back_left room f ls (stops out_of_fuel w) l = l

takes_call : (room : ℕ) (fs : List Function) (left f : ℕ) (vs : List ℕ) → Takes 0 (call_at room fs left f vs)
unfolding call_at
takes_call room fs zero f vs = record { left = λ ls w. tt }
takes_call room fs (suc left) f vs = record {
  left = λ ls w. back_left room w.fuel ls _ ((takes_block room (call_at room fs left) (takes_call room fs left) (get_or fs f (nothing room)).body).left _ w);
}

ended_left : (f : ℕ) (r : Result ℕ) → Left 0 f r → (ended r).outcome ≡ stopped out_of_fuel → (ended r).world.fuel ≡ 0
ended_left f (goes v ls w) l e = cc
ended_left f (stops (trapped t) w) l e = cc
ended_left f (stops out_of_fuel w) l e = l

pub spent : (p : Program) (arrays : List ℕ) (fuel room : ℕ) → (run_of p arrays fuel room).outcome ≡ stopped out_of_fuel → (run_of p arrays fuel room).world.fuel ≡ 0
unfolding run_of
spent p arrays fuel room e =
    let w : World = record { fuel = fuel; log = []; arrays = arrays } in
    ended_left fuel (call_at room p.functions most_activations p.main [] [] w) ((takes_call room p.functions most_activations p.main []).left [] w) e
