-- The run of a settled program is the same whatever its lets start at, and whatever stands for a value that a function did not give.
--   gives_returns : a body that gives a value on every path does not come to its end without one
--   unseen        : the two runs are equal; by induction on the activations that are left, then on syntax
use Prim.Native.Nat.{ℕ, zero, suc, ◌<◌}
use mathlib.Core.Bool.{Bool, true, false, true≢false}
use mathlib.Core.List.{List, [], ◌++◌}
use mathlib.Core.Path.{◌≡◌, refl, sym, ap, subst, ◌∙◌}
use native.Mathlib.Omega.{arith}
use lib.ListN.{length, replicate, length-append, length-replicate, get_or-append}
use Rattle.word.specs.Choice.{both}
use Rattle.language.specs.Tokens.{In}
use Rattle.language.specs.Core.{Expr, Args, Stmt, Block, Function, Program}
use Rattle.language.specs.Core as C
use Rattle.language.specs.Meaning.{World, Result, goes, stops, Act, bind, ◌>>=◌, ◌>>◌, value, begin, branch, Flow, next, returned, followed, eval, evals, exec, block, ended, most_activations}
use Rattle.language.specs.Meaning as M
use Rattle.codegen.specs.Owed.{count}
use Rattle.elaboration.specs.Settled.{returns, ends_in_return, Gives, below, function_at, Reads, ReadsAll, after, SettledStmt, SettledBlock, Settled}
use Rattle.elaboration.specs.Otherwise.{Choices}
use Rattle.elaboration.specs.Otherwise as O
use Rattle.elaboration.proofs.Alike.{Agree, Alike, Like, Any, fewer_later, then, given, branched, begun, operate_alike, read_alike, write_alike, append_alike, fetch_alike, assign_alike, followed_alike, rounds_alike}

-- An action that does not go on to the next statement: it stops, or the function has returned.
abbrev Returned : Result Flow → Type 0
Returned (goes next ls w) = ⊥
Returned (goes (returned v) ls w) = Unit {0}
Returned (stops o w) = Unit {0}

record Returns (m : Act Flow) : Type 0 where
  from : (ls : List ℕ) (w : World) → Returned (m ls w)

then_returns : {A : Type 0} (m : Act A) {f : A → Act Flow} → ((a : A) → Returns (f a)) → Returns (m >>= f)
unfolding bind
then_returns {A} m {f} h = record { from = λ ls w. on (m ls w) }
  where
    on : (r : Result A) → Returned (bind r f)
    on (goes a ls w) = (h a).from ls w
    on (stops o w) = tt

branch_returns : (v : ℕ) {m n : Act Flow} → Returns m → Returns n → Returns (branch v m n)
branch_returns zero h k = k
branch_returns (suc v) h k = h

followed_returns : (f : Flow) {m : Act Flow} → Returns m → Returns (followed f m)
followed_returns next h = h
followed_returns (returned v) h = record { from = λ ls w. tt }

first_returns : {m : Act Flow} (n : Act Flow) → Returns m → Returns (m >>= λ f. followed f n)
unfolding bind
first_returns {m} n h = record { from = λ ls w. on (m ls w) (h.from ls w) }
  where
    on : (r : Result Flow) → Returned r → Returned (bind r (λ f. followed f n))
    on (goes next ls w) k = absurd k
    on (goes (returned v) ls w) k = tt
    on (stops o w) k = tt

never : {T : Type 0} → false ≡ true → T
never e = absurd (true≢false (sym e))

both_parts : (a : Bool) {b : Bool} → both a b ≡ true → (a ≡ true) × (b ≡ true)
both_parts true e = (refl, e)
both_parts false e = never e

module _ (room : ℕ) (call : ℕ → List ℕ → Act ℕ) where
  mutual
    unfolding exec returns

    exec_returns : (s : Stmt) → returns s ≡ true → Returns (exec room call s)
    exec_returns (C.put x e) h = never h
    exec_returns (C.store a i e) h = never h
    exec_returns (C.choose e a b) h =
        let k = both_parts (ends_in_return a) h in
        then_returns begin λ _. then_returns (eval room call e) λ v. branch_returns v (block_returns a k.0) (block_returns b k.1)
    exec_returns (C.while e b) h = never h
    exec_returns C.leave h = then_returns begin λ _. record { from = λ ls w. tt }
    exec_returns (C.give e) h = then_returns begin λ _. then_returns (eval room call e) λ v. record { from = λ ls w. tt }
    exec_returns (C.emit e) h = never h
    exec_returns (C.run f xs) h = never h

    block_returns : (b : Block) → ends_in_return b ≡ true → Returns (block room call b)
    block_returns C.end h = never h
    block_returns (C.then s C.end) h = first_returns (block room call C.end) (exec_returns s h)
    block_returns (C.then s (C.then t b)) h = then_returns (exec room call s) λ f. followed_returns f (block_returns (C.then t b) h)

  pub gives_returns : (b : Block) → Gives b → (ls ls' : List ℕ) (w w' : World) → block room call b ls w ≡ goes next ls' w' → ⊥
  gives_returns b g ls ls' w w' e = subst Returned e ((block_returns b g.ends).from ls w)

-- Calls that are alike: of as many values as there are parameters; the value is the same where the body gives one, and else nothing is said of it.
record Calls (functions : List Function) (call call' : ℕ → List ℕ → Act ℕ) : Type 0 where
  gives : (f : ℕ) (vs written : List ℕ) → length vs ≡ (function_at functions f).parameters → Gives (function_at functions f).body → Like Any written written (call f vs) (call' f vs)
  runs : (f : ℕ) (vs written : List ℕ) → length vs ≡ (function_at functions f).parameters → Like Any written written (call f vs >> value next) (call' f vs >> value next)

module _ (functions : List Function) (room : ℕ) (call call' : ℕ → List ℕ → Act ℕ) (calls : Calls functions call call') where
  module _ (written : List ℕ) where
    mutual
      unfolding eval Reads

      eval_alike : (e : Expr) → Reads functions written e → Like Any written written (eval room call e) (eval room call' e)
      eval_alike (C.number n) h = begun (given tt)
      eval_alike (C.local x) h = begun (fetch_alike x h)
      eval_alike (C.element a i) h = begun (then (eval_alike i h) λ k _. read_alike a k)
      eval_alike (C.call f xs) h = begun (then (evals_alike xs h.2) λ vs n. calls.gives f vs written (n ∙ h.1) h.0)
      eval_alike (C.unary o a) h = begun (then (eval_alike a h) λ x _. given tt)
      eval_alike (C.strict o a b) h = begun (then (eval_alike a h.0) λ x _. then (eval_alike b h.1) λ y _. operate_alike o x y)
      eval_alike (C.and a b) h = begun (then (eval_alike a h.0) λ x _. branched (Like Any written written) x (eval_alike b h.1) (given tt))
      eval_alike (C.or a b) h = begun (then (eval_alike a h.0) λ x _. branched (Like Any written written) x (given tt) (eval_alike b h.1))

      evals_alike : (xs : Args) → ReadsAll functions written xs → Like (λ vs. length vs ≡ count xs) written written (evals room call xs) (evals room call' xs)
      evals_alike C.none h = given refl
      evals_alike (C.more e xs) h = then (eval_alike e h.0) λ v _. then (evals_alike xs h.1) λ vs n. given (ap suc n)

  -- what is written stays so
  still : (written : List ℕ) (s : Stmt) (x : ℕ) → In x written → In x (after functions written s)
  unfolding after
  still written (C.put y e) x i = In.there i
  still written (C.store a k e) x i = i
  still written (C.choose e a b) x i = i
  still written (C.while e b) x i = i
  still written C.leave x i = i
  still written (C.give e) x i = i
  still written (C.emit e) x i = i
  still written (C.run f xs) x i = i

  mutual
    unfolding exec SettledStmt after

    exec_alike : (s : Stmt) (written : List ℕ) → SettledStmt functions written s → Like Any written (after functions written s) (exec room call s) (exec room call' s)
    exec_alike (C.put x e) written h = begun (then (eval_alike written e h) λ v _. then (assign_alike x v) λ _ _. given tt)
    exec_alike (C.store a i e) written h =
        begun (then (eval_alike written i h.0) λ k _. then (eval_alike written e h.1) λ v _. then (write_alike a k v) λ _ _. given tt)
    exec_alike (C.choose e a b) written h = begun (then (eval_alike written e h.0) λ v _. branched (Like Any written written) v (block_alike a written h.1) (block_alike b written h.2))
    exec_alike (C.while e b) written h =
        begun (record { from = λ ls ls' w g. (rounds_alike w.fuel (eval_alike written e h.0) (block_alike b written h.1)).from ls ls' w g })
    exec_alike C.leave written h = begun (given tt)
    exec_alike (C.give e) written h = begun (then (eval_alike written e h) λ v _. given tt)
    exec_alike (C.emit e) written h = begun (then (eval_alike written e h) λ v _. then (append_alike room v) λ _ _. given tt)
    exec_alike (C.run f xs) written h = begun (then (evals_alike written xs h.1) λ vs n. calls.runs f vs written (n ∙ h.0))

    -- a block leaves what was written before it
    block_alike : (b : Block) (written : List ℕ) → SettledBlock functions written b → Like Any written written (block room call b) (block room call' b)
    block_alike C.end written h = given tt
    block_alike (C.then s b) written h = then (exec_alike s written h.0) λ f _. fewer_later (still written s) (followed_alike f (block_alike b (after functions written s) h.1))

-- what is written where a body begins are the slots of its parameters
below_bound : (n x : ℕ) → In x (below n) → x < n
below_bound (suc n) x (In.here e) = omega arith
below_bound (suc n) x (In.there i) = omega (arith, below_bound n x i)
below_bound zero x x3 = elim x3 [ ]

-- The end of a run looks at no value.
ended_alike : {written : List ℕ} (r r' : Result ℕ) → Alike Any written (bind r (λ _. value next)) (bind r' (λ _. value next)) → ended r ≡ ended r'
unfolding bind
ended_alike (goes v ls w) (goes v' ls' w') (Alike.go p h) = refl
ended_alike (stops o w) (stops o' w') Alike.stop = refl
ended_alike {written = written} (goes v ls w) (stops o' w') x'' = elim x'' [ ]
ended_alike {written = written} (stops o w) (goes v' ls' w') x3 = elim x3 [ ]

module _ (choices : Choices) (room : ℕ) where
  -- the frames of a call: its arguments are what is written
  frames_agree : (vs : List ℕ) (w : World) (g : Function) → length vs ≡ g.parameters → Agree (below g.parameters) (O.frame choices room vs w g) (vs ++ replicate g.lets 0)
  unfolding O.frame
  frames_agree vs w g e =
      record {
        as_long = simp length-append (omega (arith, choices.as_many w g.lets, length-replicate {A = ℕ} g.lets 0));
        same = λ x i. get_or-append vs (choices.start w g.lets) 0 x (inside x i) ∙ sym (get_or-append vs (replicate g.lets 0) 0 x (inside x i));
      }
    where
      inside : (x : ℕ) → In x (below g.parameters) → x < length vs
      inside x i = omega (arith, below_bound g.parameters x i)

  -- back to the caller's frames
  back_gives : {written v ls ls' : List ℕ} {r r' : Result Flow} → Agree written ls ls' → ((l : List ℕ) (w : World) → r ≡ goes next l w → ⊥) → Alike Any v r r' →
      Alike Any written (O.back choices room ls r) (M.back room ls' r')
  unfolding O.back M.back
  back_gives h n (Alike.go {a = next} {ls} {w} p g) = absurd (n ls w refl)
  back_gives h n (Alike.go {a = returned x} p g) = Alike.go tt h
  back_gives h n Alike.stop = Alike.stop

  back_runs : {written v ls ls' : List ℕ} {r r' : Result Flow} → Agree written ls ls' → Alike Any v r r' →
      Alike Any written (bind (O.back choices room ls r) (λ _. value next)) (bind (M.back room ls' r') (λ _. value next))
  unfolding O.back M.back bind
  back_runs h (Alike.go p g) = Alike.go tt h
  back_runs h Alike.stop = Alike.stop

  module _ (p : Program) (settled : Settled p) where
    abbrev at : ℕ → Function
    at f = function_at p.functions f

    abbrev other : ℕ → ℕ → List ℕ → Act ℕ
    other left = O.call_at choices room p.functions left

    abbrev usual : ℕ → ℕ → List ℕ → Act ℕ
    usual left = M.call_at room p.functions left

    body_alike : (left f : ℕ) (vs : List ℕ) (w : World) → length vs ≡ (at f).parameters → Calls p.functions (other left) (usual left) →
        Alike Any (below (at f).parameters) (block room (other left) (at f).body (O.frame choices room vs w (at f)) w) (block room (usual left) (at f).body (vs ++ replicate (at f).lets 0) w)
    body_alike left f vs w e ih =
        (block_alike p.functions room (other left) (usual left) ih (at f).body (below (at f).parameters) (settled.each f)
        ).from (O.frame choices room vs w (at f)) (vs ++ replicate (at f).lets 0) w (frames_agree vs w (at f) e)

    calls_alike : (left : ℕ) → Calls p.functions (other left) (usual left)
    unfolding O.call_at M.call_at bind
    calls_alike zero = record { gives = λ f vs written e g. record { from = λ ls ls' w h. Alike.stop }; runs = λ f vs written e. record { from = λ ls ls' w h. Alike.stop } }
    calls_alike (suc left) =
        record {
          gives =
              λ f vs written e g. record {
                from =
                    λ ls ls' w h. back_gives h (λ l u. gives_returns room (other left) (at f).body g (O.frame choices room vs w (at f)) l w u) (body_alike left f vs w e (calls_alike left));
              };
          runs = λ f vs written e. record { from = λ ls ls' w h. back_runs h (body_alike left f vs w e (calls_alike left)) };
        }

pub unseen : (p : Program) → Settled p → (choices : Choices) (arrays : List ℕ) (fuel room : ℕ) → O.run_of choices room p arrays fuel ≡ M.run_of p arrays fuel room
unfolding O.run_of M.run_of
unseen p settled choices arrays fuel room =
    ended_alike _ _ (((calls_alike choices room p settled most_activations).runs p.main [] [] (sym settled.main)).from [] [] _ (record { as_long = refl; same = λ x i. refl }))
