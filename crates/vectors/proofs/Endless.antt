-- `while true { }` never stops. No fuel is enough for its run; so, by claim 3, its image neither exits nor traps, never faults, and logs nothing. What is left
-- is the limit.
use mathlib.Core.Bool.{Bool, true, false}
use mathlib.Core.List.{List, [], ◌∷◌, ◌++◌}
use mathlib.Core.Logic.{◌⊎◌, inl, inr}
use mathlib.Core.Option.{some}
use mathlib.Core.Path.{◌≡◌, refl, sym, ap, ◌∙◌}
use Prim.Native.Nat.{ℕ, zero, suc, ◌+◌}
use native.Mathlib.Numerals.{unary_clauses}
use native.Mathlib.Omega.{arith}
use lib.ListN.{length}
use Rattle.word.specs.Bytes.{bytes_of_words, words_of_bytes}
use Rattle.word.specs.Choice.{pick}
use Rattle.language.specs.Tree.{Item}
use Rattle.language.specs.Tokens.{Answer.good}
use Rattle.language.specs.Core.{Program}
use Rattle.language.specs.Core as C
use Rattle.language.specs.Rules.{Ruled.keeps, elaborate}
use Rattle.language.specs.Text.{Accepted}
use Rattle.language.specs.Meaning.{World, out_of_fuel, Result, goes, stops, Act, bind, begin, Flow, next, followed, rounds, eval, exec, block, back, call_at, stopped, Run, ended, run_of}
use Rattle.processor.specs.declared.Status.{Status}
use Rattle.processor.specs.declared.Status.TheVariants.{Going, Exit, Trap, Fault, Limit}
use Rattle.processor.specs.Machine.{Machine, start_of}
use Rattle.processor.specs.Run.{step_of, is_going, counted}
use Rattle.processor.specs.Run as M
use Rattle.processor.specs.Image.{run_image, arrays_of}
use Rattle.processor.proofs.Onward.{run_zero, run_suc, Unlimited, step_unlimited}
use Rattle.tokens.proofs.Lists.{clash}
use Rattle.grammar.specs.Parse.{tree_of}
use Rattle.grammar.proofs.Main.{tree_sound}
use Rattle.claims.specs.Keeps.{stop_for, Input, Keeps}
use Rattle.codegen.specs.Image.{image}
use Rattle.codegen.specs.Costs.{costs}
use Rattle.elaboration.proofs.Kept.{kept_short}
use Rattle.vectors.specs.Does.{row_of, panel, NeverStops}
use Rattle.vectors.specs.Vectors.{main}
use Rattle.vectors.proofs.Judge.{judge}

-- The text's program, which the checker computes.

abbrev endless : Program
endless = record { functions = record { parameters = 0; lets = 0; body = C.then (C.while (C.number 1) C.end) C.end } ∷ []; main = 0; elements = 0 }

read : {text : List ℕ} {items : List Item} {p : Program} → tree_of text ≡ good items → elaborate items (length text) ≡ keeps p → Accepted text p
read {text} {items} e r = record { items = items; parses = tree_sound text items e; ruled = r }

accepted : Accepted (main "while true { }") endless
unfolding judge
accepted = read refl refl

kept : Keeps costs endless (image endless)
unfolding judge
kept = kept_short (main "while true { }") endless accepted (omega arith)

-- Its run is out of fuel: a round takes one unit, and there are as many rounds as there is fuel.

abbrev world : ℕ → World
world n = record { fuel = n; log = []; arrays = [] }

turns : (room : ℕ) (call : ℕ → List ℕ → Act ℕ) (n : ℕ) (ls : List ℕ) →
    rounds n (eval room call (C.number 1)) (block room call C.end) ls (world n) ≡ stops out_of_fuel (world 0)
unfolding rounds bind begin eval block
turns room call zero ls = refl
turns room call (suc n) ls = turns room call n ls

spent : (fuel room : ℕ) → run_of endless [] fuel room ≡ record { outcome = stopped out_of_fuel; world = world 0 }
unfolding run_of call_at back bind begin exec block
spent zero room = refl
spent (suc n) room = ap (λ (r : Result Flow). ended (back room [] (bind r (λ (f : Flow). followed f (goes next))))) (turns room _ n [])

-- A run on the processor ends by itself, or at its limit after so many steps.

abbrev Ends : ℕ → M.Run → Status → Type 0
Ends n r Going = ⊥
Ends n r Exit = Unit {0}
Ends n r (Trap t) = Unit {0}
Ends n r (Fault f) = Unit {0}
Ends n r Limit = r.steps ≡ n

abbrev Ended : ℕ → M.Run → Type 0
Ended n r = Ends n r r.machine.status

stop_ends : (n : ℕ) (r : M.Run) (s : Status) → is_going s ≡ false → Unlimited s → Ends n r s
stop_ends n r Going e h = clash e
stop_ends n r Exit e h = tt
stop_ends n r (Trap t) e h = tt
stop_ends n r (Fault f) e h = tt
stop_ends n r Limit e h = absurd h

either_ends : (n : ℕ) (x : Bool) (a b : M.Run) → Ended n a → (x ≡ false → Ended n b) → Ended n (pick x a b)
either_ends n true a b h g = h
either_ends n false a b h g = g refl

run_ends : (size room n : ℕ) (m : Machine) (k l : ℕ) → k + n ≡ l → Ended l (M.run_of size room n m k)
run_ends size room zero m k l e = rw (run_zero size room m k) (omega arith)
run_ends size room (suc n) m k l e =
    let next : Machine = step_of size room m in
    let stop : M.Run = record { machine = next; steps = k + counted next.status } in
    rw (run_suc size room n m k)
    (either_ends l (is_going next.status) _ _ (run_ends size room n next (k + 1) l (omega arith)) (λ g. stop_ends l stop next.status g (step_unlimited size room m)))

-- Its image runs into the limit.

given : Input endless []
given = record { one_each = refl; words = tt }

no_stop : {s : Status} → stop_for (stopped out_of_fuel) ≡ some s → ⊥
no_stop e = let z : ◌≡◌ {A = ℕ} 0 1 = cc in omega arith

nothing_before : (l r : List ℕ) → l ++ r ≡ [] → l ≡ []
nothing_before [] r e = refl
nothing_before (x ∷ l) r e = absurd (let z : ◌≡◌ {A = ℕ} 0 1 = cc in omega arith)

module _ (room limit : ℕ) where
  abbrev ran : M.Run
  ran = panel endless [] room limit

  stops_not : (stop : Status) → (stop ≡ Exit) ⊎ ((t : ℕ) × (stop ≡ Trap t)) → ran.machine.status ≡ stop → ⊥
  stops_not stop h e =
      let b = kept.ends_back [] limit room given stop h e in
      no_stop (sym (ap (λ (r : Run). stop_for r.outcome) (spent b.0 room)) ∙ b.2)

  at_limit : (s : Status) → ran.machine.status ≡ s → Ends limit ran s → (s ≡ Limit) × (ran.steps ≡ limit)
  at_limit Going e h = absurd h
  at_limit Exit e h = absurd (stops_not Exit (inl refl) e)
  at_limit (Trap t) e h = absurd (stops_not (Trap t) (inr (t, refl)) e)
  at_limit (Fault n) e h = absurd (kept.never_faults [] limit room given n e)
  at_limit Limit e h = (refl, h)

  limited : (ran.machine.status ≡ Limit) × (ran.steps ≡ limit)
  unfolding run_image
  limited = at_limit ran.machine.status refl (run_ends (length (image endless)) room limit (start_of (image endless) (bytes_of_words [])) 0 limit (omega arith))

  silent : ran.machine.log ≡ []
  silent =
      let b = (kept.same_forever [] room given).1 limit in
      nothing_before ran.machine.log b.2.0 (b.2.1 ∙ ap (λ (r : Run). r.world.log) (spent b.0 room))

pub never_stops : NeverStops (main "while true { }")
unfolding arrays_of words_of_bytes
never_stops = record {
  program = endless;
  accepted = accepted;
  runs = λ fuel room. simp unary_clauses at (ap (row_of fuel) (spent fuel room));
  stops = λ room limit. (limited room limit).0;
  log = silent;
  arrays = λ room limit. refl;
  steps = λ room limit. (limited room limit).1;
}
