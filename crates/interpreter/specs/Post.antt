-- What the interpreter's functions ensure: the result of the flat meaning, as an outcome, and the state as the lent buffers hold it.
-- An activation's room begins with its locals; its operands follow, and above those the room of the calls that it makes.
use Rattle.std.specs.Prelude.{◌≡◌, List, [], ◌∷◌, ℕ, zero, suc, ◌+◌, ◌-◌, ◌*◌, ◌≤◌, ◌<◌, length, get_or, take, drop, Option, None, Some, Ok, Err, MatchResult, IfOk}
use Rattle.std.specs.Prelude as P
use Rattle.language.specs.Rules.{most_locals}
use Rattle.language.specs.Meaning.{World, Result, goes, stops, trapped, out_of_fuel, Act, bind, value, write, append, Flow, next, returned, Outcome, finished, stopped, most_activations}
use Rattle.language.specs.Meaning as M
use Rattle.flat.specs.Items.{Kind, unknown, top, Onward, push, most_operands, step, scan, evaluate}
use Rattle.flat.specs.Numbers.{trap_number}
use Rattle.flat.specs.declared.UnknownNumber.{UnknownNumber}
use Rattle.flat.specs.declared.trap.Trap.TheVariants.{Malformed}
use Rattle.flat.specs.Statements.{Block, fexec, fblock, fcall_at}
use Rattle.flat.specs.Words.{unaries, stricts, items_of, word, a, b, first_count, second_count, first_end, second, statement_of, function_of, block_of, most_nesting, flat_run}
use Rattle.interpreter.specs.declared.Stop.{Stop}
use Rattle.interpreter.specs.declared.Stop.TheVariants.{Trapped, OutOfFuel}
use Rattle.interpreter.specs.declared.items.Move.{Move}
use Rattle.interpreter.specs.declared.walk.Step.{Step}
use Rattle.interpreter.specs.declared.Outcome as O
use Rattle.interpreter.specs.declared.Outcome.TheVariants as E

-- the world that fuel, a log of so many words and arrays are
abbrev pub world : ℕ → ℕ → List ℕ → List ℕ → World
world fuel logged log arrays = record { fuel = fuel; log = take logged log; arrays = arrays }

-- h operands above c locals, the last first
unfoldable pub operands_at : List ℕ → ℕ → ℕ → List ℕ
operands_at work c zero = []
operands_at work c (suc h) = get_or work (c + h) 0 ∷ operands_at work c h

-- how it stops
abbrev pub stop_of : Stop → M.Stop
stop_of (Trapped t) = trapped (trap_number t)
stop_of OutOfFuel = out_of_fuel

-- a number of no kind and no operator stops as malformed
abbrev pub malformed_of : UnknownNumber → Stop → Type 0
malformed_of n s = s ≡ Trapped Malformed

abbrev pub value_of : P.Result ℕ Stop → List ℕ → World → Result ℕ
value_of (Ok v) ls w = goes v ls w
value_of (Err s) ls w = stops (stop_of s) w

-- an operator with two sides
pub record Strictly (op a b : ℕ) (o : P.Result ℕ Stop) : Type 0 where
  pub same : (invoke : ℕ → List ℕ → Act ℕ) (vs : List ℕ) (k : Onward) (ls : List ℕ) (w : World) → a ≡ top (drop 1 vs) → b ≡ top vs →
      step invoke (get_or stricts op unknown) vs k ls w ≡ bind (value_of o ls w) (push (drop 2 vs) k)

-- an operator with one side
pub record Unarily (op a : ℕ) (o : P.Result ℕ Stop) : Type 0 where
  pub same : (invoke : ℕ → List ℕ → Act ℕ) (vs : List ℕ) (k : Onward) (ls : List ℕ) (w : World) → a ≡ top vs →
      step invoke (get_or unaries op unknown) vs k ls w ≡ bind (value_of o ls w) (push (drop 1 vs) k)

-- how many words of room an activation takes at most
abbrev pub frame_words : ℕ
frame_words = most_locals + most_operands

-- the room that an activation has for c locals and h operands
pub record Frame (c h : ℕ) (work : List ℕ) : Type 0 where
  pub locals : c ≤ most_locals
  pub operands : h ≤ most_operands
  pub room : frame_words ≤ length work

-- what goes on with a result, unless it stopped
abbrev pub onwards : {A B : Type 0} → P.Result A Stop → World → (A → Result B) → Result B
onwards (Ok a) w r = r a
onwards (Err s) w r = stops (stop_of s) w

-- a value pushed on h operands: how many there are then
pub record Pushes (work : List ℕ) (c h v : ℕ) (o : P.Result ℕ Stop) (work' : List ℕ) : Type 0 where
  pub same : (k : Onward) (ls : List ℕ) (w : World) → push (operands_at work c h) k v ls w ≡ onwards o w (λ h'. k 0 (operands_at work' c h') ls w)
  pub locals : take c work' ≡ take c work
  pub fits : IfOk o (λ h'. h' ≤ most_operands)

-- an item that calls nothing, on h operands, whatever follows: how many items are skipped, and the operands after it
pub record Moves (work : List ℕ) (c h : ℕ) (arrays : List ℕ) (i : Kind) (o : P.Result Move Stop) (work' : List ℕ) : Type 0 where
  pub same : (invoke : ℕ → List ℕ → Act ℕ) (k : Onward) (fuel : ℕ) (log : List ℕ) →
      step invoke i (operands_at work c h) k (take c work) (record { fuel = fuel; log = log; arrays = arrays }) ≡
      onwards o (record { fuel = fuel; log = log; arrays = arrays }) (λ m. k m.skip (operands_at work' c m.h) (take c work') (record { fuel = fuel; log = log; arrays = arrays }))
  pub fits : IfOk o (λ m. m.h ≤ most_operands)

-- what begins is paid for, or there is not so much fuel, and then none is left
abbrev pub Pays : {A : Type 0} → ℕ → ℕ → P.Result A Stop → ℕ → Type 0
Pays charge fuel o fuel' = MatchResult o (λ _. (charge ≤ fuel) × (fuel' ≡ fuel - charge)) (λ s. (s ≡ OutOfFuel) × ((fuel < charge) × (fuel' ≡ 0)))

-- Calls, statements and blocks. `t` is all words, `room` the log's room, and `left` how many more activations may be made.

abbrev pub invoke_of : List ℕ → ℕ → ℕ → ℕ → List ℕ → Act ℕ
invoke_of t room left = fcall_at room (function_of t) left

-- the room that an activation with c locals has, its own and that of the calls it makes, and the log's
pub record Roomy (c left room : ℕ) (work log : List ℕ) : Type 0 where
  pub locals : c ≤ most_locals
  pub frames : frame_words * (left + 1) ≤ length work
  pub logs : room ≤ length log

-- the same of an activation that isn't made yet, whose n arguments begin its room
pub record Callable (n left room : ℕ) (work log : List ℕ) : Type 0 where
  pub arguments : n ≤ length work
  pub frames : frame_words * left ≤ length work
  pub logs : room ≤ length log

-- the log from n words on to n': what stands above them stays, and there are no more than it has room for
pub record Grows (room n : ℕ) (log : List ℕ) (n' : ℕ) (log' : List ℕ) : Type 0 where
  pub more : n ≤ n'
  pub above : drop n' log' ≡ drop n' log
  pub within : n ≤ room → n' ≤ room

-- where a statement leads: out of the function with a value, or on to the next one
abbrev pub flow_of : Option ℕ → Flow
flow_of None = next
flow_of (Some v) = returned v

abbrev pub flows : P.Result (Option ℕ) Stop → List ℕ → World → Result Flow
flows (Ok r) ls w = goes (flow_of r) ls w
flows (Err s) ls w = stops (stop_of s) w

-- one item of a scan with n items from ws on still to do: which are left, and the operands then
pub record Steps (t : List ℕ) (room left n : ℕ) (ws : List ℕ) (c h : ℕ) (work : List ℕ) (w : World) (o : P.Result Step Stop) (work' : List ℕ) (w' : World) : Type 0 where
  pub same : scan (invoke_of t room left) (items_of n ws) 0 (operands_at work c h) (take c work) w ≡
      onwards o w' (λ s. scan (invoke_of t room left) (items_of s.at.n (drop s.at.p t)) 0 (operands_at work' c s.h) (take c work') w')
  pub fits : IfOk o (λ s. s.h ≤ most_operands)
  pub fewer : IfOk o (λ s. s.at.n < n)

-- an item, a call too, whatever follows: how many items are skipped, and the operands after it
pub record Acts (t : List ℕ) (room left : ℕ) (i : Kind) (c h : ℕ) (work : List ℕ) (w : World) (o : P.Result Move Stop) (work' : List ℕ) (w' : World) : Type 0 where
  pub same : (k : Onward) → step (invoke_of t room left) i (operands_at work c h) k (take c work) w ≡ onwards o w' (λ m. k m.skip (operands_at work' c m.h) (take c work') w')
  pub fits : IfOk o (λ m. m.h ≤ most_operands)

-- a call with the arguments vs
pub record Calls (t : List ℕ) (room left f : ℕ) (vs : List ℕ) (w : World) (o : P.Result ℕ Stop) (w' : World) : Type 0 where
  pub same : (ls : List ℕ) → invoke_of t room left f vs ls w ≡ value_of o ls w'

-- n items from ws on
pub record Scans (t : List ℕ) (room left n : ℕ) (ws ls : List ℕ) (w : World) (o : P.Result ℕ Stop) (ls' : List ℕ) (w' : World) : Type 0 where
  pub same : evaluate (invoke_of t room left) (items_of n ws) ls w ≡ value_of o ls' w'

-- n statements from ws on, where blocks may nest so deep
pub record Blocks (t : List ℕ) (room left depth n : ℕ) (ws ls : List ℕ) (w : World) (fl : P.Result (Option ℕ) Stop) (ls' : List ℕ) (w' : World) : Type 0 where
  pub same : fblock room (invoke_of t room left) (block_of depth n ws) ls w ≡ flows fl ls' w'

-- the statement at ws
pub record Execs (t : List ℕ) (room left depth : ℕ) (ws ls : List ℕ) (w : World) (fl : P.Result (Option ℕ) Stop) (ls' : List ℕ) (w' : World) : Type 0 where
  pub same : fexec room (invoke_of t room left) (statement_of (block_of depth) (word ws 0) ws) ls w ≡ flows fl ls' w'

-- the blocks of the statement at ws
abbrev pub first_block : ℕ → List ℕ → Block
first_block depth ws = block_of depth (first_count ws) (drop (first_end ws) ws)

abbrev pub second_block : ℕ → List ℕ → Block
second_block depth ws = block_of depth (second_count ws) (drop (first_end ws + a ws) ws)

-- the rest of a store at ws after its index's value: the second expression, and the element set
pub record Stores (t : List ℕ) (room left : ℕ) (ws : List ℕ) (i : ℕ) (ls : List ℕ) (w : World) (fl : P.Result (Option ℕ) Stop) (ls' : List ℕ) (w' : World) : Type 0 where
  pub same : bind (evaluate (invoke_of t room left) (second ws) ls w) (λ v ls₁ w₁. bind (write (record { offset = a ws; size = b ws }) i v ls₁ w₁) (λ _. value next)) ≡ flows fl ls' w'

-- a value logged
pub record Emits {A : Type 0} (room v : ℕ) (w : World) (o : P.Result A Stop) (w' : World) : Type 0 where
  pub same : (ls : List ℕ) → bind (append room v ls w) (λ _. value next) ≡ onwards o w' (λ _. goes next ls w')

-- function f's words: where its body is, how many statements it has, its lets
pub record Heads (t : List ℕ) (f place statements lets : ℕ) : Type 0 where
  pub body : (function_of t f).body ≡ block_of most_nesting statements (drop place t)
  pub locals : (function_of t f).lets ≡ lets

-- The whole

-- the room that 64 activations take
abbrev pub working_room : ℕ
working_room = most_activations * frame_words

abbrev pub outcome_of : O.Outcome → Outcome
outcome_of E.Finished = finished
outcome_of (E.Trapped n) = stopped (trapped n)
outcome_of E.OutOfFuel = stopped out_of_fuel

abbrev pub ended_of : P.Result ℕ Stop → O.Outcome
ended_of (Ok v) = E.Finished
ended_of (Err (Trapped t)) = E.Trapped (trap_number t)
ended_of (Err OutOfFuel) = E.OutOfFuel

abbrev pub IsOutcome : P.Result ℕ Stop → O.Outcome → Type 0
IsOutcome called o = o ≡ ended_of called

-- a run of the words t: its outcome, fuel, log and arrays; the log stands first in its buffer, and the rest of that is as it was
pub record Runs (t : List ℕ) (room fuel : ℕ) (arrays log : List ℕ) (o : O.Outcome) (fuel' logged : ℕ) (arrays' log' : List ℕ) : Type 0 where
  pub same : flat_run t arrays fuel room ≡ record { outcome = outcome_of o; world = world fuel' logged log' arrays' }
  pub within : logged ≤ room
  pub above : drop logged log' ≡ drop logged log
