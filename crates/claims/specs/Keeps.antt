-- Claim 3: the compiler keeps the meaning. Same finish or trap, log and arrays, both ways; endless runs log the same forever; never a fault;
-- and the machine's steps are bounded by the source's. The source is document 01 §5 (language), the machine document 03 (processor):
-- its bytes, its words, its memory, its log. Nothing stands between them.
use Rattle.std.specs.Prelude.{true, List, [], ◌∷◌, ◌++◌, ◌⊎◌, ◌≡◌, ℕ, ◌+◌, ◌-◌, ◌*◌, ◌^◌, ◌≤◌, ◌<◌, length}
use Rattle.std.proofs.Math.Option.{Option, none, some}
use Rattle.word.specs.Bytes.{bytes_of_words}
use Rattle.language.specs.Core.{Program}
use Rattle.language.specs.Meaning.{trapped, out_of_fuel, Outcome, finished, stopped, Run, run_of}
use Rattle.processor.specs.declared.Status.{Status}
use Rattle.processor.specs.declared.Status.TheVariants.{Exit, Trap, Fault, Limit}
use Rattle.processor.specs.Run as M
use Rattle.processor.specs.Image.{longest_code, fits, run_image, arrays_of}

-- What the time bounds depend on: so many machine steps for each unit of fuel, and so many besides;
-- so many units of fuel for each machine step, and so many besides.
pub record Costs : Type 0 where
  pub K : ℕ
  pub K0 : ℕ
  pub C : ℕ
  pub C0 : ℕ

-- how the machine stops for an outcome of the source: exit when it finishes, trap t when it traps with t
abbrev pub stop_for : Outcome → Option Status
stop_for finished = some Exit
stop_for (stopped (trapped t)) = some (Trap t)
stop_for (stopped out_of_fuel) = none

-- the log l is the beginning of the log m, or all of it
abbrev pub Begins : List ℕ → List ℕ → Type 0
Begins l m = (rest : List ℕ) × (l ++ rest ≡ m)

-- each number of a list is below this one
abbrev pub Below : ℕ → List ℕ → Type 0
Below n [] = Unit {0}
Below n (w ∷ ws) = (w < n) × Below n ws

-- the initial contents of all arrays of a program: one word per element
pub record Input (p : Program) (arrays : List ℕ) : Type 0 where
  pub one_each : length arrays ≡ p.elements
  pub words : Below (2 ^ 32) arrays

module _ (costs : Costs) (p : Program) (image : List ℕ) where
  -- the source's run, and the fuel that it used
  abbrev pub source : List ℕ → ℕ → ℕ → Run
  source arrays fuel room = run_of p arrays fuel room

  abbrev pub used : List ℕ → ℕ → ℕ → ℕ
  used arrays fuel room = fuel - (source arrays fuel room).world.fuel

  -- the machine's run of the image, whose input block holds the arrays
  abbrev pub machine : List ℕ → ℕ → ℕ → M.Run
  machine arrays limit room = run_image image (bytes_of_words arrays) room limit

  -- the machine stops so, with the log and the arrays of the source
  pub record Alike (stop : Status) (r : Run) (m : M.Run) : Type 0 where
    pub stops : m.machine.status ≡ stop
    pub log : m.machine.log ≡ r.world.log
    pub arrays : arrays_of (4 * p.elements) m.machine ≡ r.world.arrays

  pub record Keeps : Type 0 where
    -- the image is one that document 03 §5 lets run: bytes, whole words of them, and not too many
    pub bytes : Below 256 image
    pub runnable : fits longest_code (length image) ≡ true
    -- A source run that finishes, or traps with t: under every limit that is large enough the machine exits, or traps with t, with the same log and
    -- arrays, after at most K steps for each unit of fuel used and K0 besides.
    pub ends : (arrays : List ℕ) (fuel room : ℕ) → Input p arrays → (stop : Status) → stop_for (source arrays fuel room).outcome ≡ some stop →
        (limit : ℕ) → costs.K * used arrays fuel room + costs.K0 ≤ limit →
        Alike stop (source arrays fuel room) (machine arrays limit room) ×
        ((machine arrays limit room).steps ≤ costs.K * used arrays fuel room + costs.K0)
    -- A source run that is out of fuel: the machine is still running, with the same log and arrays, after some number of steps: at least
    -- (fuel - C0) / C of them, and at most K * fuel + K0.
    pub goes_on : (arrays : List ℕ) (fuel room : ℕ) → Input p arrays → (source arrays fuel room).outcome ≡ stopped out_of_fuel →
        (limit : ℕ) × (fuel ≤ costs.C * limit + costs.C0) × (limit ≤ costs.K * fuel + costs.K0) ×
        Alike Limit (source arrays fuel room) (machine arrays limit room)
    -- A machine run that stops with exit or trap t: with some fuel, which the limit bounds, the source finishes, or traps with t, with the same log and
    -- arrays.
    pub ends_back : (arrays : List ℕ) (limit room : ℕ) → Input p arrays → (stop : Status) →
        (stop ≡ Exit) ⊎ ((t : ℕ) × (stop ≡ Trap t)) → (machine arrays limit room).machine.status ≡ stop →
        (fuel : ℕ) × (fuel ≤ costs.C * limit + costs.C0) × (stop_for (source arrays fuel room).outcome ≡ some stop) ×
        Alike stop (source arrays fuel room) (machine arrays limit room)
    -- No limit gives a fault.
    pub never_faults : (arrays : List ℕ) (limit room : ℕ) → Input p arrays → (n : ℕ) → (machine arrays limit room).machine.status ≡ Fault n → ⊥
    -- The logs agree forever: each one's log at any moment is the beginning of the other's at some moment, which that moment bounds.
    pub same_forever : (arrays : List ℕ) (room : ℕ) → Input p arrays →
        ((fuel : ℕ) → (limit : ℕ) × (limit ≤ costs.K * fuel + costs.K0) × Begins (source arrays fuel room).world.log (machine arrays limit room).machine.log) ×
        ((limit : ℕ) → (fuel : ℕ) × (fuel ≤ costs.C * limit + costs.C0) × Begins (machine arrays limit room).machine.log (source arrays fuel room).world.log)
