-- Runs of document 01 §5 with two choices that no sentence of it makes, made otherwise: what the lets of an activation start at, and what stands for
-- the value of a function that runs off the end of its body. `language/specs/Meaning.antt` takes 0 for both.
use Rattle.std.specs.Prelude.{ℕ, zero, suc, List, [], ◌++◌, ◌≡◌, length, get_or}
use Rattle.language.specs.Core.{Function, Program}
use Rattle.language.specs.Meaning.{World, trapped, too_many_activations, most_activations, Result, goes, stops, Act, Flow, next, returned, block, Run, ended}
use Rattle.codegen.specs.Owed.{nothing}

-- The choices may depend on the whole world at that moment, as what an old frame left behind does.
pub record Choices : Type 0 where
  pub start : World → ℕ → List ℕ
  pub as_many : (w : World) (n : ℕ) → length (start w n) ≡ n
  pub missing : World → ℕ

module _ (choices : Choices) (room : ℕ) where
  abbrev pub value_of : Flow → World → ℕ
  value_of next w = choices.missing w
  value_of (returned v) w = v

  -- the caller's locals are back
  unfoldable pub back : List ℕ → Result Flow → Result ℕ
  back ls (goes f ls' w) = goes (value_of f w) ls w
  back ls (stops o w) = stops o w

  -- the arguments, then the lets
  unfoldable pub frame : List ℕ → World → Function → List ℕ
  frame vs w g = vs ++ choices.start w g.lets

  unfoldable pub call_at : List Function → ℕ → ℕ → List ℕ → Act ℕ
  call_at fs zero f vs ls w = stops (trapped too_many_activations) w
  call_at fs (suc left) f vs ls w =
      let g : Function = get_or fs f nothing in
      back ls (block room (call_at fs left) g.body (frame vs w g) w)

  unfoldable pub run_of : Program → List ℕ → ℕ → Run
  run_of p arrays fuel =
      ended (call_at p.functions most_activations p.main [] [] (record { fuel = fuel; log = []; arrays = arrays }))
