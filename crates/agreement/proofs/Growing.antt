-- The machine's log only grows: what it has logged under a limit is the beginning of what it logs under a greater one.
use mathlib.Core.Path.{◌≡◌, refl, sym, ap, ◌∙◌}
use mathlib.Core.List.{List, [], append-nil}
use Prim.Native.Nat.{ℕ, ◌+◌, ◌-◌, ◌≤◌}
use native.Mathlib.Omega.{arith}
use lib.ListN.{length}
use Rattle.processor.specs.declared.Status.{Status}
use Rattle.processor.specs.declared.Status.TheVariants.{Going, Exit, Trap, Fault, Limit}
use Rattle.processor.specs.Machine.{Machine, start_of}
use Rattle.processor.specs.Execute.{goto}
use Rattle.processor.specs.Run.{Run, step_of, run_of, resumed, onward}
use Rattle.processor.specs.Image.{run_image}
use Rattle.processor.proofs.Kept.{Extends}
use Rattle.processor.proofs.Laws.{step_keeps, run_keeps, run_add}
use Rattle.claims.specs.Keeps.{Begins}

extended : (l m : List ℕ) → Extends l m → Begins l m
extended l m e = (e.more, sym e.is)

pub step_grows : (size room : ℕ) (m : Machine) → Begins m.log (step_of size room m).log
step_grows size room m = extended _ _ (step_keeps size room m).log

pub run_grows : (size room n : ℕ) (m : Machine) (k : ℕ) → Begins m.log (run_of size room n m k).machine.log
run_grows size room n m k = extended _ _ (run_keeps size room n m k).log

-- a run that is gone on with
onward_grows : (size room b : ℕ) (r : Run) → Begins r.machine.log (onward size room b r).machine.log
onward_grows size room b r = go r.machine.status
  where
    stays : Begins r.machine.log r.machine.log
    stays = ([], append-nil r.machine.log)

    go : (s : Status) → Begins r.machine.log (resumed size room b r s).machine.log
    go Going = stays
    go Exit = stays
    go (Trap t) = stays
    go (Fault n) = stays
    go Limit = run_grows size room b (goto r.machine r.machine.pc) r.steps

pub image_grows : (image input : List ℕ) (room a b : ℕ) → a ≤ b → Begins (run_image image input room a).machine.log (run_image image input room b).machine.log
unfolding run_image start_of
image_grows image input room a b h =
    let e : a + (b - a) ≡ b = omega arith in
    let g = onward_grows (length image) room (b - a) (run_image image input room a) in
    (g.0, g.1 ∙ ap (λ (r : Run). r.machine.log) (sym (run_add (length image) room a (b - a) (start_of image input) 0 refl)) ∙ ap (λ (n : ℕ). (run_image image input room n).machine.log) e)
