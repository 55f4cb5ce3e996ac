-- What code proved on the symbolic processor is cited for: document 03's run of its image, from the start and under any limit.
use Prim.Native.Nat.{ℕ, ◌+◌, ◌-◌, ◌*◌, ◌%◌, ◌^◌, ◌≤◌, ◌<◌}
use mathlib.Core.Path.{◌≡◌, refl, sym, ap, ◌∙◌, subst}
use mathlib.Core.Bool.{true}
use mathlib.Core.List.{List}
use native.Mathlib.Nat.{zero-add}
use native.Mathlib.Omega.{arith}
use lib.ListN.{length, get_or}
use borrow.Author.Tests.{le-leb, eq-eqb}
use Rattle.word.specs.Bytes.{bytes_of_words}
use Rattle.processor.specs.declared.Status.{Status}
use Rattle.processor.specs.declared.Status.TheVariants.{Fault}
use Rattle.processor.specs.Machine.{memory_bytes, data_start, start_of}
use Rattle.processor.specs.Run.{Run}
use Rattle.processor.specs.Image.{longest_code, fits, run_image, arrays_of}
use Rattle.symbolic.specs.Symbolic.{Instruction, State, initial, run, count}
use Rattle.symbolic.specs.Real.{image_of}
use Rattle.symbolic.specs.Fine.{AllFine, most_instructions}
use Rattle.symbolic.proofs.Instructions.{NoFault}
use Rattle.symbolic.proofs.Runs.{Stopped, later, count_later}
use Rattle.symbolic.proofs.Shown.{shown, shown_stopped, shown_no_fault}
use Rattle.symbolic.proofs.Lock.{Ran, run_lock}
use Rattle.symbolic.proofs.Start.{image_length, starts}
use Rattle.symbolic.proofs.Arrays.{Holds, arrays_are}

-- The image of code that is short enough is one that document 03 §5 lets run.
pub runnable : (code : List Instruction) → length code ≤ most_instructions → fits longest_code (length (image_of code)) ≡ true
unfolding fits
runnable code short =
    rw (image_length code) (rw (eq-eqb (4 * length code % 4) 0 (omega arith), le-leb (4 * length code) longest_code (omega arith)) refl)

-- code that has words, and arrays that the input block has room for
pub record Loads (code : List Instruction) (arrays : List ℕ) : Type 0 where
  pub short : length code ≤ most_instructions
  pub fine : AllFine code
  pub few : 4 * length arrays ≤ memory_bytes - data_start
  pub words : (i : ℕ) → get_or arrays i 0 < 2 ^ 32

module _ (room : ℕ) (code : List Instruction) (arrays : List ℕ) (L : Loads code arrays) where
  -- document 03's run of the image, and the symbolic processor after n steps
  abbrev pub real_run : ℕ → Run
  real_run limit = run_image (image_of code) (bytes_of_words arrays) room limit

  abbrev pub after : ℕ → State
  after n = run room code n (initial arrays)

  -- what is seen of a run: how it stopped, the log, the arrays, the steps
  pub record Seen (status : Status) (σ : State) (steps : ℕ) (r : Run) : Type 0 where
    pub stops : r.machine.status ≡ status
    pub log : r.machine.log ≡ σ.log
    pub blocks : (l : List ℕ) → length l ≡ length arrays → Holds σ.memory l → arrays_of (4 * length arrays) r.machine ≡ l
    pub counts : r.steps ≡ steps

  -- Under the limit n: the symbolic state after n steps.
  pub follows : (n : ℕ) → NoFault (after n).status → Seen (shown (after n).status) (after n) (count room code n (initial arrays)) (real_run n)
  unfolding run_image start_of
  follows n safe = rw (image_length code) (seen (run_lock room code L.short L.fine n (initial arrays) (start_of (image_of code) (bytes_of_words arrays)) 0 refl (starts code arrays L.short L.few L.words) safe))
    where
      seen : {r : Run} → Ran room code L.short L.fine n 0 (initial arrays) r → Seen (shown (after n).status) (after n) (count room code n (initial arrays)) r
      seen {r} a = record {
        stops = a.status;
        log = a.match.log;
        blocks = λ l e h. ap (λ (k : ℕ). arrays_of (4 * k) r.machine) (sym e) ∙ arrays_are a.match l (rw e L.few) h;
        counts = a.steps ∙ zero-add (count room code n (initial arrays));
      }

  -- Where it stopped within n steps: that stop under every limit from n on, after at most n steps.
  pub follows_stop : (n limit : ℕ) → n ≤ limit → NoFault (after n).status → Stopped (after n).status → Seen (after n).status (after n) (count room code n (initial arrays)) (real_run limit)
  follows_stop n limit h safe stop =
      let e : after limit ≡ after n = later room code n limit (initial arrays) h stop in
      let s = follows limit (subst (λ (τ : State). NoFault τ.status) (sym e) safe) in
      let z : limit ≡ n + (limit - n) = omega arith in
      record {
        stops = s.stops ∙ ap (λ (τ : State). shown τ.status) e ∙ shown_stopped (after n).status stop;
        log = s.log ∙ ap (λ (τ : State). τ.log) e;
        blocks = λ l k w. s.blocks l k (subst (λ (τ : State). Holds τ.memory l) (sym e) w);
        counts = s.counts ∙ ap (λ (i : ℕ). count room code i (initial arrays)) z ∙ count_later room code n (limit - n) (initial arrays) refl stop;
      }

  -- The real machine doesn't fault where the symbolic one doesn't.
  pub never_faults : (n : ℕ) → NoFault (after n).status → (f : ℕ) → (real_run n).machine.status ≡ Fault f → ⊥
  never_faults n safe f e = shown_no_fault (after n).status f safe (sym (follows n safe).stops ∙ e)
