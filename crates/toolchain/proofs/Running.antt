-- What the run of a program's words on a block is, by the tests that come before it.
use Prim.Native.Nat.{ℕ, ◌*◌, ◌≤◌, ◌<◌}
use mathlib.Core.Logic.{inl, inr}
use mathlib.Core.Path.{◌≡◌, refl, sym, ap, ◌∙◌, subst}
use mathlib.Core.List.{List, ◌++◌}
use native.Mathlib.Omega.{arith}
use lib.ListN.{length, drop}
use Rattle.word.specs.Bytes.{words_of_bytes}
use Rattle.language.specs.Meaning.{Run, run_of}
use Rattle.interpreter.specs.declared.Ran.{Ran}
use Rattle.interpreter.specs.Post.{world, outcome_of, Runs}
use Rattle.interpreter.proofs.Whole.{run_outcome, run_log, run_logged}
use Rattle.elaboration.proofs.Accepted.{accepted}
use Rattle.toolchain.specs.Interpretation.{Lent, lent, IsBlock, Interprets, Holds, no_block, no_room}
use Rattle.toolchain.specs.Accepting.{Made, RunsWords, elements_of}
use Rattle.toolchain.specs.declared.refusals.Refusal.TheVariants.{Input, Room}
use Rattle.std.specs.Prelude.{Ok, Err}
use Rattle.toolchain.proofs.Answering.{elements_are}

module _ (core input : List ℕ) (k fuel room : ℕ) (before : Lent) (third : k ≡ elements_of core) where
  pub wrong_block : (length input ≡ 4 * k → ⊥) → RunsWords core input fuel room before before (Err Input)
  unfolding Interprets
  wrong_block h = record { by = λ text w n e m. (no_block e m.accepted (λ (b : IsBlock m.program input). h (b ∙ ap (λ (i : ℕ). 4 * i) (sym (elements_are m third)))), refl) }

  block_is : length input ≡ 4 * k → {text : List ℕ} {n : ℕ} (m : Made text n core) → IsBlock m.program input
  block_is b m = b ∙ ap (λ (i : ℕ). 4 * i) (elements_are m third)

  pub short_arrays : length input ≡ 4 * k → length before.arrays < k → RunsWords core input fuel room before before (Err Room)
  unfolding Interprets
  short_arrays b h = record { by = λ text w n e m. (no_room e m.accepted (block_is b m) (inl (subst (λ (i : ℕ). length before.arrays < i) (elements_are m third) h)), refl) }

  pub short_log : length input ≡ 4 * k → length before.log < room → RunsWords core input fuel room before before (Err Room)
  unfolding Interprets
  short_log b h = record { by = λ text w n e m. (no_room e m.accepted (block_is b m) (inr h), refl) }

  pub ran : (r : Ran) (arrays' log' : List ℕ) → length input ≡ 4 * k → k ≤ length before.arrays → room ≤ length before.log → length log' ≡ length before.log →
      Runs core room fuel (words_of_bytes input) before.log r.outcome r.fuel r.logged arrays' log' →
      RunsWords core input fuel room before (lent (arrays' ++ drop k before.arrays) log') (Ok r)
  unfolding Interprets
  ran r arrays' log' b h l same x = record {
    by = λ text w n e m. record {
      program = m.program;
      worked = e;
      accepted = m.accepted;
      block = block_is b m;
      for_arrays = subst (λ (i : ℕ). i ≤ length before.arrays) (elements_are m third) h;
      for_log = l;
      holds = holds m;
    };
  }
    where
      holds : {text : List ℕ} {n : ℕ} (m : Made text n core) →
          Holds (run_of m.program (words_of_bytes input) fuel room) m.program.elements before (lent (arrays' ++ drop k before.arrays) log') r
      holds {text} m = record {
        outcome = ap (λ (u : Run). u.outcome) (sym is);
        fuel = ap (λ (u : Run). u.world.fuel) (sym is);
        logged = sym size;
        arrays = ap (λ (u : Run). u.world.arrays ++ drop k before.arrays) (sym is) ∙ ap (λ (i : ℕ). (run_of m.program (words_of_bytes input) fuel room).world.arrays ++ drop i before.arrays) (elements_are m third);
        log = run_log m.program m.more (accepted text m.program m.accepted).1 m.there x ∙ ap (λ (i : ℕ). (run_of m.program (words_of_bytes input) fuel room).world.log ++ drop i before.log) (sym size);
      }
        where
          is : run_of m.program (words_of_bytes input) fuel room ≡ record { outcome = outcome_of r.outcome; world = world r.fuel r.logged log' arrays' }
          is = run_outcome m.program m.more (accepted text m.program m.accepted).1 m.there x

          size : length (run_of m.program (words_of_bytes input) fuel room).world.log ≡ r.logged
          size = run_logged m.program m.more (accepted text m.program m.accepted).1 m.there x (omega (arith, l, same))
