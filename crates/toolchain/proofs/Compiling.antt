-- What the compiler's answer on a text's program is as `compile`'s.
use Prim.Native.Nat.{ℕ, ◌+◌, ◌*◌, ◌≤◌}
use mathlib.Core.Path.{◌≡◌, sym, ap, ◌∙◌}
use mathlib.Core.List.{List, []}
use native.Mathlib.Omega.{arith}
use lib.ListN.{length, get_or, take, drop, length-drop, length-append}
use lib.Seq.{take_at}
use Rattle.language.specs.Core.{Program}
use Rattle.flat.specs.Words.{words_of, words_then, bodies, entry}
use Rattle.flat.proofs.Run.{entries_long}
use Rattle.codegen.specs.Image.{image}
use Rattle.elaboration.proofs.Accepted.{accepted}
use Rattle.elaboration.proofs.Kept.{kept}
use Rattle.compiler.specs.Programs as P
use Rattle.compiler.specs.Programs.{Bounded}
use Rattle.compiler.specs.declared.TooLong as P'
use Rattle.toolchain.specs.Checking.{Enough, core_room}
use Rattle.toolchain.specs.declared.work.Work.{Work}
use Rattle.toolchain.specs.declared.refusals.Refusal.TheVariants.{TooLong}
use Rattle.std.specs.Prelude.{Ok, Err}
use Rattle.toolchain.specs.Compilation.{Compiles, too_long}
use Rattle.toolchain.specs.Accepting.{Made}

-- the words, and nothing behind them
words_are : {text core : List ℕ} {n : ℕ} (m : Made text n core) → take n core ≡ words_then m.program []
unfolding words_of
words_are {n = n} m = ap (take n) m.there ∙ take_at (words_of m.program) m.more n (sym m.size)

-- a program has four words for each function, and so fewer functions than words
few : (p : Program) → 3 + 4 * length p.functions ≤ length (words_of p)
unfolding words_of words_then
few p = omega (arith, entries_long p.functions (entry (length p.functions)) (bodies p.functions []))

first_word : {text core : List ℕ} {n : ℕ} (m : Made text n core) → get_or (take n core) 0 0 ≡ length m.program.functions
unfolding words_then
first_word m = ap (λ (ws : List ℕ). get_or ws 0 0) (words_are m)

pub functions_few : {text core : List ℕ} {n : ℕ} → Made text n core → 3 + 4 * get_or (take n core) 0 0 ≤ core_room
functions_few m = omega (arith, first_word m, few m.program, m.size, m.short)

pub words_few : {text core : List ℕ} {n : ℕ} → Made text n core → length (take n core) ≤ core_room
unfolding words_of
words_few m = omega (arith, ap length (words_are m), m.size, m.short)

module _ {text core : List ℕ} {n : ℕ} (w : Work) (e : Enough w) (m : Made text n core) (before after : List ℕ) (same : length after ≡ length before) where
  pub made_of : {k : ℕ} → P.Compiles (take n core) before (Ok k) after → Bounded (Ok k) → Compiles text w before (Ok k) after
  unfolding Compiles
  made_of {k} h b =
      let g = h.each m.program [] (words_are m) (accepted text m.program m.accepted).0 in
      record {
        program = m.program;
        worked = e;
        accepted = m.accepted;
        short = omega (arith, b, g.0);
        for_image = omega (arith, g.0, same, ap length g.1, length-append (image m.program) (drop k before), length-drop k before);
        size = g.0;
        there = g.1;
        keeps = kept text m.program m.accepted (omega (arith, b, g.0));
      }

  pub too_long_for : {t : P'.TooLong} → P.Compiles (take n core) before (Err t) after → Compiles text w before (Err TooLong) after
  unfolding Compiles
  too_long_for h =
      let g = h.each m.program [] (words_are m) (accepted text m.program m.accepted).0 in
      (too_long e m.accepted g.0, g.1)
