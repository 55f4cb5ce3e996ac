-- `compile` meets its contract: 6 where working room is short, else what `accept` says, and the compiler's answer on the program's words.
use Rattle.toolchain.proofs.Compiling.{words_few, functions_few, made_of, too_long_for}
use Rattle.toolchain.specs.Compilation.{Compiles, no_work, no_program}
use Rattle.toolchain.specs.Checking.{Enough}
use Rattle.std.proofs.lemmas.Result.{err_from_is_err_and}
use mathlib.Core.Path.{refl, sym, subst}
use native.Mathlib.Omega.{arith}
use Rattle.toolchain.proofs.compile.compile.Goals as goal

pub returns-in_err-suffices : goal.returns-in_err-suffices
unfolding Compiles
returns-in_err-suffices c =
    let p = err_from_is_err_and c.from_residual.result c.from_residual.ensures.1 in
    rw (p.1, p.2, c.in_err-suffices.ensures.0) (no_work (λ (e : Enough _). c.in_err-suffices.ensures.1 (subst Enough (sym c.of.ensures) e)), refl)

pub returns-in_err-words : goal.returns-in_err-words
unfolding Compiles
returns-in_err-words c =
    let p = err_from_is_err_and c.from_residual-in_err-words.result c.from_residual-in_err-words.ensures.1 in
    rw (p.1, p.2) (no_program (subst Enough c.of.ensures c.in_ok-suffices.ensures) c.in_err-words.ensures.by, refl)

pub compile-requires : goal.compile-requires
compile-requires c =
    let w : Enough _ = subst Enough c.of.ensures c.in_ok-suffices.ensures in
    (omega (arith, words_few c.in_ok-words.ensures.by), (omega (arith, functions_few c.in_ok-words.ensures.by), (omega (arith, functions_few c.in_ok-words.ensures.by, w.for_tree, c.accept.auto), omega (arith, w.for_tokens, c.accept.auto))))

pub returns-in_err-bytes : goal.returns-in_err-bytes
returns-in_err-bytes c =
    let p = err_from_is_err_and c.from_residual-in_err-bytes.result c.from_residual-in_err-bytes.ensures.1 in
    rw (p.1, p.2) (too_long_for _ (subst Enough c.of.ensures c.in_ok-suffices.ensures) c.in_ok-words.ensures.by c.args.image.now _ (omega arith) c.in_err-bytes.ensures.compiles)

pub returns : goal.returns
returns c = made_of _ (subst Enough c.of.ensures c.in_ok-suffices.ensures) c.in_ok-words.ensures.by c.args.image.now _ (omega arith) c.in_ok-bytes.ensures.compiles c.in_ok-bytes.ensures.bounded
