-- `elaborated` meets its contract: what `elaborate` says.
use Rattle.std.proofs.lemmas.Result.{err_from_is_err_and}
use Rattle.toolchain.proofs.Answering.{program_of_lem, broken_of}
use Rattle.toolchain.proofs.accept.elaborated.Goals as goal

pub returns-in_err-size : goal.returns-in_err-size
returns-in_err-size c =
    let p = err_from_is_err_and c.from_residual.result c.from_residual.ensures.1 in
    rw (p.1, p.2) (broken_of c.in_err-size.ensures)

pub returns : goal.returns
returns c = program_of_lem c.in_ok-size.ensures c.requires.4
