-- `read` meets its contract: `parse`, and then `elaborate` of the tree that it wrote.
use Rattle.std.proofs.lemmas.Result.{err_from_is_err_and}
use Rattle.toolchain.proofs.Answering.{unread_of}
use Rattle.grammar.specs.Answers.{Good}
use Rattle.declarations.proofs.Few.{tree_few}
use native.Mathlib.Omega.{arith}
use Rattle.toolchain.proofs.accept.read.Goals as goal

pub returns-in_err-parsed : goal.returns-in_err-parsed
returns-in_err-parsed c =
    let p = err_from_is_err_and c.from_residual.result c.from_residual.ensures.1 in
    rw (p.1, p.2) (record { by = unread_of c.in_err-parsed.field-0.0 (c.requires.1, omega (arith, c.requires.0)) c.in_err-parsed.ensures })

pub elaborated-requires : goal.elaborated-requires
elaborated-requires c =
    let g : Good _ _ _ _ _ = c.in_ok-parsed.ensures.by in
    (omega (arith, c.requires.0), omega (arith, tree_few g.parses, g.size), omega (arith, c.requires.1), c.requires.2, c.requires.3)

pub returns : goal.returns
returns c =
    let g : Good _ _ _ _ _ = c.in_ok-parsed.ensures.by in
    record { by = c.elaborated.ensures.by g.items c.args.tree.now g.parses g.words g.size }
