-- Case by case.
use Rattle.flat.specs.Numbers.{strict_of}
use Rattle.codegen.specs.Operators as O
use Rattle.emission.proofs.Tapes.{after_one}
use Rattle.emission.proofs.Strictly.{works_plain, works_turned, works_divided, works_tested, works_tested_turned}
use Rattle.emission.proofs.strict.working.Goals as goal

pub returns-then-turned : goal.returns-then-turned
returns-then-turned g c = after_one c.plain.ensures (works_turned (O.work (strict_of (g.O.Names.named c.args.o))) c.args.d c.work-w.ensures c.in-Plain.is c.if-turned.true c.plain.ensures.says)

pub returns-then-turned-2 : goal.returns-then-turned-2
returns-then-turned-2 g c = after_one c.tested.ensures (works_tested_turned (O.work (strict_of (g.O.Names.named c.args.o))) c.args.d c.work-w.ensures c.in-Tested.is c.if-turned-2.true c.tested.ensures.says)

pub returns-else-turned : goal.returns-else-turned
returns-else-turned g c = after_one c.plain-else-turned.ensures (works_plain (O.work (strict_of (g.O.Names.named c.args.o))) c.args.d c.work-w.ensures c.in-Plain.is c.if-turned.false c.plain-else-turned.ensures.says)

pub returns-in-Divided : goal.returns-in-Divided
returns-in-Divided g c = after_one c.divided.ensures (works_divided (O.work (strict_of (g.O.Names.named c.args.o))) c.args.d c.work-w.ensures c.in-Divided.is c.divided.ensures.says)

pub returns-else-turned-2 : goal.returns-else-turned-2
returns-else-turned-2 g c = after_one c.tested-else-turned-2.ensures (works_tested (O.work (strict_of (g.O.Names.named c.args.o))) c.args.d c.work-w.ensures c.in-Tested.is c.if-turned-2.false c.tested-else-turned-2.ensures.says)
