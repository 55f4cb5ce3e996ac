-- The level of each binary operator, as the grammar's table has it: `||` and `&&` are below the comparisons, all others evaluate both sides.
use Prim.Native.Nat.{ℕ, ◌≤◌, ◌<◌}
use native.Mathlib.Omega.{arith}
use Rattle.language.specs.Tree.{Strict, eq, ne, lt, le, gt, ge, add, sub, mul, div, rem, Binary}
use Rattle.language.specs.Grammar.{comp_level, unary_level, Operator, operators}
use Rattle.elaboration.proofs.All.{Each}

pub data Row (l : ℕ) : Binary → Type 0 where
  or : l < comp_level → Row l Binary.or
  and : l < comp_level → Row l Binary.and
  strict : (o : Strict) → comp_level ≤ l → l < unary_level → Row l (Binary.strict o)

abbrev Levelled : Operator → Type 0
Levelled r = Row r.level r.means

compare : (o : Strict) → Row 3 (Binary.strict o)
compare o = Row.strict o (omega arith) (omega arith)

sum : (o : Strict) → Row 4 (Binary.strict o)
sum o = Row.strict o (omega arith) (omega arith)

term : (o : Strict) → Row 5 (Binary.strict o)
term o = Row.strict o (omega arith) (omega arith)

either : Row 1 Binary.or
either = Row.or (omega arith)

both : Row 2 Binary.and
both = Row.and (omega arith)

pub rows : Each Levelled operators
unfolding operators
rows =
    Each.more either (Each.more both
    (Each.more (compare eq) (Each.more (compare ne) (Each.more (compare lt) (Each.more (compare le) (Each.more (compare gt) (Each.more (compare ge)
    (Each.more (sum add) (Each.more (sum sub)
    (Each.more (term mul) (Each.more (term div) (Each.more (term rem) Each.none))))))))))))
