-- The mark decides, or the row.
use Rattle.fix.proofs.Rows.{unmarked}
use Rattle.std.proofs.Common.{rules}
use Rattle.fix.proofs.pass.passed.Goals as goal

pub returns : goal.returns
returns c = search (rules, unmarked)
