-- The places of the header and of 10, by the row.
use Rattle.fix.proofs.Verdict.{opening_wrong}
use Rattle.fix.proofs.Lines.{lined_laid}
use Rattle.std.proofs.Common.{rules}
use Rattle.fix.proofs.frame.lined.Goals as goal

pub returns-in_err-o : goal.returns-in_err-o
returns-in_err-o c = search (rules, opening_wrong)

pub settled-requires : goal.settled-requires
settled-requires c = search (rules, lined_laid, c.in_ok-o.ensures)
