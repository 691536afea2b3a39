-- `write::write_report` meets its contract: the body in its place, closed.
use Rattle.report.proofs.Writing.{closed}
use borrow.Author.Rules.{rules}
use Rattle.report.proofs.write.write_report.Goals as goal

pub returns : goal.returns
returns c = search (rules, closed)
