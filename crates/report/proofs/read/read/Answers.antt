-- `read::read` meets its contract.
use Rattle.report.proofs.Readings.{read_is}
use borrow.Author.Rules.{rules}
use Rattle.report.proofs.read.read.Goals as goal

pub returns : goal.returns
returns c = search (rules, read_is)
