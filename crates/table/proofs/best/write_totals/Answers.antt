-- `table::best::write_totals` meets its contract: the two totals.
use Rattle.table.proofs.Writes.{totals_written}
use borrow.Author.Rules.{rules}
use Rattle.table.proofs.best.write_totals.Goals as goal

pub returns : goal.returns
returns c = search (rules, totals_written)
