-- `table::best::write_levels` meets its contract: the two levels, then zeros.
use Rattle.table.proofs.Writes.{levels_written}
use borrow.Author.Rules.{rules}
use Rattle.table.proofs.best.write_levels.Goals as goal

pub returns : goal.returns
returns c = search (rules, levels_written)
