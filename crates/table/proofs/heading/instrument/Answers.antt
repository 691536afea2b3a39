-- `table::heading::instrument` meets its contract: bonds exactly if 0 is noted.
use Rattle.table.proofs.Instruments.{bonds_read, equities_read}
use borrow.Author.Rules.{rules}
use Rattle.table.proofs.heading.instrument.Goals as goal

pub returns-in-0 : goal.returns-in-0
returns-in-0 c = search (rules, bonds_read)

pub returns-in_default : goal.returns-in_default
returns-in_default c = search (rules, equities_read)
