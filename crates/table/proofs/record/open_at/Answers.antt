-- `table::record::open_at` meets its contract: less is used than OrderQty exactly if something is open.
use Rattle.table.proofs.Loaded.{open_read}
use borrow.Author.Rules.{rules}
use Rattle.table.proofs.record.open_at.Goals as goal

pub returns : goal.returns
returns c = search (rules, open_read)
