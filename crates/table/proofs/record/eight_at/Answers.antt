-- `table::record::eight_at` meets its contract: the two halves are the whole.
use Rattle.table.proofs.Loaded.{eight_read}
use borrow.Author.Rules.{rules}
use Rattle.table.proofs.record.eight_at.Goals as goal

pub returns : goal.returns
returns c = search (rules, eight_read)
