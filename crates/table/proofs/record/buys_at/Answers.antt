-- `table::record::buys_at` meets its contract: the side is 1 exactly if it is a buy.
use Rattle.table.proofs.Loaded.{buy_read}
use borrow.Author.Rules.{rules}
use Rattle.table.proofs.record.buys_at.Goals as goal

pub returns : goal.returns
returns c = search (rules, buy_read)
