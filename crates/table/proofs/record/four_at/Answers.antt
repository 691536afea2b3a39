-- `table::record::four_at` meets its contract: what the four bytes come to is the number that they are.
use Rattle.table.proofs.Loaded.{four_read}
use borrow.Author.Rules.{rules}
use Rattle.table.proofs.record.four_at.Goals as goal

pub returns : goal.returns
returns c = (search (rules, four_read), search rules)
