-- `table::ids::count` meets its contract: eight halvings leave one number.
use Rattle.table.proofs.Keys.{halved_whole, halved_end}
use borrow.Author.Rules.{rules}
use Rattle.table.proofs.ids.count.Goals as goal

pub beyond-a-requires : goal.beyond-a-requires
beyond-a-requires c = (search rules, halved_whole _, search rules, search rules)

pub returns : goal.returns
returns c = (search (rules, halved_end), search rules)
