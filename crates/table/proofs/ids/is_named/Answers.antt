-- `table::ids::is_named` meets its contract: where a number of the key differs the ClOrdIDs do.
use Rattle.table.proofs.Keys.{number_first, number_within, other_first, other_second, other_third, other_fourth}
use borrow.Author.Rules.{rules}
use Rattle.table.proofs.ids.is_named.Goals as goal

pub eight_at-requires : goal.eight_at-requires
eight_at-requires c = search (rules, number_within)

pub returns-then-eight_at-key : goal.returns-then-eight_at-key
returns-then-eight_at-key c = search (rules, other_second)

pub eight_at-requires-2 : goal.eight_at-requires-2
eight_at-requires-2 c = search (rules, number_first)

pub returns-then-eight_at-key-2 : goal.returns-then-eight_at-key-2
returns-then-eight_at-key-2 c = search (rules, other_first)

pub eight_at-requires-3 : goal.eight_at-requires-3
eight_at-requires-3 c = search (rules, number_within)

pub returns-then-eight_at-key-3 : goal.returns-then-eight_at-key-3
returns-then-eight_at-key-3 c = search (rules, other_third)

pub eight_at-requires-4 : goal.eight_at-requires-4
eight_at-requires-4 c = search (rules, number_within)

pub returns-then-eight_at-key-4 : goal.returns-then-eight_at-key-4
returns-then-eight_at-key-4 c = search (rules, other_fourth)
