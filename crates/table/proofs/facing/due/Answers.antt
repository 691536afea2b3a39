-- `table::facing::due` meets its contract: an order of the same side, one that is not met and one with nothing open have no turn.
use Rattle.table.proofs.Faced.{side_beside, side_apart, due_shut, side_met}
use borrow.Author.Rules.{rules}
use Rattle.table.proofs.facing.due.Goals as goal

pub returns-then-is_buy-buys : goal.returns-then-is_buy-buys
returns-then-is_buy-buys c = search (rules, side_beside)

pub returns-then-is_apart : goal.returns-then-is_apart
returns-then-is_apart c = search (rules, side_apart)

pub returns-then-not-is_open : goal.returns-then-not-is_open
returns-then-not-is_open c = search (rules, due_shut)

pub returns : goal.returns
returns c = search (rules, side_met)
