-- `table::facing::alone` meets its contract, by side.
use Rattle.table.proofs.Faced.{side_told, alone_idle, alone_none}
use borrow.Author.Rules.{rules}
use Rattle.table.proofs.facing.alone.Goals as goal

pub returns-then-w-eq0 : goal.returns-then-w-eq0
returns-then-w-eq0 c = search (rules, alone_idle)

pub meets_none-requires : goal.meets_none-requires
meets_none-requires c = (search rules, search rules, search rules, search (rules, side_told))

pub returns-then-is_buy : goal.returns-then-is_buy
returns-then-is_buy c = search (rules, alone_none)

pub meets_none-requires-2 : goal.meets_none-requires-2
meets_none-requires-2 c = (search rules, search rules, search rules, search (rules, side_told))

pub returns : goal.returns
returns c = search (rules, alone_none)
