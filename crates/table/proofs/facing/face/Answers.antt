-- `table::facing::face` meets its contract: nothing is noted where nothing is in work.
use Rattle.table.proofs.Faced.{facing_idle, facing_busy, sixteens_few}
use borrow.Author.Rules.{rules}
use Rattle.table.proofs.facing.face.Goals as goal

pub returns-then-w-eq0 : goal.returns-then-w-eq0
returns-then-w-eq0 c = search (rules, facing_idle)

pub rank-requires : goal.rank-requires
rank-requires c = (search (rules, sixteens_few), search rules)

pub returns : goal.returns
returns c = search (rules, facing_busy)
