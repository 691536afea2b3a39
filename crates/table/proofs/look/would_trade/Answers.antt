-- `table::look::would_trade` meets its contract: under each mode what is noted is what the book says.
use Rattle.table.proofs.Looks.{look_below, look_covered, would_newest, would_oldest, would_other, open_small, own_small}
use borrow.Author.Rules.{rules}
use Rattle.table.proofs.look.would_trade.Goals as goal

pub load-o-requires : goal.load-o-requires
load-o-requires c = (search rules, search (rules, look_below))

pub open_of-q-requires : goal.open_of-q-requires
open_of-q-requires c = search (rules, look_covered)

pub traded_to-requires : goal.traded_to-requires
traded_to-requires c = search (rules, own_small)

pub returns-then-mode-eq1 : goal.returns-then-mode-eq1
returns-then-mode-eq1 c = search (rules, would_newest)

pub returns-then-mode-eq2 : goal.returns-then-mode-eq2
returns-then-mode-eq2 c = search (rules, would_oldest)

pub traded_at-requires : goal.traded_at-requires
traded_at-requires c = (search (rules, open_small), search rules, search rules)

pub returns : goal.returns
returns c = search (rules, would_other)
