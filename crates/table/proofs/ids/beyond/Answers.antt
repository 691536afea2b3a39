-- `table::ids::beyond` meets its contract: the byte in the middle says in which half they end.
use Rattle.table.proofs.Keys.{probe_within, halved_low, halved_high}
use borrow.Author.Rules.{rules}
use Rattle.table.proofs.ids.beyond.Goals as goal

pub bounds-t-k : goal.bounds-t-k
bounds-t-k c = search (rules, probe_within)

pub returns-then-t-k-eq0 : goal.returns-then-t-k-eq0
returns-then-t-k-eq0 c = search (rules, halved_low)

pub returns-else-t-k-eq0 : goal.returns-else-t-k-eq0
returns-else-t-k-eq0 c = search (rules, halved_high)
