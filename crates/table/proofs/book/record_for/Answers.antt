-- `table::book::record_for` meets its contract: the next record while one is not filled; else at each turn the search from k on gives
-- the whole search's answer.
use mathlib.Core.Path.{sym, ap, ◌∙◌}
use mathlib.Core.Bool.{not}
use native.Mathlib.Omega.{arith}
use Rattle.octets.proofs.Ranges.{sought_none, sought_more}
use Rattle.table.proofs.Lookups.{takes_next, takes_here, takes_none}
use borrow.Author.Rules.{rules}
use Rattle.table.proofs.book.record_for.Goals as goal

pub returns-then-n-lt-MOST_ORDERS : goal.returns-then-n-lt-MOST_ORDERS
returns-then-n-lt-MOST_ORDERS c = (search (rules, takes_next), omega arith)

pub loop-k-init : goal.loop-k-init
loop-k-init c = sought_none

pub returns-then-not-open_at : goal.returns-then-not-open_at
returns-then-not-open_at c = (
  takes_here _ _ _ c.requires.1 c.if-n-lt-MOST_ORDERS.false
      c.loop-k.invariant (omega arith) (ap not (sym c.open_at.ensures ∙ c.if-not-open_at.true)),
  omega arith,
)

pub loop-k-preserved : goal.loop-k-preserved
loop-k-preserved c =
    sought_more c.loop-k.invariant (omega arith) (ap not (sym c.open_at.ensures ∙ c.if-not-open_at.false))

pub returns : goal.returns
returns c = (search (rules, takes_none), omega arith)
