-- `turns::step::misses` meets its contract: an order with no minimum misses none, nor does one that is decided; any other is looked up.
use Rattle.turns.proofs.Stepping.{misses_none, misses_decided, misses_looked, lookable}
use borrow.Author.Rules.{rules}
use Rattle.turns.proofs.step.misses.Goals as goal

pub returns-then-least-eq0 : goal.returns-then-least-eq0
returns-then-least-eq0 c = search (rules, misses_none)

pub returns-then-decided-ne0 : goal.returns-then-decided-ne0
returns-then-decided-ne0 c = search (rules, misses_decided)

pub would_trade-requires : goal.would_trade-requires
would_trade-requires c = search (rules, lookable)

pub returns : goal.returns
returns c = search (rules, misses_looked)
