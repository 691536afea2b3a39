-- `turns::step::partner_of` meets its contract: the first in turn of those that it meets, while it has something open.
use Rattle.turns.proofs.Stepping.{worker_is, worker_covered, partner_open, partner_shut}
use borrow.Author.Rules.{rules}
use Rattle.turns.proofs.step.partner_of.Goals as goal

pub is_open-requires : goal.is_open-requires
is_open-requires c = search (rules, worker_is, worker_covered)

pub returns-then-is_open : goal.returns-then-is_open
returns-then-is_open c = (search (rules, worker_is, partner_open), search rules)

pub returns : goal.returns
returns c = (search (rules, worker_is, partner_shut), search rules)
