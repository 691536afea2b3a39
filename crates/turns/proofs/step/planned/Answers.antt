-- `turns::step::planned` meets its contract: the order in work is loaded, and its partner and outcome follow.
use borrow.Author.Rules.{rules}
use Rattle.turns.proofs.Stepping.{worker_is, planned_is}
use Rattle.turns.proofs.step.planned.Goals as goal

pub misses-missed-requires : goal.misses-missed-requires
misses-missed-requires c = (search rules, search (rules, worker_is), search rules)

pub comes_to-came-requires : goal.comes_to-came-requires
comes_to-came-requires c = (search rules, search (rules, worker_is), search rules, search rules)

pub returns : goal.returns
returns c = search (rules, planned_is)
