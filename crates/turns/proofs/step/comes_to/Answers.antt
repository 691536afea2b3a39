-- `turns::step::comes_to` meets its contract: the order in work is killed, ends its work, or meets the one it is matched with.
use Rattle.turns.proofs.Stepping.{partner_record, worker_covered, resting_covered, comes_killed, comes_ending, comes_meeting}
use borrow.Author.Rules.{rules}
use Rattle.turns.proofs.step.comes_to.Goals as goal

pub open_of-open-requires : goal.open_of-open-requires
open_of-open-requires c = search (rules, worker_covered)

pub returns-then-missed-open : goal.returns-then-missed-open
returns-then-missed-open c = search (rules, comes_killed)

pub ending-requires : goal.ending-requires
ending-requires c = search (rules, worker_covered)

pub returns-then-r-eq0 : goal.returns-then-r-eq0
returns-then-r-eq0 c = search (rules, comes_ending)

pub load-requires : goal.load-requires
load-requires c = (search rules, search (rules, partner_record))

pub matched-requires : goal.matched-requires
matched-requires c = (search (rules, worker_covered), search (rules, resting_covered))

pub returns : goal.returns
returns c = search (rules, comes_meeting)
