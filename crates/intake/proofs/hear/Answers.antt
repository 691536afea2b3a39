-- `intake::hear` meets its contract: what the message asks is done.
use Rattle.intake.proofs.Answering.{ready_long, asked_of_lem, submitted_left}
use borrow.Author.Rules.{rules}
use Rattle.intake.proofs.hear.Goals as goal

pub venue-requires : goal.venue-requires
venue-requires c = search (rules, ready_long)

pub port-requires : goal.port-requires
port-requires c = search (rules, ready_long)

pub handle-requires : goal.handle-requires
handle-requires c = (search (rules, asked_of_lem), search rules)

pub returns : goal.returns
returns c = search (rules, submitted_left)
