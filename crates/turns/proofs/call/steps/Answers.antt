-- `turns::call::steps` meets its contract: one step where the order in work meets nobody, and otherwise as many as it takes.
use borrow.Author.Rules.{rules}
use Rattle.turns.proofs.Going.{alone_partner}
use Rattle.turns.proofs.call.steps.Goals as goal

pub last_step-requires : goal.last_step-requires
last_step-requires c = (search rules, search (rules, alone_partner))
