-- `turns::step::finish` meets its contract.
use Rattle.turns.proofs.Stepping.{finish_ends, finish_goes}
use borrow.Author.Rules.{rules}
use Rattle.turns.proofs.step.finish.Goals as goal

pub returns-in-None : goal.returns-in-None
returns-in-None c = search (rules, finish_ends)

pub returns-in-Some : goal.returns-in-Some
returns-in-Some c = search (rules, finish_goes)
