-- `turns::step::step_among` meets its contract: the order in work is matched with its partner, which is passed.
use borrow.Author.Rules.{rules}
use Rattle.turns.proofs.Stepping.{step_facing}
use Rattle.turns.proofs.step.step_among.Goals as goal

pub returns : goal.returns
returns c = (search rules, search (rules, step_facing))
