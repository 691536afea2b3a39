-- `turns::step::step_with` meets its contract: what is planned happens and is told, and the step is finished.
use borrow.Author.Rules.{rules}
use Rattle.turns.proofs.Stepping.{happen_tellings, numbers_fit, told_long, step_turned}
use Rattle.turns.proofs.step.step_with.Goals as goal

pub happen-told-requires : goal.happen-told-requires
happen-told-requires c = (search (rules, happen_tellings), search rules)

pub overflow_add-n : goal.overflow_add-n
overflow_add-n c = search (rules, numbers_fit)

pub finish-requires : goal.finish-requires
finish-requires c = search (rules, told_long)

pub returns : goal.returns
returns c = search (rules, step_turned)
