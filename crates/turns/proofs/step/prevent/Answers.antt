-- `turns::step::prevent` meets its contract, by mode.
use Rattle.turns.proofs.Happening.{newest_tells, oldest_tells, decrement_tells, newest_told, oldest_told, decrement_told}
use borrow.Author.Rules.{rules}
use Rattle.turns.proofs.step.prevent.Goals as goal

pub one-requires : goal.one-requires
one-requires c = (search (rules, newest_tells), search rules)

pub one-requires-in-CancelOldest : goal.one-requires-in-CancelOldest
one-requires-in-CancelOldest c = (search (rules, oldest_tells), search rules)

pub decrement-requires : goal.decrement-requires
decrement-requires c = (search (rules, decrement_tells), search rules)

pub returns-in-CancelNewest : goal.returns-in-CancelNewest
returns-in-CancelNewest c = search (rules, newest_told)

pub returns-in-CancelOldest : goal.returns-in-CancelOldest
returns-in-CancelOldest c = search (rules, oldest_told)

pub returns-in-Decrement : goal.returns-in-Decrement
returns-in-Decrement c = search (rules, decrement_told)
