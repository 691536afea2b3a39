-- `turns::step::happen` meets its contract, by outcome.
use Rattle.turns.proofs.Happening.{trade_tells, prevented_tells, kills_tells, expires_tells, trade_told, prevented_told, kills_told, expires_told, rests_told}
use borrow.Author.Rules.{rules}
use Rattle.turns.proofs.step.happen.Goals as goal

pub trade-requires : goal.trade-requires
trade-requires c = (search (rules, trade_tells), search rules)

pub prevent-requires : goal.prevent-requires
prevent-requires c = (search (rules, prevented_tells), search rules)

pub one-requires : goal.one-requires
one-requires c = (search (rules, kills_tells), search rules)

pub one-requires-in-Expires : goal.one-requires-in-Expires
one-requires-in-Expires c = (search (rules, expires_tells), search rules)

pub returns-in-Trade : goal.returns-in-Trade
returns-in-Trade c = search (rules, trade_told)

pub returns-in-Prevented : goal.returns-in-Prevented
returns-in-Prevented c = search (rules, prevented_told)

pub returns-in-Kills : goal.returns-in-Kills
returns-in-Kills c = search (rules, kills_told)

pub returns-in-Expires : goal.returns-in-Expires
returns-in-Expires c = search (rules, expires_told)

pub returns-in-Rests : goal.returns-in-Rests
returns-in-Rests c = search (rules, rests_told)
