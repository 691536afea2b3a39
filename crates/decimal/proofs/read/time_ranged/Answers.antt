-- The five ranges.
use Rattle.decimal.specs.Reading.{time_ranged}
use Rattle.decimal.proofs.Times.{shaped_far, shaped_month, shaped_day, shaped_hour, shaped_minute, shaped_second}
use borrow.Author.Rules.{rules}
use Rattle.decimal.proofs.read.time_ranged.Goals as goal

pub two_at-month-requires : goal.two_at-month-requires
two_at-month-requires c = (search (rules, shaped_far), search (rules, shaped_month))

pub two_at-day-requires : goal.two_at-day-requires
two_at-day-requires c = (search (rules, shaped_far), search (rules, shaped_day))

pub two_at-requires : goal.two_at-requires
two_at-requires c = (search (rules, shaped_far), search (rules, shaped_hour))

pub two_at-requires-2 : goal.two_at-requires-2
two_at-requires-2 c = (search (rules, shaped_far), search (rules, shaped_minute))

pub two_at-requires-3 : goal.two_at-requires-3
two_at-requires-3 c = (search (rules, shaped_far), search (rules, shaped_second))

pub returns : goal.returns
unfolding time_ranged
returns c = simp (c.two_at-month.ensures, c.two_at-day.ensures, c.two_at.ensures, c.two_at-2.ensures, c.two_at-3.ensures)
