-- A time: its shape, then its ranges.
use Rattle.decimal.proofs.Times.{shape_yes}
use Rattle.request.proofs.Judging.{time_misshapen, time_outside, time_is}
use borrow.Author.Rules.{rules}
use Rattle.request.proofs.values.time.Goals as goal

pub returns-then-not-time_shaped : goal.returns-then-not-time_shaped
returns-then-not-time_shaped c = search (rules, time_misshapen)

pub time_ranged-requires : goal.time_ranged-requires
time_ranged-requires c = search (rules, shape_yes)

pub returns-then-not-time_ranged : goal.returns-then-not-time_ranged
returns-then-not-time_ranged c = search (rules, time_outside)

pub returns : goal.returns
returns c = search (rules, time_is)
