-- A time is of the shape and in the ranges.
use mathlib.Core.Path.{◌∙◌}
use Rattle.decimal.proofs.Times.{shape_not, range_is}
use Rattle.decimal.proofs.read.is_time.Goals as goal

pub returns-then-time_shaped : goal.returns-then-time_shaped
returns-then-time_shaped c = range_is _ _ c.time_shaped.ensures c.if-time_shaped.true _ c.time_ranged.ensures

pub returns-else-time_shaped : goal.returns-else-time_shaped
returns-else-time_shaped c = c.if-time_shaped.false ∙ shape_not _ _ c.time_shaped.ensures c.if-time_shaped.false
