-- The digits and marks of a time: each byte is between the least and the most of its place.
use mathlib.Core.Path.{◌∙◌}
use Rattle.decimal.proofs.Times.{shape_plain, shape_millis, shape_none}
use borrow.Author.Rules.{rules}
use Rattle.decimal.proofs.read.time_shaped.Goals as goal

pub returns-then-s-eq17 : goal.returns-then-s-eq17
returns-then-s-eq17 c = c.between.ensures ∙ shape_plain _ c.if-s-eq17.true

pub returns-then-s-eq21 : goal.returns-then-s-eq21
returns-then-s-eq21 c = c.between-then-s-eq21.ensures ∙ shape_millis _ c.if-s-eq21.true

pub returns : goal.returns
returns c = search (rules, shape_none)
