-- `values::pick_value` meets its contract, by the shape.
use mathlib.Core.Path.{ap, ◌∙◌}
use Rattle.report.specs.Shapes.{number_in, listed_in, place_in, quote_in, average_in}
use Rattle.report.proofs.values.pick_value.Goals as goal

pub returns-in-OneOf : goal.returns-in-OneOf
returns-in-OneOf c = rw c.in-OneOf.is c.pick_one.ensures

pub returns-in-Range : goal.returns-in-Range
returns-in-Range c = rw c.in-Range.is (c.pick_number.ensures ∙ ap number_in c.read_within.ensures)

pub returns-in-Listed : goal.returns-in-Listed
returns-in-Listed c = rw c.in-Listed.is (c.pick_listed.ensures ∙ ap (listed_in _ _ _ _ _ _ _ _) c.read_bare.ensures)

pub returns-in-Exact : goal.returns-in-Exact
returns-in-Exact c = rw c.in-Exact.is c.pick_word.ensures

pub returns-in-OrderId : goal.returns-in-OrderId
returns-in-OrderId c = rw c.in-OrderId.is c.pick_order_id.ensures

pub returns-in-Text : goal.returns-in-Text
returns-in-Text c = rw c.in-Text.is c.pick_text.ensures

pub returns-in-Digits : goal.returns-in-Digits
returns-in-Digits c = rw c.in-Digits.is (c.pick_place.ensures ∙ ap (place_in _ _) c.read_number.ensures)

pub returns-in-Time : goal.returns-in-Time
returns-in-Time c = rw c.in-Time.is c.pick_time.ensures

pub returns-in-Level : goal.returns-in-Level
returns-in-Level c = rw c.in-Level.is (c.pick_quote.ensures ∙ ap (quote_in _) c.read_level.ensures)

pub returns-in-Average : goal.returns-in-Average
returns-in-Average c = rw c.in-Average.is (c.pick_average.ensures ∙ ap (average_in _) c.read_mean.ensures)
