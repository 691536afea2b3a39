-- `both::open_of` meets its contract: it is Open, its answer as the paper's number.
use mathlib.Core.Path.{◌∙◌, ap}
use Rattle.refusals.specs.Refusals.{answer_number}
use Rattle.kamurjesh.proofs.both.open_of.Goals as goal

pub returns : goal.returns
returns c =
    let answer = c.«open».ensures in
    (c.answer_number.ensures ∙ ap answer_number answer.0, answer.1)
