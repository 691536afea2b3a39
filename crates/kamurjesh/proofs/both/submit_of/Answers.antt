-- `both::submit_of` meets its contract: it is Submit, its answer as the paper's number and the report's length.
use mathlib.Core.Path.{◌∙◌, ap}
use Rattle.calls.specs.Submit.{submit_number, submit_length}
use Rattle.kamurjesh.proofs.both.submit_of.Goals as goal

pub returns : goal.returns
returns c =
    let answer = c.submit-answer.ensures in
    (c.submit_number.ensures ∙ ap submit_number answer.0, c.submit_length.ensures ∙ ap submit_length answer.0, answer.1, answer.2)
