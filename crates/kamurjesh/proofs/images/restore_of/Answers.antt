-- `images::restore_of` meets its contract: it is the reading of an image, its answer as the paper's number and the bad block.
use mathlib.Core.Path.{◌∙◌, ap}
use Rattle.image.specs.Answers.{restore_number}
use Rattle.kamurjesh.specs.Numbers.{bad_block}
use Rattle.kamurjesh.proofs.images.restore_of.Goals as goal

pub returns : goal.returns
returns c =
    let answer = c.restore-answer.ensures in
    (c.answer_number.ensures ∙ ap restore_number answer.0, c.bad_block.ensures ∙ ap bad_block answer.0, answer.1)
