-- `images::save_of` meets its contract: it is the writing of an image, its answer as the paper's number.
use mathlib.Core.Path.{◌∙◌, ap}
use Rattle.image.specs.Answers.{save_number}
use Rattle.kamurjesh.proofs.images.save_of.Goals as goal

pub returns : goal.returns
returns c =
    let answer = c.save.ensures in
    (c.answer_number.ensures ∙ ap save_number answer.0, answer.1)
