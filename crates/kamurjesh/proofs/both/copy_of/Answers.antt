-- `both::copy_of` meets its contract: it is the feed's copy, its answer as the paper's number, the length and the next number.
use mathlib.Core.Path.{◌∙◌, ap}
use Rattle.feed.specs.Copies.{copy_number, copy_length, copy_next}
use Rattle.kamurjesh.proofs.both.copy_of.Goals as goal

pub returns : goal.returns
returns c =
    let answer = c.copy-answer.ensures in (
      c.copy_number.ensures ∙ ap copy_number answer.0,
      c.copy_length.ensures ∙ ap copy_length answer.0,
      c.copy_next.ensures ∙ ap copy_next answer.0,
      answer.1,
    )
