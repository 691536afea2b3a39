-- `loads::load_of` meets its contract: it is Load, and what it says in numbers.
use mathlib.Core.Path.{◌∙◌, ap}
use Rattle.load.specs.Load.{load_number, load_place, load_finished, load_bytes, load_reports}
use Rattle.kamurjesh.proofs.loads.load_of.Goals as goal

pub returns : goal.returns
returns c =
    let answer = c.load-answer.ensures in
    let went = c.load_done-went.ensures in (
      c.load_number.ensures ∙ ap load_number answer.value,
      went.0 ∙ ap load_place answer.value,
      went.1 ∙ ap load_finished answer.value,
      went.2 ∙ ap load_bytes answer.value,
      went.3 ∙ ap load_reports answer.value,
      answer.table_after,
      answer.area_after,
    )
