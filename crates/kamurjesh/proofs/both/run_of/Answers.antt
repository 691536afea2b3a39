-- `both::run_of` meets its contract: it is Run, its answer as the paper's number, bytes, reports and steps.
use mathlib.Core.Path.{◌∙◌, ap}
use Rattle.refusals.specs.Refusals.{answer_number}
use Rattle.calls.specs.Run.{run_bytes, run_reports, run_steps}
use Rattle.kamurjesh.proofs.both.run_of.Goals as goal

pub returns : goal.returns
returns c =
    let answer = c.run-answer.ensures in
    let done = c.run_done-done.ensures in (
      c.answer_number.ensures ∙ ap answer_number answer.0,
      done.0 ∙ ap run_bytes answer.0,
      done.1 ∙ ap run_reports answer.0,
      done.2 ∙ ap run_steps answer.0,
      answer.1,
      answer.2,
    )
