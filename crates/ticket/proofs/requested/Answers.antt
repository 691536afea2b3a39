-- `ticket::requested` meets its contract.
use Rattle.report.specs.declared.Value.TheVariants.{Absent}
use Rattle.ticket.proofs.requested.Goals as goal

pub returns : goal.returns
returns c = λ j. record { orig = c.text-value.ensures j; reason = Absent }
