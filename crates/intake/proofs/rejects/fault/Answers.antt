-- `intake::rejects::fault` meets its contract: the report, then the next number.
use Rattle.intake.proofs.Legibles.{fault_told}
use Rattle.intake.proofs.Leaving.{fault_left}
use borrow.Author.Rules.{rules}
use Rattle.intake.proofs.rejects.fault.Goals as goal

pub tell_faulty-len-requires : goal.tell_faulty-len-requires
tell_faulty-len-requires c = record { legible_faulty = search (rules, fault_told); in_bounds = search rules }

pub returns : goal.returns
returns c = search (rules, fault_left)
