-- `intake::handle::cancels` meets its contract: taken or rejected, by the checks.
use Rattle.intake.proofs.Answering.{checked, cancels_yes, cancels_no}
use Rattle.intake.proofs.Legibles.{cancel_unmet}
use borrow.Author.Rules.{rules}
use Rattle.intake.proofs.handle.cancels.Goals as goal

pub cancel_stands-requires : goal.cancel_stands-requires
cancel_stands-requires c = (search rules, search rules)

pub withdraw-requires : goal.withdraw-requires
withdraw-requires c = (search rules, checked _ _ _ c.cancel_stands.ensures c.in-Ok.is, search rules, search rules)

pub reject_change-requires : goal.reject_change-requires
reject_change-requires c = (search (rules, cancel_unmet), search rules)

pub returns-in-Ok : goal.returns-in-Ok
returns-in-Ok c = search (rules, cancels_yes)

pub returns-in-Err : goal.returns-in-Err
returns-in-Err c = search (rules, cancels_no)
