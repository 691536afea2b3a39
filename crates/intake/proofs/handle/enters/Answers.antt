-- `intake::handle::enters` meets its contract: taken or rejected, by the checks.
use Rattle.intake.proofs.Answering.{checked, enters_yes, enters_no}
use borrow.Author.Rules.{rules}
use Rattle.intake.proofs.handle.enters.Goals as goal

pub enter-requires : goal.enter-requires
enter-requires c = (search rules, search rules, checked _ _ _ c.new_stands.ensures c.in-Ok.is, search rules)

pub reject_new-requires : goal.reject_new-requires
reject_new-requires c = (search rules, search (rules, checked), search rules)

pub returns-in-Ok : goal.returns-in-Ok
returns-in-Ok c = search (rules, enters_yes)

pub returns-in-Err : goal.returns-in-Err
returns-in-Err c = search (rules, enters_no)
