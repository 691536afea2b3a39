-- `intake::handle::replaces` meets its contract: taken or rejected, by the checks.
use Rattle.intake.proofs.Answering.{checked, replaces_yes, replaces_no}
use Rattle.intake.proofs.Legibles.{replace_unmet}
use borrow.Author.Rules.{rules}
use Rattle.intake.proofs.handle.replaces.Goals as goal

pub replace_stands-requires : goal.replace_stands-requires
replace_stands-requires c = (search rules, search rules)

pub renew-requires : goal.renew-requires
renew-requires c = (search rules, checked _ _ _ c.replace_stands.ensures c.in-Ok.is, search rules, search rules)

pub reject_change-requires : goal.reject_change-requires
reject_change-requires c = (search (rules, replace_unmet), search rules)

pub returns-in-Ok : goal.returns-in-Ok
returns-in-Ok c = search (rules, replaces_yes)

pub returns-in-Err : goal.returns-in-Err
returns-in-Err c = search (rules, replaces_no)
