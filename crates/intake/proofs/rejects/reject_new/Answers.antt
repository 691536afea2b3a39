-- `intake::rejects::reject_new` meets its contract: the report, then the next number.
use Rattle.intake.proofs.Legibles.{refused_told}
use Rattle.intake.proofs.Leaving.{refuse_left}
use borrow.Author.Rules.{rules}
use Rattle.intake.proofs.rejects.reject_new.Goals as goal

pub tell_refused-len-requires : goal.tell_refused-len-requires
tell_refused-len-requires c = record { legible_refused = search (rules, refused_told); in_bounds = search rules }

pub returns : goal.returns
returns c = search (rules, refuse_left)
