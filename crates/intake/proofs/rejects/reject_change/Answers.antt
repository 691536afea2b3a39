-- `intake::rejects::reject_change` meets its contract: the report, then the next number.
use Rattle.intake.proofs.Legibles.{unmet_holder, unmet_told}
use Rattle.intake.proofs.Leaving.{change_left}
use borrow.Author.Rules.{rules}
use Rattle.intake.proofs.rejects.reject_change.Goals as goal

pub unchanged_on-said-requires : goal.unchanged_on-said-requires
unchanged_on-said-requires c = search (rules, unmet_holder)

pub tell_unchanged-len-requires : goal.tell_unchanged-len-requires
tell_unchanged-len-requires c = record { legible_unchanged = search (rules, unmet_told); in_bounds = search rules }

pub raise-requires : goal.raise-requires
raise-requires c = c.requires.0.market.long

pub returns : goal.returns
returns c = search (rules, change_left)
