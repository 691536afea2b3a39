-- `intake::checks::replace_stands` meets its contract: the checks of a change, then the quantity.
use Rattle.std.proofs.lemmas.Result.{err_from_is_err_and}
use Rattle.intake.proofs.Checking.{holder_below, change_some, replace_fails, replace_above}
use borrow.Author.Rules.{rules}
use Rattle.intake.proofs.checks.replace_stands.Goals as goal

pub change_stands-requires : goal.change_stands-requires
change_stands-requires c = (search rules, search (rules, holder_below))

pub returns-in_err-change_stands : goal.returns-in_err-change_stands
returns-in_err-change_stands c = let p = err_from_is_err_and c.from_residual.result c.from_residual.ensures.1 in rw (p.1, p.2) (search (rules, replace_fails))

pub quantity_stands-requires : goal.quantity_stands-requires
quantity_stands-requires c = (search rules, search (rules, change_some), search (rules, holder_below))

pub returns : goal.returns
returns c = search (rules, replace_above)
