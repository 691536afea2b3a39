-- `intake::takes::write_new` meets its contract.
use Rattle.intake.proofs.Doing.{marks_small, new_id_short, account_short, side_small, tif_small}
use Rattle.intake.proofs.Leaving.{written_new}
use borrow.Author.Rules.{rules}
use Rattle.intake.proofs.takes.write_new.Goals as goal

pub accept-requires : goal.accept-requires
accept-requires c = (search rules, search rules, search (rules, new_id_short), search (rules, account_short), search (rules, side_small), search (rules, tif_small), search (rules, marks_small))

pub returns : goal.returns
returns c = search (rules, written_new)
