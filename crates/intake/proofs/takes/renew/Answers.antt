-- `intake::takes::renew` meets its contract: the record, its report, the next number and the work.
use Rattle.intake.proofs.Doing.{replaced_small, replaced_id_short, replaced_stamp_short, renew_due, renew_told, replaced_long}
use Rattle.intake.proofs.Leaving.{renew_left}
use borrow.Author.Rules.{rules}
use Rattle.intake.proofs.takes.renew.Goals as goal

pub replace-requires : goal.replace-requires
replace-requires c = (search (rules, renew_due), search (rules, replaced_id_short))

pub tell-len-requires : goal.tell-len-requires
tell-len-requires c =
    let wrote = c in
    let read = wrote in
    let p = read.requires in record { legible = renew_told _ _ _ p.0 _ p.2 p.1 _ read.next-n.ensures _ wrote.text_of.ensures _ c.cause_with.ensures _ wrote.replace.ensures; in_bounds = search rules }

pub raise_and_work-requires : goal.raise_and_work-requires
raise_and_work-requires c =
    let wrote = c in (
      replaced_long _ _ _ _ wrote.requires.0.market.long wrote.replace.ensures,
      search (rules, replaced_small),
      search (rules, replaced_stamp_short),
    )

pub returns : goal.returns
returns c = search (rules, renew_left)
