-- `intake::takes::enter` meets its contract: the record, its report, the next number and the work.
use Rattle.intake.proofs.Doing.{order_new, new_stamp_short, enter_told, accepted_long}
use Rattle.intake.proofs.Leaving.{enter_left}
use borrow.Author.Rules.{rules}
use Rattle.intake.proofs.takes.enter.Goals as goal

pub write_new-requires : goal.write_new-requires
write_new-requires c = (search rules, search rules, search (rules, order_new))

pub tell-len-requires : goal.tell-len-requires
tell-len-requires c = record { legible = search (rules, enter_told); in_bounds = search rules }

pub raise_and_work-requires : goal.raise_and_work-requires
raise_and_work-requires c =
    let wrote = c in
    let p = wrote.requires in (
      accepted_long _ _ _ _ _ _ _ _ p.0.market.long wrote.write_new.ensures,
      search rules,
      new_stamp_short _ _ _ p.0,
    )

pub returns : goal.returns
returns c = search (rules, enter_left)
