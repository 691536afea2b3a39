-- `intake::takes::withdraw` meets its contract: the record, its report, the next number and the best levels.
use Rattle.intake.proofs.Doing.{canceled_some, canceled_few, canceled_id_short, withdraw_due, withdraw_told, withdrawn_long}
use Rattle.intake.proofs.Leaving.{withdraw_left}
use borrow.Author.Rules.{rules}
use Rattle.intake.proofs.takes.withdraw.Goals as goal

pub open_at-requires : goal.open_at-requires
open_at-requires c = (search rules, search (rules, canceled_some), search (rules, canceled_few))

pub withdraw-requires : goal.withdraw-requires
withdraw-requires c = (search (rules, withdraw_due), search (rules, canceled_id_short))

pub tell-len-requires : goal.tell-len-requires
tell-len-requires c =
    let wrote = c in
    let amount = wrote in
    let read = amount in
    let p = read.requires in record {
      legible = withdraw_told _ _ _ p.0 _ p.2 p.1 _ amount.open_at.ensures _ read.next-n.ensures _ wrote.text_of.ensures _
          c.cause_with.ensures _ wrote.withdraw.ensures;
      in_bounds = search rules;
    }

pub raise_and_best-requires : goal.raise_and_best-requires
raise_and_best-requires c =
    let wrote = c in
    withdrawn_long _ _ _ _ wrote.requires.0.market.long wrote.withdraw.ensures

pub returns : goal.returns
returns c = search (rules, withdraw_left)
