-- `ticket::told_of` meets its contract, event by event.
use Rattle.ticket.proofs.Events.{shown_sound, fill_ready, accepted_told_lem, replaced_told_lem, withdrawn_told, canceled_told_lem, decremented_told, traded_told_lem, killed_told, expired_told}
use Rattle.std.proofs.Common.{inl, inr}
use Rattle.ticket.proofs.told_of.Goals as goal

pub fill_on-requires : goal.fill_on-requires
fill_on-requires c = fill_ready c.args.t.now c.args.n c.args.orig c.args.e c.args.i c.args.o c.requires.0 c.in-Traded.is

pub traded-requires : goal.traded-requires
traded-requires c = (shown_sound c.args.t.now c.args.n c.args.orig c.args.e c.args.i c.args.o c.requires.0 c.requires.2).covered

pub returns-in-Accepted : goal.returns-in-Accepted
returns-in-Accepted c = accepted_told_lem c.args.t.now c.args.n c.args.orig c.args.e c.args.i c.args.o c.requires.2 _ c.in-Accepted.is c.accepted.ensures

pub returns-in-Replaced : goal.returns-in-Replaced
returns-in-Replaced c = replaced_told_lem c.args.t.now c.args.n c.args.orig c.args.e c.args.i c.args.o c.requires.2 _ _ c.in-Replaced.is c.requested.ensures c.replaced.ensures

pub returns-in-Withdrawn : goal.returns-in-Withdrawn
returns-in-Withdrawn c = withdrawn_told c.args.t.now c.args.n c.args.orig c.args.e c.args.i c.args.o c.requires.2 _ _ c.in-Withdrawn.is c.requested-in-Withdrawn.ensures c.canceled.ensures

pub returns-in-Canceled : goal.returns-in-Canceled
returns-in-Canceled c = canceled_told_lem c.args.t.now c.args.n c.args.orig c.args.e c.args.i c.args.o c.requires.2 _ _ c.in-Canceled.is c.prevented.ensures c.canceled-in-Canceled.ensures

pub returns-in-Decremented : goal.returns-in-Decremented
returns-in-Decremented c = decremented_told c.args.t.now c.args.n c.args.orig c.args.e c.args.i c.args.o c.requires.2 _ _ c.in-Decremented.is c.decremented.ensures c.replaced-in-Decremented.ensures

pub returns-in-Traded : goal.returns-in-Traded
returns-in-Traded c = traded_told_lem c.args.t.now c.args.n c.args.orig c.args.e c.args.i c.args.o c.requires.2 _ _ c.in-Traded.is c.requires.1 c.fill_on.ensures c.traded.ensures

pub returns-in-Killed : goal.returns-in-Killed
returns-in-Killed c =
    elim c.in-Killed.is [
      | inl w ↦ killed_told c.args.t.now c.args.n c.args.orig c.args.e c.args.i c.args.o c.requires.2 _ _ w.2 c.expired.ensures c.canceled-in-Killed.ensures
      | inr w ↦ expired_told c.args.t.now c.args.n c.args.orig c.args.e c.args.i c.args.o c.requires.2 _ _ w.2 c.expired.ensures c.canceled-in-Killed.ensures
    ]
