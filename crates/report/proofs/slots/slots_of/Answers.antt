-- `slots::slots_of` meets its contract, kind by kind.
use Rattle.report.proofs.slots.slots_of.Goals as goal

pub returns-in-Accepted : goal.returns-in-Accepted
returns-in-Accepted c = rw c.in-Accepted.is c.accepted_slots.ensures

pub returns-in-Replaced : goal.returns-in-Replaced
returns-in-Replaced c = rw c.in-Replaced.is c.replaced_slots.ensures

pub returns-in-Canceled : goal.returns-in-Canceled
returns-in-Canceled c = rw c.in-Canceled.is c.canceled_slots.ensures

pub returns-in-Trade : goal.returns-in-Trade
returns-in-Trade c = rw c.in-Trade.is c.trade_slots.ensures

pub returns-in-Rejected : goal.returns-in-Rejected
returns-in-Rejected c = rw c.in-Rejected.is c.rejected_slots.ensures

pub returns-in-CancelReject : goal.returns-in-CancelReject
returns-in-CancelReject c = rw c.in-CancelReject.is c.cancel_reject_slots.ensures

pub returns-in-SessionReject : goal.returns-in-SessionReject
returns-in-SessionReject c = rw c.in-SessionReject.is c.session_reject_slots.ensures

pub returns-in-Refused : goal.returns-in-Refused
returns-in-Refused c = rw c.in-Refused.is
