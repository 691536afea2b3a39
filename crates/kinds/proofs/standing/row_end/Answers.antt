-- `standing::row_end` meets its contract, kind by kind.
use Rattle.kinds.proofs.Standings.{idle}
use Rattle.report.specs.Slots.{replaced_slots, canceled_slots}
use Rattle.kinds.proofs.standing.row_end.Goals as goal

pub returns-in-Accepted : goal.returns-in-Accepted
returns-in-Accepted c = rw c.in-Accepted.is c.accepted.ensures

pub returns-in-Replaced : goal.returns-in-Replaced
unfolding replaced_slots
returns-in-Replaced c = rw c.in-Replaced.is (idle _ _ 4 _ c.changed.ensures)

pub returns-in-Canceled : goal.returns-in-Canceled
unfolding canceled_slots
returns-in-Canceled c = rw c.in-Canceled.is (idle _ _ 4 _ c.changed-in-Canceled.ensures)

pub returns-in-Trade : goal.returns-in-Trade
returns-in-Trade c = rw c.in-Trade.is c.trade.ensures

pub returns-in-Rejected : goal.returns-in-Rejected
returns-in-Rejected c = rw c.in-Rejected.is c.rejected.ensures

pub returns-in-CancelReject : goal.returns-in-CancelReject
returns-in-CancelReject c = rw c.in-CancelReject.is c.cancel_reject.ensures

pub returns-in-SessionReject : goal.returns-in-SessionReject
returns-in-SessionReject c = rw c.in-SessionReject.is c.session_reject.ensures

pub returns-in-Refused : goal.returns-in-Refused
returns-in-Refused c = rw c.in-Refused.is (idle _ _ 35 _ c.unused.ensures)
