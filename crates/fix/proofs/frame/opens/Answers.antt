-- 8 and 9, where they stand, or the message is garbled.
use Rattle.fix.proofs.Opening.{opens_begin, opens_wrong, opens_is}
use Rattle.std.proofs.Common.{rules}
use Rattle.fix.proofs.frame.opens.Goals as goal

pub returns-then-not-same : goal.returns-then-not-same
returns-then-not-same c = search (rules, opens_begin)

pub returns : goal.returns
returns c = search (rules, opens_is, c.in_ok-count.was)

pub returns-in_err-count : goal.returns-in_err-count
returns-in_err-count c = rw c.from_residual.ensures (search (rules, opens_wrong, c.in_err-count.was))
