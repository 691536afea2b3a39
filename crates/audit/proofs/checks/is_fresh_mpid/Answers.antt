-- `audit::is_fresh_mpid` meets its contract: no entry passed has the MPID.
use Rattle.std.proofs.Common.{sym}
use Rattle.audit.proofs.Checked.{differ_not, differ_yes}
use Rattle.octets.proofs.Ranges.{passed_none, passed_more, passed_stop, passed_end}
use Rattle.audit.proofs.checks.is_fresh_mpid.Goals as goal

pub loop-j-init : goal.loop-j-init
loop-j-init c = passed_none

pub returns-then-mpid_at-m : goal.returns-then-mpid_at-m
returns-then-mpid_at-m c = sym (passed_stop c.loop-j.invariant c.loop-j-test.true (differ_not _ _ _ _ c.mpid_at.ensures.0 c.mpid_at-m.ensures.0 c.if-mpid_at-m.true))

pub loop-j-preserved : goal.loop-j-preserved
loop-j-preserved c = passed_more c.loop-j.invariant c.loop-j-test.true (differ_yes _ _ _ _ c.mpid_at.ensures.0 c.mpid_at-m.ensures.0 c.if-mpid_at-m.false)

pub returns : goal.returns
returns c = sym (passed_end c.loop-j.invariant c.loop-j-test.false)
