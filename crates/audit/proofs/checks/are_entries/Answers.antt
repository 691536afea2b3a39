-- `audit::are_entries` meets its contract: the entries passed are good.
use Rattle.std.proofs.Common.{sym, ◌∙◌}
use Rattle.octets.proofs.Ranges.{passed_none, passed_more, passed_stop, passed_end}
use Rattle.audit.proofs.checks.are_entries.Goals as goal

pub loop-k-init : goal.loop-k-init
loop-k-init c = passed_none

pub returns-then-not-is_entry : goal.returns-then-not-is_entry
returns-then-not-is_entry c = sym (passed_stop c.loop-k.invariant c.loop-k-test.true (sym c.is_entry.ensures ∙ c.if-not-is_entry.true))

pub loop-k-preserved : goal.loop-k-preserved
loop-k-preserved c = passed_more c.loop-k.invariant c.loop-k-test.true (sym c.is_entry.ensures ∙ c.if-not-is_entry.false)

pub returns : goal.returns
returns c = sym (passed_end c.loop-k.invariant c.loop-k-test.false)
