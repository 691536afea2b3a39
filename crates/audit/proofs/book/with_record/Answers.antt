-- `audit::with_record` meets its contract.
use Rattle.audit.proofs.Walked.{record_apart, record_with_lem}
use Rattle.std.proofs.Common.{rules}
use Rattle.audit.proofs.book.with_record.Goals as goal

pub returns-then-k-w : goal.returns-then-k-w
returns-then-k-w c = search (rules, record_apart)

pub returns : goal.returns
returns c = record_with_lem _ _ _ _ _ _ c.if-k-w.false c.order_at.ensures.0 c.with_order.ensures
