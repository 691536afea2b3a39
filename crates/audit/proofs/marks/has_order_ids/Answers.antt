-- `audit::has_order_ids` meets its contract: the OrderIDs are the numbers at their byte of the records.
use Rattle.audit.proofs.Marked.{order_ids_are}
use Rattle.std.proofs.Common.{rules}
use Rattle.audit.proofs.marks.has_order_ids.Goals as goal

pub returns : goal.returns
returns c = search (rules, order_ids_are)
