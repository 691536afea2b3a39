-- `audit::with_order` meets its contract.
use Rattle.audit.proofs.Walked.{order_shut, order_buys, order_sells}
use Rattle.std.proofs.Common.{rules}
use Rattle.audit.proofs.book.with_order.Goals as goal

pub returns-then-o-used : goal.returns-then-o-used
returns-then-o-used c = search (rules, order_shut)

pub returns-then-o-eq1 : goal.returns-then-o-eq1
returns-then-o-eq1 c = search (rules, order_buys)

pub returns : goal.returns
returns c = search (rules, order_sells)
