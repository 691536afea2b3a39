-- `audit::is_order` meets its contract.
use Rattle.audit.proofs.Amounts.{order_not_record, order_not_within, order_not_shut, order_not_priced, order_not_ranged, order_is}
use Rattle.std.proofs.Common.{rules}
use Rattle.audit.proofs.sound.Records.is_order.Goals as goal

pub returns-then-not-is_record : goal.returns-then-not-is_record
returns-then-not-is_record c = search (rules, order_not_record)

pub returns-then-not-is_within : goal.returns-then-not-is_within
returns-then-not-is_within c = search (rules, order_not_within)

pub returns-then-not-is_shut : goal.returns-then-not-is_shut
returns-then-not-is_shut c = search (rules, order_not_shut)

pub returns-then-not-is_priced : goal.returns-then-not-is_priced
returns-then-not-is_priced c = search (rules, order_not_priced)

pub returns-then-not-is_ranged : goal.returns-then-not-is_ranged
returns-then-not-is_ranged c = search (rules, order_not_ranged)

pub returns : goal.returns
returns c = search (rules, order_is)
