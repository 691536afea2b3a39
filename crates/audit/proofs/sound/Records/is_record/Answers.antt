-- `audit::is_record` meets its contract.
use Rattle.audit.proofs.Amounts.{record_not_id, record_not_account, record_not_marked, record_no_number, record_is}
use Rattle.std.proofs.Common.{rules}
use Rattle.audit.proofs.sound.Records.is_record.Goals as goal

pub returns-then-not-is_text : goal.returns-then-not-is_text
returns-then-not-is_text c = search (rules, record_not_id)

pub returns-then-not-is_account : goal.returns-then-not-is_account
returns-then-not-is_account c = search (rules, record_not_account)

pub returns-then-not-is_marked : goal.returns-then-not-is_marked
returns-then-not-is_marked c = search (rules, record_not_marked)

pub returns-then-order_id-eq0 : goal.returns-then-order_id-eq0
returns-then-order_id-eq0 c = search (rules, record_no_number)

pub returns : goal.returns
returns c = search (rules, record_is)
