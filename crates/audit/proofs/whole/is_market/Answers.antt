-- `audit::is_market` meets its contract.
use Rattle.audit.proofs.Walked.{not_long, no_records, records_orders, records_work, market_is}
use Rattle.std.proofs.Common.{rules}
use Rattle.audit.proofs.whole.is_market.Goals as goal

pub returns-then-t-ne-TABLE : goal.returns-then-t-ne-TABLE
returns-then-t-ne-TABLE c = not_long _ c.if-t-ne-TABLE.true

pub returns-then-not-has_records : goal.returns-then-not-has_records
returns-then-not-has_records c = no_records _ _ c.if-t-ne-TABLE.false c.has_records.ensures (c.if-not-has_records.true)

pub has_ids-requires : goal.has_ids-requires
has_ids-requires c = search (rules, records_orders _ _ c.if-t-ne-TABLE.false c.has_records.ensures (c.if-not-has_records.false))

pub has_book-requires : goal.has_book-requires
has_book-requires c = search (rules, records_orders _ _ c.if-t-ne-TABLE.false c.has_records.ensures (c.if-not-has_records.false), records_work _ _ c.if-t-ne-TABLE.false c.has_records.ensures _ c.filled-n.ensures.0 (c.if-not-has_records.false))

pub returns : goal.returns
returns c = market_is _ _ c.if-t-ne-TABLE.false c.has_records.ensures _ _ _ (c.if-not-has_records.false) c.has_ids.ensures c.has_order_ids.ensures c.has_book.ensures
