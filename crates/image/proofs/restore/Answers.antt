-- `image::restore` meets its contract: one return a refusal, in their order.
use Rattle.image.proofs.Answered.{is_wrong, long_image, long_table, restore_length, restore_bad, restore_none, restore_done}
use Rattle.std.proofs.Common.{ap, not}
use Rattle.image.proofs.restore.Goals as goal

pub returns-then-image-table : goal.returns-then-image-table
returns-then-image-table c = restore_length _ _ _ (is_wrong c.args.table.now c.args.image.now _ c.if-image-table.true)

pub first_bad-requires : goal.first_bad-requires
first_bad-requires c = long_image c.args.table.now _ (is_wrong c.args.table.now c.args.image.now _ c.if-image-table.false)

pub returns-in-Some : goal.returns-in-Some
returns-in-Some c = restore_bad _ _ _ (is_wrong c.args.table.now c.args.image.now _ c.if-image-table.false) _ c.in-Some.ensures.0 c.in-Some.ensures.1

pub read_market-requires : goal.read_market-requires
read_market-requires c =
    let right = is_wrong c.args.table.now c.args.image.now _ c.if-image-table.false in
    (long_table _ c.args.image.now right, long_image c.args.table.now _ right)

pub returns-then-not-read_market : goal.returns-then-not-read_market
returns-then-not-read_market c = restore_none _ _ _ (is_wrong c.args.table.now c.args.image.now _ c.if-image-table.false) c.in_default.ensures _ c.read_market.ensures.0 _ c.read_market.ensures.1 (ap not c.if-not-read_market.true)

pub returns : goal.returns
returns c = restore_done _ _ _ (is_wrong c.args.table.now c.args.image.now _ c.if-image-table.false) c.in_default.ensures _ c.read_market.ensures.0 _ c.read_market.ensures.1 (ap not c.if-not-read_market.false)
