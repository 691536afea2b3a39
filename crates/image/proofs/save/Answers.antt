-- `image::save` meets its contract: one return a refusal, in their order.
use Rattle.image.proofs.Answered.{is_wrong, long_image, long_table, save_length, save_none, save_done}
use Rattle.std.proofs.Common.{ap, not}
use Rattle.image.proofs.save.Goals as goal

pub returns-then-image-table : goal.returns-then-image-table
returns-then-image-table c = save_length _ _ _ (is_wrong c.args.table.now c.args.image.now _ c.if-image-table.true)

pub returns-then-not-is_market_of : goal.returns-then-not-is_market_of
returns-then-not-is_market_of c = save_none _ _ _ (is_wrong c.args.table.now c.args.image.now _ c.if-image-table.false) _ c.is_market_of.ensures (ap not c.if-not-is_market_of.true)

pub put_image-requires : goal.put_image-requires
put_image-requires c = (long_image c.args.table.now _ (is_wrong c.args.table.now c.args.image.now _ c.if-image-table.false), long_table _ c.args.image.now (is_wrong c.args.table.now c.args.image.now _ c.if-image-table.false))

pub returns : goal.returns
returns c = save_done _ _ _ (is_wrong c.args.table.now c.args.image.now _ c.if-image-table.false) _ c.is_market_of.ensures (ap not c.if-not-is_market_of.false) _ c.put_image.ensures
