-- The widths of an order's numbers in a record, what any record read gives; and of what 255 orders come to. Assumes nothing.
use Rattle.std.specs.Prelude.{◌<◌}
use Rattle.matching.specs.declared.Order.{Order}
use Rattle.matching.specs.declared.Level.{Level}
use Rattle.audit.specs.declared.book.Sides.{Sides}

-- each number fits the bytes that it has
pub record Narrow (o : Order) : Type 0 where
  pub side : o.side < 256
  pub tif : o.tif < 256
  pub level : o.level < 4294967296
  pub qty : o.qty < 4294967296
  pub executed : o.executed < 4294967296
  pub decremented : o.decremented < 4294967296
  pub canceled : o.canceled < 4294967296
  pub place : o.place < 4294967296
  pub mpid : o.mpid < 4294967296
  pub minqty : o.minqty < 4294967296

-- there is room for one order more
pub record Roomy (c : Level) : Type 0 where
  pub total : c.total < 1099511627776
  pub orders : c.orders < 256

pub record RoomySides (s : Sides) : Type 0 where
  pub buy : Roomy s.buy
  pub sell : Roomy s.sell
