-- `audit::is_market_of` meets its contract.
use Rattle.audit.proofs.Walked.{market_not, market_kind, market_inside}
use Rattle.audit.proofs.whole.is_market_of.Goals as goal

pub returns-then-not-is_market : goal.returns-then-not-is_market
returns-then-not-is_market c = market_not _ _ _ c.is_market.ensures (c.if-not-is_market.true)

pub bounds-t-55 : goal.bounds-t-55
bounds-t-55 c = market_inside _ _ c.is_market.ensures (c.if-not-is_market.false)

pub returns : goal.returns
returns c = market_kind _ _ _ _ c.is_market.ensures (c.if-not-is_market.false) c.kind_number.ensures
