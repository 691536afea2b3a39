-- `audit::has_numbers` meets its contract.
use Rattle.audit.proofs.Walked.{numbers_none, numbers_past, numbers_shut, numbers_is}
use Rattle.audit.proofs.book.has_numbers.Goals as goal

pub returns-then-w-eq0 : goal.returns-then-w-eq0
returns-then-w-eq0 c = numbers_none _ _ _ _ c.requires.1 c.if-w-eq0.true

pub returns-then-n-w : goal.returns-then-n-w
returns-then-n-w c = numbers_past _ _ _ _ c.requires.1 c.if-n-w.true

pub returns-then-not-has_open : goal.returns-then-not-has_open
returns-then-not-has_open c = numbers_shut _ _ _ _ c.requires.1 _ _ c.if-w-eq0.false c.if-n-w.false c.order_at-o.ensures.0 c.has_open.ensures (c.if-not-has_open.true)

pub returns : goal.returns
returns c = numbers_is _ _ _ _ c.requires.1 _ _ _ c.if-w-eq0.false c.if-n-w.false c.order_at-o.ensures.0 c.has_open.ensures (c.if-not-has_open.false) c.opposed_to.ensures.0
