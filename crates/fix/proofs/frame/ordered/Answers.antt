-- The header first, and 10 last.
use Rattle.fix.proofs.Lines.{ordered_short, ordered_heads, ordered_last, ordered_is}
use Rattle.std.proofs.Common.{rules}
use Rattle.fix.proofs.frame.ordered.Goals as goal

pub returns-then-count-lt8 : goal.returns-then-count-lt8
returns-then-count-lt8 c = search (rules, ordered_short)

pub returns-then-not-heads : goal.returns-then-not-heads
returns-then-not-heads c = search (rules, ordered_heads)

pub returns-then-row-m-ne10 : goal.returns-then-row-m-ne10
returns-then-row-m-ne10 c = search (rules, ordered_last)

pub lined-requires : goal.lined-requires
lined-requires c = search (rules, ordered_is)
