-- The tag at the front. Invariant: the first i bytes are digits, at most four, say n, and took the sum on; b is the byte behind them.
use Rattle.std.proofs.Common.{rules}
use Rattle.fix.proofs.Paces.{closed_some, spelling_start, spelling_times, spelling_fits, spelling_step, spelling_next, spelling_less, spelling_more, tagged_five, tagged_good, tagged_bad}
use Rattle.fix.proofs.pass.spelled.Goals as goal

pub bounds-s-0 : goal.bounds-s-0
bounds-s-0 c = search (rules, closed_some)

pub loop-first-init : goal.loop-first-init
loop-first-init c = search (rules, spelling_start)

pub returns-then-i-first : goal.returns-then-i-first
returns-then-i-first c = search (rules, tagged_good)

pub returns-then-d-gt9 : goal.returns-then-d-gt9
returns-then-d-gt9 c = search (rules, tagged_bad)

pub returns-then-i-eq4 : goal.returns-then-i-eq4
returns-then-i-eq4 c = search (rules, tagged_five)

pub overflow_mul-n : goal.overflow_mul-n
overflow_mul-n c = search (rules, spelling_times)

pub overflow_add-n : goal.overflow_add-n
overflow_add-n c = search (rules, spelling_fits)

pub overflow_add-i : goal.overflow_add-i
overflow_add-i c = search (rules, spelling_step)

pub bounds-s-i : goal.bounds-s-i
bounds-s-i c = spelling_next _ _ _ _ _ _ _ c.loop-first.invariant _ (search rules) (search rules) c.digit-d.ensures.0

pub loop-first-smaller : goal.loop-first-smaller
loop-first-smaller c = search (rules, spelling_less)

pub loop-first-preserved : goal.loop-first-preserved
loop-first-preserved c = search (rules, spelling_more)
