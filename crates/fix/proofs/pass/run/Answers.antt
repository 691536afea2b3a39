-- The characters at the front. Invariant: the first i bytes are characters, and took the sum on.
use Rattle.std.proofs.Common.{rules}
use Rattle.fix.proofs.Paces.{running_start, running_in, running_step, running_less, ran, running_more}
use Rattle.fix.proofs.pass.run.Goals as goal

pub loop-i-init : goal.loop-i-init
loop-i-init c = search (rules, running_start)

pub bounds-s-i : goal.bounds-s-i
bounds-s-i c = search (rules, running_in)

pub returns-then-not-is_text : goal.returns-then-not-is_text
returns-then-not-is_text c = search (rules, ran)

pub overflow_add-i : goal.overflow_add-i
overflow_add-i c = search (rules, running_step)

pub loop-i-smaller : goal.loop-i-smaller
loop-i-smaller c = search (rules, running_less)

pub loop-i-preserved : goal.loop-i-preserved
loop-i-preserved c = search (rules, running_more)
