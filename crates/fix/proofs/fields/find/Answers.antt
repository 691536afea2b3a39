-- The first field with the tag. Invariant: it is the first from the cursor on.
use Rattle.std.proofs.Common.{⊎_elim, rules}
use Rattle.fix.proofs.Walk.{step_less}
use Rattle.fix.proofs.Loops.{find_here, find_next, find_broken, find_end}
use Rattle.fix.proofs.fields.find.Goals as goal

pub returns-then-t-tag : goal.returns-then-t-tag
returns-then-t-tag c = search (rules, find_here)

pub loop-t-smaller : goal.loop-t-smaller
loop-t-smaller c = search (rules, step_less)

pub loop-t-preserved : goal.loop-t-preserved
loop-t-preserved c = search (rules, find_next)

pub returns-in-Broken : goal.returns-in-Broken
returns-in-Broken c = ⊎_elim (λ g. search (rules, find_broken)) (λ g. search (rules, find_end)) c.in-Broken.is
