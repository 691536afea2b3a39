-- `image::come_to` meets its contract: c columns are added up.
use Prim.Native.Nat.{◌+◌}
use native.Mathlib.Omega.{arith}
use borrow.Author.Rules.{rules}
use Rattle.image.proofs.Columned.{came_none, came_more, came_end, part_small}
use Rattle.image.proofs.weigh.come_to.Goals as goal

pub loop-c-init : goal.loop-c-init
loop-c-init c = came_none

pub overflow_mul-r-in-loop-c : goal.overflow_mul-r-in-loop-c
overflow_mul-r-in-loop-c c = omega (arith, part_small (c.loop-c.w + 1) c.wider-in-loop-c.result (omega arith) (omega arith))

pub overflow_add-r : goal.overflow_add-r
overflow_add-r c = omega (arith, part_small (c.loop-c.w + 1) c.wider-in-loop-c.result (omega arith) (omega arith))

pub overflow_add-r-in-loop-c : goal.overflow_add-r-in-loop-c
overflow_add-r-in-loop-c c = omega (arith, part_small (c.loop-c.w + 1) c.wider-in-loop-c.result (omega arith) (omega arith))

pub loop-c-preserved : goal.loop-c-preserved
loop-c-preserved c = search (rules, came_more)

pub returns : goal.returns
returns c = search (rules, came_end)
