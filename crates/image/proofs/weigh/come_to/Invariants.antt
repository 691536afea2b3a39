-- `image::come_to` meets its contract: c columns are added up.
use Rattle.image.proofs.Columned.{Came}
use Rattle.image.proofs.weigh.come_to.Given as goal

abbrev pub invariant-loop-c : goal.invariant-loop-c
invariant-loop-c l = Came l.sums l.turns l.r l.c l.w
