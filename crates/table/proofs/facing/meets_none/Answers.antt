-- `table::facing::meets_none` meets its contract: there is no best order among the records passed.
use mathlib.Core.Path.{refl}
use Rattle.octets.proofs.Bools.{not_both}
use Rattle.table.proofs.Faced.{best_zero, due_timely, best_skip, best_end}
use borrow.Author.Rules.{rules}
use Rattle.table.proofs.facing.meets_none.Goals as goal

pub loop-k-init : goal.loop-k-init
loop-k-init c = best_zero _ _

pub due-requires : goal.due-requires
due-requires c = (search (rules, due_timely), search rules)

pub returns-then-due-lt-END : goal.returns-then-due-lt-END
returns-then-due-lt-END c = λ z. absurd (not_both z refl)

pub loop-k-preserved : goal.loop-k-preserved
loop-k-preserved c = search (rules, best_skip)

pub returns : goal.returns
returns c = search (rules, best_end)
