-- `table::look::Offers::reach` meets its contract: what q reaches to lies in the window.
use Rattle.table.proofs.Notes.{between_below, between_clear, clear_shrunk, one_turn}
use borrow.Author.Rules.{rules}
use Rattle.table.proofs.look.Offers.reach.Goals as goal

pub overflow_sub-w : goal.overflow_sub-w
overflow_sub-w c = search (rules, between_below)

pub narrowed-v-requires : goal.narrowed-v-requires
narrowed-v-requires c = search (rules, between_below)

pub halved-w-requires : goal.halved-w-requires
halved-w-requires c = search (rules, between_clear)

pub loop-w-smaller : goal.loop-w-smaller
loop-w-smaller c = search (rules, clear_shrunk)

pub returns : goal.returns
returns c = search (rules, one_turn)
