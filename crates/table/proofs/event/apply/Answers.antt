-- `table::event::apply` meets its contract: the order is loaded, changed and stored.
use Rattle.table.proofs.Events.{due_low, due_sound, due_may, due_applied}
use borrow.Author.Rules.{rules}
use Rattle.table.proofs.event.apply.Goals as goal

pub load-o-requires : goal.load-o-requires
load-o-requires c = (search rules, search (rules, due_low))

pub change-p-requires : goal.change-p-requires
change-p-requires c = (search (rules, due_sound), search (rules, due_may))

pub put_amounts-requires : goal.put_amounts-requires
put_amounts-requires c = (search rules, search (rules, due_low))

pub returns : goal.returns
returns c = search (rules, due_applied)
