-- `table::event::withdraw` meets its contract: the order is loaded, changed and stored.
use Rattle.table.proofs.Events.{due_low, due_sound, due_may, due_withdrawn, named_long}
use borrow.Author.Rules.{rules}
use Rattle.table.proofs.event.withdraw.Goals as goal

pub load-o-requires : goal.load-o-requires
load-o-requires c = (search rules, search (rules, due_low))

pub change-p-requires : goal.change-p-requires
change-p-requires c = (search (rules, due_sound), search (rules, due_may))

pub put_id-requires : goal.put_id-requires
put_id-requires c = (search rules, search (rules, due_low), search rules)

pub put_amounts-requires : goal.put_amounts-requires
put_amounts-requires c = (search (rules, named_long), search (rules, due_low))

pub returns : goal.returns
returns c = search (rules, due_withdrawn)
