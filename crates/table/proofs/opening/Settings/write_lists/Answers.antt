-- `table::opening::Settings::write_lists` meets its contract: one list after the other.
use Rattle.table.proofs.Settings.{given_few, modes_few, modes_small, lists_written}
use borrow.Author.Rules.{rules}
use Rattle.table.proofs.opening.Settings.write_lists.Goals as goal

pub put_mpids-requires : goal.put_mpids-requires
put_mpids-requires c = (search rules, search (rules, given_few))

pub put_modes-requires : goal.put_modes-requires
put_modes-requires c = (search rules, search (rules, modes_few), search (rules, modes_small))

pub returns : goal.returns
returns c = search (rules, lists_written)
