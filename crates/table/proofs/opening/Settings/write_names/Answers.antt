-- `table::opening::Settings::write_names` meets its contract: zeros, then the three texts.
use Rattle.table.proofs.Settings.{venue_short, port_short, code_short, eight_small, nine_small, names_written}
use borrow.Author.Rules.{rules}
use Rattle.table.proofs.opening.Settings.write_names.Goals as goal

pub put_text-requires : goal.put_text-requires
put_text-requires c = (search rules, search (rules, venue_short), search (rules, eight_small, venue_short))

pub put_text-requires-2 : goal.put_text-requires-2
put_text-requires-2 c = (search rules, search (rules, port_short), search (rules, eight_small, port_short))

pub put_text-requires-3 : goal.put_text-requires-3
put_text-requires-3 c = (search rules, search (rules, code_short), search (rules, nine_small, code_short))

pub returns : goal.returns
returns c = search (rules, names_written)
