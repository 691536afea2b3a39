-- `table::opening::Settings::write_fresh` meets its contract: the names, the first number, the kind, the lists.
use Rattle.table.proofs.Settings.{settings_names, settings_given, fresh_written}
use borrow.Author.Rules.{rules}
use Rattle.table.proofs.opening.Settings.write_fresh.Goals as goal

pub write_names-requires : goal.write_names-requires
write_names-requires c = (search rules, search (rules, settings_names))

pub write_lists-requires : goal.write_lists-requires
write_lists-requires c = (search rules, search (rules, settings_given))

pub returns : goal.returns
returns c = search (rules, fresh_written)
