-- `table::opening::Settings::are_good` meets its contract: names, first number, lists.
use Rattle.table.proofs.Settings.{settings_are}
use borrow.Author.Rules.{rules}
use Rattle.table.proofs.opening.Settings.are_good.Goals as goal

pub returns : goal.returns
returns c = search (rules, settings_are)
