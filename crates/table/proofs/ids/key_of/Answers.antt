-- `table::ids::key_of` meets its contract: the bytes that were written are those that a record holds.
use Rattle.table.proofs.Keys.{key_is}
use borrow.Author.Rules.{rules}
use Rattle.table.proofs.ids.key_of.Goals as goal

pub returns : goal.returns
returns c = search (rules, key_is)
