-- `table::facing::note_for` meets its contract, by side.
use Rattle.table.proofs.Faced.{side_told}
use borrow.Author.Rules.{rules}
use Rattle.table.proofs.facing.note_for.Goals as goal

pub note-requires : goal.note-requires
note-requires c = (search rules, search rules, search rules, search (rules, side_told), search rules)

pub note-requires-2 : goal.note-requires-2
note-requires-2 c = (search rules, search rules, search rules, search (rules, side_told), search rules)
