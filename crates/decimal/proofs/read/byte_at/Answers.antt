-- The byte at a place, and 0 past the end.
use Rattle.decimal.proofs.Scans.{byte_past}
use borrow.Author.Rules.{rules}
use Rattle.decimal.proofs.read.byte_at.Goals as goal

pub returns-else-i-s : goal.returns-else-i-s
returns-else-i-s c = search (rules, byte_past)
