-- The field at the cursor, read from the rest of the message, with the sum.
use Rattle.fix.proofs.Paces.{closed_rest, pace_end, pace_good}
use Rattle.std.proofs.Common.{rules}
use Rattle.fix.proofs.fields.Cursor.pace.Goals as goal

pub returns-then-s-at : goal.returns-then-s-at
returns-then-s-at c = search (rules, pace_end)

pub strode-requires : goal.strode-requires
strode-requires c = (search (rules, closed_rest), search rules)

pub returns : goal.returns
returns c = search (rules, pace_good)
