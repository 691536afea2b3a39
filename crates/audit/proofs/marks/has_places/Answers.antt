-- `audit::has_places` meets its contract: the places are the numbers at their byte of the records.
use Rattle.audit.proofs.Marked.{places_are}
use Rattle.std.proofs.Common.{rules}
use Rattle.audit.proofs.marks.has_places.Goals as goal

pub returns : goal.returns
returns c = search (rules, places_are)
