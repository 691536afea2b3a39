-- The second and the third number of a field of the row.
use Rattle.fix.proofs.Opening.{place_is}
use Rattle.std.proofs.Common.{rules}
use Rattle.fix.proofs.frame.place.Goals as goal

pub returns : goal.returns
returns c = search (rules, place_is)
