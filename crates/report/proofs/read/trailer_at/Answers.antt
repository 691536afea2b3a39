-- `read::trailer_at` meets its contract: the trailer is written and compared.
use mathlib.Core.Path.{ap}
use lib.ListN.{length, length-take}
use Rattle.octets.proofs.Runs.{wrote_front, wrote_within}
use Rattle.report.proofs.Frames.{trailer_room, trailer_is}
use native.Mathlib.Omega.{arith}
use borrow.Author.Rules.{rules}
use Rattle.report.proofs.read.trailer_at.Goals as goal

pub slice_bounds-checksum-end : goal.slice_bounds-checksum-end
slice_bounds-checksum-end c = simp length-take (omega arith)

pub put_trailer-n-requires : goal.put_trailer-n-requires
put_trailer-n-requires c = trailer_room _

pub slice_bounds-t-end : goal.slice_bounds-t-end
slice_bounds-t-end c = wrote_within c.put_trailer-n.ensures (trailer_room _)

pub slice_bounds-same-end-2 : goal.slice_bounds-same-end-2
slice_bounds-same-end-2 c = let w = c.put_trailer-n.ensures in omega (arith, w.place, ap length (wrote_front w (trailer_room _)))

pub returns : goal.returns
returns c = trailer_is _ _ (search rules) _ c.checksum.ensures _ _ (wrote_front c.put_trailer-n.ensures (trailer_room _)) c.same.ensures
