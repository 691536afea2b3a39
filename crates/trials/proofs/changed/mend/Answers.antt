-- `changes::mend`: 10 has room in the last seven bytes, and is true of those before it.
use borrow.Author.Rules.{rules}
use Rattle.trials.proofs.Counting.{mend_room, mend_cut, mend_wrote}
use Rattle.trials.proofs.changed.mend.Goals as goal

pub slice_bounds-checksum-end-2 : goal.slice_bounds-checksum-end-2
slice_bounds-checksum-end-2 c = search (rules, mend_cut)

pub put_trailer-requires : goal.put_trailer-requires
put_trailer-requires c = search (rules, mend_room)

pub returns : goal.returns
returns c = search (rules, mend_wrote)
