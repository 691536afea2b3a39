-- `kinds::is_framed` meets its contract: the frame, the CheckSum, and the fields that fill it.
use Rattle.kinds.proofs.Standings.{unframed, frame_within, frame_fits, framed_sum, framed_row}
use borrow.Author.Rules.{rules}
use Rattle.kinds.proofs.is_framed.Goals as goal

pub returns-in_default : goal.returns-in_default
returns-in_default c = search (rules, unframed)

pub overflow_add-end : goal.overflow_add-end
overflow_add-end c = search (rules, frame_fits)

pub trailer_at-requires : goal.trailer_at-requires
trailer_at-requires c = search (rules, frame_within)

pub returns-then-not-trailer_at : goal.returns-then-not-trailer_at
returns-then-not-trailer_at c = search (rules, framed_sum)

pub returns : goal.returns
returns c = search (rules, framed_row)
