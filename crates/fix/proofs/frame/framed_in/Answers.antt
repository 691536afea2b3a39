-- The length, the SOH at the end, and the walk.
use Rattle.fix.proofs.Verdict.{empty_frame, long_frame}
use Rattle.fix.proofs.Lines.{open_frame, ready, walk_wrong, walk_rowed, framed_garbled, framed_walked}
use Rattle.std.proofs.Common.{rules}
use Rattle.fix.proofs.frame.framed_in.Goals as goal

pub returns-then-n-eq0 : goal.returns-then-n-eq0
returns-then-n-eq0 c = search (rules, framed_garbled, empty_frame)

pub returns-then-n-gt1024 : goal.returns-then-n-gt1024
returns-then-n-gt1024 c = search (rules, framed_garbled, long_frame)

pub returns-then-s-n-ne1 : goal.returns-then-s-n-ne1
returns-then-s-n-ne1 c = search (rules, framed_garbled, open_frame)

pub walk-requires : goal.walk-requires
walk-requires c = search (rules, ready)

pub ordered-requires : goal.ordered-requires
ordered-requires c = (search rules, search (rules, walk_rowed))

pub returns : goal.returns
returns c = search (rules, framed_walked)

pub returns-in_err-w : goal.returns-in_err-w
returns-in_err-w c = search (rules, framed_garbled, walk_wrong)
