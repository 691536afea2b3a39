-- The tag at the front. Invariant: the first i bytes are digits, at most four, and say n.
use Rattle.std.proofs.Common.{rules}
use Rattle.fix.proofs.Spelling.{spelled_start, spelled_more, tag_times, tag_fits, tag_good, tag_bad, tag_five, tag_end}
use Rattle.fix.proofs.fields.tag_of.Goals as goal

pub loop-i-init : goal.loop-i-init
loop-i-init c = search (rules, spelled_start)

pub returns-then-i-s : goal.returns-then-i-s
returns-then-i-s c = search (rules, tag_good)

pub returns-then-d-gt9 : goal.returns-then-d-gt9
returns-then-d-gt9 c = search (rules, tag_bad)

pub returns-then-i-eq4 : goal.returns-then-i-eq4
returns-then-i-eq4 c = search (rules, tag_five)

pub overflow_mul-n : goal.overflow_mul-n
overflow_mul-n c = search (rules, tag_times)

pub overflow_add-n : goal.overflow_add-n
overflow_add-n c = search (rules, tag_fits)

pub loop-i-preserved : goal.loop-i-preserved
loop-i-preserved c = search (rules, spelled_more)

pub returns : goal.returns
returns c = search (rules, tag_end)
