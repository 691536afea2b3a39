-- `image::first_bad` meets its contract: the blocks before k are good.
use borrow.Author.Rules.{rules}
use Rattle.octets.proofs.Ranges.{sought_none}
use Rattle.image.proofs.Wholes.{bad_more, bad_here, bad_none}
use Rattle.image.proofs.whole.first_bad.Goals as goal

pub loop-k-init : goal.loop-k-init
loop-k-init c = sought_none

pub returns-then-not-is_good : goal.returns-then-not-is_good
returns-then-not-is_good c = (search (rules, bad_here), search rules)

pub loop-k-preserved : goal.loop-k-preserved
loop-k-preserved c = search (rules, bad_more)

pub returns : goal.returns
returns c = search (rules, bad_none)
