-- 10 against the sum.
use Rattle.std.proofs.Common.{rules}
use Rattle.fix.proofs.Verdict.{sums_says}
use Rattle.fix.proofs.frame.sums.Goals as goal

pub returns : goal.returns
returns c = search (rules, sums_says)
