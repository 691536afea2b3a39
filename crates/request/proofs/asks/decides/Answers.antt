-- The verdict on the body, or what follows it.
use Rattle.request.proofs.Answers.{starts, decides_fails, decides_passes}
use borrow.Author.Rules.{rules}
use Rattle.request.proofs.asks.decides.Goals as goal

pub gather-requires : goal.gather-requires
gather-requires c = search (rules, starts)

pub returns-in_err-gather : goal.returns-in_err-gather
returns-in_err-gather c = search (rules, decides_fails, c.in_err-gather.was)

pub returns : goal.returns
returns c = search (rules, decides_passes, c.in_ok-gather.was)
