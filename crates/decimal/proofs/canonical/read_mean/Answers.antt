-- `canonical::read_mean` meets its contract.
use Rattle.decimal.proofs.Canon.{mean_is, mean_scale}
use borrow.Author.Rules.{rules}
use Rattle.decimal.proofs.canonical.read_mean.Goals as goal

pub read_fixed-requires : goal.read_fixed-requires
read_fixed-requires c = (search (rules, mean_scale), search rules)

pub returns : goal.returns
returns c = search (rules, mean_is)
