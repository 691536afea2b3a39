-- `canonical::read_level` meets its contract.
use Rattle.decimal.proofs.Canon.{level_is_lem, level_scale}
use borrow.Author.Rules.{rules}
use Rattle.decimal.proofs.canonical.read_level.Goals as goal

pub read_fixed-requires : goal.read_fixed-requires
read_fixed-requires c = (search (rules, level_scale), search rules)

pub returns : goal.returns
returns c = search (rules, level_is_lem)
