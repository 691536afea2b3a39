-- `market::front::has_heading` meets its contract: what is traded, then each clause by its own function.
use Rattle.market.proofs.Tops.{heading_other, heading_of, heading_is}
use borrow.Author.Rules.{rules}
use Rattle.market.proofs.front.has_heading.Goals as goal

pub returns-then-not-is_of : goal.returns-then-not-is_of
returns-then-not-is_of c = search (rules, heading_other)

pub has_settings-requires : goal.has_settings-requires
has_settings-requires c = (search rules, search (rules, heading_of), search rules, search rules)

pub has_levels-requires : goal.has_levels-requires
has_levels-requires c = (search rules, search rules, search rules)

pub returns : goal.returns
returns c = search (rules, heading_is)
