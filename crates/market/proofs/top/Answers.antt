-- `market::top` meets its contract: the refusals in their order, then the level that the heading keeps.
use borrow.Author.Rules.{rules}
use Rattle.market.specs.Top.{top_answer}
use Rattle.market.proofs.Tops.{top_short, top_wrong, top_refused, side_picked, top_found}
use Rattle.market.proofs.top.Goals as goal

pub returns-then-table-ne-TABLE : goal.returns-then-table-ne-TABLE
returns-then-table-ne-TABLE c = search (rules, top_short)

pub has_heading-requires : goal.has_heading-requires
has_heading-requires c = (search rules, search rules, search rules)

pub returns-then-not-has_heading : goal.returns-then-not-has_heading
returns-then-not-has_heading c = search (rules, top_wrong)

pub returns-in_err-asked : goal.returns-in_err-asked
unfolding top_answer
returns-in_err-asked c = search (rules, top_refused)

pub returns : goal.returns
returns c = search (rules, side_picked, top_found)
