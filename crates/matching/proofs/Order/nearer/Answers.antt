-- The level of an order that stands behind x and is nearer, else the one found so far.
use borrow.Author.Rules.{rules}
use Rattle.matching.proofs.Values.{nearer_yes, nearer_no}
use Rattle.matching.proofs.Order.nearer.Goals as goal

pub returns-then-stands-behind : goal.returns-then-stands-behind
returns-then-stands-behind c = search (rules, nearer_yes)

pub returns : goal.returns
returns c = search (rules, nearer_no)
