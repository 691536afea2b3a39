-- `table::facing::pass` meets its contract: of the sixteens only that of the record is looked at again.
use Rattle.table.proofs.Faced.{passed_none, passed_one, ranked_passed}
use borrow.Author.Rules.{rules}
use Rattle.table.proofs.facing.pass.Goals as goal

pub returns-then-r-eq0 : goal.returns-then-r-eq0
returns-then-r-eq0 c = (search (rules, passed_none), search rules)

pub returns : goal.returns
returns c = (search (rules, passed_one), search (rules, ranked_passed))
