-- `table::opening::all_between` meets its contract: std's test of a whole list is `every`.
use Rattle.std.proofs.Common.{◌∙◌, rules}
use Rattle.std.proofs.lemmas.Iterator.{YieldsList-from_slice}
use Rattle.std.proofs.lemmas.Iterator.Search.{all_from_yields_List}
use borrow.Author.Tests.{tests}
use Rattle.table.specs.Market.{is_between}
use Rattle.table.proofs.Settings.{every_is}
use Rattle.table.proofs.opening.all_between.Goals as goal

pub returns : goal.returns
returns c =
    all_from_yields_List (is_between c.args.low c.args.high) _ _ _ c.all.ensures.ran (YieldsList-from_slice c.args.s.now cc) (λ x b q k. search (rules, tests))
    ∙ every_is _ _
