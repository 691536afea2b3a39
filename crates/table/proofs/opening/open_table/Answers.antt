-- `table::opening::open_table` meets its contract: refused where the length or a setting is wrong, else the table is written.
use mathlib.Core.Path.{sym, ◌∙◌}
use Rattle.table.proofs.Settings.{answer_short, table_short, answer_wrong, table_wrong, answer_right, table_right}
use borrow.Author.Rules.{rules}
use Rattle.table.proofs.opening.open_table.Goals as goal

pub returns-then-t-ne-TABLE : goal.returns-then-t-ne-TABLE
returns-then-t-ne-TABLE c = (search (rules, answer_short), search (rules, table_short))

pub returns-then-not-are_good : goal.returns-then-not-are_good
returns-then-not-are_good c =
    let e = c.are_good.ensures in
    let z = c.if-not-are_good.true in
    (answer_wrong _ _ _ _ _ _ _ _ _ e z, table_wrong _ _ _ _ _ _ _ _ _ e z)

pub write_fresh-requires : goal.write_fresh-requires
write_fresh-requires c = (search rules, sym c.are_good.ensures ∙ c.if-not-are_good.false)

pub returns : goal.returns
returns c =
    let q = c in
    let z = sym q.are_good.ensures ∙ q.if-not-are_good.false in
    let l = q.if-t-ne-TABLE.false in
    (answer_right _ _ _ _ _ _ _ _ l z, table_right _ _ _ _ _ _ _ _ _ l z c.write_fresh.ensures)
