-- `force::value_of` meets its contract. The invariant: what is left decides.
use borrow.Author.Rules.{rules}
use Rattle.feed.proofs.Shown.{sought_first, sought_here, sought_on, sought_end}
use Rattle.feed.proofs.force.value_of.Goals as goal

pub loop-field-init : goal.loop-field-init
loop-field-init c = sought_first _ _ (search rules)

pub returns-then-field-tag : goal.returns-then-field-tag
returns-then-field-tag c = search (rules, sought_here)

pub loop-field-preserved : goal.loop-field-preserved
loop-field-preserved c = sought_on _ _ _ c.loop-field.invariant _ c.loop-field-test.true c.if-field-tag.false

pub returns : goal.returns
returns c = search (rules, sought_end)
