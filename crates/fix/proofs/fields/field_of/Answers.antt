-- The field at the front: a tag, characters, an SOH.
use Rattle.fix.proofs.Spelling.{value_from_lem, from_fits, field_none, field_open, field_other, field_good, value_fits}
use Rattle.std.proofs.Common.{rules}
use Rattle.fix.proofs.fields.field_of.Goals as goal

pub returns-in_default : goal.returns-in_default
returns-in_default c = search (rules, field_none)

pub overflow_add-v : goal.overflow_add-v
overflow_add-v c = search (rules, from_fits)

pub slice_bounds-text_run-count : goal.slice_bounds-text_run-count
slice_bounds-text_run-count c = search (rules, value_from_lem)

pub slice_bounds-text_run-start : goal.slice_bounds-text_run-start
slice_bounds-text_run-start c = search (rules, value_from_lem)

pub overflow_add-e : goal.overflow_add-e
overflow_add-e c = search (rules, value_fits)

pub returns-then-s-e : goal.returns-then-s-e
returns-then-s-e c = search (rules, field_open)

pub returns-then-s-e-ne1 : goal.returns-then-s-e-ne1
returns-then-s-e-ne1 c = search (rules, field_other)

pub returns : goal.returns
returns c = search (rules, field_good)
