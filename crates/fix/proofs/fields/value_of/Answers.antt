-- The value of the tag, where it was found.
use Rattle.fix.proofs.Loops.{value_fits, value_end, value_is, value_none}
use Rattle.std.proofs.Common.{rules}
use Rattle.fix.proofs.fields.value_of.Goals as goal

pub overflow_add-result : goal.overflow_add-result
overflow_add-result c = search (rules, value_fits)

pub slice_bounds-result-end : goal.slice_bounds-result-end
slice_bounds-result-end c = search (rules, value_end)

pub returns-in-Some : goal.returns-in-Some
returns-in-Some c = search (rules, value_is)

pub returns-in-None : goal.returns-in-None
returns-in-None c = search (rules, value_none)
