-- `table::ids::find_id` meets its contract: at each turn the search from k on gives the whole search's answer.
use mathlib.Core.Path.{sym, ◌∙◌}
use native.Mathlib.Omega.{arith}
use Rattle.octets.proofs.Ranges.{sought_none, sought_more}
use Rattle.table.proofs.Lookups.{id_here, id_none}
use Rattle.table.proofs.Keys.{record_few, none_filled, none_long}
use borrow.Author.Rules.{rules}
use Rattle.table.proofs.ids.find_id.Goals as goal

pub returns-then-n-eq0 : goal.returns-then-n-eq0
returns-then-n-eq0 c = (search (rules, none_filled), search rules)

pub returns-then-m-gt-CL_ORD_ID_ROOM : goal.returns-then-m-gt-CL_ORD_ID_ROOM
returns-then-m-gt-CL_ORD_ID_ROOM c = (search (rules, none_long), search rules)

pub loop-k-init : goal.loop-k-init
loop-k-init c = sought_none

pub is_named-requires : goal.is_named-requires
is_named-requires c = (search rules, search rules, search rules, search (rules, record_few), search rules)

pub returns-then-is_named : goal.returns-then-is_named
returns-then-is_named c = (id_here _ _ _ _ c.loop-k.invariant (omega arith) (sym c.is_named.ensures ∙ c.if-is_named.true), omega arith)

pub loop-k-preserved : goal.loop-k-preserved
loop-k-preserved c = sought_more c.loop-k.invariant (omega arith) (sym c.is_named.ensures ∙ c.if-is_named.false)

pub returns : goal.returns
returns c = (id_none _ _ _ _ c.loop-k.invariant (omega arith), omega arith)
