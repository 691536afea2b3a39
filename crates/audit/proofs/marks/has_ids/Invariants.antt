-- `audit::has_ids` meets its contract: the ClOrdIDs passed are distinct, and both parts of their keys have marks.
use Rattle.octets.proofs.Ranges.{Passed}
use Rattle.table.specs.Market.{is_fresh_id}
use Rattle.audit.proofs.Marked.{Marked, low_key, high_key}
use Rattle.audit.proofs.marks.has_ids.Given as goal

abbrev pub invariant-loop-j : goal.invariant-loop-j
invariant-loop-j l = Passed (is_fresh_id l.t) l.n l.j × Marked (low_key l.t) l.low.at l.j × Marked (high_key l.t) l.high.at l.j
