-- `table::entry_of` meets its contract: among the entries passed none is the one that is sought.
use lib.Dec.{eqb}
use Rattle.octets.proofs.Ranges.{Sought}
use Rattle.table.specs.Heading.{mpid_at}
use Rattle.table.proofs.entries.entry_of.Given as goal

abbrev pub invariant-loop-k : goal.invariant-loop-k
invariant-loop-k l = Sought (λ j. eqb (mpid_at l.t j) l.m) l.n l.k
