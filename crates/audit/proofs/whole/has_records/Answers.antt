-- `audit::has_records` meets its contract.
use Rattle.audit.proofs.Walked.{records_are}
use Rattle.std.proofs.Common.{rules}
use Rattle.audit.proofs.whole.has_records.Goals as goal

pub returns : goal.returns
returns c = search (rules, records_are)
