-- Garbled exactly if there is no frame.
use Rattle.fix.proofs.Verdict.{none_garbled}
use Rattle.std.proofs.Common.{rules}
use Rattle.fix.proofs.frame.garbled.Goals as goal

pub returns : goal.returns
returns c = search (rules, none_garbled)
