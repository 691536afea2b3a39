-- The number of characters at the front. Invariant: the first i bytes are characters.
use Rattle.fix.specs.Fields.{is_text}
use Rattle.decimal.proofs.Scans.{Scan}
use Rattle.fix.proofs.fields.text_run.Given as goal

abbrev pub invariant-loop-i : goal.invariant-loop-i
invariant-loop-i l = Scan is_text l.s l.i
