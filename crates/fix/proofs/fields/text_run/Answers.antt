-- The number of characters at the front. Invariant: the first i bytes are characters.
use Rattle.std.proofs.Common.{sym, ◌∙◌, rules}
use Rattle.decimal.proofs.Scans.{scan_more, scan_stop, scan_end}
use Rattle.fix.proofs.fields.text_run.Goals as goal

pub returns-then-not-is_text : goal.returns-then-not-is_text
returns-then-not-is_text c = let e = sym c.is_text.ensures ∙ c.if-not-is_text.true in search (rules, scan_stop)

pub loop-i-preserved : goal.loop-i-preserved
loop-i-preserved c = scan_more _ _ _ (search rules) (search rules) (sym c.is_text.ensures ∙ c.if-not-is_text.false)

pub returns : goal.returns
returns c = search (rules, scan_end)
