-- `audit::is_text` meets its contract.
use Rattle.audit.proofs.Checked.{text_short, text_long, text_whole}
use Rattle.std.proofs.Common.{rules}
use Rattle.audit.proofs.characters.Characters.is_text.Goals as goal

pub returns-then-n-least : goal.returns-then-n-least
returns-then-n-least c = search (rules, text_short)

pub returns-then-room-n : goal.returns-then-room-n
returns-then-room-n c = search (rules, text_long)

pub returns : goal.returns
returns c = search (rules, text_whole)
