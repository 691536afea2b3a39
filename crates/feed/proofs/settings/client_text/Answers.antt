-- `settings::client_text` meets its contract: one identifier, or both with a hyphen between.
use borrow.Author.Rules.{rules}
use Rattle.feed.proofs.Clients.{wrote_port, wrote_group, wrote_both}
use Rattle.feed.proofs.settings.client_text.Goals as goal

pub returns-then-shows-eq1 : goal.returns-then-shows-eq1
returns-then-shows-eq1 c = search (rules, wrote_port)

pub returns-then-shows-eq2 : goal.returns-then-shows-eq2
returns-then-shows-eq2 c = search (rules, wrote_group)

pub returns : goal.returns
returns c = search (rules, wrote_both)
