-- `canonical::read_bare` meets its contract.
use Rattle.decimal.proofs.Canon.{bare_yes, bare_no}
use borrow.Author.Rules.{rules}
use Rattle.decimal.proofs.canonical.read_bare.Goals as goal

pub returns-then-s-byte_at : goal.returns-then-s-byte_at
returns-then-s-byte_at c = search (rules, bare_yes)

pub returns : goal.returns
returns c = search (rules, bare_no)
