-- `load::go::next_at` meets its contract: one return a test.
use Rattle.load.proofs.Loading.{next_done, next_full, next_unread, next_spent, next_takes}
use borrow.Author.Rules.{rules}
use Rattle.load.proofs.go.next_at.Goals as goal

pub returns-then-place-buffer : goal.returns-then-place-buffer
returns-then-place-buffer c = search (rules, next_done)

pub returns-then-free-lt1024 : goal.returns-then-free-lt1024
returns-then-free-lt1024 c = search (rules, next_full)

pub returns-in_default : goal.returns-in_default
returns-in_default c = search (rules, next_unread)

pub returns-then-next-gt999998976 : goal.returns-then-next-gt999998976
returns-then-next-gt999998976 c = search (rules, next_spent)

pub returns : goal.returns
returns c = search (rules, next_takes)
