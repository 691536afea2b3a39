-- `audit::has_book` meets its contract.
use Rattle.audit.proofs.Amounts.{next_small}
use Rattle.audit.proofs.Walked.{book_with}
use Rattle.std.proofs.Common.{rules}
use Rattle.audit.proofs.whole.has_book.Goals as goal

pub is_book-requires : goal.is_book-requires
is_book-requires c = search (rules, next_small _ (λ j. (c.type_inv.t j).fits) c.next.ensures)

pub returns : goal.returns
returns c = search (rules, book_with)
