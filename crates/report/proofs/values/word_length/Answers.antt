-- `values::word_length` meets its contract.
use borrow.Author.Rules.{rules}
use Rattle.report.proofs.Words.{word_counts_three, word_counts_four}
use Rattle.report.proofs.values.word_length.Goals as goal

pub returns-then-z-eq0 : goal.returns-then-z-eq0
returns-then-z-eq0 c = search (rules, word_counts_three)

pub returns : goal.returns
returns c = word_counts_four _ c.if-z-eq0.false
