-- `values::pick_word` meets its contract: as many characters are compared as the word has.
use Rattle.report.proofs.Words.{word_part, word_taken, word_not}
use borrow.Author.Rules.{rules}
use Rattle.report.proofs.values.pick_word.Goals as goal

pub slice_bounds-same-end : goal.slice_bounds-same-end
slice_bounds-same-end c = search (rules, word_part)

pub returns-then-same : goal.returns-then-same
returns-then-same c = search (rules, word_taken)

pub returns : goal.returns
returns c = search (rules, word_not)
