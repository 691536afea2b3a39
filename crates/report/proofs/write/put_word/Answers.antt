-- `write::put_word` meets its contract: as many characters are copied as the word has.
use Rattle.report.proofs.Words.{word_part, word_room, word_wrote}
use borrow.Author.Rules.{rules}
use Rattle.report.proofs.write.put_word.Goals as goal

pub slice_bounds-copy_into-end : goal.slice_bounds-copy_into-end
slice_bounds-copy_into-end c = search (rules, word_part)

pub copy_into-requires : goal.copy_into-requires
copy_into-requires c = search (rules, word_room)

pub returns : goal.returns
returns c = search (rules, word_wrote)
