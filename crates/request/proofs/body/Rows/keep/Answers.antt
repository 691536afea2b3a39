-- A field is kept where its tag has nothing yet.
use Rattle.request.proofs.Answers.{kept_says_lem, kept_lens_lem, left_says, left_lens}
use borrow.Author.Rules.{rules}
use Rattle.request.proofs.body.Rows.keep.Goals as goal

pub returns-then-self-j-eq0 : goal.returns-then-self-j-eq0
returns-then-self-j-eq0 c = (search (rules, kept_says_lem), search (rules, kept_lens_lem))

pub returns-else-self-j-eq0 : goal.returns-else-self-j-eq0
returns-else-self-j-eq0 c = (search (rules, left_says), search (rules, left_lens))
