-- `write::share` meets its contract.
use Rattle.decimal.proofs.Means.{parts_down, parts_up, share_size, rest_fits, whole_fits, cut_fits, next_fits, twice_fits}
use borrow.Author.Rules.{rules}
use Rattle.decimal.proofs.write.share.Goals as goal

pub overflow_mul-rest : goal.overflow_mul-rest
overflow_mul-rest c = search (rules, rest_fits)

pub overflow_mul-cut : goal.overflow_mul-cut
overflow_mul-cut c = search (rules, whole_fits)

pub overflow_add-cut : goal.overflow_add-cut
overflow_add-cut c = search (rules, cut_fits)

pub overflow_mul-rest-2 : goal.overflow_mul-rest-2
overflow_mul-rest-2 c = search (rules, twice_fits)

pub returns-then-rest-e : goal.returns-then-rest-e
returns-then-rest-e c = (search (rules, parts_down), search (rules, share_size, parts_down))

pub overflow_add-result : goal.overflow_add-result
overflow_add-result c = search (rules, next_fits)

pub returns : goal.returns
returns c = (search (rules, parts_up), search (rules, share_size, parts_up))
