-- `load::take::take` meets its contract: Submit, and Run if an order is in work.
use Rattle.load.proofs.Taking.{first_within, first_market, took_idle, took_busy, both_fit}
use borrow.Author.Rules.{rules}
use Rattle.load.proofs.take.take.Goals as goal

pub work-requires : goal.work-requires
work-requires c = (first_market _ _ _ _ (search rules) (search rules) _ _ _ c.hear.ensures _ c.submit_length-len.ensures).long

pub returns-then-work-eq0 : goal.returns-then-work-eq0
returns-then-work-eq0 c = took_idle _ _ _ _ (search rules) (search rules) _ _ _ c.hear.ensures _ c.submit_length-len.ensures _ c.work.ensures.0 c.if-work-eq0.true

pub slice_bounds-steps-count : goal.slice_bounds-steps-count
slice_bounds-steps-count c = first_within _ _ _ _ (search rules) (search rules) _ _ _ c.hear.ensures _ c.submit_length-len.ensures

pub slice_bounds-steps-start : goal.slice_bounds-steps-start
slice_bounds-steps-start c = first_within _ _ _ _ (search rules) (search rules) _ _ _ c.hear.ensures _ c.submit_length-len.ensures

pub steps-more-requires : goal.steps-more-requires
steps-more-requires c = first_market _ _ _ _ (search rules) (search rules) _ _ _ c.hear.ensures _ c.submit_length-len.ensures

pub overflow_add-result : goal.overflow_add-result
overflow_add-result c = both_fit _ _ _ _ (search rules) (search rules) _ _ _ c.hear.ensures _ c.submit_length-len.ensures _ c.work.ensures.0 c.if-work-eq0.false _ _ _ c.steps-more.ensures (search rules)

pub returns : goal.returns
returns c = took_busy _ _ _ _ (search rules) (search rules) _ _ _ c.hear.ensures _ c.submit_length-len.ensures _ c.work.ensures.0 c.if-work-eq0.false _ _ _ c.steps-more.ensures
