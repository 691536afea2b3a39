-- `audit::are_fresh` meets its contract: the numbers passed are distinct and below the next number, are noted, and their keys have marks.
use Rattle.std.proofs.Common.{◌≡◌, ◌%◌, true, refl, sym, ap, ◌∙◌, arith, eqb-true}
use borrow.Author.Tests.{not-false}
use Rattle.octets.proofs.Ranges.{passed_none, passed_more, passed_stop, passed_end}
use Rattle.table.specs.Market.{is_fresh, are_fresh}
use Rattle.audit.specs.Checking.{number_at, number_key}
use Rattle.audit.proofs.Marked.{none_fresh, marked_none, noted_none, key_at, unmarked, unseen_fresh, number_new, number_high, number_old, number_good, marked_more, noted_more}
use Rattle.audit.proofs.marks.are_fresh.Goals as goal
use Rattle.audit.proofs.marks.are_fresh.Goals.{else-has-via-then-has+else-not-is_unseen, else-has-via-else-has}

pub returns-then-n-eq0 : goal.returns-then-n-eq0
returns-then-n-eq0 c = none_fresh _ _ _ c.if-n-eq0.true

pub loop-j-init : goal.loop-j-init
loop-j-init c = (passed_none, marked_none _ refl, noted_none _ refl)

pub returns-then-next-x : goal.returns-then-next-x
unfolding are_fresh
returns-then-next-x c =
    sym (passed_stop c.loop-j.invariant.0 c.loop-j-test.true
    (number_high (number_at c.args.t.now c.args.p) _ _ _ c.four_at-x.ensures.0 c.if-next-x.true))

pub returns-then-not-is_unseen : goal.returns-then-not-is_unseen
unfolding are_fresh
returns-then-not-is_unseen c =
    let l = c.loop-j.invariant in
    sym (passed_stop l.0 c.loop-j-test.true
    (number_old (number_at c.args.t.now c.args.p) _ _
    (sym (unseen_fresh _ _ l.2 c.four_at-x.ensures.0 c.is_unseen.ensures) ∙ c.if-not-is_unseen.true)))

pub loop-j-preserved : goal.loop-j-preserved
loop-j-preserved c =
    let f = number_at c.args.t.now c.args.p in
    let l = c.loop-j.invariant in
    let x = c.four_at-x.ensures.0 in
    let e : c.four_at-x.result % 2048 ≡ key_at f c.loop-j.j = ap number_key x in
    let h : is_fresh f c.loop-j.j ≡ true =
    elim c.else-has.branch [
      | else-has-via-then-has+else-not-is_unseen w ↦ sym (unseen_fresh _ _ l.2 x w.is_unseen.ensures) ∙ w.if-not-is_unseen.false
      | else-has-via-else-has w ↦ number_new f c.loop-j.j (unmarked _ l.1 e (eqb-true _ 0 (not-false _ (sym c.has.ensures ∙ w.if-has.false))))
    ] in (
      passed_more l.0 c.loop-j-test.true (number_good f _ c.loop-j.j _ x c.if-next-x.false h),
      rw c.put.ensures (marked_more _ l.1 e (omega arith)),
      noted_more _ l.2 x (omega arith),
    )

pub returns : goal.returns
unfolding are_fresh
returns c = sym (passed_end c.loop-j.invariant.0 c.loop-j-test.false)
