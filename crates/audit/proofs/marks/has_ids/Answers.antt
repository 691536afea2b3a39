-- `audit::has_ids` meets its contract: the ClOrdIDs passed are distinct, and both parts of their keys have marks.
use Rattle.std.proofs.Common.{◌≡◌, ℕ, true, refl, sym, ap, ◌∙◌}
use Rattle.octets.proofs.Ranges.{passed_none, passed_more, passed_stop, passed_end}
use Rattle.table.specs.Market.{is_fresh_id, has_ids}
use Rattle.audit.specs.Checking.{key_of, low_part, high_part}
use Rattle.audit.proofs.Marked.{none_ids, marked_none, marked_more, id_key, low_key, high_key, id_unmarked}
use Rattle.audit.proofs.marks.has_ids.Goals as goal
use Rattle.audit.proofs.marks.has_ids.Goals.{then-has+in_default+else-not-is_fresh_id, else-has}

pub returns-then-n-eq0 : goal.returns-then-n-eq0
returns-then-n-eq0 c = none_ids _ _ c.requires.1 c.if-n-eq0.true

pub loop-j-init : goal.loop-j-init
loop-j-init c = (passed_none, marked_none _ refl, marked_none _ refl)

pub returns-then-not-is_fresh_id : goal.returns-then-not-is_fresh_id
unfolding has_ids
returns-then-not-is_fresh_id c =
    let k = c in
    rw (← k.requires.1) (sym (passed_stop k.loop-j.invariant.0 k.loop-j-test.true (sym c.is_fresh_id.ensures ∙ c.if-not-is_fresh_id.true)))

pub loop-j-preserved : goal.loop-j-preserved
loop-j-preserved c =
    let p = c.requires in
    let t = c.args.t.now in
    let l = c.loop-j.invariant in
    let j : ℕ = c.loop-j.j in
    let e : c.key_of-key.result ≡ id_key t j = c.key_of-key.ensures ∙ ap key_of c.id_at.ensures in
    let x : c.low_part-a.result ≡ low_key t j = c.low_part-a.ensures.0 ∙ ap low_part e in
    let y : c.high_part-b.result ≡ high_key t j = c.high_part-b.ensures.0 ∙ ap high_part e in
    let m = c.loop-j-test.true in
    let h : is_fresh_id t j ≡ true =
    elim c.if-has.branch [
      | then-has+in_default+else-not-is_fresh_id w ↦ sym w.is_fresh_id.ensures ∙ w.if-not-is_fresh_id.false
      | else-has w ↦ id_unmarked t p.0 _ p.1 p.2 p.3 j _ _ _ _ m l.1 l.2 x y c.has.ensures c.has-in-loop-j.ensures w.if-has.false
    ] in (
      passed_more l.0 m h,
      rw c.put.ensures (marked_more _ l.1 x c.low_part-a.ensures.1),
      rw c.put-in-loop-j.ensures (marked_more _ l.2 y c.high_part-b.ensures.1),
    )

pub returns : goal.returns
unfolding has_ids
returns c = rw (← c.requires.1) (sym (passed_end c.loop-j.invariant.0 c.loop-j-test.false))
