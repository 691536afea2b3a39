-- An order stays in its ranges: through any event that fits and trades at a level in range, and through any list of them.
use mathlib.Core.Path.{◌≡◌, refl, ap}
use mathlib.Core.Bool.{Bool, true}
use mathlib.Core.List.{List, [], ◌∷◌}
use Prim.Native.Nat.{ℕ, ◌*◌, ◌≤◌, ◌<◌}
use native.Mathlib.Nat.{mul-le-mul_left}
use native.Mathlib.Omega.{arith}
use lib.ListN.{length}
use lib.Dec.{ltb, eqb}
use borrow.Author.Tests.{ltb-true, ltb-false, leb-true, eqb-true}
use Rattle.octets.proofs.Bools.{split}
use Rattle.matching.specs.declared.Order.{Order}
use Rattle.matching.specs.declared.Event.{Event}
use Rattle.matching.specs.declared.Event.TheVariants.{Traded}
use Rattle.matching.specs.Matching.{Book, at, open_of, who, change, after, play, happens, run}
use Rattle.matching.specs.Held.{may_minimum, Sound, In, amount, level_of, Readies}
use Rattle.matching.specs.Accounts.{trades, cancels}
use Rattle.matching.specs.Happens.{moves, Fits}
use Rattle.matching.proofs.Events.{Terms, amount_is, change_terms, change_executed, change_canceled, change_sum, change_open, change_covered, after_every, length_after, length_play}
use Rattle.matching.proofs.Steps.{Meeting, trade, newest, oldest, equal, less, more, Stepped, rests, kills, expires, matched, step_is, happens_fits, run_keeps}

-- what an event trades is worth between 1 and 1,999,999,999 each, and its level is at most that
pub record Worth (e : Event) : Type 0 where
  pub least : trades e ≤ trades e * level_of e
  pub most : trades e * level_of e ≤ trades e * 1_999_999_999
  pub priced : level_of e ≤ 1_999_999_999

abbrev pub Worths : List Event → Type 0
Worths [] = Unit {0}
Worths (e ∷ es) = Worth e × Worths es

trade_worth : (n m q l : ℕ) → 0 < l → l ≤ 1_999_999_999 → Worth (Traded n m q l)
trade_worth n m q l p h = record { least = omega (arith, mul-le-mul_left q p); most = mul-le-mul_left q h; priced = h }

-- one that trades nothing
pub quiet : (e : Event) → trades e ≡ 0 → level_of e ≡ 0 → Worth e
quiet e z y = record { least = rw z (omega arith); most = rw z (omega arith); priced = omega arith }

pub meeting_worth : (b : Book) (w r : ℕ) {es : List Event} → Sound (at b r) → Meeting b w r es → Worths es
meeting_worth b w r s (trade o) =
    let t : (n m q : ℕ) → Worth (Traded n m q (at b r).level) = λ n m q. trade_worth n m q _ s.level_low s.level_high in
    (t _ _ _, (t _ _ _, tt))
meeting_worth b w r s newest = (quiet _ refl refl, tt)
meeting_worth b w r s oldest = (quiet _ refl refl, tt)
meeting_worth b w r s (equal h) = (quiet _ refl refl, (quiet _ refl refl, tt))
meeting_worth b w r s (less h) = (quiet _ refl refl, (quiet _ refl refl, tt))
meeting_worth b w r s (more h) = (quiet _ refl refl, (quiet _ refl refl, tt))

pub step_worth : (b : Book) (w v : ℕ) {es : List Event} → ((k : ℕ) → In b k → Sound (at b k)) → Stepped b w es v → Worths es
step_worth b w v s (rests z t) = tt
step_worth b w v s (kills h) = (quiet _ refl refl, tt)
step_worth b w v s (expires z h) = (quiet _ refl refl, tt)
step_worth b w v s (matched {r = r} p m) = meeting_worth b w r (s r p.inside) m

-- MinQty and the minimum are at most OrderQty
pub minimum_most : (o : Order) → Sound o → o.minqty ≤ o.qty
unfolding may_minimum
minimum_most o s =
    split (eqb o.tif 3)
    (λ t. leb-true _ _ (rw t at s.minimum))
    (λ t. omega (arith, eqb-true o.minqty 0 (rw t at s.minimum)))

-- ---- one event
module _ (e : Event) (o : Order) (m : moves e ≡ true) (enough : amount e ≤ open_of o) (whole : 0 < cancels e → cancels e ≡ open_of o) (v : Worth e) where
  dead_after : (0 < o.canceled → open_of o ≡ 0) → 0 < (change e o).canceled → open_of (change e o) ≡ 0
  dead_after d h =
      split (ltb 0 (cancels e))
      (λ t. omega (arith, whole (ltb-true _ _ t), amount_is e, change_open e o m))
      (λ t. omega (arith, d (omega (arith, change_canceled e o m, ltb-false 0 (cancels e) t)), change_open e o m))

  pub change_sound : Sound o → Sound (change e o)
  unfolding may_minimum
  change_sound s =
      let t = change_terms e o m in
      let side : (change e o).side ≡ o.side = ap (λ (t : Terms). t.side) t in
      let tif : (change e o).tif ≡ o.tif = ap (λ (t : Terms). t.tif) t in
      let level : (change e o).level ≡ o.level = ap (λ (t : Terms). t.level) t in
      let qty : (change e o).qty ≡ o.qty = ap (λ (t : Terms). t.qty) t in
      let place : (change e o).place ≡ o.place = ap (λ (t : Terms). t.place) t in
      record {
        sides = rw side s.sides;
        tifs = rw tif s.tifs;
        minimum = rw (tif, qty, ap (λ (t : Terms). t.minqty) t) s.minimum;
        level_low = rw level s.level_low;
        level_high = rw level s.level_high;
        qty_low = rw qty s.qty_low;
        qty_high = rw qty s.qty_high;
        covered = change_covered e o m enough s.covered;
        dead = dead_after s.dead;
        sum_low = omega (arith, change_executed e o m, change_sum e o m, v.least, s.sum_low);
        sum_high = omega (arith, change_executed e o m, change_sum e o m, v.most, s.sum_high);
        place_low = rw place s.place_low;
      }

-- ---- events one after another
pub play_sound : (k : ℕ) (es : List Event) (b : Book) → Fits b es → Worths es → Sound (at b k) → Sound (at (play b es) k)
unfolding play
play_sound k [] b f v s = s
play_sound k (e ∷ es) b f v s =
    play_sound k es (after b e) f.1 v.1
    (after_every b e f.0 Sound k s (change_sound e _ f.0.moving f.0.enough f.0.whole v.0))

-- so each of them is ready to happen when its turn comes
pub play_ready : (es : List Event) (b : Book) → Fits b es → Worths es → ((k : ℕ) → In b k → Sound (at b k)) → Readies b es
play_ready [] b f v s = tt
play_ready (e ∷ es) b f v s =
    let i = f.0.inside in (
      record { inside = i; sound = s (who e) i; may = record { enough = f.0.enough; priced = v.0.priced } },
      play_ready es (after b e) f.1 v.1
          (λ k j. after_every b e f.0 Sound k (s k (record { low = j.low; high = rw (length_after b e f.0) at j.high }))
          (change_sound e _ f.0.moving f.0.enough f.0.whole v.0)),
    )

-- ---- over any number of steps
pub run_sound : (modes : ℕ → ℕ) (missed : Bool) (n : ℕ) (b : Book) (w : ℕ) → w ≤ length b → ((k : ℕ) → In b k → Sound (at b k))
    → (k : ℕ) → In (run modes missed n b w).book k → Sound (at (run modes missed n b w).book k)
run_sound modes missed n b w h s = run_keeps (λ c v. (k : ℕ) → In c k → Sound (at c k)) modes keeps missed n b w h s
  where
    keeps : (missed : Bool) (b : Book) (w : ℕ) → In b w → ((k : ℕ) → In b k → Sound (at b k)) → (k : ℕ) → In (play b (happens modes missed b w)) k → Sound (at (play b (happens modes missed b w)) k)
    keeps missed b w i s k j =
        let f = happens_fits modes missed b w i in
        play_sound k (happens modes missed b w) b f (step_worth b w _ s (step_is modes missed b w))
        (s k (record { low = j.low; high = rw (length_play _ b f) at j.high }))
