-- What Submit does to the book keeps what a market asks of it: an acceptance and a replacement put their order in work, a
-- withdrawal and a report about no order leave nothing in work, and an opened market has an empty book.
use mathlib.Core.Path.{◌≡◌, refl, sym, ap, ◌∙◌}
use mathlib.Core.Bool.{Bool, true, false, ◌||◌}
use mathlib.Core.List.{[], ◌∷◌}
use mathlib.Core.Logic.{◌≢◌}
use Prim.Native.Nat.{ℕ, zero, suc, ◌+◌, ◌≤◌, ◌<◌}
use native.Mathlib.Omega.{arith}
use lib.ListN.{length}
use lib.Dec.{ltb, eqb}
use borrow.Author.Tests.{ltb-true, ltb-false, eqb-true, eqb-false}
use Rattle.octets.proofs.Bools.{split}
use Rattle.matching.specs.declared.Order.{Order}
use Rattle.matching.specs.declared.Event.TheVariants.{Accepted, Replaced, Withdrawn}
use Rattle.matching.specs.Matching.{Book, at, put, open_of, is_immediate, opposed_to, place_after, change, after, play}
use Rattle.matching.specs.Held.{may_minimum, Sound, In, Uncrossed, Held, Takes, anew, over, Enters, Renews}
use Rattle.matching.specs.Happens.{Fit, Fits, Fresh, Renewed}
use Rattle.matching.proofs.Books.{length_put, length_put_new, count_most, open_low, at_nothing}
use Rattle.matching.proofs.Events.{after_here, after_there, play_open}
use Rattle.matching.proofs.Conserved.{takes_low, takes_high}
use Rattle.matching.proofs.Placing.{place_either}
use Rattle.matching.proofs.Crossing.{play_uncrossed}
use Rattle.matching.proofs.Ends.{none_most}
use Rattle.matching.proofs.Sounds.{quiet}
use Rattle.matching.proofs.Holding.{moved_held}

-- ---- a market just opened
pub opened_held : (listed : ℕ → Bool) (next : ℕ) → next ≤ 1_000_000_000 → Held listed next [] 0
unfolding open_of
opened_held listed next h =
    record {
      work = omega arith;
      sound = λ k j. absurd (omega (arith, j.low, j.high));
      owned = λ k j. absurd (omega (arith, j.low, j.high));
      places_apart = λ k m j i e. absurd (omega (arith, j.low, j.high));
      places_below = λ k j. absurd (omega (arith, j.low, j.high));
      no_ioc_lem = λ k n e. at_nothing k;
      uncrossed = λ i j hi hj bi bj oi oj. absurd (omega (arith, at_nothing i));
      next_high = h;
      numbers = λ o. absurd (omega arith);
    }

-- ---- a report about no order: the next number grows
pub later_held : (listed : ℕ → Bool) (next more : ℕ) (b : Book) → Held listed next b 0 → next ≤ more → more ≤ 1_000_000_000 → Held listed more b 0
unfolding open_of
later_held listed next more b h l m =
    record {
      work = h.work;
      sound = h.sound;
      owned = h.owned;
      places_apart = h.places_apart;
      places_below = λ k j. omega (arith, h.places_below k j);
      no_ioc_lem = h.no_ioc_lem;
      uncrossed = h.uncrossed;
      next_high = m;
      numbers = λ o. absurd (omega arith);
    }

-- ---- order n of a book takes a new form, and is put in work: what the others keep, and what the new one must have
module _ (listed : ℕ → Bool) (next : ℕ) (b c : Book) (n : ℕ) (o : Order) (h : Held listed next b 0)
    (here : at c n ≡ o) (there : (k : ℕ) → k ≢ n → at c k ≡ at b k)
    (i : In c n) (back : (k : ℕ) → k ≢ n → In c k → In b k)
    (sound : Sound o) (owned : (eqb o.mpid 0 || listed o.mpid) ≡ true)
    (placed : o.place ≤ next) (unshared : (k : ℕ) → k ≢ n → In b k → (at b k).place ≢ o.place)
    (filled : length c ≤ 255) (numbered : next ≤ 999_998_976) where
  -- of the new order, or of another
  each : (P : Order → Type 0) (k : ℕ) → P o → (k ≢ n → P (at b k)) → P (at c k)
  each P k p q =
      split (eqb k n)
      (λ t. rw (eqb-true k n t, here) p)
      (λ t. let d = eqb-false k n t in rw (there k d) (q d))

  apart : (k m : ℕ) → In c k → In c m → (at c k).place ≡ (at c m).place → k ≡ m
  apart k m j l e =
      split (eqb k n)
      (λ t. split (eqb m n)
      (λ u. eqb-true k n t ∙ sym (eqb-true m n u))
      (λ u. let d = eqb-false m n u in absurd (unshared m d (back m d l) (sym (old m d) ∙ sym e ∙ new k (eqb-true k n t)))))
      (λ t. let d = eqb-false k n t in
      split (eqb m n)
      (λ u. absurd (unshared k d (back k d j) (sym (old k d) ∙ e ∙ new m (eqb-true m n u))))
      (λ u. let x = eqb-false m n u in h.places_apart k m (back k d j) (back m x l) (sym (old k d) ∙ e ∙ old m x)))
    where
      old : (k : ℕ) → k ≢ n → (at c k).place ≡ (at b k).place
      old k d = ap (λ (p : Order). p.place) (there k d)

      new : (k : ℕ) → k ≡ n → (at c k).place ≡ o.place
      new k q = rw (q, here)

  uncrossed : Uncrossed c n
  uncrossed i j hi hj bi bj oi oj =
      let x = there i hi in
      let y = there j hj in
      rw (x, y) (h.uncrossed i j (open_not i (rw x at oi)) (open_not j (rw y at oj)) (rw x at bi) (rw y at bj) (rw x at oi) (rw y at oj))
    where
      open_not : (k : ℕ) → 0 < open_of (at b k) → k ≢ 0
      open_not k o e = omega (arith, open_low b k o)

  opposed_few : opposed_to c n ≤ length c
  unfolding opposed_to
  opposed_few = count_most _ c (length c)

  closed : (k : ℕ) → is_immediate (at b k) ≡ true → open_of (at b k) ≡ 0
  unfolding open_of
  closed zero e = refl
  closed (suc k) e = h.no_ioc_lem (suc k) (λ q. omega arith) e

  pub renewed_held : Held listed (next + 1) c n
  renewed_held =
      record {
        work = i.high;
        sound = λ k j. each Sound k sound (λ d. h.sound k (back k d j));
        owned = λ k j. each (λ p. (eqb p.mpid 0 || listed p.mpid) ≡ true) k owned (λ d. h.owned k (back k d j));
        places_apart = apart;
        places_below = λ k j. each (λ p. p.place < next + 1) k (omega (arith, placed)) (λ d. omega (arith, h.places_below k (back k d j)));
        no_ioc_lem = λ k d e. rw (there k d) (closed k (rw (there k d) at e));
        uncrossed = uncrossed;
        next_high = omega (arith, numbered);
        numbers = λ x. omega (arith, numbered, filled, opposed_few);
      }

-- ---- an acceptance

-- the book with an order of a number that it may take: it is no shorter; the number is in it, every other number was, and it is
-- not too long
pub takes_more : (b : Book) (n : ℕ) (o : Order) → Takes b n → length b ≤ length (put b n o)
takes_more b n o (anew e) = rw e (omega (arith, length_put_new b o))
takes_more b n o (over i z) = omega (arith, length_put b n o i.high)

pub takes_in : (b : Book) (n : ℕ) (o : Order) → Takes b n → In (put b n o) n
takes_in b n o (anew e) = record { low = omega arith; high = rw e (omega (arith, length_put_new b o)) }
takes_in b n o (over i z) = record { low = i.low; high = omega (arith, i.high, length_put b n o i.high) }

pub takes_back : (b : Book) (n : ℕ) (o : Order) → Takes b n → (k : ℕ) → k ≢ n → In (put b n o) k → In b k
takes_back b n o (anew e) k d j = record { low = j.low; high = less (rw e at j.high) }
  where
    less : k ≤ length (put b (suc (length b)) o) → k ≤ length b
    less h = omega (arith, length_put_new b o)
takes_back b n o (over i z) k d j = record { low = j.low; high = omega (arith, j.high, length_put b n o i.high) }

pub takes_most : (b : Book) (n : ℕ) (o : Order) → Takes b n → n ≤ 255 → length b ≤ 255 → length (put b n o) ≤ 255
takes_most b n o (anew e) h m = rw e (omega (arith, length_put_new b o))
takes_most b n o (over i z) h m = omega (arith, length_put b n o i.high)

module _ (listed : ℕ → Bool) (next : ℕ) (b : Book) (n : ℕ) (o : Order) (h : Held listed next b 0) (a : Enters listed next b n o) where
  pub accepted_held : Held listed (next + 1) (after b (Accepted n o)) n
  unfolding change after
  accepted_held =
      renewed_held listed next b (after b (Accepted n o)) n o h
      (after_here b (Accepted n o) low high) (after_there b (Accepted n o) low high)
      (takes_in b n o a.number) (takes_back b n o a.number)
      a.sound a.owned
      (omega (arith, a.newest)) (λ k d j e. omega (arith, h.places_below k j, a.newest))
      (takes_most b n o a.number a.free a.filled) a.numbered
    where
      low : 0 < n
      low = takes_low b n a.number

      high : n ≤ suc (length b)
      high = takes_high b n a.number

  -- it is one that can happen
  pub enters_fresh : Fresh b n o
  enters_fresh =
      record {
        number = a.number;
        unexecuted = a.unexecuted;
        undecremented = a.undecremented;
        uncanceled = a.uncanceled;
        unsummed = a.unsummed;
      }

or_no : (x y : Bool) → (x || y) ≡ false → x ≡ false
or_no true y e = e
or_no false y e = refl

-- ---- a replacement
module _ (listed : ℕ → Bool) (next : ℕ) (b : Book) (n l q p : ℕ) (h : Held listed next b 0) (a : Renews next b n l q p) where
  s : Sound (at b n)
  s = h.sound n a.inside

  uncanceled : (at b n).canceled ≡ 0
  uncanceled =
      split (ltb 0 (at b n).canceled)
      (λ t. absurd (omega (arith, s.dead (ltb-true _ _ t), a.live)))
      (λ t. omega (arith, ltb-false 0 (at b n).canceled t))

  pub renews_renewed : Renewed b n q
  renews_renewed = record { inside = a.inside; live = a.live; uncanceled = uncanceled; above = a.above }

  -- an order with something open that is not in work is a Day order, and has no MinQty
  resting_day : is_immediate (at b n) ≡ false
  resting_day =
      split (is_immediate (at b n))
      (λ t. absurd (omega (arith, a.live, h.no_ioc_lem n (λ e. omega (arith, a.inside.low)) t)))
      (λ t. t)

  replaced_minimum : may_minimum (change (Replaced n l q p) (at b n)) ≡ true
  unfolding change may_minimum
  replaced_minimum = let d = or_no (eqb (at b n).tif 3) _ resting_day in rw d (rw d at s.minimum)

  replaced_sound : Sound (change (Replaced n l q p) (at b n))
  unfolding change open_of
  replaced_sound =
      record {
        sides = s.sides;
        tifs = s.tifs;
        minimum = replaced_minimum;
        level_low = a.level_low;
        level_high = a.level_high;
        qty_low = omega (arith, a.above);
        qty_high = a.qty_high;
        covered = omega (arith, a.above, uncanceled);
        dead = λ z. omega (arith, uncanceled);
        sum_low = s.sum_low;
        sum_high = s.sum_high;
        place_low = place_either (λ x. 0 < x) (at b n) l q p s.place_low a.place_low;
      }

  -- the place that it has afterwards is at most the next number, and no other order's
  replaced_placed : place_after (at b n) l q p ≤ next
  replaced_placed =
      place_either (λ x. x ≤ next) (at b n) l q p (omega (arith, h.places_below n a.inside)) (omega (arith, a.newest))

  replaced_unshared : (k : ℕ) → k ≢ n → In b k → (at b k).place ≢ place_after (at b n) l q p
  replaced_unshared k d j =
      place_either (λ x. (at b k).place ≢ x) (at b n) l q p
      (λ e. d (h.places_apart k n j a.inside e))
      (λ e. omega (arith, h.places_below k j, a.newest))

  length_same : length (after b (Replaced n l q p)) ≡ length b
  unfolding after
  length_same = length_put b n _ a.inside.high

  pub replaced_held : Held listed (next + 1) (after b (Replaced n l q p)) n
  unfolding change
  replaced_held =
      renewed_held listed next b (after b (Replaced n l q p)) n (change (Replaced n l q p) (at b n)) h
      (after_here b (Replaced n l q p) a.inside.low (omega (arith, a.inside.high)))
      (after_there b (Replaced n l q p) a.inside.low (omega (arith, a.inside.high)))
      (record { low = a.inside.low; high = rw length_same a.inside.high })
      (λ k d j. record { low = j.low; high = rw length_same at j.high })
      replaced_sound (h.owned n a.inside) replaced_placed replaced_unshared
      (rw length_same a.filled) a.numbered

-- ---- a withdrawal
module _ (listed : ℕ → Bool) (next : ℕ) (b : Book) (n : ℕ) (h : Held listed next b 0) (i : In b n) (numbered : next ≤ 999_998_976) where
  pub withdrawn_fits : Fit b (Withdrawn n (open_of (at b n)))
  withdrawn_fits = record { moving = refl; inside = i; enough = omega arith; whole = λ l. refl }

  pub withdrawn_held : Held listed (next + 1) (after b (Withdrawn n (open_of (at b n)))) 0
  unfolding play
  withdrawn_held =
      let es = Withdrawn n (open_of (at b n)) ∷ [] in
      let f : Fits b es = (withdrawn_fits, tt) in
      moved_held listed next b 0 0 es h f (quiet _ refl refl, tt) (omega arith)
      (λ k d e. omega (arith, play_open k es b f, h.no_ioc_lem k d e)) (play_uncrossed b es 0 f h.uncrossed)
      (omega (arith, numbered, none_most (play b es)))
