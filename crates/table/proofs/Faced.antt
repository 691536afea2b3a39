-- Whom the order in work meets, by turns that are noted: what one turn is, noting them, the first of them, that it is the best order to
-- meet, and that a step takes nothing but its partner's turn away.
use mathlib.Core.Path.{◌≡◌, refl, sym, ap, ◌∙◌}
use mathlib.Core.Bool.{Bool, true, false, cond, not}
use mathlib.Core.List.{List}
use mathlib.Core.Logic.{◌≢◌}
use Prim.Native.Nat.{ℕ, suc, ◌+◌, ◌*◌, ◌/◌, ◌≤◌, ◌<◌}
use native.Mathlib.Numerals.{add-one}
use native.Mathlib.Omega.{arith}
use lib.Dec.{ltb, eqb}
use lib.ListN.{length, get_or, set, replicate, length-set, length-replicate, get_or-replicate}
use lib.Seq.{get_or-set_same, get_or-set_other}
use borrow.Author.Tests.{lt-ltb, le-leb, lt-leb, ltb-true, ltb-false, ne_eqb, eqb-true, eqb-false, not-true, not-false}
use Rattle.octets.proofs.Bools.{split, not_both}
use Rattle.matching.specs.declared.Order.{Order}
use Rattle.matching.specs.declared.Event.{Event}
use Rattle.matching.specs.Matching.{Book, at, open_of, is_open, is_buy, opposite, meets, faces, better, choose, best, partner, outcome, happens, play, book_after, work_after}
use Rattle.matching.specs.Held.{In, amount}
use Rattle.matching.specs.Happens.{Fits}
use Rattle.matching.specs.Accounts.{tally}
use Rattle.matching.specs.Looked.{turn_of, end_of}
use Rattle.matching.proofs.Events.{Terms, terms_of, play_terms, play_open, length_play}
use Rattle.matching.proofs.Steps.{both_no, faces_opposite, faces_closed, best_found, best_none, Pair, paired, Meeting, trade, newest, oldest, equal, less, more, meeting_is, happens_fits}
use Rattle.matching.proofs.Best.{best_is_best}
use Rattle.matching.proofs.Ends.{closed}
use Rattle.matching.proofs.Turns.{turn_alike, Placed, held_placed, placed_end, placed_turn, placed_apart}
use Rattle.table.specs.Heading.{next_of, work_of, is_listed}
use Rattle.table.specs.Orders.{order_at, filled, book_of}
use Rattle.table.specs.Facts.{Market}
use Rattle.table.specs.Looks.{Timely}
use Rattle.table.specs.Faced.{due_of, Unmet, Met, Lowest, Firsts, Ranked, First, Facing}
use Rattle.table.proofs.Same.{filled_few}
use Rattle.table.proofs.Books.{length_book, at_book}
use Rattle.table.proofs.Looks.{turn_below, looked_timely}

-- ---- the turn of one order

due_no : (o r : Order) → faces o r ≡ false → due_of o r ≡ 2_000_000_000_000_000_000
unfolding due_of
due_no o r h = rw h

due_yes : (o r : Order) → faces o r ≡ true → due_of o r ≡ turn_of 1_000_000_000 r
unfolding due_of
due_yes o r h = rw h

-- an order of the same side, one whose level is not met, and one with nothing open
beside : (o r : Order) → opposite o r ≡ false → 2_000_000_000_000_000_000 ≡ due_of o r
unfolding faces
beside o r e = let f : faces o r ≡ false = rw (e, both_no (is_open r)) in sym (due_no o r f)

apart : (o r : Order) → meets o r ≡ false → 2_000_000_000_000_000_000 ≡ due_of o r
unfolding faces
apart o r e = let f : faces o r ≡ false = rw (e, both_no _) in sym (due_no o r f)

pub due_shut : (o r : Order) (d : Bool) → d ≡ is_open r → not d ≡ true → 2_000_000_000_000_000_000 ≡ due_of o r
unfolding faces
due_shut o r d s h =
    let e : is_open r ≡ false = sym s ∙ not-true d h in
    let f : faces o r ≡ false = rw e in
    sym (due_no o r f)

same_no : (b : Bool) → cond b (not b) b ≡ false
same_no true = refl
same_no false = refl

module _ (o r : Order) (a b : Bool) (p : a ≡ is_buy r) (q : b ≡ is_buy o) where
  pub side_beside : a ≡ b → 2_000_000_000_000_000_000 ≡ due_of o r
  side_beside h = let z : is_buy r ≡ is_buy o = sym p ∙ h ∙ q in let e : opposite o r ≡ false = rw z (same_no (is_buy o)) in beside o r e

  module _ (x : Bool) (y : x ≡ cond b (ltb r.level o.level) (ltb o.level r.level)) where
    pub side_apart : x ≡ true → 2_000_000_000_000_000_000 ≡ due_of o r
    unfolding meets
    side_apart h =
        split b
        (λ e.
        let l : ltb r.level o.level ≡ true = rw e at (sym y ∙ h) in
        let f : meets o r ≡ false = rw (sym q ∙ e) (lt-leb o.level r.level (ltb-true r.level o.level l)) in
        apart o r f)
        (λ e.
        let l : ltb o.level r.level ≡ true = rw e at (sym y ∙ h) in
        let f : meets o r ≡ false = rw (sym q ∙ e) (lt-leb r.level o.level (ltb-true o.level r.level l)) in
        apart o r f)

    pub side_met : (d : Bool) (v : ℕ) → d ≡ is_open r → (a ≡ b → ⊥) → x ≡ false → not d ≡ false → v ≡ turn_of 1_000_000_000 r → v ≡ due_of o r
    unfolding faces meets
    side_met d v s h l g e =
        let z : is_open r ≡ true = sym s ∙ not-false d g in
        split b
        (λ k.
        let n : is_buy r ≡ false = split (is_buy r) (λ m. absurd (h (p ∙ m ∙ sym k))) (λ m. m) in
        let w : ltb r.level o.level ≡ false = rw k at (sym y ∙ l) in
        let f : faces o r ≡ true = rw (z, sym q ∙ k, n) (le-leb o.level r.level (ltb-false r.level o.level w)) in
        e ∙ sym (due_yes o r f))
        (λ k.
        let n : is_buy r ≡ true = split (is_buy r) (λ m. m) (λ m. absurd (h (p ∙ m ∙ sym k))) in
        let w : ltb o.level r.level ≡ false = rw k at (sym y ∙ l) in
        let f : faces o r ≡ true = rw (z, sym q ∙ k, n) (le-leb r.level o.level (ltb-false o.level r.level w)) in
        e ∙ sym (due_yes o r f))

-- the side of an order, once it is known
pub side_told : (o : Order) (f s : Bool) → f ≡ is_buy o → f ≡ s → s ≡ is_buy o
side_told o f s e h = sym h ∙ e

-- one that is not behind every turn is met
due_some : (o r : Order) → due_of o r < 2_000_000_000_000_000_000 → faces o r ≡ true
due_some o r h = split (faces o r) (λ f. f) (λ f. absurd (omega (arith, due_no o r f)))

-- and one that is, is not
due_over : (o r : Order) → Timely 1_000_000_000 r → 2_000_000_000_000_000_000 ≤ due_of o r → faces o r ≡ false
due_over o r t h = split (faces o r) (λ f. absurd (omega (arith, due_yes o r f, turn_below t))) (λ f. f)

due_none : (o r : Order) → Timely 1_000_000_000 r → 2_000_000_000_000_000_000 ≤ due_of o r → due_of o r ≡ 2_000_000_000_000_000_000
due_none o r t h = due_no o r (due_over o r t h)

-- ---- noting the turns

pub unmet_blank : Unmet (replicate 256 2_000_000_000_000_000_000)
unmet_blank =
    record { room = length-replicate {A = ℕ} 256 2_000_000_000_000_000_000; none = λ k l. get_or-replicate {A = ℕ} 256 k 2_000_000_000_000_000_000 0 l }

pub met_none : {turns : List ℕ} (o : Order) (b : Book) → Unmet turns → Met o b 0 0 turns
met_none o b u =
    record { room = u.room; within = omega arith; none = u.none 0 (omega arith); each = λ k l h. absurd (omega arith); rest = λ k l h. u.none k h }

module _ {t : List ℕ} {n i : ℕ} {r : Order} (h : Market t) (e : n ≡ filled t) (l : i < n) (p : r ≡ order_at t (i + 1)) where
  pub due_timely : Timely 1_000_000_000 r
  due_timely =
      let q = looked_timely h e refl l p in
      record { sound = q.sound; place = omega (arith, q.place, q.next_high); next_high = omega arith }

  met_here : at (book_of t) (i + 1) ≡ r
  met_here = at_book t (i + 1) (omega arith) (omega arith) ∙ sym p

  -- one more that is not met
  pub best_skip : (o : Order) (x : ℕ) → x ≡ due_of o r → 2_000_000_000_000_000_000 ≤ x → best (book_of t) o i ≡ 0 → best (book_of t) o (i + 1) ≡ 0
  unfolding best choose
  best_skip o x q s g =
      let k : at (book_of t) (suc i) ≡ r = at_book t (suc i) (omega arith) (omega arith) ∙ ap (λ (j : ℕ). order_at t j) (sym (add-one i)) ∙ sym p in
      let f : faces o (at (book_of t) (suc i)) ≡ false = rw k (due_over o r due_timely (omega arith)) in
      rw (add-one i, f) g

  module _ {o : Order} {m x : ℕ} {turns : List ℕ} (g : Met o (book_of t) i m turns) (q : x ≡ due_of o r) where
    pub met_more : x < 2_000_000_000_000_000_000 → Met o (book_of t) (i + 1) (i + 1) (set turns (i + 1) x)
    met_more s =
        let w = g.within in
        let z : i + 1 < length turns = omega (arith, g.room, filled_few t) in
        record {
          room = length-set turns (i + 1) x ∙ g.room;
          within = omega arith;
          none = get_or-set_other turns (i + 1) 0 x 0 (λ y. omega arith) ∙ g.none;
          each = λ k a c.
              split (eqb k (i + 1))
              (λ y. rw (eqb-true k (i + 1) y, get_or-set_same turns (i + 1) x 0 z, met_here) q)
              (λ y. get_or-set_other turns (i + 1) k x 0 (eqb-false k (i + 1) y) ∙ g.each k a (omega (arith, eqb-false k (i + 1) y)));
          rest = λ k a c. get_or-set_other turns (i + 1) k x 0 (λ y. omega arith) ∙ g.rest k (omega arith) c;
        }

    pub met_skip : 2_000_000_000_000_000_000 ≤ x → Met o (book_of t) (i + 1) m turns
    met_skip s =
        let w = g.within in
        let z : due_of o r ≡ 2_000_000_000_000_000_000 = due_none o r due_timely (omega arith) in
        record {
          room = g.room;
          within = omega arith;
          none = g.none;
          each = λ k a c.
              split (eqb k (i + 1))
              (λ y. rw (eqb-true k (i + 1) y, met_here, z) (g.rest (i + 1) (omega arith) (omega (arith, filled_few t))))
              (λ y. g.each k a (omega (arith, eqb-false k (i + 1) y)));
          rest = g.rest;
        }

pub met_end : {o : Order} {b : Book} {n i m : ℕ} {turns : List ℕ} → Met o b i m turns → i ≤ n → n ≤ i → Met o b n m turns
met_end {n = n} {i = i} g h l = let e : i ≡ n = omega arith in rw e at g

pub best_zero : (b : Book) (o : Order) → best b o 0 ≡ 0
unfolding best
best_zero b o = refl

pub best_end : (b : Book) (o : Order) (n i : ℕ) → best b o i ≡ 0 → i ≤ n → n ≤ i → best b o n ≡ 0
best_end b o n i g h l = let e : i ≡ n = omega arith in rw e at g

pub sixteens_few : {o : Order} {b : Book} {n m : ℕ} {turns : List ℕ} → Met o b n m turns → n ≤ 255 → m / 16 + 1 ≤ 16
sixteens_few g h = omega (arith, g.within)

-- ---- the first of some turns

pub lowest_one : (turns : List ℕ) (a : ℕ) → Lowest turns a (a + 1) a
lowest_one turns a =
    record { from = omega arith; before = omega arith; least = λ k l h. let e : k ≡ a = omega arith in rw e (omega arith) }

pub lowest_more : {turns : List ℕ} {a c r : ℕ} (i : ℕ) → Lowest turns a (a + i) c → r ≡ cond (ltb (get_or turns (a + i) 0) (get_or turns c 0)) (a + i) c
    → Lowest turns a (a + (i + 1)) r
lowest_more {turns} {a} {c} {r} i g e =
    split (ltb (get_or turns (a + i) 0) (get_or turns c 0))
    (λ t.
    let z : r ≡ a + i = e ∙ rw t in
    let x = ltb-true (get_or turns (a + i) 0) (get_or turns c 0) t in
    rw z
    (record {
      from = omega arith;
      before = omega arith;
      least = λ k l h.
          split (eqb k (a + i))
          (λ y. rw (eqb-true k (a + i) y) (omega arith))
          (λ y. omega (arith, g.least k l (omega (arith, eqb-false k (a + i) y))));
    }))
    (λ t.
    let z : r ≡ c = e ∙ rw t in
    let x = ltb-false (get_or turns (a + i) 0) (get_or turns c 0) t in
    rw z
    (record {
      from = g.from;
      before = omega (arith, g.before);
      least = λ k l h.
          split (eqb k (a + i))
          (λ y. rw (eqb-true k (a + i) y) x)
          (λ y. g.least k l (omega (arith, eqb-false k (a + i) y)));
    }))

pub lowest_below : {turns : List ℕ} {a c : ℕ} (i : ℕ) → Lowest turns a (a + i) c → a + 16 ≤ 256 → i ≤ 16 → c < 256
lowest_below i g h l = omega (arith, g.before)

pub lowest_end : {turns : List ℕ} {a c : ℕ} (i : ℕ) → Lowest turns a (a + i) c → i ≤ 16 → 16 ≤ i → Lowest turns a (a + 16) c
lowest_end i g h l = let e : i ≡ 16 = omega arith in rw e at g

-- ---- the firsts

pub firsts_none : (turns firsts : List ℕ) → length firsts ≡ 16 → Firsts turns firsts 0
firsts_none turns firsts e = record { room = e; first = λ j l. absurd (omega arith) }

pub firsts_more : {turns firsts : List ℕ} {j m x : ℕ} → Firsts turns firsts j → j < m → m ≤ 16 → Lowest turns (16 * j) (16 * j + 16) x
    → Firsts turns (set firsts j x) (j + 1)
firsts_more {turns} {firsts} {j} {m} {x} g l n h =
    record {
      room = length-set firsts j x ∙ g.room;
      first = λ k s.
          split (eqb k j)
          (λ y. rw (eqb-true k j y, get_or-set_same firsts j x 0 (omega (arith, g.room))) h)
          (λ y. rw (get_or-set_other firsts j k x 0 (eqb-false k j y)) (g.first k (omega (arith, eqb-false k j y))));
    }

pub firsts_end : {turns firsts : List ℕ} {j m : ℕ} → Firsts turns firsts j → j ≤ m → m ≤ j → Firsts turns firsts m
firsts_end {j = j} {m = m} g h l = let e : j ≡ m = omega arith in rw e at g

-- ---- the first of all

-- c is the first of j sixteens, or 0
pub record Finding (turns : List ℕ) (j c : ℕ) : Type 0 where
  pub few : c ≤ 255
  pub top : get_or turns c 0 ≤ 2_000_000_000_000_000_000
  pub some : 1 ≤ c → get_or turns c 0 < 2_000_000_000_000_000_000
  pub least : (k : ℕ) → k < 16 * j → get_or turns c 0 ≤ get_or turns k 0

module _ {turns firsts : List ℕ} {m : ℕ} (q : Ranked turns firsts m) where
  pub finding_none : Finding turns 0 0
  finding_none = record { few = omega arith; top = omega (arith, q.none); some = λ l. absurd (omega arith); least = λ k l. absurd (omega arith) }

  module _ {j : ℕ} (l : j < m) where
    pub first_below : get_or firsts j 0 < 256
    first_below = omega (arith, (q.sixteens.first j l).before, q.few)

    pub first_place : j < 16
    first_place = omega (arith, q.few)

    pub finding_more : {c r : ℕ} → Finding turns j c → r ≡ cond (ltb (get_or turns (get_or firsts j 0) 0) (get_or turns c 0)) (get_or firsts j 0) c
        → Finding turns (j + 1) r
    finding_more {c} {r} g e =
        let f : ℕ = get_or firsts j 0 in
        let d = q.sixteens.first j l in
        split (ltb (get_or turns f 0) (get_or turns c 0))
        (λ t.
        let z : r ≡ f = e ∙ rw t in
        let x = ltb-true (get_or turns f 0) (get_or turns c 0) t in
        let y = g.top in
        rw z
        (record {
          few = omega (arith, first_below);
          top = omega arith;
          some = λ s. omega arith;
          least = λ k h.
              split (ltb k (16 * j))
              (λ u. omega (arith, g.least k (ltb-true k (16 * j) u)))
              (λ u. d.least k (ltb-false k (16 * j) u) (omega arith));
        }))
        (λ t.
        let z : r ≡ c = e ∙ rw t in
        let x = ltb-false (get_or turns f 0) (get_or turns c 0) t in
        rw z
        (record {
          few = g.few;
          top = g.top;
          some = g.some;
          least = λ k h.
              split (ltb k (16 * j))
              (λ u. g.least k (ltb-true k (16 * j) u))
              (λ u. omega (arith, d.least k (ltb-false k (16 * j) u) (omega arith)));
        }))

  pub finding_end : {j c : ℕ} → Finding turns j c → j ≤ m → m ≤ j → First turns c
  finding_end {j} {c} g h l =
      let e : j ≡ m = omega arith in
      let s = g.top in
      record {
        few = g.few;
        some = g.some;
        least = λ k u.
            split (ltb k (16 * j))
            (λ y. g.least k (ltb-true k (16 * j) y))
            (λ y. omega (arith, q.rest k (omega (arith, ltb-false k (16 * j) y)) u));
      }

  -- ---- a record is passed
  module _ {r x : ℕ} (n : r ≢ 0) (l : r ≤ 255) (h : Lowest (set turns r 2_000_000_000_000_000_000) (16 * (r / 16)) (16 * (r / 16) + 16) x) where
    kept : (k : ℕ) → k ≢ r → get_or (set turns r 2_000_000_000_000_000_000) k 0 ≡ get_or turns k 0
    kept k d = get_or-set_other turns r k 2_000_000_000_000_000_000 0 d

    first_kept : (j c : ℕ) → j ≢ r / 16 → Lowest turns (16 * j) (16 * j + 16) c → Lowest (set turns r 2_000_000_000_000_000_000) (16 * j) (16 * j + 16) c
    first_kept j c d g =
        record {
          from = g.from;
          before = g.before;
          least = λ k s u.
              rw (kept c (λ y. omega (arith, g.from, g.before)), kept k (λ y. omega arith)) (g.least k s u);
        }

    pub ranked_passed : Ranked (set turns r 2_000_000_000_000_000_000) (set firsts (r / 16) x) m
    ranked_passed =
        let room = q.sixteens.room in
        record {
          room = length-set turns r 2_000_000_000_000_000_000 ∙ q.room;
          few = q.few;
          none = kept 0 (λ y. n (sym y)) ∙ q.none;
          sixteens = record {
            room = length-set firsts (r / 16) x ∙ room;
            first = λ j s.
                split (eqb j (r / 16))
                (λ y. rw (eqb-true j (r / 16) y, get_or-set_same firsts (r / 16) x 0 (omega arith)) h)
                (λ y. rw (get_or-set_other firsts (r / 16) j x 0 (eqb-false j (r / 16) y)) (first_kept j _ (eqb-false j (r / 16) y) (q.sixteens.first j s)));
          };
          rest = λ k s u.
              split (eqb k r)
              (λ y. rw (eqb-true k r y) (get_or-set_same turns r 2_000_000_000_000_000_000 0 (omega (arith, q.room))))
              (λ y. kept k (eqb-false k r y) ∙ q.rest k s u);
        }

pub passed_none : (turns : List ℕ) (r : ℕ) → r ≡ 0 → turns ≡ cond (eqb r 0) turns (set turns r 2_000_000_000_000_000_000)
passed_none turns r z = rw z

pub passed_one : (turns : List ℕ) (r : ℕ) → r ≢ 0 → set turns r 2_000_000_000_000_000_000 ≡ cond (eqb r 0) turns (set turns r 2_000_000_000_000_000_000)
passed_one turns r n = rw (ne_eqb r 0 n)

-- ---- the order in work and those that it meets

nothing_open : (b : Book) → 0 < open_of (at b 0) → ⊥
unfolding open_of
nothing_open b h = omega arith

module _ {t : List ℕ} {w : ℕ} (h : Market t) (e : w ≡ work_of t) where
  worker_at : (o : Order) → w ≢ 0 → o ≡ order_at t w → at (book_of t) (work_of t) ≡ o
  worker_at o d p = rw (← e) (at_book t w (omega arith) (omega (arith, h.held.work, length_book t)) ∙ sym p)

  pub facing_idle : {turns : List ℕ} (firsts : List ℕ) → Unmet turns → length firsts ≡ 16 → w ≡ 0 → Facing (book_of t) (work_of t) turns firsts 0
  facing_idle {turns} firsts u f z =
      record {
        ranked = record {
          room = u.room;
          few = omega arith;
          none = u.none 0 (omega arith);
          sixteens = firsts_none turns firsts f;
          rest = λ k l s. u.none k s;
        };
        beyond = λ k l s. u.none k s;
        due = λ s. absurd (nothing_open (book_of t) (rw (sym e ∙ z) at s));
      }

  pub facing_busy : {n m last : ℕ} {o : Order} {turns firsts : List ℕ} → w ≢ 0 → n ≡ filled t → o ≡ order_at t w → Met o (book_of t) n last turns
      → m ≡ last / 16 + 1 → Firsts turns firsts m → Facing (book_of t) (work_of t) turns firsts m
  facing_busy {n} {m} {last} {o} d f p g y q =
      let s : length (book_of t) ≡ n = length_book t ∙ sym f in
      let v = g.within in
      let u = worker_at o d p in
      record {
        ranked = record {
          room = g.room;
          few = omega (arith, filled_few t);
          none = g.none;
          sixteens = q;
          rest = λ k l z. g.rest k (omega arith) z;
        };
        beyond = λ k l z. g.rest k (omega arith) z;
        due = λ _ k i. rw u (g.each k i.low (omega (arith, i.high)));
      }

  -- nothing in work meets nobody, and neither does what faces none
  pub alone_idle : w ≡ 0 → partner (book_of t) (work_of t) ≡ 0
  unfolding partner open_of
  alone_idle z = rw (sym e ∙ z)

  pub alone_none : (n : ℕ) (o : Order) (f : Bool) → w ≢ 0 → o ≡ order_at t w → n ≡ filled t → (f ≡ true → best (book_of t) o n ≡ 0) → f ≡ true
      → partner (book_of t) (work_of t) ≡ 0
  unfolding partner
  alone_none n o f d p q g y =
      rw (worker_at o d p, length_book t, ← q) (split (is_open o) (λ z. rw z (g y)) (λ z. rw z))

-- orders opposite to one order are of one side
one_side : (x y z : Bool) → cond x (not y) y ≡ true → cond x (not z) z ≡ true → y ≡ z
one_side true true z p q = absurd (not_both p refl)
one_side true false true p q = absurd (not_both q refl)
one_side true false false p q = refl
one_side false y z p q = p ∙ sym q

-- a market has a turn for every order, and room for all of them
pub market_placed : (t : List ℕ) → Market t → Placed 1_000_000_000 (book_of t)
market_placed t m =
    let p = held_placed (is_listed t) (next_of t) (book_of t) (work_of t) m.held in
    record { high = p.high; below = λ k i. omega (arith, p.below k i, m.held.next_high); apart = p.apart }

pub market_few : (t : List ℕ) → length (book_of t) ≤ 255
market_few t = omega (arith, length_book t, filled_few t)

-- the first in turn is the best
module _ (b : Book) (w m : ℕ) (turns firsts : List ℕ) (p : Placed 1_000_000_000 b) (small : length b ≤ 255) (g : Facing b w turns firsts m)
    (live : 0 < open_of (at b w)) (c : ℕ) (f : First turns c) where
  -- one that is before the end is in the book, and met
  noted_in : (k : ℕ) → k < 256 → get_or turns k 0 < 2_000_000_000_000_000_000 → In b k
  noted_in k s h =
      record {
        low = split (eqb k 0) (λ z. absurd (omega (arith, g.ranked.none, rw (eqb-true k 0 z) at h))) (λ z. omega (arith, eqb-false k 0 z));
        high = split (ltb (length b) k) (λ z. absurd (omega (arith, g.beyond k (ltb-true (length b) k z) s))) (λ z. ltb-false (length b) k z);
      }

  noted_met : (k : ℕ) → In b k → get_or turns k 0 < 2_000_000_000_000_000_000 → faces (at b w) (at b k) ≡ true
  noted_met k i h = due_some (at b w) (at b k) (rw (g.due live k i) at h)

  met_turn : (k : ℕ) → In b k → faces (at b w) (at b k) ≡ true → get_or turns k 0 ≡ turn_of 1_000_000_000 (at b k)
  met_turn k i h = g.due live k i ∙ due_yes (at b w) (at b k) h

  met_early : (k : ℕ) → In b k → turn_of 1_000_000_000 (at b k) < 2_000_000_000_000_000_000
  unfolding end_of
  met_early k i = placed_end 1_000_000_000 b p k i

  first_met : (r : ℕ) → In b r → faces (at b w) (at b r) ≡ true → ((k : ℕ) → In b k → faces (at b w) (at b k) ≡ true → better (at b k) (at b r) ≡ true → ⊥) → c ≡ r
  first_met r i h top =
      let a : get_or turns c 0 ≤ get_or turns r 0 = f.least r (omega (arith, i.high)) in
      let e = met_turn r i h in
      let l : get_or turns c 0 < 2_000_000_000_000_000_000 = omega (arith, met_early r i) in
      let j : In b c = noted_in c (omega (arith, f.few)) l in
      let d = noted_met c j l in
      let s = one_side (is_buy (at b w)) (is_buy (at b c)) (is_buy (at b r)) (faces_opposite _ _ d) (faces_opposite _ _ h) in
      let u : better (at b c) (at b r) ≡ false = split (better (at b c) (at b r)) (λ z. absurd (top c j d z)) (λ z. z) in
      placed_apart 1_000_000_000 b p c r j i s (omega (arith, placed_turn 1_000_000_000 b p c r j i s u, met_turn c j d))

  pub first_best : c ≡ best b (at b w) (length b)
  first_best =
      let r : ℕ = best b (at b w) (length b) in
      split (eqb r 0)
      (λ z.
      split (eqb c 0)
      (λ y. eqb-true c 0 y ∙ sym (eqb-true r 0 z))
      (λ y.
      let l = f.some (omega (arith, eqb-false c 0 y)) in
      let j = noted_in c (omega (arith, f.few)) l in
      absurd (not_both (noted_met c j l) (best_none b (at b w) (length b) (eqb-true r 0 z) c j.low j.high))))
      (λ z.
      let d = best_found b (at b w) (length b) r refl (omega (arith, eqb-false r 0 z)) in
      first_met r (record { low = omega (arith, eqb-false r 0 z); high = d.0 }) d.1 (λ k i h. best_is_best b (at b w) (length b) k i.low i.high h))

-- ---- a step takes the turn of its partner away

-- orders of the same terms and both open or both not are met alike, and in the same turn
due_alike : (o p r s : Order) → terms_of p ≡ terms_of o → terms_of s ≡ terms_of r → is_open s ≡ is_open r → due_of p s ≡ due_of o r
unfolding due_of faces meets
due_alike o p r s e f g =
    rw (
      g,
      turn_alike 1_000_000_000 s r f,
      ap (λ (t : Terms). t.side) e,
      ap (λ (t : Terms). t.level) e,
      ap (λ (t : Terms). t.side) f,
      ap (λ (t : Terms). t.level) f,
    )

-- the events of a pair take nothing of any other
tally_other : {b : Book} {w r : ℕ} {es : List Event} (k : ℕ) → k ≢ w → k ≢ r → Meeting b w r es → tally amount k es ≡ 0
unfolding tally
tally_other {b} {w} {r} k m n (trade o) = simp (ne_eqb k w m, ne_eqb k r n)
tally_other {b} {w} {r} k m n newest = simp (ne_eqb k w m)
tally_other {b} {w} {r} k m n oldest = simp (ne_eqb k r n)
tally_other {b} {w} {r} k m n (equal h) = simp (ne_eqb k w m, ne_eqb k r n)
tally_other {b} {w} {r} k m n (less h) = simp (ne_eqb k w m, ne_eqb k r n)
tally_other {b} {w} {r} k m n (more h) = simp (ne_eqb k w m, ne_eqb k r n)

module _ (b : Book) (w r : ℕ) (es : List Event) (f : Fits b es) (p : Pair b w r) (m : Meeting b w r es) (live : 0 < open_of (at (play b es) w)) where
  open_alike : (k : ℕ) → k ≢ r → is_open (at (play b es) k) ≡ is_open (at b k)
  open_alike k n =
      split (eqb k w)
      (λ z. rw (eqb-true k w z) (lt-ltb 0 (open_of (at (play b es) w)) live ∙ sym (lt-ltb 0 (open_of (at b w)) p.w_open)))
      (λ z.
      let e : open_of (at (play b es) k) ≡ open_of (at b k) = omega (arith, play_open k es b f, tally_other k (eqb-false k w z) n m) in
      rw e)

  due_after : (k : ℕ) → k ≢ r → due_of (at (play b es) w) (at (play b es) k) ≡ due_of (at b w) (at b k)
  due_after k n = due_alike _ _ _ _ (play_terms w es b f) (play_terms k es b f) (open_alike k n)

  due_partner : due_of (at (play b es) w) (at (play b es) r) ≡ 2_000_000_000_000_000_000
  due_partner = due_no _ _ (faces_closed _ _ (closed b w r f p m live))

step_meets : (modes : ℕ → ℕ) (b : Book) (w : ℕ) → eqb (partner b w) 0 ≡ false → Meeting b w (partner b w) (happens modes false b w)
unfolding happens outcome
step_meets modes b w t = rw t (meeting_is b w (partner b w) _)

module _ (modes : ℕ → ℕ) (b : Book) (w m : ℕ) (turns firsts : List ℕ) (i : In b w) (small : length b ≤ 255) (g : Facing b w turns firsts m)
    (r : ℕ) (e : r ≡ partner b w) (after ranks : List ℕ) (x : after ≡ cond (eqb r 0) turns (set turns r 2_000_000_000_000_000_000)) where
  partner_in : r ≢ 0 → In b r
  partner_in n = (paired b w r (sym e) (omega arith)).inside

  turn_other : (k : ℕ) → (r ≢ 0 → k ≢ r) → get_or after k 0 ≡ get_or turns k 0
  turn_other k n =
      split (eqb r 0)
      (λ z. rw (x, z))
      (λ z. rw (x, z) (get_or-set_other turns r k 2_000_000_000_000_000_000 0 (n (eqb-false r 0 z))))

  turn_partner : r ≢ 0 → get_or after r 0 ≡ 2_000_000_000_000_000_000
  turn_partner n =
      rw (x, ne_eqb r 0 n) (get_or-set_same turns r 2_000_000_000_000_000_000 0 (omega (arith, (partner_in n).high, g.ranked.room)))

  -- while it is still open
  due_goes : eqb (partner b w) 0 ≡ false → 0 < open_of (at (book_after modes false b w) w) → (k : ℕ) → In (book_after modes false b w) k
      → get_or after k 0 ≡ due_of (at (book_after modes false b w) w) (at (book_after modes false b w) k)
  due_goes v live k j =
      let es = happens modes false b w in
      let f = happens_fits modes false b w i in
      let n : r ≢ 0 = λ z. eqb-false (partner b w) 0 v (sym e ∙ z) in
      let p = paired b w r (sym e) (omega arith) in
      let q : Meeting b w r es = rw e (step_meets modes b w v) in
      split (eqb k r)
      (λ z. rw (eqb-true k r z) (turn_partner n ∙ sym (due_partner b w r es f p q live)))
      (λ z.
      let l : In b k = record { low = j.low; high = rw (length_play es b f) at j.high } in
      turn_other k (λ _. eqb-false k r z) ∙ g.due p.w_open k l ∙ sym (due_after b w r es f p q live k (eqb-false k r z)))

  due_stepped : (missed : Bool) → 0 < open_of (at (book_after modes missed b w) (work_after missed b w)) → (k : ℕ) → In (book_after modes missed b w) k
      → get_or after k 0 ≡ due_of (at (book_after modes missed b w) (work_after missed b w)) (at (book_after modes missed b w) k)
  unfolding work_after
  due_stepped true h k j = absurd (nothing_open (book_after modes true b w) h)
  due_stepped false h k j =
      split (eqb (partner b w) 0)
      (λ z. absurd (nothing_open (book_after modes false b w) (rw z at h)))
      (λ z. rw z (due_goes z (rw z at h) k j))

  pub facing_after : (missed : Bool) → Ranked after ranks m → Facing (book_after modes missed b w) (work_after missed b w) after ranks m
  facing_after missed y =
      record {
        ranked = y;
        beyond = λ k l s.
            let h : length b < k = rw (length_play (happens modes missed b w) b (happens_fits modes missed b w i)) at l in
            turn_other k (λ n q. omega (arith, (partner_in n).high)) ∙ g.beyond k h s;
        due = due_stepped missed;
      }
