-- Looking over the book: turns that fit, notes of the orders that are met, and that what is found in them is what the steps would
-- trade.
use mathlib.Core.Path.{◌≡◌, refl, sym, ap, ◌∙◌}
use mathlib.Core.Bool.{Bool, true, false, cond}
use mathlib.Core.List.{List}
use mathlib.Core.Logic.{◌≢◌}
use Prim.Native.Nat.{ℕ, suc, ◌+◌, ◌-◌, ◌*◌, ◌≤◌, ◌<◌, min}
use native.Mathlib.Nat.{mul-le-mul_right}
use native.Mathlib.Numerals.{add-one}
use native.Mathlib.Omega.{arith}
use lib.Dec.{ltb, eqb}
use lib.ListN.{length, get_or, set, length-set}
use lib.Seq.{get_or-set_same, get_or-set_other}
use mir.Syntax.{w64}
use mir.Val.{Fits}
use borrow.Author.Tests.{le-ltb, lt-ltb, eqb-true, eqb-false}
use Rattle.octets.proofs.Bools.{split, both_i, both_not_l, both_not_r}
use Rattle.matching.specs.declared.Order.{Order}
use Rattle.matching.specs.Matching.{Book, at, open_of, is_buy, faces, same_owner, sum_over, would_trade}
use Rattle.matching.specs.Held.{In, Held, Sound, Covered}
use Rattle.matching.specs.Looked.{turn_of, end_of, offered, tradable, sum_before, offered_to, tradable_to, own, own_turn, Reaches, traded_to, traded_at}
use Rattle.matching.proofs.Steps.{faces_open}
use Rattle.matching.proofs.Turns.{turn_end}
use Rattle.matching.proofs.Offers.{offered_none, offered_le, tradable_own, tradable_other, tradable_le}
use Rattle.matching.proofs.Looking.{looked_newest, looked_oldest, looked_other}
use Rattle.table.specs.Heading.{next_of, work_of, is_listed, mode_of}
use Rattle.table.specs.Orders.{order_at, filled, book_of}
use Rattle.table.specs.Facts.{Market}
use Rattle.table.specs.Looks.{Lookable, sum_of, least_own, Notes, Noted, Blank, Timely, Reached}
use Rattle.table.proofs.Same.{filled_few}
use Rattle.table.proofs.Books.{length_book, at_book}
use Rattle.table.proofs.Lookups.{market_sound}
use Rattle.table.proofs.Notes.{sum_noted, least_next, least_most, least_kept}

-- ---- the turn of one order

turn_room : (d next p : ℕ) → d ≤ 1_999_999_999 → p < next → next ≤ 1_000_000_000 → d * next + p < 2_000_000_000_000_000_000
turn_room d next p h l m = omega (arith, mul-le-mul_right next h)

module _ {next : ℕ} {r : Order} (h : Timely next r) where
  pub buy_mul : Fits w64 (r.level * next)
  buy_mul = omega (arith, turn_room r.level next r.place h.sound.level_high h.place h.next_high)

  pub buy_add : Fits w64 (r.level * next + r.place)
  buy_add = omega (arith, turn_room r.level next r.place h.sound.level_high h.place h.next_high)

  pub sell_mul : Fits w64 ((1_999_999_999 - r.level) * next)
  sell_mul = omega (arith, turn_room (1_999_999_999 - r.level) next r.place (omega arith) h.place h.next_high)

  pub sell_add : Fits w64 ((1_999_999_999 - r.level) * next + r.place)
  sell_add = omega (arith, turn_room (1_999_999_999 - r.level) next r.place (omega arith) h.place h.next_high)

pub buy_turn : (next : ℕ) (r : Order) (b : Bool) → b ≡ is_buy r → b ≡ true → r.level * next + r.place ≡ turn_of next r
unfolding turn_of
buy_turn next r b e h = rw (← e, h)

pub sell_turn : (next : ℕ) (r : Order) (b : Bool) → b ≡ is_buy r → b ≡ false → (1_999_999_999 - r.level) * next + r.place ≡ turn_of next r
unfolding turn_of
sell_turn next r b e h = rw (← e, h)

pub turn_below : {next : ℕ} {r : Order} → Timely next r → turn_of next r < 2_000_000_000_000_000_000
unfolding end_of
turn_below {next} {r} h = omega (arith, h.next_high, turn_end next r h.sound.level_high h.place)

-- ---- what it offers

pub offered_met : (o r : Order) (f : Bool) (q : ℕ) → f ≡ faces o r → f ≡ true → q ≡ open_of r → q ≡ offered o r
unfolding offered
offered_met o r f q e h p = rw (← e, h, p)

pub offered_unmet : (o r : Order) (f : Bool) → f ≡ faces o r → f ≡ false → 0 ≡ offered o r
unfolding offered
offered_unmet o r f e h = rw (← e, h)

pub tradable_none : (o r : Order) (s : Bool) → s ≡ same_owner o r → s ≡ true → 0 ≡ tradable o r
tradable_none o r s e h = sym (tradable_own o r (sym e ∙ h))

pub tradable_all : (o r : Order) (s : Bool) (q : ℕ) → s ≡ same_owner o r → s ≡ false → q ≡ offered o r → q ≡ tradable o r
tradable_all o r s q e h p = p ∙ sym (tradable_other o r (sym e ∙ h))

-- one of one's own offers more than is tradable of it, and any other does not
own_more : (o r : Order) → own o r ≡ ltb (tradable o r) (offered o r)
unfolding own
own_more o r =
    split (faces o r)
    (λ f. split (same_owner o r)
    (λ s.
    both_i f s
    ∙ sym (lt-ltb (tradable o r) (offered o r) (omega (arith, tradable_own o r s, faces_open o r f, offered_met o r (faces o r) (open_of r) refl f refl))))
    (λ s. both_not_r (faces o r) (same_owner o r) s ∙ sym (le-ltb (tradable o r) (offered o r) (omega (arith, tradable_other o r s)))))
    (λ f. both_not_l (faces o r) (same_owner o r) f ∙ sym (le-ltb (tradable o r) (offered o r) (omega (arith, offered_none o r f))))

-- ---- noting the orders that are met

sum_over_next : (f : Order → ℕ) (b : Book) (n : ℕ) → sum_over f b (n + 1) ≡ sum_over f b n + f (at b (suc n))
unfolding sum_over
sum_over_next f b n = rw add-one

own_turn_next : (next : ℕ) (o : Order) (b : Book) (n : ℕ)
    → own_turn next o b (n + 1) ≡ cond (own o (at b (suc n))) (min (turn_of next (at b (suc n))) (own_turn next o b n)) (own_turn next o b n)
unfolding own_turn
own_turn_next next o b n = rw add-one

pub noted_none : {turns all others : List ℕ} (next : ℕ) (o : Order) (b : Book) → Blank turns all others → Noted next o b 0 0 turns all others
unfolding sum_of least_own sum_over own_turn
noted_none next o b e =
    record {
      within = omega arith;
      room = e.turns_room;
      offers = record { few = omega arith; room = e.all_room; early = λ k l. absurd (omega arith); small = λ k l. absurd (omega arith) };
      trades = record { few = omega arith; room = e.others_room; early = λ k l. absurd (omega arith); small = λ k l. absurd (omega arith) };
      offered_sum = λ x. refl;
      tradable_sum = λ x. refl;
      own_first = refl;
    }

below_set : (xs : List ℕ) (m v top : ℕ) → m < length xs → v ≤ top → ((k : ℕ) → k < m → get_or xs k 0 ≤ top)
    → (k : ℕ) → k < m + 1 → get_or (set xs m v) k 0 ≤ top
below_set xs m v top l h g k i =
    split (eqb k m)
    (λ t. rw (eqb-true k m t, get_or-set_same xs m v 0 l) h)
    (λ t. rw (get_or-set_other xs m k v 0 (eqb-false k m t)) (g k (omega (arith, eqb-false k m t))))

notes_more : {turns amounts : List ℕ} {m : ℕ} (u v : ℕ) → Notes turns amounts m → m < 255 → m < length turns → u < 2_000_000_000_000_000_000 → v ≤ 999_999_999
    → Notes (set turns m u) (set amounts m v) (m + 1)
notes_more {turns} {amounts} {m} u v q l r d h =
    record {
      few = omega arith;
      room = length-set amounts m v ∙ q.room;
      early = λ k i.
          omega (arith, below_set turns m u 1_999_999_999_999_999_999 r (omega arith) (λ j w. omega (arith, q.early j w)) k i);
      small = below_set amounts m v 999_999_999 (omega (arith, q.room)) h q.small;
    }

module _ {next : ℕ} {o : Order} {b : Book} {i m : ℕ} {turns all others : List ℕ} (h : Noted next o b i m turns all others) (r : Order)
    (e : at b (suc i) ≡ r) where
  -- one that is not met leaves the notes as they are
  noted_past : offered o r ≡ 0 → Noted next o b (i + 1) m turns all others
  noted_past z =
      let y : tradable o r ≡ 0 = omega (arith, tradable_le o r) in
      let w : own o r ≡ false = own_more o r ∙ rw (y, z) in
      record {
        within = omega (arith, h.within);
        room = h.room;
        offers = h.offers;
        trades = h.trades;
        offered_sum = λ x. h.offered_sum x ∙ sym (sum_over_next _ b i ∙ rw (e, z) (nothing (ltb (turn_of next r) x) _));
        tradable_sum = λ x. h.tradable_sum x ∙ sym (sum_over_next _ b i ∙ rw (e, y) (nothing (ltb (turn_of next r) x) _));
        own_first = h.own_first ∙ sym (own_turn_next next o b i ∙ rw (e, w));
      }
    where
      nothing : (t : Bool) (s : ℕ) → s + cond t 0 0 ≡ s
      nothing t s = split t (λ u. rw u (omega arith)) (λ u. rw u (omega arith))

  -- any other is noted
  noted_one : (u v y : ℕ) → u ≡ turn_of next r → v ≡ offered o r → y ≡ tradable o r → i < 255 → u < 2_000_000_000_000_000_000 → v ≤ 999_999_999
      → Noted next o b (i + 1) (m + 1) (set turns m u) (set all m v) (set others m y)
  noted_one u v y p q s l t k =
      let g = h.within in
      let a : m < length turns = omega (arith, h.room) in
      let c : m < length all = omega (arith, h.offers.room) in
      let d : m < length others = omega (arith, h.trades.room) in
      record {
        within = omega arith;
        room = length-set turns m u ∙ h.room;
        offers = notes_more u v h.offers (omega arith) a t k;
        trades = notes_more u y h.trades (omega arith) a t (omega (arith, tradable_le o r));
        offered_sum = λ x. sum_noted turns all x m u v a c ∙ rw (h.offered_sum x, p, q) (sym (sum_over_next _ b i ∙ rw e));
        tradable_sum = λ x. sum_noted turns others x m u y a d ∙ rw (h.tradable_sum x, p, s) (sym (sum_over_next _ b i ∙ rw e));
        own_first =
            least_next (set turns m u) (set all m v) (set others m y) (end_of next) m
            ∙ rw (
              least_kept turns all others (end_of next) m u v y m (omega arith),
              get_or-set_same turns m u 0 a,
              get_or-set_same all m v 0 c,
              get_or-set_same others m y 0 d,
              h.own_first,
              p,
              q,
              s,
              ← own_more o r,
            )
            (sym (own_turn_next next o b i ∙ rw e));
      }

-- ---- the same over the records of a table, with i of n passed
module _ {t : List ℕ} {n next i : ℕ} {r : Order} (h : Market t) (e : n ≡ filled t) (f : next ≡ next_of t) (l : i < n) (p : r ≡ order_at t (i + 1)) where
  here : at (book_of t) (suc i) ≡ r
  here = at_book t (suc i) (omega arith) (omega arith) ∙ ap (λ (j : ℕ). order_at t j) (sym (add-one i)) ∙ sym p

  sound_here : Sound r
  sound_here = rw p (market_sound t (i + 1) h (omega arith) (omega arith))

  pub looked_covered : Covered r
  looked_covered = sound_here.covered

  pub looked_timely : Timely next r
  looked_timely =
      let s = length_book t in
      record {
        sound = sound_here;
        place = rw (f, ← here) (h.held.places_below (suc i) (record { low = omega arith; high = omega arith }));
        next_high = rw f h.held.next_high;
      }

  module _ {o : Order} {m : ℕ} {turns all others : List ℕ} {v : ℕ} (g : Noted next o (book_of t) i m turns all others) (q : v ≡ offered o r) where
    pub noted_skip : v ≤ 0 → Noted next o (book_of t) (i + 1) m turns all others
    noted_skip z = noted_past g r here (omega arith)

    pub noted_more : {u y : ℕ} → u ≡ turn_of next r → y ≡ tradable o r
        → Noted next o (book_of t) (i + 1) (m + 1) (set turns m u) (set all m v) (set others m y)
    unfolding open_of
    noted_more {u} {y} a c =
        noted_one g r here u v y a q c (omega (arith, filled_few t))
        (rw a (turn_below looked_timely))
        (omega (arith, offered_le o r, sound_here.qty_high))

pub noted_room : {turns all others : List ℕ} {n next i m : ℕ} {o : Order} (t : List ℕ) → n ≡ filled t → Noted next o (book_of t) i m turns all others → i < n
    → m < 255
noted_room t e g l = omega (arith, g.within, filled_few t)

pub noted_end : {b : Book} {turns all others : List ℕ} {n next i m : ℕ} {o : Order} → Noted next o b i m turns all others → i ≤ n → n ≤ i
    → Noted next o b n m turns all others
noted_end {n = n} {i = i} g h l = let e : i ≡ n = omega arith in rw e at g

-- ---- what is found

module _ {t : List ℕ} {n w mode : ℕ} (h : Lookable t n w mode) where
  work_in : w ≤ filled t
  work_in = let s = length_book t in omega (arith, h.market.held.work, h.work)

  pub look_below : w < 256
  look_below = omega (arith, work_in, filled_few t)

  module _ {o : Order} (p : o ≡ order_at t w) where
    worker : at (book_of t) w ≡ o
    worker = at_book t w h.some work_in ∙ sym p

    pub look_covered : Covered o
    look_covered = rw p (market_sound t w h.market h.some work_in).covered

    look_open : open_of o ≤ 999_999_999
    unfolding open_of
    look_open = rw p (omega (arith, (market_sound t w h.market h.some work_in).qty_high))

  module _ {next : ℕ} (f : next ≡ next_of t) where
    next_most : next ≤ 1_000_000_000
    next_most = rw f h.market.held.next_high

    module _ {o : Order} {m : ℕ} {turns all others : List ℕ} (p : o ≡ order_at t w) (g : Noted next o (book_of t) n m turns all others) where
      whole : n ≡ length (book_of t)
      whole = h.size ∙ sym (length_book t)

      offered_noted : (x : ℕ) → sum_of turns all x m ≡ offered_to (next_of t) (book_of t) w x
      unfolding offered_to sum_before
      offered_noted x = g.offered_sum x ∙ rw (worker p, f, whole)

      tradable_noted : (x : ℕ) → sum_of turns others x m ≡ tradable_to (next_of t) (book_of t) w x
      unfolding tradable_to sum_before
      tradable_noted x = g.tradable_sum x ∙ rw (worker p, f, whole)

      end_is : 2_000_000_000 * next ≡ end_of (next_of t)
      unfolding end_of
      end_is = rw f

      own_noted : least_own turns all others (2_000_000_000 * next) m ≡ own_turn (next_of t) (at (book_of t) w) (book_of t) (length (book_of t))
      unfolding end_of
      own_noted = g.own_first ∙ rw (worker p, f, whole)

      at_work : In (book_of t) w
      at_work = record { low = h.some; high = omega (arith, work_in, length_book t) }

      held_by : Held (is_listed t) (next_of t) (book_of t) w
      held_by = rw h.work h.market.held

      mode_is : mode ≡ mode_of t (at (book_of t) w).mpid
      mode_is = h.by ∙ rw (worker p ∙ p)

      -- by the mode
      pub would_newest : {q x r : ℕ} → q ≡ open_of o → x ≡ least_own turns all others (2_000_000_000 * next) m → r ≡ min q (sum_of turns others x m) → mode ≡ 1
          → r ≡ would_trade (mode_of t) (book_of t) (work_of t)
      unfolding traded_to
      would_newest {q} {x} {r} a e c z =
          c ∙ rw (tradable_noted x, a, e, own_noted, ← worker p, ← h.work) (looked_newest (is_listed t) (mode_of t) (next_of t) (book_of t) w held_by at_work (sym mode_is ∙ z))

      pub would_oldest : {q r : ℕ} → q ≡ open_of o → r ≡ min q (sum_of turns others (2_000_000_000 * next) m) → mode ≡ 2
          → r ≡ would_trade (mode_of t) (book_of t) (work_of t)
      unfolding traded_to
      would_oldest {q} {r} a c z =
          c ∙ rw (tradable_noted (2_000_000_000 * next), a, end_is, ← worker p, ← h.work)
          (looked_oldest (is_listed t) (mode_of t) (next_of t) (book_of t) w held_by at_work (sym mode_is ∙ z))

      reaches_noted : {q x : ℕ} → q ≡ open_of o → Reached turns all m q (2_000_000_000 * next) x → Reaches (next_of t) (book_of t) w x
      reaches_noted {q} {x} a e =
          record {
            enough = rw (← offered_noted x, worker p, ← a) e.enough;
            spent = λ l. rw (← offered_noted (x + 1), worker p, ← a) (e.spent (rw end_is l));
          }

      pub would_other : {q x r : ℕ} → q ≡ open_of o → Reached turns all m q (2_000_000_000 * next) x
          → r ≡ min (sum_of turns others x m + (q - sum_of turns all x m)) (sum_of turns others (x + 1) m) → mode ≢ 1 → mode ≢ 2
          → r ≡ would_trade (mode_of t) (book_of t) (work_of t)
      unfolding traded_at
      would_other {q} {x} {r} a e c y z =
          c ∙ rw (tradable_noted x, tradable_noted (x + 1), offered_noted x, a, ← worker p, ← h.work)
          (looked_other (is_listed t) (mode_of t) (next_of t) (book_of t) w held_by at_work (λ k. y (mode_is ∙ k)) (λ k. z (mode_is ∙ k)) x (reaches_noted a e))

      -- the quantities are small
      pub open_small : {q : ℕ} → q ≡ open_of o → q ≤ 999_999_999
      open_small a = omega (arith, look_open p)

      pub own_small : {x : ℕ} → x ≡ least_own turns all others (2_000_000_000 * next) m → x ≤ 4_000_000_000_000_000_000
      own_small e = omega (arith, least_most turns all others (2_000_000_000 * next) m, next_most)
