-- What the code that checks one order comes to, in the words of Market and of matching.
use Rattle.std.proofs.Common.{◌≡◌, ℕ, ◌+◌, ◌-◌, ◌*◌, ◌<◌, ◌≤◌, Bool, true, false, not, ◌&&◌, ◌||◌, eqb, ltb, leb, List, sym, ◌∙◌, ⊎_elim, zero-le, mul-le-mul_left, arith, w64, Fits, ltb-true, le-ltb, lt-ltb, eq-eqb, ne_eqb, le-leb, leb-false, leb-true}
use mathlib.Core.Bool.{and_assoc, and-true, and-false, or-true}
use borrow.Author.Tests.{not-true, not-false}
use Rattle.octets.specs.Octets.{part_at, all_zero, Bytes}
use Rattle.octets.specs.Tests.{all_up_to, first_from}
use Rattle.octets.proofs.Bools.{split, not_both, both_l, both_r, or_r, neither_l, neither_r}
use Rattle.octets.proofs.Places.{below_or, le_at_lt}
use Rattle.octets.proofs.Searches.{first_before, first_holds}
use Rattle.decimal.specs.declared.Instrument.{Instrument}
use Rattle.decimal.specs.declared.Instrument.TheVariants.{Bonds, Equities}
use Rattle.decimal.specs.Instruments.{highest}
use Rattle.matching.specs.declared.Order.{Order}
use Rattle.matching.specs.Matching.{open_of, is_side_of, is_immediate}
use Rattle.matching.specs.Held.{may_minimum}
use Rattle.matching.proofs.Quoting.{highest_most}
use Rattle.table.specs.Places.{record_at}
use Rattle.table.specs.Heading.{next_of, instrument_of, mpid_at, entries, entry_of, is_listed}
use Rattle.table.specs.Orders.{order_id_at, capacity_at, classification_at, cash_at, margin_at, marks_at, order_at}
use Rattle.audit.specs.Widths.{Narrow}
use Rattle.audit.specs.Rows.{bounds_of, between, list_ends}
use Rattle.audit.proofs.Checked.{text_of}
use Rattle.table.specs.Market.{is_text, is_entry, has_list, is_capacity, is_class, is_cash, is_marked, is_record, is_ranged, is_known, is_within, is_shut, is_priced, is_order}

-- whatever the bytes are, each number that is read has its width
pub narrow_order : (t : List ℕ) (i : ℕ) → Bytes t → Narrow (order_at t i)
unfolding order_at
narrow_order t i b =
    record {
      side = b (record_at i + 44);
      tif = b (record_at i + 45);
      level = le_at_lt 4 t (record_at i + 48) b;
      qty = le_at_lt 4 t (record_at i + 52) b;
      executed = le_at_lt 4 t (record_at i + 72) b;
      decremented = le_at_lt 4 t (record_at i + 76) b;
      canceled = le_at_lt 4 t (record_at i + 80) b;
      place = le_at_lt 4 t (record_at i + 56) b;
      mpid = le_at_lt 4 t (record_at i + 60) b;
      minqty = le_at_lt 4 t (record_at i + 88) b;
    }

pub narrow_load : (t : List ℕ) (i : ℕ) {o : Order} → Bytes t → o ≡ order_at t i → Narrow o
narrow_load t i b e = rw e (narrow_order t i b)

pub next_small : (t : List ℕ) {r : ℕ} → Bytes t → r ≡ next_of t → r < 4294967296
next_small t b e = rw e (le_at_lt 4 t 28 b)

-- nothing is open exactly if no less is used than OrderQty
pub shut_used : (o : Order) → leb o.qty (o.executed + o.decremented + o.canceled) ≡ eqb (open_of o) 0
unfolding open_of
shut_used o =
    let u : ℕ = o.executed + o.decremented + o.canceled in
    split (leb o.qty u)
    (λ e. rw e (sym (eq-eqb (o.qty - u) 0 (omega (arith, leb-true)))))
    (λ e. rw e (sym (ne_eqb (o.qty - u) 0 (λ z. omega (arith, leb-false)))))

-- the sides: 1 and 2 of either market, and the others of equities
pub side_both : (q : Instrument) (s : ℕ) → (eqb s 1 || eqb s 2) ≡ true → true ≡ is_side_of q s
unfolding is_side_of
side_both Bonds s h = sym h
side_both Equities s h = rw h

pub side_bonds : (s : ℕ) → (eqb s 1 || eqb s 2) ≡ false → false ≡ is_side_of Bonds s
unfolding is_side_of
side_bonds s h = sym h

pub side_equities : (s : ℕ) → (eqb s 1 || eqb s 2) ≡ false → (eqb s 5 || eqb s 6) ≡ is_side_of Equities s
unfolding is_side_of
side_equities s h = rw h

-- what the time in force lets an order have
pub timed_ioc : (o : Order) → o.tif ≡ 3 → leb o.minqty o.qty ≡ ((eqb o.tif 0 || is_immediate o) && may_minimum o)
unfolding may_minimum
timed_ioc o e = rw e

pub timed_day : (o : Order) → o.tif ≡ 0 → eqb o.minqty 0 ≡ ((eqb o.tif 0 || is_immediate o) && may_minimum o)
unfolding may_minimum
timed_day o e = rw e

pub timed_other : (o : Order) → (o.tif ≡ 3 → ⊥) → (o.tif ≡ 0 → ⊥) → (eqb o.tif 4 && eqb o.minqty 0) ≡ ((eqb o.tif 0 || is_immediate o) && may_minimum o)
unfolding may_minimum
timed_other o e f = rw (ne_eqb o.tif 3 e, ne_eqb o.tif 0 f)

-- the ranges of an order, with what its time in force lets it have
module _ (q : Instrument) (o : Order) (d : Bool) (g : d ≡ is_side_of q o.side) where
  pub ranged_not_side : not d ≡ true → false ≡ is_ranged q o
  unfolding is_ranged
  ranged_not_side n = rw (← g, not-true d n)

  module _ (m : Bool) (h : m ≡ ((eqb o.tif 0 || is_immediate o) && may_minimum o)) where
    pub ranged_not_timed : not m ≡ true → false ≡ is_ranged q o
    unfolding is_ranged
    ranged_not_timed n = rw (and_assoc (is_side_of q o.side), ← h, not-true m n, and-false)

    pub ranged_is : (top : ℕ) → top ≡ highest q → not d ≡ false → not m ≡ false
        → (leb 1 o.level && leb o.level top && leb 1 o.qty && leb o.qty 999999999 && leb 1 o.place) ≡ is_ranged q o
    unfolding is_ranged
    ranged_is top t n k = rw (and_assoc (is_side_of q o.side), ← h, ← g, not-false d n, not-false m k, t)

-- a loop that has looked for an MPID in the first k places of the list: at the start, one turn on, and at the end
pub record Looked (t : List ℕ) (m n : ℕ) (found : Bool) (k : ℕ) : Type 0 where
  pub within : k ≤ 8
  pub hit : found ≡ true → is_known t m ≡ true
  pub some : found ≡ false → eqb m 0 ≡ false
  pub miss : found ≡ false → (j : ℕ) → j < k → j < n → eqb (mpid_at t j) m ≡ false

pub looked_none : (t : List ℕ) (m n : ℕ) → Looked t m n (eqb m 0) 0
unfolding is_known
looked_none t m n = record { within = zero-le; hit = λ e. rw e; some = λ e. e; miss = λ e j l. absurd (omega arith) }

module _ {t : List ℕ} {m n k : ℕ} {found : Bool} (e : n ≡ entries t) (p : Looked t m n found k) where
  listed_here : k < n → eqb (mpid_at t k) m ≡ true → is_known t m ≡ true
  unfolding is_known is_listed entry_of
  listed_here l f =
      let first : first_from (λ j. eqb (mpid_at t j) m) 0 n < n =
      ⊎_elim (λ (a : first_from (λ j. eqb (mpid_at t j) m) 0 n < n). a)
      (λ (a : n ≤ first_from (λ j. eqb (mpid_at t j) m) 0 n). absurd (not_both f (first_before (λ j. eqb (mpid_at t j) m) 0 n k zero-le (omega arith))))
      (below_or (first_from (λ j. eqb (mpid_at t j) m) 0 n) n) in
      rw (← e, lt-ltb (first_from (λ j. eqb (mpid_at t j) m) 0 n) n first, or-true)

  pub looked_more : (x : ℕ) → k < 8 → x ≡ mpid_at t k → Looked t m n (found || (eqb x m && ltb k n)) (k + 1)
  looked_more x l f =
      let here : Bool = eqb x m && ltb k n in
      record {
        within = omega arith;
        hit = λ h. split found p.hit (λ g.
            let b : here ≡ true = or_r found here h g in
            listed_here (ltb-true k n (both_r (eqb x m) (ltb k n) b)) (rw f at (both_l (eqb x m) (ltb k n) b)));
        some = λ h. p.some (neither_l found here h);
        miss = λ h j a b. ⊎_elim
            (λ (c : j < k). p.miss (neither_l found here h) j c b)
            (λ (c : k ≤ j).
            let same : j ≡ k = omega arith in
            let z : (eqb (mpid_at t k) m && ltb k n) ≡ false = rw f at (neither_r found here h) in
            let w : ltb k n ≡ true = lt-ltb k n (omega arith) in
            rw same (sym (and-true (eqb (mpid_at t k) m)) ∙ rw w at z))
            (below_or j k);
      }

  pub looked_end : n ≤ 8 → 8 ≤ k → found ≡ is_known t m
  unfolding is_known is_listed entry_of
  looked_end l h =
      split found (λ g. g ∙ sym (p.hit g)) (λ g.
      let last : n ≤ first_from (λ j. eqb (mpid_at t j) m) 0 n =
      ⊎_elim (λ (a : first_from (λ j. eqb (mpid_at t j) m) 0 n < n).
      absurd (not_both (first_holds (λ j. eqb (mpid_at t j) m) 0 n (omega arith)) (p.miss g (first_from (λ j. eqb (mpid_at t j) m) 0 n) (omega arith) a)))
      (λ (a : n ≤ first_from (λ j. eqb (mpid_at t j) m) 0 n). a)
      (below_or (first_from (λ j. eqb (mpid_at t j) m) 0 n) n) in
      g ∙ rw (p.some g, ← e, le-ltb (first_from (λ j. eqb (mpid_at t j) m) 0 n) n last))

-- what it has executed times the highest level fits, and is what its sum is held against
pub priced_fits : (q : Instrument) (top x : ℕ) → top ≡ highest q → x < 4294967296 → Fits w64 (x * top)
priced_fits q top x t h =
    let most : top ≤ 1999999999 = omega (arith, highest_most q) in
    omega (arith, mul-le-mul_left x most)

pub priced_is : (q : Instrument) (o : Order) (top : ℕ) → top ≡ highest q → (leb o.executed o.sum && leb o.sum (o.executed * top)) ≡ is_priced q o
unfolding is_priced
priced_is q o top t = rw t

-- the marks of record i
module _ (t : List ℕ) (i : ℕ) (q : Instrument) (capacity : ℕ) (k : capacity ≡ capacity_at t i) where
  pub marked_not_capacity : not (eqb capacity 65 || eqb capacity 80) ≡ true → false ≡ is_marked q (marks_at t i)
  unfolding is_marked marks_at is_capacity
  marked_not_capacity n = rw (← k, not-true (eqb capacity 65 || eqb capacity 80) n)

  module _ (class : ℕ) (l : class ≡ classification_at t i) where
    pub marked_not_class : not (eqb class 1 || (leb 3 class && leb class 6)) ≡ true → false ≡ is_marked q (marks_at t i)
    unfolding is_marked marks_at is_class
    marked_not_class n = rw (← l, not-true (eqb class 1 || (leb 3 class && leb class 6)) n, and-false)

    pub marked_is : (c : Bool) → not (eqb capacity 65 || eqb capacity 80) ≡ false → not (eqb class 1 || (leb 3 class && leb class 6)) ≡ false
        → c ≡ is_cash q (cash_at t i) (margin_at t i) → c ≡ is_marked q (marks_at t i)
    unfolding is_marked marks_at is_capacity is_class
    marked_is c n m e = e ∙ rw (← k, ← l, not-false (eqb capacity 65 || eqb capacity 80) n, not-false (eqb class 1 || (leb 3 class && leb class 6)) m)

-- the parts of record i: the first that fails, or the last
module _ (t : List ℕ) (i : ℕ) (low span : List ℕ) (lows : low ≡ bounds_of 32) (spans : span ≡ bounds_of 94) where
  pub record_not_id : (a : Bool) → a ≡ is_text (between low span) 1 32 t (record_at i) → not a ≡ true → false ≡ is_record t i
  unfolding is_record
  record_not_id a e n = rw (← text_of 32 94 1 32 t (record_at i) low span a lows spans e, not-true a n)

  pub record_not_account : (a : Bool) → a ≡ is_text (between low span) 0 10 t (record_at i + 33) → not a ≡ true → false ≡ is_record t i
  unfolding is_record
  record_not_account a e n = rw (← text_of 32 94 0 10 t (record_at i + 33) low span a lows spans e, not-true a n, and-false)

  pub record_is : (q : Instrument) (order_id : ℕ) (a b c e : Bool) → q ≡ instrument_of t
      → a ≡ is_text (between low span) 1 32 t (record_at i) → not a ≡ false → b ≡ is_text (between low span) 0 10 t (record_at i + 33) → not b ≡ false
      → c ≡ is_marked q (marks_at t i) → not c ≡ false → order_id ≡ order_id_at t i → (order_id ≡ 0 → ⊥) → e ≡ all_zero (part_at t (record_at i + 94) 34)
      → e ≡ is_record t i
  unfolding is_record
  record_is q order_id a b c e g h k j l m n o r u =
      u ∙ rw (
        ← text_of 32 94 1 32 t (record_at i) low span a lows spans h,
        ← text_of 32 94 0 10 t (record_at i + 33) low span b lows spans j,
        ← g,
        ← m,
        ← o,
        not-false a k,
        not-false b l,
        not-false c n,
        le-leb 1 order_id (omega arith),
      )

module _ (t : List ℕ) (i : ℕ) where
  pub record_not_marked : (q : Instrument) (c : Bool) → q ≡ instrument_of t → c ≡ is_marked q (marks_at t i) → not c ≡ true → false ≡ is_record t i
  unfolding is_record
  record_not_marked q c g e n = rw (← g, ← e, not-true c n, and-false)

  pub record_no_number : (order_id : ℕ) → order_id ≡ order_id_at t i → order_id ≡ 0 → false ≡ is_record t i
  unfolding is_record
  record_no_number order_id e z = rw (← e, z, and-false)

  -- record i by its parts: the first that fails, or the last
  pub order_not_record : (a : Bool) → a ≡ is_record t i → not a ≡ true → false ≡ is_order t i
  unfolding is_order
  order_not_record a e n = rw (← e, not-true a n)

  module _ (o : Order) (e : o ≡ order_at t i) where
    pub order_not_within : (w : Bool) → w ≡ is_within o → not w ≡ true → false ≡ is_order t i
    unfolding is_order
    order_not_within w f n = rw (← e, ← f, not-true w n, and-false)

    pub order_not_shut : (s : Bool) → s ≡ is_shut o → not s ≡ true → false ≡ is_order t i
    unfolding is_order
    order_not_shut s f n = rw (← e, ← f, not-true s n, and-false)

    module _ (q : Instrument) (x : q ≡ instrument_of t) where
      pub order_not_priced : (p : Bool) → p ≡ is_priced q o → not p ≡ true → false ≡ is_order t i
      unfolding is_order
      order_not_priced p f n = rw (← e, ← x, ← f, not-true p n, and-false)

      pub order_not_ranged : (r : Bool) → r ≡ is_ranged q o → not r ≡ true → false ≡ is_order t i
      unfolding is_order
      order_not_ranged r f n = rw (← e, ← x, ← f, not-true r n, and-false)

      pub order_is : (a w s p r b : Bool) → a ≡ is_record t i → not a ≡ false → w ≡ is_within o → not w ≡ false → s ≡ is_shut o → not s ≡ false
          → p ≡ is_priced q o → not p ≡ false → r ≡ is_ranged q o → not r ≡ false → b ≡ is_known t o.mpid → b ≡ is_order t i
      unfolding is_order
      order_is a w s p r b f n g k h l j m y z u =
          rw (← e, ← x, ← f, ← g, ← h, ← j, ← y, ← u, not-false a n, not-false w k, not-false s l, not-false p m, not-false r z, and-true b, and-true b, and-true b)

-- the list of MPIDs, by its number of entries
pub list_is : (t : List ℕ) (n : ℕ) (a z : Bool) → n ≡ entries t → a ≡ all_up_to (is_entry t) n → z ≡ list_ends t n → (leb 1 n && a && z) ≡ has_list t
unfolding has_list list_ends
list_is t n a z e f g = rw (f, g, e) (sym (and_assoc (leb 1 (entries t) && all_up_to (is_entry t) (entries t)) _ _))
