-- What a request that stands promises: a ClOrdID that no order has, an order in its ranges, a record that has something open; so the
-- table after it is a market.
use mathlib.Core.Path.{◌≡◌, refl, sym, ap}
use mathlib.Core.Bool.{Bool, true, false, not, ◌&&◌, ◌||◌}
use mathlib.Core.List.{List, [], ◌∷◌}
use Prim.Native.Nat.{ℕ, suc, ◌+◌, ◌≤◌, ◌<◌}
use native.Mathlib.Omega.{arith}
use lib.Dec.{eqb, ltb}
use lib.ListN.{length}
use borrow.Author.Tests.{eqb-true, eqb-false, ltb-true, ltb-false, le-leb, lt-ltb, not-false}
use Rattle.octets.specs.Octets.{same_bytes}
use Rattle.octets.proofs.Bools.{split, both_i, or_l, or_r, neither_l, neither_r, not_both}
use Rattle.decimal.specs.declared.Instrument.{Instrument}
use Rattle.decimal.specs.declared.Instrument.TheVariants.{Bonds, Equities}
use Rattle.decimal.specs.Instruments.{highest}
use Rattle.decimal.specs.Reading.{is_digit, is_time}
use Rattle.fix.proofs.Values.{Between}
use Rattle.request.specs.declared.NewOrder.{NewOrder}
use Rattle.request.specs.declared.Replacement.{Replacement}
use Rattle.request.specs.declared.Cancellation.{Cancellation}
use Rattle.request.specs.declared.Asked.TheVariants.{Enters, Replaces, Cancels}
use Rattle.request.specs.Session.{one_of}
use Rattle.request.proofs.Told.{sides}
use Rattle.request.proofs.Requests.{is_cash_of, NewRight, enters_right, replaces_right}
use Rattle.request.proofs.Saying.{code_low, code_high, NewSpelt, enters_spelt, ReplacementSpelt, replaces_spelt, CancelSpelt, cancels_spelt}
use Rattle.matching.specs.Matching.{at, open_of, is_side_of}
use Rattle.matching.specs.Held.{may_minimum, Sound, In, Enters as Entering, Renews}
use Rattle.matching.specs.Quoted.{Quoted}
use Rattle.matching.proofs.Quoting.{side_any, highest_most, quoted_new}
use Rattle.table.specs.Heading.{code_of, next_of, instrument_of, is_listed}
use Rattle.table.specs.Orders.{order_at, filled, book_of, record_with, record_for}
use Rattle.table.specs.Market.{every, is_printable, is_capacity, is_class, is_cash, is_marked}
use Rattle.table.specs.Facts.{Named}
use Rattle.table.proofs.Books.{length_book, at_book}
use Rattle.table.proofs.Same.{filled_few}
use Rattle.table.proofs.Lookups.{record_none, record_found, record_for_takes, record_for_small}
use Rattle.ticket.specs.Legible.{is_symbol_character}
use Rattle.std.specs.Prelude.{Result, Ok, Err}
use Rattle.calls.specs.declared.OrderReason.{OrderReason}
use Rattle.calls.specs.declared.OrderReason.TheVariants.{NoRecord, OtherCode, IdInUse, Stranger}
use Rattle.calls.specs.declared.ChangeReason.{ChangeReason}
use Rattle.calls.specs.Checks.{order_number, text_of, holder, in_table, is_code, new_stands, change_stands, cancel_stands, and_above, replace_stands}
use Rattle.calls.specs.Submit.{marks_of, new_order_of}
use Rattle.intake.specs.Intake.{Asking}

-- ---- texts of the message

-- each byte passes a test that holds of all from low to high
pub between_every : (f : ℕ → Bool) (low high : ℕ) → ((x : ℕ) → low ≤ x → x ≤ high → f x ≡ true) → (xs : List ℕ) → Between low high xs → every f xs ≡ true
unfolding every
between_every f low high g [] h = refl
between_every f low high g (x ∷ xs) h =
    both_i (g x (h 0 (omega arith)).0 (h 0 (omega arith)).1) (between_every f low high g xs (λ k l. h (suc k) (omega arith)))

pub between_printable : (xs : List ℕ) → Between 32 126 xs → every is_printable xs ≡ true
between_printable xs h = between_every is_printable 32 126 (λ x a b. both_i (le-leb 32 x a) (le-leb x 126 b)) xs h

pub between_digits : (xs : List ℕ) → Between 48 57 xs → every is_digit xs ≡ true
unfolding is_digit
between_digits xs h = between_every is_digit 48 57 (λ x a b. both_i (le-leb 48 x a) (le-leb x 57 b)) xs h

-- each character of a 55 is one that a bond's code, or a share's symbol, may have in a message
pub between_symbols : (q : Instrument) (xs : List ℕ) → Between (code_low q) (code_high q) xs → every (is_symbol_character q) xs ≡ true
unfolding is_symbol_character
between_symbols Bonds xs h = between_digits xs h
between_symbols Equities xs h = between_printable xs h

-- ---- who has a ClOrdID

-- one that is not in the table, of the right characters, can be taken
pub named : (t xs : List ℕ) → in_table t xs ≡ false → 1 ≤ length xs → length xs ≤ 32 → every is_printable xs ≡ true → Named t xs
unfolding holder
named t xs h some short printable =
    record {
      some = some;
      short = short;
      printable = printable;
      fresh = record_none t (filled t) xs (eqb-true _ _ (not-false _ h));
    }

-- the record that has one is in the book
pub holder_in : (t xs : List ℕ) (k : ℕ) → k ≡ holder t xs → 0 < k → In (book_of t) k
unfolding holder
holder_in t xs k e l = record { low = l; high = omega (arith, length_book t, (record_found t (filled t) xs k (sym e) l).0) }

pub holder_few : (t xs : List ℕ) → holder t xs ≤ filled t
unfolding holder
holder_few t xs = split (ltb 0 (record_with t (filled t) xs))
    (λ z. (record_found t (filled t) xs _ refl (ltb-true 0 _ z)).0)
    (λ z. omega (arith, ltb-false 0 (record_with t (filled t) xs) z))

pub holder_is : (t xs : List ℕ) (n k : ℕ) → n ≡ filled t → k ≡ record_with t n xs → k ≡ holder t xs
unfolding holder
holder_is t xs n k e q = rw (← e) q

pub holder_small : (t : List ℕ) (n k : ℕ) → n ≡ filled t → k ≤ n → k ≤ 255
holder_small t n k e l = omega (arith, filled_few t)

pub code_is : (t xs ys : List ℕ) (r : Bool) → ys ≡ code_of t → r ≡ same_bytes xs ys → r ≡ is_code t xs
code_is t xs ys r e q = rw (← e) q

-- ---- a new order that stands

pub record NewHolds (t message : List ℕ) (o : NewOrder) : Type 0 where
  pub code : is_code t (text_of message o.code) ≡ true
  pub owned : (eqb o.terms.mpid 0 || is_listed t o.terms.mpid) ≡ true
  pub fresh : in_table t (text_of message o.id) ≡ false
  pub free : 0 < record_for t

stands_not : {R : Type 0} (r : R) → ◌≡◌ {A = Result (Unit {0}) R} (Err r) (Ok tt) → ⊥
stands_not r e = let z : ◌≡◌ {A = ℕ} 0 1 = cc in omega arith

listed_by : (m : ℕ) (l : Bool) → (ltb 0 m && not l) ≡ false → (eqb m 0 || l) ≡ true
listed_by m l h =
    split (eqb m 0) (λ e. or_l (eqb m 0) l e)
    (λ e. split l (λ d. rw (e, d)) (λ d. let z : true ≡ false = rw (lt-ltb 0 m (omega (arith, eqb-false m 0 e)), d) at h in rw (e, d) (sym z)))

pub new_holds : (t message : List ℕ) (o : NewOrder) → new_stands t message o ≡ Ok tt → NewHolds t message o
unfolding new_stands
new_holds t message o e =
    let a : Bool = not (is_code t (text_of message o.code)) in
    let b : Bool = ltb 0 o.terms.mpid && not (is_listed t o.terms.mpid) in
    let c : Bool = in_table t (text_of message o.id) in
    let d : Bool = eqb (record_for t) 0 in
    split a (λ x. absurd (stands_not _ (rw x at e))) (λ x.
    split b (λ y. absurd (stands_not _ (rw (x, y) at e))) (λ y.
    split c (λ z. absurd (stands_not _ (rw (x, y, z) at e))) (λ z.
    split d (λ w. absurd (stands_not _ (rw (x, y, z, w) at e))) (λ w.
    record {
      code = not-false _ x;
      owned = listed_by o.terms.mpid (is_listed t o.terms.mpid) y;
      fresh = z;
      free = omega (arith, eqb-false (record_for t) 0 w);
    }))))

-- reasons with different numbers are different
abbrev number_in : Result (Unit {0}) OrderReason → ℕ
number_in (Ok stands) = 0
number_in (Err reason) = order_number reason

other_reason : (a : OrderReason) → 0 < order_number a → ◌≡◌ {A = Result (Unit {0}) OrderReason} (Err a) (Err NoRecord) → ⊥
other_reason a l e = let z : order_number a ≡ 0 = ap number_in e in omega arith

-- one that is rejected with 103=0: there is no record for it
pub new_refused : (t message : List ℕ) (o : NewOrder) → new_stands t message o ≡ Err NoRecord → record_for t ≡ 0
unfolding new_stands
new_refused t message o e =
    split (not (is_code t (text_of message o.code))) (λ x. absurd (other_reason OtherCode (omega arith) (rw x at e))) (λ x.
    split (ltb 0 o.terms.mpid && not (is_listed t o.terms.mpid)) (λ y. absurd (other_reason Stranger (omega arith) (rw (x, y) at e))) (λ y.
    split (in_table t (text_of message o.id)) (λ z. absurd (other_reason IdInUse (omega arith) (rw (x, y, z) at e))) (λ z.
    split (eqb (record_for t) 0) (λ w. eqb-true (record_for t) 0 w) (λ w. absurd (stands_not NoRecord (sym (rw (x, y, z, w) at e)))))))

-- one of two numbers, one of three, and one of the classifications
one_of_two : (x a b : ℕ) → one_of x (a ∷ b ∷ []) ≡ true → (eqb x a || eqb x b) ≡ true
unfolding one_of
one_of_two x a b h =
    split (eqb x a) (λ e. or_l (eqb x a) (eqb x b) e)
    (λ e. split (eqb x b) (λ d. rw (e, d)) (λ d. let z : false ≡ true = rw (e, d) at h in rw (e, d) z))

one_of_three : (x a b c : ℕ) → one_of x (a ∷ b ∷ c ∷ []) ≡ true → (eqb x a || (eqb x b || eqb x c)) ≡ true
unfolding one_of
one_of_three x a b c h =
    split (eqb x a) (λ e. or_l (eqb x a) (eqb x b || eqb x c) e)
    (λ e. rw e (one_of_two x b c (or_r (eqb x a) (one_of x (b ∷ c ∷ [])) h e)))

one_class : (x : ℕ) → one_of x (1 ∷ 3 ∷ 4 ∷ 5 ∷ 6 ∷ []) ≡ true → is_class x ≡ true
unfolding one_of is_class
one_class x h =
    split (eqb x 1) (λ e. rw e)
    (λ e. rw e
    (split (eqb x 3) (λ d. let q = eqb-true x 3 d in rw q)
    (λ d. split (eqb x 4) (λ c. let q = eqb-true x 4 c in rw q)
    (λ c. split (eqb x 5) (λ b. let q = eqb-true x 5 b in rw q)
    (λ b. split (eqb x 6) (λ a. let q = eqb-true x 6 a in rw q)
    (λ a. absurd (let z : false ≡ true = rw (e, d, c, b, a) at h in let n : ◌≡◌ {A = ℕ} 0 1 = cc in omega arith)))))))

one_capacity : (x : ℕ) → one_of x (65 ∷ 80 ∷ []) ≡ true → is_capacity x ≡ true
unfolding is_capacity
one_capacity x h = one_of_two x 65 80 h

-- a side that a message may have is one of the market's
pub side_is : (q : Instrument) (x : ℕ) → one_of x (sides q) ≡ true → is_side_of q x ≡ true
unfolding one_of is_side_of
side_is Bonds x h = one_of_two x 1 2 h
side_is Equities x h =
    split (eqb x 1) (λ a. rw a)
    (λ a. split (eqb x 2) (λ b. rw (a, b))
    (λ b. split (eqb x 5) (λ c. rw (a, b, c))
    (λ c. split (eqb x 6) (λ d. rw (a, b, c, d)) (λ d. absurd (not_both (rw (a, b, c, d) at h) refl)))))

-- and so are its 544 and 8214
cash_is : (q : Instrument) (cash margin : ℕ) → is_cash_of q cash margin ≡ true → is_cash q cash margin ≡ true
unfolding is_cash
cash_is Bonds cash margin h = h
cash_is Equities cash margin h = h

module _ (t message : List ℕ) (o : NewOrder) (a : Asking t message (Enters o)) where
  new_right : NewRight (instrument_of t) o
  new_right = enters_right _ _ _ message o a.asks

  new_said : NewSpelt (instrument_of t) message o
  new_said = enters_spelt _ _ _ message o a.asks

  -- its side and level are the market's
  new_side : is_side_of (instrument_of t) o.terms.side ≡ true
  new_side = side_is (instrument_of t) o.terms.side new_right.sized.side_is

  pub new_quoted : Quoted (instrument_of t) (new_order_of t message o)
  new_quoted = quoted_new (instrument_of t) (new_order_of t message o) new_side new_right.sized.level_high refl

  -- its order is in range
  pub new_sound : Sound (new_order_of t message o)
  unfolding open_of may_minimum
  new_sound =
      let r = new_right in
      record {
        sides = side_any (instrument_of t) o.terms.side new_side;
        tifs = one_of_three o.terms.tif 0 3 4 r.tif_is;
        minimum = r.minqty_is;
        level_low = r.sized.level_low;
        level_high = omega (arith, r.sized.level_high, highest_most (instrument_of t));
        qty_low = r.sized.quantity_low;
        qty_high = omega (arith, r.sized.quantity_high);
        covered = omega arith;
        dead = λ c. absurd (omega arith);
        sum_low = omega arith;
        sum_high = omega arith;
        place_low = a.market.next_low;
      }

  -- and so are its marks
  pub new_marked : is_marked (instrument_of t) (marks_of o) ≡ true
  unfolding is_marked
  new_marked =
      both_i (both_i (one_capacity o.terms.capacity new_right.capacity_is) (one_class o.terms.class new_right.class_is))
      (cash_is (instrument_of t) o.terms.cash o.terms.margin new_right.cash_is)

  pub new_account : every is_printable (text_of message o.account) ≡ true
  new_account = between_printable _ new_said.account.bytes

  pub new_account_short : length (text_of message o.account) ≤ 10
  new_account_short = new_said.account.short

  pub new_time : is_time (text_of message o.time) ≡ true
  new_time = new_said.time.right

  module _ (s : new_stands t message o ≡ Ok tt) where
    new_holding : NewHolds t message o
    new_holding = new_holds t message o s

    pub new_named : Named t (text_of message o.id)
    new_named = named t (text_of message o.id) new_holding.fresh new_said.id.some new_said.id.short (between_printable _ new_said.id.bytes)

    pub new_free : 0 < record_for t
    new_free = new_holding.free

    -- it may enter the book
    pub new_enters : Entering (is_listed t) (next_of t) (book_of t) (record_for t) (new_order_of t message o)
    new_enters =
        record {
          number = record_for_takes t (record_for t) refl new_free;
          sound = new_sound;
          unexecuted = refl;
          undecremented = refl;
          uncanceled = refl;
          unsummed = refl;
          owned = new_holding.owned;
          newest = refl;
          filled = omega (arith, length_book t, filled_few t);
          free = record_for_small t (record_for t) refl;
          numbered = a.numbers;
        }

-- ---- a change that stands

pub record ChangeHolds (t : List ℕ) (k : ℕ) (code cl_ord_id : List ℕ) (side : ℕ) : Type 0 where
  pub known : 0 < k
  pub coded : is_code t code ≡ true
  pub sided : side ≡ (order_at t k).side
  pub live : 0 < open_of (order_at t k)
  pub fresh : in_table t cl_ord_id ≡ false

pub change_holds : (t : List ℕ) (k : ℕ) (code cl_ord_id : List ℕ) (side : ℕ) → change_stands t k code cl_ord_id side ≡ Ok tt → ChangeHolds t k code cl_ord_id side
unfolding change_stands
change_holds t k code cl_ord_id side e =
    split (not (is_code t code) || eqb k 0) (λ x. absurd (stands_not _ (rw x at e))) (λ x.
    split (not (eqb side (order_at t k).side)) (λ y. absurd (stands_not _ (rw (x, y) at e))) (λ y.
    split (eqb (open_of (order_at t k)) 0) (λ z. absurd (stands_not _ (rw (x, y, z) at e))) (λ z.
    split (in_table t cl_ord_id) (λ w. absurd (stands_not _ (rw (x, y, z, w) at e))) (λ w.
    record {
      known = omega (arith, eqb-false k 0 (neither_r (not (is_code t code)) (eqb k 0) x));
      coded = not-false _ (neither_l (not (is_code t code)) (eqb k 0) x);
      sided = eqb-true side (order_at t k).side (not-false _ y);
      live = omega (arith, eqb-false (open_of (order_at t k)) 0 z);
      fresh = w;
    }))))

pub cancel_holds : (t message : List ℕ) (o : Cancellation) (k : ℕ) → k ≡ holder t (text_of message o.original) → cancel_stands t message o ≡ Ok tt
    → ChangeHolds t k (text_of message o.code) (text_of message o.id) o.side
unfolding cancel_stands
cancel_holds t message o k q e = change_holds t k _ _ _ (rw q e)

-- a replacement goes above what is executed and decremented
above_both : (t : List ℕ) (k q : ℕ) (s : Result (Unit {0}) ChangeReason) → and_above t k q s ≡ Ok tt → (s ≡ Ok tt) × ((order_at t k).executed + (order_at t k).decremented < q)
above_both t k q (Ok stands) e =
    split (ltb ((order_at t k).executed + (order_at t k).decremented) q)
    (λ x. (refl, ltb-true _ _ x))
    (λ x. absurd (stands_not _ (rw x at e)))
above_both t k q (Err r) e = absurd (stands_not r e)

pub replace_both : (t message : List ℕ) (o : Replacement) (k : ℕ) → k ≡ holder t (text_of message o.original) → replace_stands t message o ≡ Ok tt
    → (change_stands t k (text_of message o.code) (text_of message o.id) o.side ≡ Ok tt)
    × ((order_at t k).executed + (order_at t k).decremented < o.quantity)
unfolding replace_stands
replace_both t message o k q e = above_both t k o.quantity _ (rw q e)

module _ (t message : List ℕ) (o : Cancellation) (a : Asking t message (Cancels o)) (k : ℕ) (q : k ≡ holder t (text_of message o.original))
    (s : cancel_stands t message o ≡ Ok tt) where
  cancel_said : CancelSpelt (instrument_of t) message o
  cancel_said = cancels_spelt _ _ _ message o a.asks

  pub cancel_in : In (book_of t) k
  cancel_in = holder_in t (text_of message o.original) k q (cancel_holds t message o k q s).known

  pub cancel_at : at (book_of t) k ≡ order_at t k
  cancel_at = at_book t k cancel_in.low (omega (arith, cancel_in.high, length_book t))

  pub cancel_named : Named t (text_of message o.id)
  cancel_named =
      named t (text_of message o.id) (cancel_holds t message o k q s).fresh cancel_said.id.some cancel_said.id.short (between_printable _ cancel_said.id.bytes)

-- its level is one of the market's
pub replace_quoted : (t message : List ℕ) (o : Replacement) → Asking t message (Replaces o) → o.level ≤ highest (instrument_of t)
replace_quoted t message o a = (replaces_right _ _ _ message o a.asks).level_high

module _ (t message : List ℕ) (o : Replacement) (a : Asking t message (Replaces o)) (k : ℕ) (q : k ≡ holder t (text_of message o.original))
    (s : replace_stands t message o ≡ Ok tt) where
  replace_said : ReplacementSpelt (instrument_of t) message o
  replace_said = replaces_spelt _ _ _ message o a.asks

  replace_holds : ChangeHolds t k (text_of message o.code) (text_of message o.id) o.side
  replace_holds = change_holds t k _ _ _ (replace_both t message o k q s).0

  pub replace_in : In (book_of t) k
  replace_in = holder_in t (text_of message o.original) k q replace_holds.known

  pub replace_at : at (book_of t) k ≡ order_at t k
  replace_at = at_book t k replace_in.low (omega (arith, replace_in.high, length_book t))

  pub replace_named : Named t (text_of message o.id)
  replace_named = named t (text_of message o.id) replace_holds.fresh replace_said.id.some replace_said.id.short (between_printable _ replace_said.id.bytes)

  pub replace_time : is_time (text_of message o.time) ≡ true
  replace_time = replace_said.time.right

  pub replace_renews : Renews (next_of t) (book_of t) k o.level o.quantity (next_of t)
  replace_renews =
      let r = replaces_right _ _ _ message o a.asks in
      let e = replace_at in
      record {
        inside = replace_in;
        live = rw e replace_holds.live;
        above = rw e (replace_both t message o k q s).1;
        qty_high = omega (arith, r.quantity_high);
        level_low = r.level_low;
        level_high = omega (arith, r.level_high, highest_most (instrument_of t));
        newest = refl;
        place_low = a.market.next_low;
        filled = omega (arith, length_book t, filled_few t);
        numbered = a.numbers;
      }
