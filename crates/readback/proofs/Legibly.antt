-- What is legible is right: the parts of every report that a table and a message give in range are what can be read.
use Prim.Native.Nat.{ℕ, suc, ◌+◌, ◌≤◌, ◌<◌}
use native.Mathlib.Omega.{arith}
use mathlib.Core.Bool.{true, false≢true}
use mathlib.Core.Path.{◌≡◌, refl, ap}
use mathlib.Core.List.{List, [], ◌∷◌}
use mathlib.Core.Logic.{◌⊎◌, inl, inr}
use lib.Dec.{eqb, leb, ltb}
use lib.ListN.{length, get_or, drop, length-take, length-drop}
use borrow.Author.Tests.{eqb-true, eqb-false, eq-eqb, lt-ltb, le-leb, le-ltb, leb-true, ltb-false}
use Rattle.octets.specs.Octets.{part_at, text_at}
use Rattle.octets.proofs.Bools.{split, both_l, both_r}
use Rattle.decimal.specs.declared.Instrument.{Instrument}
use Rattle.decimal.specs.declared.Instrument.TheVariants.{Bonds, Equities}
use Rattle.decimal.specs.Reading.{is_digit, run_of, digit_run, is_number}
use Rattle.table.specs.Places.{table_bytes, record_at, account_byte}
use Rattle.table.specs.declared.record.Marks.{Marks}
use Rattle.table.specs.Heading.{work_of, instrument_of}
use Rattle.table.specs.Orders.{marks_at}
use Rattle.table.specs.Market.{every, is_between, is_printable, is_code_character, is_capacity, is_class, is_cash, is_marked}
use Rattle.report.specs.declared.Place.{Place}
use Rattle.report.specs.declared.Value.TheVariants.{Absent}
use Rattle.report.specs.Shapes.{all_from}
use Rattle.rows.specs.declared.Refused.{Refused}
use Rattle.rows.specs.declared.Unchanged.{Unchanged}
use Rattle.rows.specs.declared.Faulty.{Faulty}
use Rattle.rows.specs.Rows.{text}
use Rattle.rows.proofs.Widths.{text_short}
use Rattle.ticket.specs.Tickets.{stored_at, or_stored_at, stamp_on, shown_on, fill_on}
use Rattle.ticket.specs.Legible.{Spelt, Placed, text_by, is_symbol_character, Headed, Recorded, Dealt, LegibleRefused, LegibleUnchanged, LegibleFaulty}
use Rattle.readback.specs.Right.{is_part, TextRight, CodeRight, IdRight, StampRight, ShownRight, FillRight, RefusedRight, UnchangedRight, FaultyRight}

-- ---- characters
every_from : (low : ℕ) (xs : List ℕ) → every (is_between low 126) xs ≡ true → all_from low xs ≡ true
unfolding every
every_from low [] e = refl
every_from low (x ∷ xs) e =
    let h = both_l (is_between low 126 x) (every (is_between low 126) xs) e in
    let a = leb-true low x (both_l (leb low x) (leb x 126) h) in
    let b = leb-true x 126 (both_r (leb low x) (leb x 126) h) in
    rw (le-ltb x low a, le-ltb 126 x b) (every_from low xs (both_r (is_between low 126 x) (every (is_between low 126) xs) e))

-- characters from 21 hex on are from 20 hex on
from_lower : (xs : List ℕ) → all_from 33 xs ≡ true → all_from 32 xs ≡ true
from_lower [] e = refl
from_lower (x ∷ xs) e =
    split (ltb x 33) (λ a. absurd (false≢true (rw a at e)))
    (λ a. split (ltb 126 x) (λ b. absurd (false≢true (rw (a, b) at e)))
    (λ b. rw (le-ltb x 32 (omega (arith, ltb-false x 33 a)), b) (from_lower xs (rw (a, b) at e))))

every_digit : (xs : List ℕ) → every is_digit xs ≡ true → digit_run xs ≡ length xs
unfolding every run_of
every_digit [] e = refl
every_digit (x ∷ xs) e = rw (both_l (is_digit x) (every is_digit xs) e) (ap suc (every_digit xs (both_r (is_digit x) (every is_digit xs) e)))

spelt_number : (xs : List ℕ) → Spelt is_digit 1 9 xs → is_number 9 xs ≡ true
unfolding is_number
spelt_number xs h = simp (lt-ltb 0 (length xs) h.least, le-leb (length xs) 9 h.most, eq-eqb (digit_run xs) (length xs) (every_digit xs h.good))

-- ---- the marks of an order
module _ (q : Instrument) (m : Marks) (h : is_marked q m ≡ true) where
  marks_capacity : is_capacity m.capacity ≡ true
  unfolding is_marked
  marks_capacity = search (both_l, both_r)

  marks_class : is_class m.class ≡ true
  unfolding is_marked
  marks_class = search (both_l, both_r)

  marks_cash : is_cash q m.cash m.margin ≡ true
  unfolding is_marked
  marks_cash = search (both_l, both_r)

text_part : (p : Place) → is_part (text p) ≡ true
unfolding text
text_part p = split p.sent (λ e. rw e) (λ e. rw e)

module _ (t message : List ℕ) where
  -- ---- texts of the table and of the message
  stored_right : (low most p : ℕ) → Spelt (is_between low 126) 1 most (text_at t p) → TextRight message t most low (stored_at t p)
  unfolding text_at
  stored_right low most p h =
      record { a_text = refl; some = h.least; few = h.most; all = every_from low (part_at t (p + 1) (get_or t p 0)) h.good }

  stored_code : (q : Instrument) (p : ℕ) → Spelt (is_code_character q) 1 9 (text_at t p) → CodeRight message t q (stored_at t p)
  unfolding text_at is_code_character
  stored_code Bonds p h = record { a_text = refl; digits = spelt_number (part_at t (p + 1) (get_or t p 0)) h }
  stored_code Equities p h =
      record { a_text = refl; some = h.least; few = h.most; all = from_lower (part_at t (p + 1) (get_or t p 0)) (every_from 33 (part_at t (p + 1) (get_or t p 0)) h.good) }

  placed_right : (low most : ℕ) (p : Place) → Placed (is_between low 126) 1 most message t p → TextRight message t most low (text p)
  placed_right low most p h =
      record { a_text = text_part p; some = h.least; few = text_short message t p most h.most; all = every_from low (text_by message t p) h.good }

  placed_code : (q : Instrument) (p : Place) → Placed (is_symbol_character q) 1 9 message t p → CodeRight message t q (text p)
  unfolding is_symbol_character
  placed_code Equities p h =
      record { a_text = text_part p; some = h.least; few = text_short message t p 9 h.most; all = every_from 32 (text_by message t p) h.good }
  placed_code Bonds p h =
      record {
        a_text = text_part p;
        digits = spelt_number (text_by message t p) (record { least = h.least; most = text_short message t p 9 h.most; good = h.good });
      }

  -- an account, or none
  some_part : (p n : ℕ) → p < length t → 1 ≤ n → 1 ≤ length (part_at t p n)
  unfolding part_at
  some_part p n h l = omega (arith, length-take n (drop p t), length-drop p t)

  account_right : (p : ℕ) → p + 1 < length t → Spelt is_printable 0 10 (text_at t p) → (or_stored_at t p ≡ Absent) ⊎ TextRight message t 10 32 (or_stored_at t p)
  unfolding or_stored_at text_at
  account_right p r h =
      split (eqb (get_or t p 0) 0)
      (λ e. rw e (inl refl))
      (λ e. rw e (inr (record {
        a_text = refl;
        some = some_part (p + 1) (get_or t p 0) r (omega (arith, eqb-false (get_or t p 0) 0 e));
        few = h.most;
        all = every_from 32 (part_at t (p + 1) (get_or t p 0)) h.good;
      })))

  -- ---- the parts of a report
  pub stamp_right : (n : ℕ) (time : Place) → Headed t message n time → StampRight message t (stamp_on t n time)
  unfolding stamp_on
  stamp_right n time h =
      record {
        number_low = h.number_low;
        number_high = omega (arith, h.number_high);
        time_right = record { a_text = text_part time; time = h.stamped };
        venue_right = stored_right 33 8 0 h.venue;
        port_right = stored_right 33 8 9 h.port;
      }

  pub shown_right : (i : ℕ) → length t ≡ table_bytes → Recorded t i → ShownRight message t (instrument_of t) (shown_on t i)
  unfolding shown_on marks_at
  shown_right i long h =
      record {
        orderid_low = h.orderid_low;
        orderid_high = omega (arith, h.orderid_high);
        order_right = h.sound;
        quoted_right = h.quoted;
        mpid_right = omega (arith, h.owner);
        capacity_right = marks_capacity (instrument_of t) (marks_at t i) h.marked;
        class_right = marks_class (instrument_of t) (marks_at t i) h.marked;
        cash_right = marks_cash (instrument_of t) (marks_at t i) h.marked;
        code_right = stored_code (instrument_of t) 18 h.code;
        id_right = stored_right 32 32 (record_at i) h.cl_ord_id;
        account_right = account_right (record_at i + account_byte) (omega (arith, long, h.high)) h.account;
      }

  pub fill_right : (n i other quantity level : ℕ) → 1 ≤ n → n < 1000000000 → Dealt t n i other quantity level → FillRight (instrument_of t) (fill_on t n i other quantity level)
  fill_right n i other quantity level l m h =
      record {
        quantity_right = omega (arith, h.quantity_high);
        level_low = h.level_low;
        level_high = h.level_high;
        other_right = omega (arith, h.other_owner);
        first_low = split (eqb i (work_of t)) (λ e. rw e (omega (arith, h.second (eqb-true i (work_of t) e)))) (λ e. rw e l);
        first_high = split (eqb i (work_of t)) (λ e. rw e (omega (arith, m))) (λ e. rw e (omega (arith, m)));
        liquidity_right = split (eqb i (work_of t)) (λ e. rw e) (λ e. rw e);
      }

  -- ---- what is refused
  pub refused_right : (n : ℕ) (time : Place) (r : Refused) → LegibleRefused t message n time r → RefusedRight message t (instrument_of t) r
  refused_right n time r h =
      record {
        id_right = placed_right 32 32 r.id h.cl_ord_id;
        quantity_right = omega (arith, h.quantity);
        side_right = h.side;
        code_right = placed_code (instrument_of t) r.code h.code;
        reason_right = h.reason;
      }

  pub unchanged_right : (n : ℕ) (time : Place) (u : Unchanged) → LegibleUnchanged t message n time u → UnchangedRight message t u
  unchanged_right n time u h =
      record {
        id_right = placed_right 32 32 u.id h.cl_ord_id;
        orderid_right = omega (arith, h.orderid);
        status_right = h.status;
        orig_right = placed_right 32 32 u.orig h.orig;
        reason_right = h.reason;
        response_right = h.response;
      }

  pub faulty_right : (n : ℕ) (time : Place) (f : Faulty) → LegibleFaulty t message n time f → FaultyRight message t f
  faulty_right n time f h =
      record {
        sequence_low = h.sequence_low;
        sequence_high = omega (arith, h.sequence_high);
        tag_low = h.tag_low;
        tag_high = omega (arith, h.tag_high);
        kind_right = placed_right 32 2 f.kind h.kind;
        reason_right = h.reason;
      }

  pub requested_right : (p : Place) → Placed is_printable 1 32 message t p → IdRight message t (text p)
  requested_right p h = placed_right 32 32 p h
