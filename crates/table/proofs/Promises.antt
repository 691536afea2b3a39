-- What a market promises of its texts, OrderIDs and modes, for whoever writes a report from it or reads a message against it.
use mathlib.Core.Path.{◌≡◌}
use mathlib.Core.Bool.{Bool, true}
use mathlib.Core.List.{List}
use Prim.Native.Nat.{ℕ, ◌+◌, ◌*◌, ◌≤◌, ◌<◌}
use native.Mathlib.Omega.{arith}
use lib.ListN.{length}
use borrow.Author.Tests.{leb-true, ltb-true}
use Rattle.octets.specs.Octets.{text_at}
use Rattle.octets.specs.Tests.{all_up_to}
use Rattle.octets.proofs.Bools.{both_l, both_r}
use Rattle.octets.proofs.Ranges.{all_at}
use Rattle.octets.proofs.Parts.{length_text}
use Rattle.decimal.specs.Reading.{is_time}
use Rattle.table.specs.Heading.{venue_of, port_of, code_of, next_of, work_of, stamp_of, instrument_of, mode_at, entries, entry_of, is_listed, mode_of}
use Rattle.table.specs.Orders.{cl_ord_id_at, account_at, order_id_at, capacity_at, classification_at, cash_at, margin_at, marks_at, filled}
use Rattle.table.specs.Market.{every, is_graphic, is_printable, is_code_character, is_padded, is_text, has_names, is_entry, has_list, has_settings, is_capacity, is_class, is_cash, is_marked}
use Rattle.table.specs.Facts.{Market}
use Rattle.table.proofs.Same.{filled_few}
use Rattle.table.proofs.Texts.{text_low, text_high, text_every}
use Rattle.table.proofs.Naming.{record_id, record_account, record_order_id, record_marked, record_capacity, record_class, record_cash}
use Rattle.table.proofs.Working.{work_some}

-- a good text: its length and its characters
pub record Spelt (f : ℕ → Bool) (low high : ℕ) (xs : List ℕ) : Type 0 where
  pub least : low ≤ length xs
  pub most : length xs ≤ high
  pub good : every f xs ≡ true

spelt : (f : ℕ → Bool) (low high : ℕ) (t : List ℕ) (p : ℕ) → p + 1 + high ≤ length t → is_text f low high t p ≡ true → Spelt f low high (text_at t p)
spelt f low high t p room h =
    let e = length_text t p high room (text_high f low high t p h) in
    record { least = omega (arith, text_low f low high t p h); most = omega (arith, text_high f low high t p h); good = text_every f low high t p h }

module _ (t : List ℕ) (m : Market t) where
  -- the settings
  has_names_lem : has_names t ≡ true
  unfolding has_settings
  has_names_lem = both_l (has_names t) (has_list t) m.settings

  pub venue_spelt : Spelt is_graphic 1 8 (venue_of t)
  unfolding has_names
  venue_spelt = let h = has_names_lem in spelt is_graphic 1 8 t 0 (omega (arith, m.long)) (search both_l)

  pub port_spelt : Spelt is_graphic 1 8 (port_of t)
  unfolding has_names
  port_spelt = let h = has_names_lem in spelt is_graphic 1 8 t 9 (omega (arith, m.long)) (search (both_l, both_r))

  pub code_spelt : Spelt (is_code_character (instrument_of t)) 1 9 (code_of t)
  unfolding has_names
  code_spelt = let h = has_names_lem in spelt (is_code_character (instrument_of t)) 1 9 t 18 (omega (arith, m.long)) (search both_r)

  -- the 52 of the message whose order is in work
  pub stamp_time : 1 ≤ work_of t → is_time (stamp_of t) ≡ true
  stamp_time l = both_l (is_time (stamp_of t)) (is_padded 21 t 33) (work_some t m.work (λ e. omega arith))

  -- the mode of a listed MPID
  pub mode_listed : (x : ℕ) → is_listed t x ≡ true → (1 ≤ mode_of t x) × (mode_of t x ≤ 3)
  unfolding mode_of is_listed has_settings has_list is_entry
  mode_listed x l =
      let k : ℕ = entry_of t x in
      let h : k < entries t = ltb-true _ _ l in
      let s = both_r (has_names t) (has_list t) m.settings in
      let a : all_up_to (is_entry t) (entries t) ≡ true = search (both_l, both_r) in
      let r : is_entry t k ≡ true = all_at (is_entry t) (entries t) a k h in
      let y : 1 ≤ mode_at t k = leb-true _ _ (search (both_l, both_r)) in
      let z : mode_at t k ≤ 3 = leb-true _ _ (search (both_l, both_r)) in
      rw l (y, z)

  -- a record
  module _ (i : ℕ) (low : 1 ≤ i) (high : i ≤ filled t) where
    pub id_spelt : Spelt is_printable 1 32 (cl_ord_id_at t i)
    id_spelt = spelt is_printable 1 32 t (128 * i) (omega (arith, m.long, filled_few t)) (record_id t i (m.records i low high))

    pub account_spelt : Spelt is_printable 0 10 (account_at t i)
    account_spelt = spelt is_printable 0 10 t (128 * i + 33) (omega (arith, m.long, filled_few t)) (record_account t i (m.records i low high))

    pub order_id_low : 1 ≤ order_id_at t i
    order_id_low = record_order_id t i (m.records i low high)

    pub order_id_below : order_id_at t i < next_of t
    order_id_below = m.order_ids.below i low high

    pub marks_good : is_marked (instrument_of t) (marks_at t i) ≡ true
    marks_good = record_marked t i (m.records i low high)

    pub capacity_good : is_capacity (capacity_at t i) ≡ true
    capacity_good = record_capacity t i (m.records i low high)

    pub class_good : is_class (classification_at t i) ≡ true
    class_good = record_class t i (m.records i low high)

    pub cash_good : is_cash (instrument_of t) (cash_at t i) (margin_at t i) ≡ true
    cash_good = record_cash t i (m.records i low high)

  -- one OrderID, one record
  pub order_id_apart : (i j : ℕ) → 1 ≤ i → i ≤ filled t → 1 ≤ j → j ≤ filled t → order_id_at t i ≡ order_id_at t j → i ≡ j
  order_id_apart = m.order_ids.apart
