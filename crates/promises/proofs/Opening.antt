-- A table just opened has no order.
use mathlib.Core.Path.{◌≡◌, ◌∙◌}
use mathlib.Core.Bool.{true}
use mathlib.Core.List.{List, [], ◌∷◌}
use mathlib.Core.Logic.{inr}
use Prim.Native.Nat.{ℕ}
use native.Mathlib.Omega.{arith}
use lib.Dec.{eqb, lit<, lit≤}
use lib.ListN.{length, get_or, replicate, get_or-replicate}
use Rattle.octets.specs.Octets.{bytes_of, text_bytes}
use Rattle.octets.proofs.Bools.{both_r}
use Rattle.octets.proofs.Places.{length_bytes_of}
use Rattle.octets.proofs.Parts.{length_text_bytes}
use Rattle.decimal.specs.declared.Instrument.{Instrument}
use Rattle.table.specs.Heading.{kind_number, mpid_bytes, put_venue, put_port, put_kind, put_next, put_mpids}
use Rattle.table.specs.Orders.{filled, orders_from, book_of}
use Rattle.table.specs.Opened.{are_names, are_given, are_settings, named_table, fresh_table, is_opening, opened}
use Rattle.table.proofs.Frames.{filled_is}
use Rattle.table.proofs.Settings.{venue_short, port_short, code_short, settings_names, settings_given, given_few, given_same}
use Rattle.table.proofs.Opens.{byte_off, length_mpids}

module _ (q : Instrument) (venue port code : List ℕ) (first : ℕ) (mpids modes : List ℕ) (h : are_settings q venue port code first mpids modes ≡ true) where
  names : are_names q venue port code ≡ true
  names = settings_names q venue port code first mpids modes h

  given : are_given mpids modes ≡ true
  given = settings_given q venue port code first mpids modes h

  -- the first byte of record 1 is zero
  record_free : get_or (fresh_table q venue port code first mpids modes) 128 0 ≡ 0
  unfolding fresh_table named_table
  record_free =
      let few = given_few mpids modes given in
      let same = given_same mpids modes given in
      byte_off (put_mpids (put_kind (put_next (named_table venue port code) first) q) mpids) 88 modes 128 (inr (omega arith))
      ∙ byte_off (put_kind (put_next (named_table venue port code) first) q) 56 (mpid_bytes mpids) 128 (inr (omega (arith, length_mpids mpids)))
      ∙ byte_off (put_next (named_table venue port code) first) 55 (kind_number q ∷ []) 128 (inr (lit≤ tt))
      ∙ byte_off (named_table venue port code) 28 (bytes_of 4 first) 128 (inr (omega (arith, length_bytes_of 4 first)))
      ∙ byte_off (put_port (put_venue (replicate 32768 0) venue) port) 18 (text_bytes 9 code) 128 (inr (omega (arith, length_text_bytes 9 code (code_short q venue port code names))))
      ∙ byte_off (put_venue (replicate 32768 0) venue) 9 (text_bytes 8 port) 128 (inr (omega (arith, length_text_bytes 8 port (port_short q venue port code names))))
      ∙ byte_off (replicate 32768 0) 0 (text_bytes 8 venue) 128 (inr (omega (arith, length_text_bytes 8 venue (venue_short q venue port code names))))
      ∙ get_or-replicate 32768 128 0 0 (lit< tt)

  pub fresh_book : book_of (fresh_table q venue port code first mpids modes) ≡ []
  unfolding book_of orders_from
  fresh_book =
      let e : filled (fresh_table q venue port code first mpids modes) ≡ 0 =
      filled_is (fresh_table q venue port code first mpids modes) 0 (omega arith) (λ i l m. absurd (omega arith)) (λ l. record_free) in
      rw e

pub opened_book : (q : Instrument) (t venue port code : List ℕ) (first : ℕ) (mpids modes : List ℕ) → is_opening q t venue port code first mpids modes ≡ true
    → book_of (opened q t venue port code first mpids modes) ≡ []
unfolding is_opening opened
opened_book q t venue port code first mpids modes h =
    rw h (fresh_book q venue port code first mpids modes (both_r (eqb (length t) 32768) (are_settings q venue port code first mpids modes) h))
