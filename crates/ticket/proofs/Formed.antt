-- What the heading and the records of a table give a report. It holds of every table that has a market's form and whose orders are in
-- their ranges: of a market, and of the tables between the events of one step and before the next number is raised.
use Prim.Native.Nat.{ℕ, ◌+◌, ◌*◌, ◌≤◌, ◌<◌}
use native.Mathlib.Omega.{arith}
use mathlib.Core.Bool.{Bool, true, ◌||◌}
use mathlib.Core.Path.{◌≡◌}
use mathlib.Core.List.{List}
use lib.Dec.{eqb}
use lib.ListN.{length}
use borrow.Author.Tests.{eqb-true}
use Rattle.octets.specs.Octets.{text_at}
use Rattle.octets.proofs.Bools.{split, both_l, both_r, or_r}
use Rattle.octets.proofs.Parts.{length_text}
use Rattle.decimal.specs.Reading.{is_time}
use Rattle.matching.specs.Matching.{at}
use Rattle.matching.specs.Held.{Sound, In}
use Rattle.matching.specs.Quoted.{Quoted, AllQuoted}
use Rattle.table.specs.Heading.{venue_of, port_of, code_of, next_of, instrument_of, is_listed}
use Rattle.table.specs.Orders.{order_id_at, order_at, filled, book_of}
use Rattle.table.specs.Market.{is_graphic, is_printable, is_code_character, is_text, has_names, has_list, has_settings}
use Rattle.table.proofs.Same.{filled_few}
use Rattle.table.proofs.Texts.{text_low, text_high, text_every}
use Rattle.table.proofs.Naming.{record_id, record_account, record_order_id, record_marked}
use Rattle.table.specs.Facts.{FreshNumbers, Market}
use Rattle.table.proofs.Books.{length_book, at_book}
use Rattle.table.proofs.Frames.{Formed, framed_self, framed_order_ids, market_formed, quoted_book}
use Rattle.table.proofs.Kept.{listed_small}
use Rattle.report.specs.declared.Place.{Place}
use Rattle.ticket.specs.Legible.{Spelt, text_by, Headed, Recorded}

spelt : (f : ℕ → Bool) (low high : ℕ) (t : List ℕ) (p : ℕ) → p + 1 + high ≤ length t → is_text f low high t p ≡ true → Spelt f low high (text_at t p)
spelt f low high t p room h =
    let e = length_text t p high room (text_high f low high t p h) in
    record { least = omega (arith, text_low f low high t p h); most = omega (arith, text_high f low high t p h); good = text_every f low high t p h }

module _ (t : List ℕ) (m : Formed t) where
  -- the settings
  has_names_lem : has_names t ≡ true
  unfolding has_settings
  has_names_lem = both_l (has_names t) (has_list t) m.settings

  pub formed_venue : Spelt is_graphic 1 8 (venue_of t)
  unfolding has_names
  formed_venue = let h = has_names_lem in spelt is_graphic 1 8 t 0 (omega (arith, m.long)) (search both_l)

  pub formed_port : Spelt is_graphic 1 8 (port_of t)
  unfolding has_names
  formed_port = let h = has_names_lem in spelt is_graphic 1 8 t 9 (omega (arith, m.long)) (search (both_l, both_r))

  pub formed_code : Spelt (is_code_character (instrument_of t)) 1 9 (code_of t)
  unfolding has_names
  formed_code = let h = has_names_lem in spelt (is_code_character (instrument_of t)) 1 9 t 18 (omega (arith, m.long)) (search both_r)

  -- so the heading of a report with a number and a time
  pub formed_headed : (message : List ℕ) (n : ℕ) (time : Place) → 1 ≤ n → n < 1000000000 → is_time (text_by message t time) ≡ true → Headed t message n time
  formed_headed message n time low high s =
      record { long = m.long; number_low = low; number_high = high; stamped = s; venue = formed_venue; port = formed_port }

  -- an MPID that an order may have is at most 999,999
  pub owner_small : (x : ℕ) → (eqb x 0 || is_listed t x) ≡ true → x < 1000000
  owner_small x h =
      split (eqb x 0)
      (λ z. omega (arith, eqb-true x 0 z))
      (λ z. omega (arith, listed_small t x m.settings (or_r (eqb x 0) (is_listed t x) h z)))

  -- a record whose order is in its ranges
  pub formed_recorded : (k : ℕ) → 1 ≤ k → k ≤ filled t → order_id_at t k < 1000000000 → Sound (order_at t k) → Quoted (instrument_of t) (order_at t k)
      → (eqb (order_at t k).mpid 0 || is_listed t (order_at t k).mpid) ≡ true → Recorded t k
  formed_recorded k low high n s q o =
      record {
        low = low;
        high = omega (arith, filled_few t);
        code = formed_code;
        cl_ord_id = spelt is_printable 1 32 t (128 * k) (omega (arith, m.long, filled_few t)) (record_id t k (m.records k low high));
        account = spelt is_printable 0 10 t (128 * k + 33) (omega (arith, m.long, filled_few t)) (record_account t k (m.records k low high));
        orderid_low = record_order_id t k (m.records k low high);
        orderid_high = n;
        marked = record_marked t k (m.records k low high);
        sound = s;
        quoted = q;
        owner = owner_small (order_at t k).mpid o;
      }

-- ---- a table of a market's form, its OrderIDs numbers of reports, each order of its book in its ranges and in those of what is
-- traded, with an MPID that is listed or none

pub record Orderly (t : List ℕ) : Type 0 where
  pub formed : Formed t
  pub order_ids : FreshNumbers (order_id_at t) 1000000000 (filled t)
  pub sound : (k : ℕ) → In (book_of t) k → Sound (at (book_of t) k)
  pub quoted : AllQuoted (instrument_of t) (book_of t)
  pub owned : (k : ℕ) → In (book_of t) k → (eqb (at (book_of t) k).mpid 0 || is_listed t (at (book_of t) k).mpid) ≡ true

pub market_orderly : (t : List ℕ) → Market t → Orderly t
market_orderly t m =
    record {
      formed = market_formed t m;
      order_ids = framed_order_ids t t m.long (framed_self t) (next_of t) 1000000000 m.held.next_high m.order_ids;
      sound = m.held.sound;
      quoted = quoted_book t (instrument_of t) m.quoted;
      owned = m.held.owned;
    }

pub orderly_recorded : (t : List ℕ) → Orderly t → (k : ℕ) → In (book_of t) k → Recorded t k
orderly_recorded t m k i =
    let l : k ≤ filled t = omega (arith, i.high, length_book t) in
    let e : at (book_of t) k ≡ order_at t k = at_book t k i.low l in
    formed_recorded t m.formed k i.low l (m.order_ids.below k i.low l) (rw e at (m.sound k i)) (rw e at (m.quoted k i)) (rw e at (m.owned k i))
