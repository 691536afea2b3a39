-- The time of a report (52 and 60) is the causing message's 52 as it came in: the one that stands in the message, or the one that the
-- heading keeps while the order is in work. So milliseconds are not dropped, nor added.
use Prim.Native.Nat.{ℕ}
use native.Mathlib.Omega.{arith}
use mathlib.Core.Bool.{true}
use mathlib.Core.Path.{◌≡◌, refl, ap, sym, ◌∙◌}
use mathlib.Core.List.{List, []}
use lib.ListN.{length}
use Rattle.octets.specs.Octets.{part_at, text_at}
use Rattle.decimal.specs.Reading.{is_time}
use Rattle.decimal.proofs.Times.{time_short}
use Rattle.table.specs.Places.{table_bytes}
use Rattle.table.specs.Heading.{put_work}
use Rattle.table.proofs.Stores.{stamp_got}
use Rattle.report.specs.Fields.{value_bytes}
use Rattle.rows.specs.Rows.{text}
use Rattle.ticket.specs.Tickets.{stamp_on, kept_cause}

-- of a message at hand: the part where its 52 stands
pub sent_whole : (t message : List ℕ) (n start len : ℕ)
    → value_bytes message t (stamp_on t n (record { sent = true; start = start; length = len })).time ≡ part_at message start len
unfolding text stamp_on
sent_whole t message n start len = refl

-- of an order put in work with the time stamp, and table u then: that time
module _ (t u : List ℕ) (w n : ℕ) (stamp : List ℕ) (long : length t ≡ table_bytes) (time : is_time stamp ≡ true) (put : u ≡ put_work t w stamp) where
  pub kept_whole : value_bytes [] u (stamp_on u n (kept_cause u).time).time ≡ stamp
  unfolding text text_at stamp_on
  kept_whole = rw put (stamp_got t w stamp (omega arith) (time_short stamp time))

  -- with milliseconds it is not a time to the second
  pub not_dropped : length stamp ≡ 21 → length (value_bytes [] u (stamp_on u n (kept_cause u).time).time) ≡ 17 → ⊥
  not_dropped l d = omega (arith, sym d ∙ ap length kept_whole ∙ l)
