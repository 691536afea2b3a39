-- What holds of Submit, on a market of bonds as of equities, for every table, message and room. The other files of this folder are only the way to it.
use mathlib.Core.Path.{◌≡◌}
use mathlib.Core.Bool.{true}
use mathlib.Core.List.{List}
use Prim.Native.Nat.{ℕ, ◌+◌, ◌≤◌}
use native.Mathlib.Omega.{arith}
use lib.ListN.{length}
use Rattle.decimal.specs.declared.Instrument.{Instrument}
use Rattle.request.specs.declared.NewOrder.{NewOrder}
use Rattle.matching.specs.Matching.{is_open, count_of}
use Rattle.table.specs.Heading.{next_of}
use Rattle.table.specs.Orders.{book_of}
use Rattle.table.specs.Market.{is_market_of}
use Rattle.table.proofs.Theorems.{refused_means_open, open_means_refused}
use Rattle.std.specs.Prelude.{Ok, Err}
use Rattle.calls.specs.declared.OrderReason.TheVariants.{NoRecord}
use Rattle.calls.specs.Checks.{new_stands}
use Rattle.calls.specs.Submit.{submitted, submit_number, submit_length}
use Rattle.intake.proofs.Standing.{new_holds, new_refused}
use Rattle.intake.proofs.Keeping.{submitted_kept}
use Rattle.intake.proofs.Counting.{reports_of, submitted_counted, submitted_named}

module _ (q : Instrument) (t message : List ℕ) (room : ℕ) where
  -- a market stays a market, that trades the same
  pub submit_keeps : is_market_of q t ≡ true → is_market_of q (submitted q t message room).table ≡ true
  submit_keeps m = submitted_kept q t message room m

  -- and is never refused as none
  pub submit_knows : is_market_of q t ≡ true → submit_number (submitted q t message room).answer ≡ 2 → ⊥
  submit_knows m = submitted_named q t message room m

  -- one report for the answers 0, 6, 7 and 8, and none for any other
  pub submit_reports : length (submitted q t message room).reports ≡ reports_of (submitted q t message room).answer
  submit_reports = (submitted_counted q t message room).reports_are

  -- the next number goes up by one for each report
  pub submit_numbers : next_of (submitted q t message room).table ≡ next_of t + length (submitted q t message room).reports
  submit_numbers = (submitted_counted q t message room).next_is

  -- no report is longer than 512 bytes
  pub submit_short : submit_length (submitted q t message room).answer ≤ 512
  submit_short = (submitted_counted q t message room).short

-- 103=0 is said of a new order only while 255 orders are open, and while they are none is taken
module _ (t message : List ℕ) (o : NewOrder) where
  pub no_record_when_open : new_stands t message o ≡ Err NoRecord → count_of is_open (book_of t) (length (book_of t)) ≡ 255
  no_record_when_open e = refused_means_open t (new_refused t message o e)

  pub none_taken_when_open : count_of is_open (book_of t) (length (book_of t)) ≡ 255 → new_stands t message o ≡ Ok tt → ⊥
  none_taken_when_open n e = omega (arith, (new_holds t message o e).free, open_means_refused t n)
