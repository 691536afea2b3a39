-- What a market promises, of bonds or of equities and of every history: any calls in turn, from an accepted Open with any settings,
-- refused calls among them. A statement about the table and the reports after a history holds after each of its calls, since what went
-- before a call is a history too. Everything is said of the definitions that the contracts of the calls cite, and of the bytes of the
-- reports as Read gives them.
use mathlib.Core.Path.{◌≡◌, ap, ◌∙◌}
use mathlib.Core.Bool.{true, false}
use mathlib.Core.List.{List, [], ◌∷◌, map}
use mathlib.Core.Logic.{◌≢◌, ◌⊎◌}
use Prim.Native.Nat.{ℕ, ◌+◌, ◌*◌, ◌≤◌, ◌<◌}
use native.Mathlib.Nat.{le_trans}
use lib.Dec.{leb}
use lib.ListN.{drop}
use Rattle.decimal.specs.declared.Instrument.{Instrument}
use Rattle.decimal.specs.declared.Instrument.TheVariants.{Equities}
use Rattle.decimal.specs.Instruments.{highest}
use Rattle.request.specs.declared.NewOrder.{NewOrder}
use Rattle.request.specs.declared.Replacement.{Replacement}
use Rattle.matching.specs.Matching.{at, open_of, is_buy, meets, better, met_by}
use Rattle.matching.specs.Depth.{stands, total_of, orders_of}
use Rattle.matching.specs.OutOfTheWay.{is_of}
use Rattle.table.specs.Places.{most_orders}
use Rattle.table.specs.Heading.{next_of, work_of, instrument_of, mode_of}
use Rattle.table.specs.Orders.{order_id_at, order_at, filled, book_of}
use Rattle.table.specs.Market.{is_market_of}
use Rattle.table.specs.Opened.{is_opening, opened}
use Rattle.table.proofs.Instruments.{of_market, market_instrument}
use Rattle.table.proofs.Facts.{market_facts}
use Rattle.table.proofs.Same.{filled_few}
use Rattle.report.specs.declared.Reading.{Reading}
use Rattle.report.specs.Reports.{read_of}
use Rattle.std.specs.Prelude.{Err}
use Rattle.refusals.specs.declared.Refusal.TheVariants.{NoMarket}
use Rattle.calls.specs.Submit.{submitted}
use Rattle.calls.specs.Run.{ran, run_steps}
use Rattle.load.specs.Load.{enough, Loaded, loaded, load_number, load_place, refuses}
use Rattle.load.specs.Resumes.{GoesOn}
use Rattle.load.proofs.Theorems.{load_goes_on}
use Rattle.std.specs.Prelude.{Err}
use Rattle.refusals.specs.declared.Refusal.TheVariants as refusal
use Rattle.market.specs.Depth.{depth_answer}
use Rattle.market.specs.Top.{top_answer}
use Rattle.market.proofs.Theorems.{top_tells_depth}
use Rattle.intake.proofs.Theorems.{submit_keeps}
use Rattle.promises.specs.History.{Call, Submit, Run, Load, table_after, reports_after, steps_after, no_submit, singles, no_load}
use Rattle.promises.specs.Tallies.{blank, account_of, bought, sold, trades_of, self_trades, unread}
use Rattle.promises.specs.Prices.{price_of}
use Rattle.promises.specs.Minimums.{CanceledWhole, Reached}
use Rattle.promises.specs.OwnOrders.{SameFills, other_side, StandsClear, TakenAs, RenewedAs, replaced_on, Alike, AllCancel}
use Rattle.promises.specs.Whole.{open_by, open_in, orders_in, over_depth}
use Rattle.promises.proofs.Loading.{singles_table, singles_reports, singles_steps, singles_none, gone_on_table, gone_on_reports}
use Rattle.promises.proofs.Kept.{Told, after_market, after_told, account_adds, account_left, account_none, open_record, open_gone, submit_found, run_found, load_found, depth_found, buys_above}
use Rattle.promises.proofs.Prices.{higher_first, lower_first, meets_price, price_below}
use Rattle.promises.proofs.Depths.{totals_open, orders_open}
use Rattle.promises.proofs.Agreeing.{ran_ends}
use Rattle.promises.proofs.Spending.{steps_most}
use Rattle.promises.proofs.Putting.{submitted_put}
use Rattle.promises.proofs.Minimums.{minimum_put}
use Rattle.promises.proofs.Histories.{history_keeps}
use Rattle.promises.proofs.OwnOrders.{taken_alike}
use Rattle.promises.proofs.Replacing.{renewed_alike}
use Rattle.promises.proofs.Canceling.{canceled_clear, canceled_modes}

module _ (q : Instrument) (before venue port code : List ℕ) (first : ℕ) (mpids modes : List ℕ) (taken : is_opening q before venue port code first mpids modes ≡ true)
    (calls : List Call) where
  -- the table after the history, and all its reports in turn
  abbrev table : List ℕ
  table = table_after q (opened q before venue port code first mpids modes) calls

  abbrev reports : List (List ℕ)
  reports = reports_after q (opened q before venue port code first mpids modes) calls

  -- what Read gives of each
  abbrev readings : List Reading
  readings = map (read_of q) reports

  -- ---- every table is a market, so no call is refused with 2
  pub a_market : is_market_of q table ≡ true
  a_market = after_market q before venue port code first mpids modes taken calls

  pub submit_finds_a_market : (message : List ℕ) (room : ℕ) → (submitted q table message room).answer ≢ Err NoMarket
  submit_finds_a_market = submit_found q table a_market

  pub run_finds_a_market : (room budget : ℕ) → (ran q table room budget).answer ≢ Err NoMarket
  run_finds_a_market = run_found q table a_market

  pub load_finds_a_market : (buffer : List ℕ) (room : ℕ) → (loaded q table buffer room).answer ≢ Err NoMarket
  load_finds_a_market = load_found q table a_market

  pub depth_finds_a_market : (side k : ℕ) → depth_answer q table side k ≢ Err refusal.NoMarket
  depth_finds_a_market = depth_found q table a_market

  -- ---- a load is single calls: with every load taken apart into what it does with each message, Submit and Run, the history has no load
  -- left, and comes to the same table with the same reports in as many steps
  abbrev taken_apart : List Call
  taken_apart = singles q (opened q before venue port code first mpids modes) calls

  pub no_load_left : no_load taken_apart ≡ true
  no_load_left = singles_none q calls (opened q before venue port code first mpids modes)

  pub loads_are_calls : table_after q (opened q before venue port code first mpids modes) taken_apart ≡ table
  loads_are_calls = singles_table q calls (opened q before venue port code first mpids modes)

  pub loads_tell_calls : reports_after q (opened q before venue port code first mpids modes) taken_apart ≡ reports
  loads_tell_calls = singles_reports q calls (opened q before venue port code first mpids modes)

  pub loads_step_as_calls : steps_after q (opened q before venue port code first mpids modes) taken_apart ≡ steps_after q (opened q before venue port code first mpids modes) calls
  loads_step_as_calls = singles_steps q calls (opened q before venue port code first mpids modes)

  -- one that comes next and stops for want of room is gone on with: Run ends what it left in work, and a load of the rest of the buffer
  -- comes to the table and the reports of one load that has room for all
  module _ (buffer : List ℕ) (room further again wide : ℕ) where
    abbrev stopped : Loaded
    stopped = loaded q table buffer room

    abbrev ended : List ℕ
    ended = (ran q stopped.table further enough).table

    abbrev rest : List ℕ
    rest = drop (load_place stopped.answer) buffer

    module _ (begun : refuses stopped.answer ≡ false) (narrow : load_number stopped.answer ≡ 1) (idle : work_of ended ≡ 0)
        (enough_again : load_number (loaded q ended rest again).answer ≢ 1) (enough_at_once : load_number (loaded q table buffer wide).answer ≢ 1) where
      goes_on : GoesOn stopped (ran q stopped.table further enough) (loaded q ended rest again) (loaded q table buffer wide)
      goes_on = load_goes_on q table buffer room further again wide begun narrow idle enough_again enough_at_once

      pub gone_on_with : table_after q table (Load buffer room ∷ Run further enough ∷ Load rest again ∷ []) ≡ table_after q table (Load buffer wide ∷ [])
      gone_on_with = gone_on_table q table buffer room further again wide goes_on

      pub gone_on_told : reports_after q table (Load buffer room ∷ Run further enough ∷ Load rest again ∷ []) ≡ reports_after q table (Load buffer wide ∷ [])
      gone_on_told = gone_on_reports q table buffer room further again wide goes_on

  -- ---- the best level that the heading keeps: Top answers what Depth answers for k = 0, of any side, refusals and "no such level"
  -- included
  pub top_is_depth : (side : ℕ) → top_answer q table side ≡ depth_answer q table side 0
  top_is_depth side = top_tells_depth q table side a_market

  -- ---- each order, by the reports that name its OrderID in 37: any number at all, so those of orders that are gone too

  told : Told table readings
  told = after_told q before venue port code first mpids modes taken calls

  -- the quantity accepted is what was executed, decremented and canceled, and what is open in the table
  pub adds_up : (n : ℕ) → let a = account_of n readings in a.accepted ≡ a.executions + a.decrements + a.cancels + open_by table n
  adds_up = account_adds table readings (of_market q table a_market) told

  -- the 151 last reported is what is open
  pub last_reported : (n : ℕ) → (account_of n readings).left ≡ open_by table n
  last_reported = account_left table readings (of_market q table a_market) told

  -- of a number that is not given yet the reports tell nothing
  pub no_others : (n : ℕ) → next_of table ≤ n → account_of n readings ≡ blank
  no_others = account_none table readings (of_market q table a_market) told

  -- what is open by OrderID is what is open in the record that has it, and nothing if none has
  pub open_in_record : (i : ℕ) → 1 ≤ i → i ≤ filled table → open_by table (order_id_at table i) ≡ open_of (order_at table i)
  open_in_record = open_record table (of_market q table a_market)

  pub nothing_if_gone : (n : ℕ) → ((i : ℕ) → 1 ≤ i → i ≤ filled table → order_id_at table i ≢ n) → open_by table n ≡ 0
  nothing_if_gone = open_gone table

  -- ---- all reports

  -- Read takes each of them
  pub all_read : unread readings ≡ 0
  all_read = told.read

  -- what is bought is sold
  pub balanced : bought readings ≡ sold readings
  balanced = told.balanced

  -- every Trade is one of two: of an 880 that one bears there are two
  pub in_pairs : (n : ℕ) → 0 < trades_of n readings → trades_of n readings ≡ 2
  in_pairs = told.twos

  -- no trade pairs two orders of one MPID: the two Trades of one 880 do not both bear the same 109, unless they bear none
  pub no_self_trade : self_trades readings ≡ 0
  no_self_trade = told.fair

  -- ---- while nothing is in work
  module _ (idle : work_of table ≡ 0) where
    -- the totals of all levels that Depth gives, of both sides, come to all that is open, however many levels are asked for
    pub depth_adds_up : (n : ℕ) → most_orders ≤ n → over_depth q total_of table 1 n + over_depth q total_of table 2 n ≡ open_in table
    depth_adds_up n h = totals_open q table a_market idle n (le_trans (filled_few table) h)

    -- and their orders to all orders that have something open
    pub depth_counts_all : (n : ℕ) → most_orders ≤ n → over_depth q orders_of table 1 n + over_depth q orders_of table 2 n ≡ orders_in table
    depth_counts_all n h = orders_open q table a_market idle n (le_trans (filled_few table) h)

    -- the level of every open buy is above that of every open sell: of bonds, its yield
    pub uncrossed : (i j : ℕ) → 1 ≤ i → i ≤ filled table → 1 ≤ j → j ≤ filled table → is_buy (order_at table i) ≡ true → is_buy (order_at table j) ≡ false
        → 0 < open_of (order_at table i) → 0 < open_of (order_at table j) → (order_at table j).level < (order_at table i).level
    uncrossed = buys_above q table a_market idle

  -- ---- the same in prices, where equities are traded: of a buy the higher price is better, of a sell the lower; a buy meets a sell whose
  -- price is at most its own; and while nothing is in work every open buy price is below every open sell price
  module _ (shares : q ≡ Equities) (i j : ℕ) (first_low : 1 ≤ i) (first_high : i ≤ filled table) (second_low : 1 ≤ j) (second_high : j ≤ filled table) where
    low_level : (k : ℕ) → 1 ≤ k → k ≤ filled table → (order_at table k).level ≤ 1_000_000_000
    low_level k l h =
        let e : highest (instrument_of table) ≡ 1_000_000_000 = ap highest (market_instrument q table a_market ∙ shares) in
        rw e at ((market_facts table (of_market q table a_market)).quoted k l h).level

    pub higher_buys_first : is_buy (order_at table i) ≡ true → price_of (order_at table j) < price_of (order_at table i)
        → better (order_at table i) (order_at table j) ≡ true
    higher_buys_first = higher_first (order_at table i) (order_at table j)

    pub lower_sells_first : is_buy (order_at table i) ≡ false → price_of (order_at table i) < price_of (order_at table j)
        → better (order_at table i) (order_at table j) ≡ true
    lower_sells_first = lower_first (order_at table i) (order_at table j)

    pub meet_by_price : is_buy (order_at table i) ≡ true → meets (order_at table i) (order_at table j) ≡ leb (price_of (order_at table j)) (price_of (order_at table i))
    meet_by_price =
        meets_price (order_at table i) (order_at table j) (low_level i first_low first_high) (low_level j second_low second_high)

    pub buys_below_sells : work_of table ≡ 0 → is_buy (order_at table i) ≡ true → is_buy (order_at table j) ≡ false
        → 0 < open_of (order_at table i) → 0 < open_of (order_at table j) → price_of (order_at table i) < price_of (order_at table j)
    buys_below_sells idle b s x y =
        price_below (order_at table i) (order_at table j) (low_level i first_low first_high) (low_level j second_low second_high)
        (uncrossed idle i j first_low first_high second_low second_high b s x y)

  -- ---- a message that comes next: m is the number of open opposite orders that its order meets then
  module _ (message : List ℕ) (room : ℕ) where
    abbrev after : List ℕ
    after = (submitted q table message room).table

    abbrev met : ℕ
    met = met_by (book_of after) (work_of after)

    -- it is done with a budget of m + 1 steps, and within m + 1 steps, given room for their reports
    pub done_in_time : (area budget : ℕ) → 1024 * (met + 1) ≤ area → met + 1 ≤ budget
        → (work_of (ran q after area budget).table ≡ 0) × (run_steps (ran q after area budget).answer ≤ met + 1)
    done_in_time area budget = ran_ends q after area budget (submit_keeps q table message room a_market)

    -- an order that it has put in work, where nothing was in work before: however its Runs divide the steps, when its work has ended it has
    -- executed its minimum or more, or it was canceled whole by one report and no other order has changed since it was accepted
    pub minimum_kept : work_of table ≡ 0 → 1 ≤ work_of after → (later : List Call) → no_submit later ≡ true → work_of (table_after q after later) ≡ 0
        → CanceledWhole after (table_after q after later) (map (read_of q) (reports_after q after later)) (work_of after) ⊎ Reached after (table_after q after later) (work_of after)
    minimum_kept idle some later = minimum_put q after (submit_keeps q table message room a_market) (submitted_put table message q room idle) some later

    -- and takes no more than m + 1 steps in all, however its Runs divide them and whatever room each has
    pub steps_in_all : (later : List Call) → no_submit later ≡ true → steps_after q after later ≤ met + 1
    steps_in_all later = steps_most q later after (submit_keeps q table message room a_market)

    -- ---- own orders cost no fills (document 02, T-10): the message is taken as a new order of an MPID with mode 2, and its work ends, however
    -- its Runs divide the steps. Had every open order of that MPID on the other side been canceled first, each by a message of its own, so
    -- that none is left there, then the order would have had the same trades in turn, by the 11, 32 and 31 of the resting orders' Trades;
    -- and as much of it would be left open, and have been canceled
    module _ (o : NewOrder) (taken_alone : TakenAs q table message room o) (some : 1 ≤ o.terms.mpid) (oldest : mode_of table o.terms.mpid ≡ 2)
        (later : List Call) (runs : no_submit later ≡ true) (ended : work_of (table_after q table (Submit message room ∷ later)) ≡ 0)
        (cancels : List Call) (each_canceled : AllCancel q o.terms.mpid table cancels) where
      abbrev cleared : List ℕ
      cleared = table_after q table cancels

      module _ (none_left : (i : ℕ) → stands (other_side o.terms.side) (at (book_of cleared) i) ≡ true → is_of o.terms.mpid (at (book_of cleared) i) ≡ false)
          (area : ℕ) (Taken-then : TakenAs q cleared message area o) (others : List Call) (Runs-then : no_submit others ≡ true)
          (ended_then : work_of (table_after q cleared (Submit message area ∷ others)) ≡ 0) where
        pub canceling_first_gains_nothing : SameFills q (reports_after q table (Submit message room ∷ later)) (reports_after q cleared (Submit message area ∷ others))
        canceling_first_gains_nothing =
            taken_alike q message o table cleared room area later others a_market (history_keeps q cancels table a_market)
            (canceled_clear q (other_side o.terms.side) o.terms.mpid cancels table a_market some each_canceled none_left)
            oldest (canceled_modes q o.terms.mpid cancels table a_market some each_canceled o.terms.mpid ∙ oldest)
            taken_alone Taken-then runs Runs-then ended ended_then

-- ---- the same of any two markets of one kind, t and u, that stand so to each other, however they came about: u has no open order of the MPID
-- on the other side, and there the other open orders of t, in the same turn, with the same ClOrdIDs, levels and open quantities
module _ (q : Instrument) (t u : List ℕ) (market : is_market_of q t ≡ true) (other : is_market_of q u ≡ true) (message : List ℕ) (room area : ℕ) (o : NewOrder)
    (clear : StandsClear (other_side o.terms.side) o.terms.mpid t u) (oldest : mode_of t o.terms.mpid ≡ 2) (oldest_too : mode_of u o.terms.mpid ≡ 2)
    (taken_there : TakenAs q t message room o) (taken_too : TakenAs q u message area o) (later others : List Call) (runs : no_submit later ≡ true) (runs_too : no_submit others ≡ true)
    (ended : work_of (table_after q t (Submit message room ∷ later)) ≡ 0) (ended_too : work_of (table_after q u (Submit message area ∷ others)) ≡ 0) where
  pub own_orders_cost_no_fills : SameFills q (reports_after q t (Submit message room ∷ later)) (reports_after q u (Submit message area ∷ others))
  own_orders_cost_no_fills = taken_alike q message o t u room area later others market other clear oldest oldest_too taken_there taken_too runs runs_too ended ended_too

-- and of a replacement that is taken on both, of two orders that it makes the same, by the reports from its Replaced on
module _ (q : Instrument) (t u : List ℕ) (market : is_market_of q t ≡ true) (other : is_market_of q u ≡ true) (message : List ℕ) (room area : ℕ) (o : Replacement)
    (alike : Alike (replaced_on t message o) (replaced_on u message o)) (clear : StandsClear (other_side (replaced_on t message o).side) (replaced_on t message o).mpid t u)
    (oldest : mode_of t (replaced_on t message o).mpid ≡ 2) (oldest_too : mode_of u (replaced_on u message o).mpid ≡ 2)
    (taken_there : RenewedAs q t message room o) (taken_too : RenewedAs q u message area o) (later others : List Call) (runs : no_submit later ≡ true) (runs_too : no_submit others ≡ true)
    (ended : work_of (table_after q t (Submit message room ∷ later)) ≡ 0) (ended_too : work_of (table_after q u (Submit message area ∷ others)) ≡ 0) where
  pub replaced_as_new : SameFills q (reports_after q t (Submit message room ∷ later)) (reports_after q u (Submit message area ∷ others))
  replaced_as_new = renewed_alike q message o t u room area later others market other alike clear oldest oldest_too taken_there taken_too runs runs_too ended ended_too
