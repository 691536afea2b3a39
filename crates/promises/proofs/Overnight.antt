-- What a market promises if it is kept overnight (document 02, T-12): whatever holds of every history of calls holds of every history with
-- images, since the second comes to the table and the reports of one of the first; the promises that document 01 asks for are said again.
-- And every market can be kept: what it writes is read back.
use Rattle.std.specs.Prelude.{Ok}
use mathlib.Core.Path.{◌≡◌, refl, sym, ap, ◌∙◌}
use mathlib.Core.Bool.{true, false}
use mathlib.Core.List.{List, [], ◌∷◌, ◌++◌, append-nil, append_assoc, map}
use Prim.Native.Nat.{ℕ, ◌+◌, ◌≤◌, ◌<◌}
use lib.ListN.{length}
use Rattle.octets.specs.Octets.{Bytes}
use Rattle.decimal.specs.declared.Instrument.{Instrument}
use Rattle.decimal.specs.declared.Instrument.TheVariants.{Equities}
use Rattle.matching.specs.Matching.{open_of, is_buy}
use Rattle.matching.specs.Depth.{total_of, orders_of}
use Rattle.table.specs.Places.{table_bytes, most_orders}
use Rattle.table.specs.Heading.{next_of, work_of}
use Rattle.table.specs.Orders.{order_at, filled}
use Rattle.table.specs.Market.{is_market_of}
use Rattle.table.specs.Opened.{is_opening, opened}
use Rattle.table.proofs.Instruments.{of_market}
use Rattle.table.proofs.Facts.{market_facts}
use Rattle.image.specs.Image.{image_bytes, table_in}
use Rattle.image.specs.Answers.{saved_answer, image_after, restored_answer, table_after as table_read}
use Rattle.image.proofs.Answered.{long_table}
use Rattle.image.proofs.Images.{table_back}
use Rattle.image.proofs.Theorems.{Kept, kept, accepted, market_saved, saved_restored}
use Rattle.report.specs.declared.Reading.{Reading}
use Rattle.report.specs.Reports.{read_of}
use Rattle.promises.specs.History.{Call, table_of, reports_of, table_after, reports_after}
use Rattle.promises.specs.Overnight.{Lived, opens, calls, wakes, Called}
use Rattle.promises.specs.Tallies.{blank, account_of, bought, sold, trades_of, self_trades, unread}
use Rattle.promises.specs.Prices.{price_of}
use Rattle.promises.specs.Whole.{open_by, open_in, orders_in, over_depth}
use Rattle.promises.proofs.Theorems as always

-- ---- one call more

table_then : (q : Instrument) (t : List ℕ) (cs : List Call) (c : Call) → table_after q t (cs ++ c ∷ []) ≡ table_of q (table_after q t cs) c
unfolding table_after
table_then q t [] c = refl
table_then q t (d ∷ cs) c = table_then q (table_of q t d) cs c

reports_then : (q : Instrument) (t : List ℕ) (cs : List Call) (c : Call)
    → reports_after q t (cs ++ c ∷ []) ≡ reports_after q t cs ++ reports_of q (table_after q t cs) c
unfolding table_after reports_after
reports_then q t [] c = append-nil (reports_of q t c)
reports_then q t (d ∷ cs) c =
    ap (λ (rs : List (List ℕ)). reports_of q t d ++ rs) (reports_then q (table_of q t d) cs c)
    ∙ sym (append_assoc (reports_of q t d) (reports_after q (table_of q t d) cs) (reports_of q (table_after q (table_of q t d) cs) c))

more_reports : (q : Instrument) (start t : List ℕ) (reports : List (List ℕ)) (cs : List Call) (c : Call) → t ≡ table_after q start cs
    → reports ≡ reports_after q start cs → reports ++ reports_of q t c ≡ reports_after q start (cs ++ c ∷ [])
more_reports q start t reports cs c e f = rw (e, f) (sym (reports_then q start cs c))

-- what holds of a table and reports holds of the same by another name
carried : (P : List ℕ → List (List ℕ) → Type 0) (t u : List ℕ) (rs ss : List (List ℕ)) → t ≡ u → rs ≡ ss → P u ss → P t rs
carried P t u rs ss e f h = rw (e, f) h

-- ---- an image that a market wrote and that is taken gives back its table
woken : (q : Instrument) (t image u : List ℕ) → saved_answer q t image ≡ Ok tt → restored_answer q u (image_after q t image) ≡ Ok tt
    → table_read q u (image_after q t image) ≡ t
woken q t image u s r =
    let k : Kept q t image = kept q t image s in
    (accepted q u (image_after q t image) r).leaves ∙ ap table_in k.leaves ∙ table_back t (long_table t image k.lengths)

module _ (q : Instrument) (before venue port code : List ℕ) (first : ℕ) (mpids modes : List ℕ) where
  abbrev start : List ℕ
  start = opened q before venue port code first mpids modes

  -- every history with images comes to what a history of calls from the same Open comes to
  pub as_calls : (t : List ℕ) (reports : List (List ℕ)) → Lived q before venue port code first mpids modes t reports
      → Called q before venue port code first mpids modes t reports
  unfolding table_after reports_after
  as_calls _ _ (opens o) = record { taken = o; history = []; is_table = refl; are_reports = refl }
  as_calls _ _ (calls t reports c l) =
      let h = as_calls t reports l in
      record {
        taken = h.taken;
        history = h.history ++ c ∷ [];
        is_table = ap (λ (x : List ℕ). table_of q x c) h.is_table ∙ sym (table_then q start h.history c);
        are_reports = more_reports q start t reports h.history c h.is_table h.are_reports;
      }
  as_calls _ _ (wakes t reports image u l s r) =
      let h = as_calls t reports l in
      record { taken = h.taken; history = h.history; is_table = woken q t image u s r ∙ h.is_table; are_reports = h.are_reports }

  module _ (t : List ℕ) (reports : List (List ℕ)) (lived : Lived q before venue port code first mpids modes t reports) where
    -- whatever holds of the table and the reports of every history of calls holds of these
    pub as_promised : (P : List ℕ → List (List ℕ) → Type 0)
        → (is_opening q before venue port code first mpids modes ≡ true → (cs : List Call) → P (table_after q start cs) (reports_after q start cs)) → P t reports
    as_promised P every =
        let h = as_calls t reports lived in
        carried P t _ reports _ h.is_table h.are_reports (every h.taken h.history)

    -- what Read gives of each report
    abbrev readings : List Reading
    readings = map (read_of q) reports

    -- ---- every table is a market
    pub a_market : is_market_of q t ≡ true
    a_market = as_promised (λ (u : List ℕ) (rs : List (List ℕ)). is_market_of q u ≡ true) (always.a_market q before venue port code first mpids modes)

    -- ---- each order: the quantity accepted is what was executed, decremented and canceled, and what is open, which was last reported
    pub adds_up : (n : ℕ) → let a = account_of n readings in a.accepted ≡ a.executions + a.decrements + a.cancels + open_by t n
    adds_up n =
        as_promised (λ (u : List ℕ) (rs : List (List ℕ)). let a = account_of n (map (read_of q) rs) in a.accepted ≡ a.executions + a.decrements + a.cancels + open_by u n)
        (λ o cs. always.adds_up q before venue port code first mpids modes o cs n)

    pub last_reported : (n : ℕ) → (account_of n readings).left ≡ open_by t n
    last_reported n =
        as_promised (λ (u : List ℕ) (rs : List (List ℕ)). (account_of n (map (read_of q) rs)).left ≡ open_by u n)
        (λ o cs. always.last_reported q before venue port code first mpids modes o cs n)

    pub no_others : (n : ℕ) → next_of t ≤ n → account_of n readings ≡ blank
    no_others n =
        as_promised (λ (u : List ℕ) (rs : List (List ℕ)). next_of u ≤ n → account_of n (map (read_of q) rs) ≡ blank)
        (λ o cs. always.no_others q before venue port code first mpids modes o cs n)

    -- ---- all reports: Read takes each, what is bought is sold, Trades come in pairs, and no pair is of one MPID
    pub all_read : unread readings ≡ 0
    all_read =
        as_promised (λ (u : List ℕ) (rs : List (List ℕ)). unread (map (read_of q) rs) ≡ 0) (always.all_read q before venue port code first mpids modes)

    pub balanced : bought readings ≡ sold readings
    balanced =
        as_promised (λ (u : List ℕ) (rs : List (List ℕ)). bought (map (read_of q) rs) ≡ sold (map (read_of q) rs))
        (always.balanced q before venue port code first mpids modes)

    pub in_pairs : (n : ℕ) → 0 < trades_of n readings → trades_of n readings ≡ 2
    in_pairs n =
        as_promised (λ (u : List ℕ) (rs : List (List ℕ)). 0 < trades_of n (map (read_of q) rs) → trades_of n (map (read_of q) rs) ≡ 2)
        (λ o cs. always.in_pairs q before venue port code first mpids modes o cs n)

    pub no_self_trade : self_trades readings ≡ 0
    no_self_trade =
        as_promised (λ (u : List ℕ) (rs : List (List ℕ)). self_trades (map (read_of q) rs) ≡ 0) (always.no_self_trade q before venue port code first mpids modes)

    -- ---- while nothing is in work
    pub depth_adds_up : work_of t ≡ 0 → (n : ℕ) → most_orders ≤ n → over_depth q total_of t 1 n + over_depth q total_of t 2 n ≡ open_in t
    depth_adds_up =
        as_promised (λ (u : List ℕ) (rs : List (List ℕ)). work_of u ≡ 0 → (n : ℕ) → most_orders ≤ n → over_depth q total_of u 1 n + over_depth q total_of u 2 n ≡ open_in u)
        (always.depth_adds_up q before venue port code first mpids modes)

    pub depth_counts_all : work_of t ≡ 0 → (n : ℕ) → most_orders ≤ n → over_depth q orders_of t 1 n + over_depth q orders_of t 2 n ≡ orders_in t
    depth_counts_all =
        as_promised (λ (u : List ℕ) (rs : List (List ℕ)). work_of u ≡ 0 → (n : ℕ) → most_orders ≤ n → over_depth q orders_of u 1 n + over_depth q orders_of u 2 n ≡ orders_in u)
        (always.depth_counts_all q before venue port code first mpids modes)

    pub uncrossed : work_of t ≡ 0 → (i j : ℕ) → 1 ≤ i → i ≤ filled t → 1 ≤ j → j ≤ filled t → is_buy (order_at t i) ≡ true → is_buy (order_at t j) ≡ false
        → 0 < open_of (order_at t i) → 0 < open_of (order_at t j) → (order_at t j).level < (order_at t i).level
    uncrossed =
        as_promised (λ (u : List ℕ) (rs : List (List ℕ)).
        work_of u ≡ 0 → (i j : ℕ) → 1 ≤ i → i ≤ filled u → 1 ≤ j → j ≤ filled u → is_buy (order_at u i) ≡ true → is_buy (order_at u j) ≡ false
        → 0 < open_of (order_at u i) → 0 < open_of (order_at u j) → (order_at u j).level < (order_at u i).level)
        (always.uncrossed q before venue port code first mpids modes)

    -- the same in prices, where equities are traded
    pub buys_below_sells : q ≡ Equities → (i j : ℕ) → 1 ≤ i → i ≤ filled t → 1 ≤ j → j ≤ filled t → work_of t ≡ 0 → is_buy (order_at t i) ≡ true
        → is_buy (order_at t j) ≡ false → 0 < open_of (order_at t i) → 0 < open_of (order_at t j) → price_of (order_at t i) < price_of (order_at t j)
    buys_below_sells =
        as_promised (λ (u : List ℕ) (rs : List (List ℕ)).
        q ≡ Equities → (i j : ℕ) → 1 ≤ i → i ≤ filled u → 1 ≤ j → j ≤ filled u → work_of u ≡ 0 → is_buy (order_at u i) ≡ true
        → is_buy (order_at u j) ≡ false → 0 < open_of (order_at u i) → 0 < open_of (order_at u j) → price_of (order_at u i) < price_of (order_at u j))
        (always.buys_below_sells q before venue port code first mpids modes)

    -- ---- the table, whose bytes are below 256 as lent ones are, is written into any bytes of an image's length
    module _ (lent : Bytes t) (image : List ℕ) (fits : length image ≡ image_bytes) where
      pub is_saved : saved_answer q t image ≡ Ok tt
      is_saved = market_saved q t image (market_facts t (of_market q t a_market)).long fits a_market

      -- and read back from there into any bytes of a table's length
      pub is_restored : (u : List ℕ) → length u ≡ table_bytes
          → (restored_answer q u (image_after q t image) ≡ Ok tt) × (table_read q u (image_after q t image) ≡ t)
      is_restored u e = saved_restored q t image u lent e is_saved
