-- What back offices are promised, of every history of a market (any calls in turn, from an accepted Open with any settings): all its
-- reports, handed one by one to a feed from number 1 on, are copied without a refusal, since a feed has numbers for as many reports as a
-- market can write. All is said of the bytes of the copies as read_copy gives them, and of the reports' as Read gives them.
use mathlib.Core.Path.{◌≡◌, sym, ◌∙◌}
use mathlib.Core.Bool.{true}
use mathlib.Core.List.{List, [], ◌∷◌, map}
use Prim.Native.Nat.{ℕ, ◌+◌, ◌≤◌}
use native.Mathlib.Omega.{arith}
use lib.ListN.{length, length-append}
use Rattle.octets.specs.Octets.{put}
use Rattle.decimal.specs.declared.Instrument.{Instrument}
use Rattle.matching.specs.Matching.{buys}
use Rattle.report.specs.declared.Reading.{Reading}
use Rattle.report.specs.Reports.{read_of}
use Rattle.table.specs.Heading.{next_of}
use Rattle.table.specs.Market.{is_market_of}
use Rattle.table.specs.Opened.{is_opening, opened}
use Rattle.table.proofs.Instruments.{of_market}
use Rattle.table.proofs.Facts.{market_facts}
use Rattle.table.proofs.Theorems.{opening_makes_a_market}
use Rattle.turns.proofs.Running.{ran_next}
use Rattle.intake.proofs.Theorems.{submit_numbers}
use Rattle.load.proofs.Theorems.{load_numbers}
use Rattle.promises.specs.History.{Call, Submit, Run, Load, Depth, Top, Read, table_of, reports_of, table_after, reports_after}
use Rattle.promises.specs.Tallies.{blank, account_of, sells, bought, sold}
use Rattle.promises.proofs.Histories.{call_keeps, history_keeps}
use Rattle.promises.proofs.Theorems.{all_read, balanced}
use Rattle.std.proofs.Common.{Result}
use Rattle.refusals.specs.declared.Refusal.{Refusal}
use Rattle.feed.specs.declared.Answer.{Answer}
use Rattle.feed.specs.Settings.{is_setting}
use Rattle.feed.specs.Copies.{fed, read_copy_of}
use Rattle.backoffice.specs.Feeds.{copies_from, NumberedFrom}
use Rattle.backoffice.proofs.Feeding.{numbered, full_accounts, trades_copied}

-- ---- two results that meet a contract are the same, down to every lent byte
pub copy_is_one : (q : Instrument) (report : List ℕ) (subscription shows : ℕ) (port group : List ℕ) (next : ℕ) (area : List ℕ) (r s : Result Answer Refusal) (u v : List ℕ)
    → let f = fed q report subscription shows port group next (length area) in
    r ≡ f.answer → s ≡ f.answer → u ≡ put area 0 f.bytes → v ≡ put area 0 f.bytes → (r ≡ s) × (u ≡ v)
copy_is_one q report subscription shows port group next area r s u v a b c d = (a ∙ sym b, c ∙ sym d)

pub read_copy_is_one : (q : Instrument) (copy : List ℕ) (r s : Reading) → r ≡ read_copy_of q copy → s ≡ read_copy_of q copy → r ≡ s
read_copy_is_one q copy r s a b = a ∙ sym b

-- ---- a market has at most 999,999,999 reports to write
call_next : (q : Instrument) (t : List ℕ) (c : Call) → is_market_of q t ≡ true → next_of (table_of q t c) ≡ next_of t + length (reports_of q t c)
call_next q t (Submit message room) m = submit_numbers q t message room
call_next q t (Run room budget) m = ran_next q t room budget m
call_next q t (Load buffer room) m = load_numbers q t buffer room m
call_next q t (Depth side k) m = omega arith
call_next q t (Top side) m = omega arith
call_next q t (Read report) m = omega arith

history_next : (q : Instrument) (cs : List Call) (t : List ℕ) → is_market_of q t ≡ true → next_of (table_after q t cs) ≡ next_of t + length (reports_after q t cs)
unfolding table_after reports_after
history_next q [] t m = omega arith
history_next q (c ∷ cs) t m =
    omega (
      arith,
      call_next q t c m,
      history_next q cs (table_of q t c) (call_keeps q t c m),
      length-append (reports_of q t c) (reports_after q (table_of q t c) cs),
    )

few_reports : (q : Instrument) (cs : List Call) (t : List ℕ) → is_market_of q t ≡ true → 1 + length (reports_after q t cs) ≤ 1000000000
few_reports q cs t m =
    let f = market_facts t (of_market q t m) in
    let l = market_facts (table_after q t cs) (of_market q (table_after q t cs) (history_keeps q cs t m)) in
    omega (arith, history_next q cs t m, f.next_low, l.held.next_high)

module _ (q : Instrument) (before venue port code : List ℕ) (first : ℕ) (mpids modes : List ℕ) (taken : is_opening q before venue port code first mpids modes ≡ true)
    (calls : List Call) where
  -- all reports of the history, in turn
  abbrev reports : List (List ℕ)
  reports = reports_after q (opened q before venue port code first mpids modes) calls

  few : 1 + length reports ≤ 1000000000
  few = few_reports q calls (opened q before venue port code first mpids modes) (opening_makes_a_market q before venue port code first mpids modes taken)

  -- a feed with any identifiers that it can show
  module _ (shows : ℕ) (feed_port feed_group : List ℕ) where
    -- its copies are numbered 1, 2, 3 and so on, in 34 and in 17, whatever it subscribes to
    pub numbered_without_gap : (subscription : ℕ) → is_setting q subscription shows feed_port feed_group ≡ true
        → NumberedFrom q 1 (copies_from q subscription shows feed_port feed_group 1 reports)
    numbered_without_gap subscription set =
        numbered q subscription shows feed_port feed_group set reports 1 (omega arith) few (all_read q before venue port code first mpids modes taken calls)

    -- a full feed: the account of every OrderID (37) by the copies is its account by the reports, those of orders that are gone too
    pub same_accounts : is_setting q 2 shows feed_port feed_group ≡ true → (k : ℕ) → account_of k (map (read_copy_of q) (copies_from q 2 shows feed_port feed_group 1 reports)) ≡ account_of k (map (read_of q) reports)
    same_accounts set k = full_accounts q shows feed_port feed_group set k reports blank 1 (omega arith) few (all_read q before venue port code first mpids modes taken calls)

    -- a reconciliation feed: what is bought is sold
    pub bought_is_sold : is_setting q 1 shows feed_port feed_group ≡ true
        → bought (map (read_copy_of q) (copies_from q 1 shows feed_port feed_group 1 reports)) ≡ sold (map (read_copy_of q) (copies_from q 1 shows feed_port feed_group 1 reports))
    bought_is_sold set =
        let read = all_read q before venue port code first mpids modes taken calls in
        trades_copied q shows feed_port feed_group set buys reports 1 (omega arith) few read
        ∙ balanced q before venue port code first mpids modes taken calls
        ∙ sym (trades_copied q shows feed_port feed_group set sells reports 1 (omega arith) few read)
