-- A market as it stands, whatever came before: the accounts of its orders by their own amounts, so that what reports tell from here on can
-- be followed; and the account of an order that is accepted next.
use mathlib.Core.Path.{◌≡◌, refl, sym, ap, ◌∙◌}
use mathlib.Core.Bool.{true}
use mathlib.Core.List.{List, map}
use Prim.Native.Nat.{ℕ, ◌≤◌}
use native.Mathlib.Omega.{arith}
use lib.Dec.{eqb}
use borrow.Author.Tests.{eqb-true, eqb-false}
use Rattle.octets.proofs.Bools.{split}
use Rattle.decimal.specs.declared.Instrument.{Instrument}
use Rattle.matching.specs.Matching.{at, open_of}
use Rattle.matching.specs.Held.{In}
use Rattle.table.specs.Heading.{next_of}
use Rattle.table.specs.Orders.{order_id_at, book_of}
use Rattle.table.specs.Market.{is_market_of}
use Rattle.table.specs.Facts.{Market}
use Rattle.table.proofs.Facts.{market_facts}
use Rattle.table.proofs.Instruments.{of_market}
use Rattle.report.specs.Reports.{read_of}
use Rattle.promises.specs.History.{Call, table_after, reports_after}
use Rattle.promises.specs.Tallies.{Account, blank, account_from, account_of}
use Rattle.promises.specs.Whole.{record_by}
use Rattle.promises.proofs.Tells.{account_in}
use Rattle.promises.proofs.OrderIds.{Nobody, ids_apart, nobody_yet, by_none, by_some, by_in}
use Rattle.promises.proofs.Leads.{Accounts}
use Rattle.promises.proofs.Histories.{history_leads}
use Rattle.promises.proofs.Telling.{step_tells, all_told}

-- ---- the record that has an OrderID
record_nobody : (t : List ℕ) (n : ℕ) → Nobody t n → record_by t n ≡ 0
record_nobody t n g =
    split (eqb (record_by t n) 0)
    (λ z. eqb-true (record_by t n) 0 z)
    (λ z.
    let l : 1 ≤ record_by t n = omega (arith, eqb-false (record_by t n) 0 z) in
    absurd (g (record_by t n) (by_in t n (record_by t n) refl l) (by_some t n (record_by t n) refl l)))

record_there : (t : List ℕ) → Market t → (i : ℕ) → In (book_of t) i → record_by t (order_id_at t i) ≡ i
record_there t m i h =
    let n : ℕ = order_id_at t i in
    split (eqb (record_by t n) 0)
    (λ z. absurd (by_none t n (eqb-true (record_by t n) 0 z) i h refl))
    (λ z.
    let l : 1 ≤ record_by t n = omega (arith, eqb-false (record_by t n) 0 z) in
    ids_apart t m (record_by t n) i (by_in t n (record_by t n) refl l) h (by_some t n (record_by t n) refl l))

-- ---- the accounts of a market
abbrev standing : List ℕ → ℕ → Account
standing t n = account_in (at (book_of t) (record_by t n))

standing_none : (t : List ℕ) (n : ℕ) → Nobody t n → standing t n ≡ blank
unfolding open_of
standing_none t n g = rw (record_nobody t n g)

standing_accounts : (t : List ℕ) → Market t → Accounts t (standing t)
standing_accounts t m =
    record {
      there = λ i h. ap (λ (k : ℕ). account_in (at (book_of t) k)) (record_there t m i h);
      gone = λ n g. rw (standing_none t n g) (record { sum = refl; left = refl });
      unnamed = λ n h. standing_none t n (nobody_yet t m n h);
    }

-- ---- after any calls

-- the account of an order that is still there, taken on from its own amounts before, is by its own amounts now
pub account_here : (q : Instrument) (cs : List Call) (t : List ℕ) (j i : ℕ) → is_market_of q t ≡ true → In (book_of t) j → In (book_of (table_after q t cs)) i
    → order_id_at (table_after q t cs) i ≡ order_id_at t j
    → account_from (order_id_at t j) (account_in (at (book_of t) j)) (map (read_of q) (reports_after q t cs)) ≡ account_in (at (book_of (table_after q t cs)) i)
account_here q cs t j i m l h e =
    let f = market_facts t (of_market q t m) in
    let rs = map (read_of q) (reports_after q t cs) in
    let g = ((history_leads q (all_told q) (step_tells q) cs t m).accounts (standing t) (standing_accounts t f)).there i h in
    ap (λ (a : Account). account_from (order_id_at t j) a rs) (sym ((standing_accounts t f).there j l)) ∙ ap (λ (n : ℕ). account_from n (standing t n) rs) (sym e) ∙ g

-- one that has the next number as its OrderID was accepted since, and its account begins there
pub account_since : (q : Instrument) (cs : List Call) (t : List ℕ) (i : ℕ) → is_market_of q t ≡ true → In (book_of (table_after q t cs)) i
    → order_id_at (table_after q t cs) i ≡ next_of t
    → account_of (next_of t) (map (read_of q) (reports_after q t cs)) ≡ account_in (at (book_of (table_after q t cs)) i)
account_since q cs t i m h e =
    let f = market_facts t (of_market q t m) in
    let rs = map (read_of q) (reports_after q t cs) in
    let g = ((history_leads q (all_told q) (step_tells q) cs t m).accounts (standing t) (standing_accounts t f)).there i h in
    let b : standing t (next_of t) ≡ blank = standing_none t (next_of t) (nobody_yet t f (next_of t) (omega arith)) in
    ap (λ (a : Account). account_from (next_of t) a rs) (sym b) ∙ ap (λ (n : ℕ). account_from n (standing t n) rs) (sym e) ∙ g
