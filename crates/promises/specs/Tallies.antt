-- What a member tells from reports alone (document 01, "The reports", what demand 3 takes from them; document 02, T-08): of the order that
-- 37 names by its OrderID, the quantity accepted, the executions, the decrements, the cancels and what was last reported open; of the
-- whole market, what was bought and sold, and which Trades belong together by 880. All of it is taken from what was read of each report,
-- whoever read it. Assumes nothing.
use Rattle.std.specs.Prelude.{Bool, true, false, cond, not, ◌&&◌, List, [], ◌∷◌, ℕ, ◌+◌, ◌-◌, eqb}
use Rattle.matching.specs.Matching.{buys}
use Rattle.report.specs.declared.Kind.{Kind}
use Rattle.report.specs.declared.Kind.TheVariants.{Accepted, Replaced, Canceled, Trade, Rejected, CancelReject, SessionReject, Refused}
use Rattle.report.specs.declared.Reading.{Reading}
use Rattle.readback.specs.Says.{says}

-- ---- one order

-- the account of an order: the quantity accepted, the sums of its executions, decrements and cancels, and the 151 last reported
pub record Account : Type 0 where
  pub accepted : ℕ
  pub executions : ℕ
  pub decrements : ℕ
  pub cancels : ℕ
  pub left : ℕ

-- of an order that no report names
abbrev pub blank : Account
blank = record { accepted = 0; executions = 0; decrements = 0; cancels = 0; left = 0 }

-- after a report of each kind: Accepted and a requested Replaced give the quantity accepted, 38
abbrev pub after_terms : Reading → Account → Account
after_terms r a =
    record { accepted = says 38 r; executions = a.executions; decrements = a.decrements; cancels = a.cancels; left = says 151 r }

-- a Replaced with 378=100 decrements by the fall in 151
abbrev pub after_decrement : Reading → Account → Account
after_decrement r a =
    record {
      accepted = a.accepted;
      executions = a.executions;
      decrements = a.decrements + (a.left - says 151 r);
      cancels = a.cancels;
      left = says 151 r;
    }

-- a Canceled cancels the 151 last reported before it
abbrev pub after_cancel : Reading → Account → Account
after_cancel r a =
    record { accepted = a.accepted; executions = a.executions; decrements = a.decrements; cancels = a.cancels + a.left; left = says 151 r }

-- a Trade executes its 32
abbrev pub after_trade : Reading → Account → Account
after_trade r a =
    record {
      accepted = a.accepted;
      executions = a.executions + says 32 r;
      decrements = a.decrements;
      cancels = a.cancels;
      left = says 151 r;
    }

-- the other kinds change no account
abbrev pub after_report : Kind → Reading → Account → Account
after_report Accepted r a = after_terms r a
after_report Replaced r a = cond (eqb (says 378 r) 100) (after_decrement r a) (after_terms r a)
after_report Canceled r a = after_cancel r a
after_report Trade r a = after_trade r a
after_report Rejected r a = a
after_report CancelReject r a = a
after_report SessionReject r a = a
after_report Refused r a = a

-- the account of the order with OrderID n after one report more
unfoldable pub noted : ℕ → Account → Reading → Account
noted n a r = cond (eqb (says 37 r) n) (after_report r.kind r a) a

-- and after reports, one by one
unfoldable pub account_from : ℕ → Account → List Reading → Account
account_from n a [] = a
account_from n a (r ∷ rs) = account_from n (noted n a r) rs

-- the account of the order with OrderID n by all reports
abbrev pub account_of : ℕ → List Reading → Account
account_of n rs = account_from n blank rs

-- ---- the whole market

-- the report is a Trade
abbrev pub is_trade : Kind → Bool
is_trade Accepted = false
is_trade Replaced = false
is_trade Canceled = false
is_trade Trade = true
is_trade Rejected = false
is_trade CancelReject = false
is_trade SessionReject = false
is_trade Refused = false

-- side 1 buys, any other sells
abbrev pub sells : ℕ → Bool
sells side = not (buys side)

-- what a report trades for the sides that a test takes
unfoldable pub traded_for : (ℕ → Bool) → Reading → ℕ
traded_for takes r = cond (is_trade r.kind && takes (says 54 r)) (says 32 r) 0

-- in all
unfoldable pub traded : (ℕ → Bool) → List Reading → ℕ
traded takes [] = 0
traded takes (r ∷ rs) = traded_for takes r + traded takes rs

-- bought and sold in all
abbrev pub bought : List Reading → ℕ
bought rs = traded buys rs

abbrev pub sold : List Reading → ℕ
sold rs = traded sells rs

-- ---- the two Trades of one 880

-- a Trade with this 880
unfoldable pub is_trade_of : ℕ → Reading → Bool
is_trade_of n r = is_trade r.kind && eqb (says 880 r) n

-- the number of them
unfoldable pub trades_of : ℕ → List Reading → ℕ
trades_of n [] = 0
trades_of n (r ∷ rs) = cond (is_trade_of n r) 1 0 + trades_of n rs

-- two Trades of one 880 that bear the same MPID (109), and not none
unfoldable pub are_self_trade : Reading → Reading → Bool
are_self_trade r s = is_trade r.kind && is_trade_of (says 880 r) s && (eqb (says 109 r) (says 109 s) && not (eqb (says 109 r) 0))

-- the number of reports that are such a pair with r
unfoldable pub self_trades_with : Reading → List Reading → ℕ
self_trades_with r [] = 0
self_trades_with r (s ∷ ss) = cond (are_self_trade r s) 1 0 + self_trades_with r ss

-- the number of such pairs among reports, each report taken with every one behind it
unfoldable pub self_trades : List Reading → ℕ
self_trades [] = 0
self_trades (r ∷ rs) = self_trades_with r rs + self_trades rs

-- ---- reports as such

-- the bytes were refused, as none of a report
abbrev pub is_refused : Kind → Bool
is_refused Accepted = false
is_refused Replaced = false
is_refused Canceled = false
is_refused Trade = false
is_refused Rejected = false
is_refused CancelReject = false
is_refused SessionReject = false
is_refused Refused = true

-- the number of those
unfoldable pub unread : List Reading → ℕ
unread [] = 0
unread (r ∷ rs) = cond (is_refused r.kind) 1 0 + unread rs
