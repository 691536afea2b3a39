-- Reports lead from one table to another: the accounts of the table before, taken on by them, are those of the table after; they buy what
-- they sell, their Trades are in pairs by 880, and each can be read. Reports one after the other do if their parts do.
use mathlib.Core.Path.{◌≡◌, refl, sym, ap, subst, ◌∙◌}
use mathlib.Core.Bool.{Bool, true, false}
use mathlib.Core.List.{List, [], ◌∷◌, ◌++◌}
use Prim.Native.Nat.{ℕ, ◌+◌, ◌≤◌}
use native.Mathlib.Omega.{arith}
use lib.Dec.{eqb}
use lib.ListN.{length}
use Rattle.octets.proofs.Bools.{split, not_both}
use Rattle.matching.specs.declared.Order.{Order}
use Rattle.matching.specs.Matching.{Book, at, open_of, buys}
use Rattle.matching.specs.Held.{Covered, In}
use Rattle.table.specs.Heading.{next_of}
use Rattle.table.specs.Orders.{order_id_at, book_of}
use Rattle.table.specs.Facts.{Market}
use Rattle.report.specs.declared.Kind.{Kind}
use Rattle.report.specs.declared.Kind.TheVariants.{Accepted, Replaced, Canceled, Trade, Rejected, CancelReject, SessionReject, Refused}
use Rattle.report.specs.declared.Reading.{Reading}
use Rattle.readback.specs.Says.{says}
use Rattle.promises.specs.Tallies.{Account, blank, after_report, noted, account_from, is_trade, sells, traded_for, traded, bought, sold, trades_of, is_refused, unread}
use Rattle.promises.proofs.Tells.{account_in}
use Rattle.promises.proofs.OrderIds.{Nobody, nobody_yet}
use Rattle.promises.proofs.Pairs.{Paired, no_trade_of, paired_none, paired_then}

-- ---- the accounts of a table, one for each number that 37 may name

-- nothing is open: all that was accepted was executed, decremented or canceled
pub record Settled (a : Account) : Type 0 where
  pub sum : a.accepted ≡ a.executions + a.decrements + a.cancels
  pub left : a.left ≡ 0

pub shut_settled : (o : Order) → Covered o → open_of o ≡ 0 → Settled (account_in o)
unfolding open_of
shut_settled o c z = record { sum = omega arith; left = z }

-- that of each order's OrderID is by the order's amounts, that of a number which no order has is settled, and of one that is not
-- given yet nothing was told
pub record Accounts (t : List ℕ) (acc : ℕ → Account) : Type 0 where
  pub there : (i : ℕ) → In (book_of t) i → acc (order_id_at t i) ≡ account_in (at (book_of t) i)
  pub gone : (n : ℕ) → Nobody t n → Settled (acc n)
  pub unnamed : (n : ℕ) → next_of t ≤ n → acc n ≡ blank

accounts_same : (t : List ℕ) (f g : ℕ → Account) → ((n : ℕ) → g n ≡ f n) → Accounts t f → Accounts t g
accounts_same t f g s a =
    record {
      there = λ i h. s (order_id_at t i) ∙ a.there i h;
      gone = λ n h. subst (λ (x : Account). Settled x) (sym (s n)) (a.gone n h);
      unnamed = λ n h. s n ∙ a.unnamed n h;
    }

-- the accounts after reports
abbrev pub accounts_after : (ℕ → Account) → List Reading → ℕ → Account
accounts_after acc rs n = account_from n (acc n) rs

pub record Leads (t u : List ℕ) (rs : List Reading) : Type 0 where
  pub accounts : (acc : ℕ → Account) → Accounts t acc → Accounts u (accounts_after acc rs)
  pub balanced : bought rs ≡ sold rs
  pub pairs : Paired (next_of t) (next_of u) rs
  pub read : unread rs ≡ 0

-- ---- the same orders before and after reports that follow each of them and name nobody else
pub record Kept (t u : List ℕ) (rs : List Reading) : Type 0 where
  pub size : length (book_of u) ≡ length (book_of t)
  pub ids : (i : ℕ) → order_id_at u i ≡ order_id_at t i
  pub next : next_of t ≤ next_of u
  pub follows : (i : ℕ) → In (book_of t) i → account_from (order_id_at t i) (account_in (at (book_of t) i)) rs ≡ account_in (at (book_of u) i)
  pub others : (n : ℕ) → Nobody t n → (a : Account) → account_from n a rs ≡ a

pub kept_accounts : (t u : List ℕ) (rs : List Reading) → Market t → Kept t u rs → (acc : ℕ → Account) → Accounts t acc → Accounts u (accounts_after acc rs)
kept_accounts t u rs m k acc a =
    record {
      there = λ i h.
          let l : In (book_of t) i = record { low = h.low; high = omega (arith, h.high, k.size) } in
          ap (λ (n : ℕ). account_from n (acc n) rs) (k.ids i)
          ∙ ap (λ (x : Account). account_from (order_id_at t i) x rs) (a.there i l)
          ∙ k.follows i l;
      gone = λ n h.
          let g : Nobody t n = λ i l e. h i (record { low = l.low; high = omega (arith, l.high, k.size) }) (k.ids i ∙ e) in
          subst (λ (x : Account). Settled x) (sym (k.others n g (acc n))) (a.gone n g);
      unnamed = λ n h.
          let l : next_of t ≤ n = omega (arith, k.next) in
          k.others n (nobody_yet t m n l) (acc n) ∙ a.unnamed n l;
    }

-- ---- one after the other
account_append : (k : ℕ) (a : Account) (rs qs : List Reading) → account_from k a (rs ++ qs) ≡ account_from k (account_from k a rs) qs
unfolding account_from
account_append k a [] qs = refl
account_append k a (r ∷ rs) qs = account_append k (noted k a r) rs qs

traded_append : (takes : ℕ → Bool) (rs qs : List Reading) → traded takes (rs ++ qs) ≡ traded takes rs + traded takes qs
unfolding traded
traded_append takes [] qs = omega arith
traded_append takes (r ∷ rs) qs = omega (arith, traded_append takes rs qs)

unread_append : (rs qs : List Reading) → unread (rs ++ qs) ≡ unread rs + unread qs
unfolding unread
unread_append [] qs = omega arith
unread_append (r ∷ rs) qs = omega (arith, unread_append rs qs)

both_sums : {a b c d : ℕ} → a ≡ b → c ≡ d → a + c ≡ b + d
both_sums e f = omega arith

pub leads_then : (t u v : List ℕ) (rs qs : List Reading) → Leads t u rs → Leads u v qs → Leads t v (rs ++ qs)
leads_then t u v rs qs x y =
    record {
      accounts = λ acc a.
          accounts_same v (accounts_after (accounts_after acc rs) qs) (accounts_after acc (rs ++ qs)) (λ n. account_append n (acc n) rs qs)
          (y.accounts (accounts_after acc rs) (x.accounts acc a));
      balanced = traded_append buys rs qs ∙ both_sums x.balanced y.balanced ∙ sym (traded_append sells rs qs);
      pairs = paired_then (next_of t) (next_of u) (next_of v) rs qs x.pairs y.pairs;
      read = omega (arith, unread_append rs qs, x.read, y.read);
    }

-- ---- no report, and the table as it was
pub leads_still : (t : List ℕ) → Leads t t []
unfolding account_from traded trades_of unread
leads_still t =
    record {
      accounts = λ acc a. accounts_same t acc (accounts_after acc []) (λ n. refl) a;
      balanced = refl;
      pairs = paired_none (next_of t) (next_of t) [] (omega arith) (λ n. refl);
      read = refl;
    }

-- ---- a report about no order's amounts
abbrev pub is_silent : Kind → Bool
is_silent Accepted = false
is_silent Replaced = false
is_silent Canceled = false
is_silent Trade = false
is_silent Rejected = true
is_silent CancelReject = true
is_silent SessionReject = true
is_silent Refused = false

no_change : (k : Kind) (r : Reading) (a : Account) → is_silent k ≡ true → after_report k r a ≡ a
no_change Accepted r a h = absurd (not_both h refl)
no_change Replaced r a h = absurd (not_both h refl)
no_change Canceled r a h = absurd (not_both h refl)
no_change Trade r a h = absurd (not_both h refl)
no_change Rejected r a h = refl
no_change CancelReject r a h = refl
no_change SessionReject r a h = refl
no_change Refused r a h = absurd (not_both h refl)

no_trade : (k : Kind) → is_silent k ≡ true → is_trade k ≡ false
no_trade Accepted h = refl
no_trade Replaced h = refl
no_trade Canceled h = refl
no_trade Trade h = absurd (not_both h refl)
no_trade Rejected h = refl
no_trade CancelReject h = refl
no_trade SessionReject h = refl
no_trade Refused h = refl

silent_read : (k : Kind) → is_silent k ≡ true → is_refused k ≡ false
silent_read Accepted h = refl
silent_read Replaced h = refl
silent_read Canceled h = refl
silent_read Trade h = refl
silent_read Rejected h = refl
silent_read CancelReject h = refl
silent_read SessionReject h = refl
silent_read Refused h = absurd (not_both h refl)

module _ (r : Reading) (h : is_silent r.kind ≡ true) where
  silent_noted : (k : ℕ) (a : Account) → noted k a r ≡ a
  unfolding noted
  silent_noted k a = split (eqb (says 37 r) k) (λ e. rw e (no_change r.kind r a h)) (λ e. rw e)

  silent_traded : (takes : ℕ → Bool) → traded_for takes r ≡ 0
  unfolding traded_for
  silent_traded takes = rw (no_trade r.kind h)

pub leads_silent : (t u : List ℕ) (r : Reading) → Market t → book_of u ≡ book_of t → ((i : ℕ) → order_id_at u i ≡ order_id_at t i) → next_of t ≤ next_of u
    → is_silent r.kind ≡ true → Leads t u (r ∷ [])
unfolding account_from traded trades_of unread
leads_silent t u r m e s l h =
    record {
      accounts =
          kept_accounts t u (r ∷ []) m
          (record {
            size = ap length e;
            ids = s;
            next = l;
            follows = λ i k. silent_noted r h (order_id_at t i) _ ∙ ap (λ (b : Book). account_in (at b i)) (sym e);
            others = λ n g a. silent_noted r h n a;
          });
      balanced = ap (λ (n : ℕ). n + 0) (silent_traded r h buys ∙ sym (silent_traded r h sells));
      pairs = paired_none (next_of t) (next_of u) (r ∷ []) l (λ n. rw (no_trade_of n r (no_trade r.kind h)));
      read = rw (silent_read r.kind h);
    }
