-- One report handed to a feed: what a copy says of every tag that is kept is what the report says, and what is told from it is told the same.
use mathlib.Core.Path.{◌≡◌, refl, sym, ap, ◌∙◌}
use mathlib.Core.Bool.{Bool, true, false, cond, ◌&&◌, ◌||◌, false≢true}
use mathlib.Core.List.{List, [], ◌∷◌}
use Prim.Native.Nat.{ℕ, ◌≤◌}
use native.Mathlib.Omega.{arith}
use lib.Dec.{eqb, ltb}
use lib.ListN.{length}
use borrow.Author.Tests.{ne_eqb, le-ltb}
use Rattle.octets.proofs.Bools.{split}
use Rattle.decimal.specs.declared.Instrument.{Instrument}
use Rattle.report.specs.declared.Field.{Field}
use Rattle.report.specs.declared.Kind.{Kind}
use Rattle.report.specs.declared.Kind.TheVariants.{Accepted, Replaced, Canceled, Trade, Rejected, CancelReject, SessionReject, Refused}
use Rattle.report.specs.declared.Reading.{Reading}
use Rattle.report.specs.Fields.{row_bytes}
use Rattle.report.specs.Reports.{read_of}
use Rattle.report.proofs.Back.{start}
use Rattle.readback.specs.Says.{number_of, says_in, says}
use Rattle.readback.proofs.Said.{backs_say}
use Rattle.promises.specs.Tallies.{Account, after_report, noted, is_trade, traded_for, is_refused}
use Rattle.feed.specs.Rows.{is_fill_or_kill, copy_row}
use Rattle.feed.specs.Settings.{client_of, is_setting, copied_by}
use Rattle.feed.specs.Copies.{not_copied, unfed, fed_with, is_none, copy_bytes, fed, read_copy_of}
use Rattle.feed.specs.Kept.{at_tag, is_kept}
use Rattle.feed.proofs.Clients.{setting_short, setting_text}
use Rattle.feed.proofs.Copied.{Given}
use Rattle.feed.proofs.Theorems.{is_read, row_kept, row_34, row_17}

-- ---- what is told from a reading
pub none_refused : (k : Kind) → is_none k ≡ is_refused k
none_refused Accepted = refl
none_refused Replaced = refl
none_refused Canceled = refl
none_refused Trade = refl
none_refused Rejected = refl
none_refused CancelReject = refl
none_refused SessionReject = refl
none_refused Refused = refl

-- what any feed copies a full one does
pub copied_by_full : (subscription : ℕ) (k : Kind) → copied_by subscription k ≡ true → copied_by 2 k ≡ true
copied_by_full subscription Accepted e = refl
copied_by_full subscription Replaced e = refl
copied_by_full subscription Canceled e = refl
copied_by_full subscription Trade e = refl
copied_by_full subscription Rejected e = e
copied_by_full subscription CancelReject e = e
copied_by_full subscription SessionReject e = e
copied_by_full subscription Refused e = e

-- two readings that say the same
pub record Same (x y : Reading) : Type 0 where
  pub kind : x.kind ≡ y.kind
  pub order : says 37 x ≡ says 37 y
  pub quantity : says 38 x ≡ says 38 y
  pub left : says 151 x ≡ says 151 y
  pub executed : says 32 x ≡ says 32 y
  pub reason : says 378 x ≡ says 378 y
  pub side : says 54 x ≡ says 54 y

module _ (x y : Reading) (s : Same x y) where
  after_same : (k : Kind) (a : Account) → after_report k x a ≡ after_report k y a
  after_same Accepted a = rw (s.quantity, s.left)
  after_same Replaced a = rw (s.quantity, s.left, s.reason)
  after_same Canceled a = rw s.left
  after_same Trade a = rw (s.left, s.executed)
  after_same Rejected a = refl
  after_same CancelReject a = refl
  after_same SessionReject a = refl
  after_same Refused a = refl

  pub noted_same : (k : ℕ) (a : Account) → noted k a x ≡ noted k a y
  unfolding noted
  noted_same k a =
      ap (λ (n : ℕ). cond (eqb n k) (after_report x.kind x a) a) s.order
      ∙ ap (λ (b : Account). cond (eqb (says 37 y) k) b a) (after_same x.kind a ∙ ap (λ (j : Kind). after_report j y a) s.kind)

  pub traded_same : (takes : ℕ → Bool) → traded_for takes x ≡ traded_for takes y
  unfolding traded_for
  traded_same takes =
      ap (λ (j : Kind). cond (is_trade j && takes (says 54 x)) (says 32 x) 0) s.kind
      ∙ ap (λ (n : ℕ). cond (is_trade y.kind && takes n) (says 32 x) 0) s.side
      ∙ ap (λ (n : ℕ). cond (is_trade y.kind && takes (says 54 y)) n 0) s.executed

-- a report that a full feed does not copy changes no account, and one that a reconciliation feed does not copy trades nothing
after_other : (k : Kind) (r : Reading) (a : Account) → copied_by 2 k ≡ false → after_report k r a ≡ a
after_other Accepted r a e = absurd (false≢true (sym e))
after_other Replaced r a e = absurd (false≢true (sym e))
after_other Canceled r a e = absurd (false≢true (sym e))
after_other Trade r a e = absurd (false≢true (sym e))
after_other Rejected r a e = refl
after_other CancelReject r a e = refl
after_other SessionReject r a e = refl
after_other Refused r a e = refl

pub noted_other : (k : ℕ) (a : Account) (r : Reading) → copied_by 2 r.kind ≡ false → noted k a r ≡ a
unfolding noted
noted_other k a r e = split (eqb (says 37 r) k) (λ t. rw t (after_other r.kind r a e)) (λ t. rw t)

trades_none : (k : Kind) → copied_by 1 k ≡ false → is_trade k ≡ false
trades_none Accepted e = refl
trades_none Replaced e = refl
trades_none Canceled e = refl
trades_none Trade e = absurd (false≢true (sym e))
trades_none Rejected e = refl
trades_none CancelReject e = refl
trades_none SessionReject e = refl
trades_none Refused e = refl

pub traded_other : (takes : ℕ → Bool) (r : Reading) → copied_by 1 r.kind ≡ false → traded_for takes r ≡ 0
unfolding traded_for
traded_other takes r e = rw (trades_none r.kind e)

-- ---- the copy of a report
says_at : (tag : ℕ) (fs : List Field) → says_in tag fs ≡ at_tag number_of 0 tag fs
says_at tag [] = refl
says_at tag (f ∷ fs) = ap (cond (eqb f.tag tag) (number_of f.value)) (says_at tag fs)

module _ (q : Instrument) (report : List ℕ) (some : is_none (read_of q report).kind ≡ false) (client : List ℕ) (n : ℕ) (given : Given q report client n) (c : copied_by 2 (read_of q report).kind ≡ true) where
  abbrev copy : List ℕ
  copy = copy_bytes report n client (read_of q report).fields

  abbrev copied : List Field
  copied = copy_row n (length client) (read_of q report).fields

  -- what the copy says is what its row says
  read_says : (tag : ℕ) → says tag (read_copy_of q copy) ≡ at_tag number_of 0 tag copied
  unfolding says
  read_says tag =
      ap (λ (r : Reading). says_in tag r.fields) (is_read q report some client n given c)
      ∙ backs_say report client tag (start (row_bytes report client copied)) copied
      ∙ says_at tag copied

  kept_says_lem : (tag : ℕ) → is_kept (is_fill_or_kill (read_of q report).fields) tag ≡ true → says tag (read_copy_of q copy) ≡ says tag (read_of q report)
  unfolding says
  kept_says_lem tag k = read_says tag ∙ row_kept q report some client n given number_of 0 tag k ∙ sym (says_at tag (read_of q report).fields)

  pub copy_same : Same (read_copy_of q copy) (read_of q report)
  unfolding is_kept
  copy_same =
      record {
        kind = ap (λ (r : Reading). r.kind) (is_read q report some client n given c);
        order = kept_says_lem 37 refl;
        quantity = kept_says_lem 38 refl;
        left = kept_says_lem 151 refl;
        executed = kept_says_lem 32 refl;
        reason = kept_says_lem 378 refl;
        side = kept_says_lem 54 refl;
      }

  pub copy_34 : says 34 (read_copy_of q copy) ≡ n
  copy_34 = read_says 34 ∙ row_34 q report some client n given c number_of 0

  pub copy_17 : says 17 (read_copy_of q copy) ≡ n
  copy_17 = read_says 17 ∙ row_17 q report some client n given c number_of 0

-- ---- what a feed does with a report that Read takes
module _ (q : Instrument) (subscription shows : ℕ) (port group : List ℕ) (set : is_setting q subscription shows port group ≡ true) (report : List ℕ) (some : is_none (read_of q report).kind ≡ false)
    (n : ℕ) (low : 1 ≤ n) (high : n ≤ 999999999) where
  pub given_so : Given q report (client_of shows port group) n
  given_so = record { low = low; high = high; text = setting_text q subscription shows port group set; short = setting_short q subscription shows port group set }

  left : (eqb n 0 || ltb 999999999 n) ≡ false
  left = let z : eqb n 0 ≡ false = ne_eqb n 0 (λ e. omega (arith, e)) in rw (z, le-ltb 999999999 n high)

  pub fed_copied : copied_by subscription (read_of q report).kind ≡ true
      → fed q report subscription shows port group n 1024 ≡ fed_with n (copy_bytes report n (client_of shows port group) (read_of q report).fields)
  unfolding fed
  fed_copied c = rw (some, set, left, c)

  pub fed_not : copied_by subscription (read_of q report).kind ≡ false → fed q report subscription shows port group n 1024 ≡ unfed (not_copied n)
  unfolding fed
  fed_not c = rw (some, set, left, c)
