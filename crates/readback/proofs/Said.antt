-- What a report that was written says when it is read: for every tag, the number of the row's field.
use Prim.Native.Nat.{ℕ, zero, suc, ◌+◌, ◌-◌, ◌%◌, ◌<◌}
use native.Mathlib.Omega.{arith}
use mathlib.Core.Path.{◌≡◌, refl, sym, ◌∙◌}
use mathlib.Core.Bool.{Bool, true, false, ◌||◌, false≢true}
use mathlib.Core.List.{List, [], ◌∷◌, ◌++◌}
use lib.Dec.{eqb}
use lib.ListN.{length, replicate}
use borrow.Author.Tests.{eqb-true, le-leb}
use Rattle.octets.proofs.Bools.{split, or_r}
use Rattle.decimal.specs.declared.Instrument.{Instrument}
use Rattle.decimal.specs.declared.Instrument.TheVariants.{Bonds, Equities}
use Rattle.decimal.specs.Reading.{is_digit}
use Rattle.matching.specs.declared.Order.{Order}
use Rattle.matching.specs.Matching.{is_side_of, is_immediate}
use Rattle.matching.specs.Held.{Sound}
use Rattle.table.specs.Market.{is_cash}
use Rattle.report.specs.declared.Value.{Value}
use Rattle.report.specs.declared.Value.TheVariants.{Absent, Number, Char, Word, Sent, Stored, Level, Mean}
use Rattle.report.specs.declared.Field.{Field}
use Rattle.report.specs.declared.Kind.{Kind}
use Rattle.report.specs.declared.Reading.{Reading}
use Rattle.report.specs.Fields.{field, label, field_bytes}
use Rattle.report.proofs.Back.{moved, backs}
use Rattle.rows.specs.declared.Stamp.{Stamp}
use Rattle.rows.specs.declared.Shown.{Shown}
use Rattle.rows.specs.declared.Ground.{Ground}
use Rattle.rows.specs.declared.Fill.{Fill}
use Rattle.rows.specs.Rows.{◌is◌, header, figures_of, digit, or_digit, or_number, own_field, last_field, other_field, count_field, padded, accepted_fields, accepted_row, replaced_fields, replaced_row, canceled_fields, canceled_row, trade_fields, trade_row}
use Rattle.readback.specs.AsRead.{as_read}
use Rattle.readback.specs.Says.{number_of, says_in, says, SaysOrder, other_said, SaysFill}
use Rattle.readback.proofs.Takes.{equities_cash, bonds_cash}

-- ---- numbers are read back as they are
moved_number : (sent stored : List ℕ) (place : ℕ) (v : Value) → number_of (moved sent stored place v) ≡ number_of v
moved_number sent stored place Absent = refl
moved_number sent stored place (Number n) = refl
moved_number sent stored place (Char c) = refl
moved_number sent stored place (Word w x y z) = refl
moved_number sent stored place (Sent from len) = refl
moved_number sent stored place (Stored from len) = refl
moved_number sent stored place (Level q level) = refl
moved_number sent stored place (Mean q mean) = refl

module _ (sent stored : List ℕ) where
  pub backs_say : (tag at : ℕ) (fs : List Field) → says_in tag (backs sent stored at fs) ≡ says_in tag fs
  backs_say tag at [] = refl
  backs_say tag at (f ∷ fs) = rw (moved_number sent stored (at + length (label f.tag)) f.value, backs_say tag (at + length (field_bytes sent stored f)) fs)

  nothing_says : (tag n : ℕ) → says_in tag (replicate n (field 0 Absent)) ≡ 0
  nothing_says tag zero = refl
  nothing_says tag (suc n) = split (eqb 0 tag) (λ e. rw e) (λ e. rw e (nothing_says tag n))

  append_says : (tag n : ℕ) (fs : List Field) → says_in tag (fs ++ replicate n (field 0 Absent)) ≡ says_in tag fs
  append_says tag n [] = nothing_says tag n
  append_says tag n (f ∷ fs) = rw (append_says tag n fs)

  -- for every tag, what is read is what was written
  pub row_says : (k : Kind) (fs : List Field) (r : Reading) → r ≡ record { kind = k; fields = as_read sent stored fs } → (tag : ℕ) → says tag r ≡ says_in tag fs
  unfolding says
  row_says k fs r e tag =
      rw e (backs_say tag _ (padded fs) ∙ append_says tag (36 - length fs) fs)

-- ---- single values
pub digit_says : (n : ℕ) → n < 10 → number_of (digit n) ≡ n
unfolding digit is_digit
digit_says n h =
    let z : 48 + n % 10 ≡ 48 + n = omega arith in
    rw z (simp (le-leb 48 (48 + n) (omega arith), le-leb (48 + n) 57 (omega arith)) (omega arith))

pub or_number_says : (n : ℕ) → number_of (or_number n) ≡ n
unfolding or_number
or_number_says n = split (eqb n 0) (λ e. rw e (sym (eqb-true n 0 e))) (λ e. rw e)

tif_small : (o : Order) → Sound o → o.tif < 10
tif_small o h =
    split (eqb o.tif 0)
    (λ e. omega (arith, eqb-true o.tif 0 e))
    (λ e.
    let i = or_r (eqb o.tif 0) (is_immediate o) h.tifs e in
    split (eqb o.tif 3)
    (λ f. omega (arith, eqb-true o.tif 3 f))
    (λ f. omega (arith, eqb-true o.tif 4 (or_r (eqb o.tif 3) (eqb o.tif 4) i f))))

side_small : (n : ℕ) → is_side_of Equities n ≡ true → n < 10
unfolding is_side_of
side_small n e =
    split (eqb n 6) (λ d. omega (arith, eqb-true n 6 d))
    (λ d. split (eqb n 5) (λ c. omega (arith, eqb-true n 5 c))
    (λ c. split (eqb n 2) (λ b. omega (arith, eqb-true n 2 b))
    (λ b. let h : (eqb n 1 || false || false || false) ≡ true = rw (b, c, d) at e in
    omega (arith, eqb-true n 1 (split (eqb n 1) (λ a. a) (λ a. absurd (false≢true (rw a at h))))))))

pub side_says : (o : Order) → Sound o → number_of (digit o.side) ≡ o.side
side_says o h = digit_says o.side (side_small o.side h.sides)

pub tif_says : (o : Order) → Sound o → number_of (digit o.tif) ≡ o.tif
tif_says o h = digit_says o.tif (tif_small o h)

-- ---- fields that only one of the markets has

-- those that are of another tag say nothing
own_skips : (q : Instrument) (o : Shown) (tag : ℕ) (fs : List Field) → eqb 423 tag ≡ false → eqb 544 tag ≡ false → says_in tag (own_field q o ∷ fs) ≡ says_in tag fs
unfolding own_field
own_skips Bonds o tag fs a b = rw a
own_skips Equities o tag fs a b = rw b

last_skips : (q : Instrument) (o : Shown) (tag : ℕ) → eqb 0 tag ≡ false → eqb 8214 tag ≡ false → says_in tag (last_field q o ∷ []) ≡ 0
unfolding last_field
last_skips Bonds o tag a b = rw a
last_skips Equities o tag a b = rw b

other_skips : (q : Instrument) (f : Fill) (tag : ℕ) (fs : List Field) → eqb 0 tag ≡ false → eqb 375 tag ≡ false → says_in tag (other_field q f ∷ fs) ≡ says_in tag fs
unfolding other_field
other_skips Bonds f tag fs a b = rw b
other_skips Equities f tag fs a b = rw a

count_skips : (q : Instrument) (tag : ℕ) (fs : List Field) → eqb 0 tag ≡ false → eqb 382 tag ≡ false → says_in tag (count_field q ∷ fs) ≡ says_in tag fs
unfolding count_field
count_skips Bonds tag fs a b = rw b
count_skips Equities tag fs a b = rw a

-- 544, 8214 and 375
own_says : (q : Instrument) (o : Shown) (fs : List Field) → is_cash q o.cash o.margin ≡ true → says_in 544 fs ≡ 0 → says_in 544 (own_field q o ∷ fs) ≡ o.cash
unfolding own_field
own_says Bonds o fs h e = e ∙ sym (bonds_cash o.cash o.margin h).0
own_says Equities o fs h e = digit_says o.cash (omega (arith, (equities_cash o.cash o.margin h).high))

last_says : (q : Instrument) (o : Shown) → is_cash q o.cash o.margin ≡ true → says_in 8214 (last_field q o ∷ []) ≡ o.margin
unfolding last_field or_digit
last_says Bonds o h = sym (bonds_cash o.cash o.margin h).1
last_says Equities o h =
    split (eqb o.margin 0) (λ e. rw e (sym (eqb-true o.margin 0 e)))
    (λ e. rw e (digit_says o.margin (omega (arith, (equities_cash o.cash o.margin h).most))))

other_says : (q : Instrument) (f : Fill) (fs : List Field) → says_in 375 fs ≡ 0 → says_in 375 (other_field q f ∷ fs) ≡ other_said q f.other
unfolding other_field
other_says Bonds f fs e = refl
other_says Equities f fs e = e

neither : (a b : Bool) → (a || b) ≡ false → (a ≡ false) × (b ≡ false)
neither true b e = absurd (false≢true (sym e))
neither false b e = (refl, e)

-- what the row of an order ends with: the field that each market has of its own, 8060, the last
module _ (q : Instrument) (o : Shown) (x : Value) where
  abbrev pub Ends : List Field
  Ends = own_field q o ∷ 8060 is x ∷ last_field q o ∷ []

  pub ends_none : (tag : ℕ) → (eqb 0 tag || eqb 423 tag || eqb 544 tag || eqb 8060 tag || eqb 8214 tag) ≡ false → says_in tag Ends ≡ 0
  ends_none tag h =
      let e = neither (eqb 0 tag || eqb 423 tag || eqb 544 tag || eqb 8060 tag) (eqb 8214 tag) h in
      let d = neither (eqb 0 tag || eqb 423 tag || eqb 544 tag) (eqb 8060 tag) e.0 in
      let c = neither (eqb 0 tag || eqb 423 tag) (eqb 544 tag) d.0 in
      let b = neither (eqb 0 tag) (eqb 423 tag) c.0 in
      own_skips q o tag (8060 is x ∷ last_field q o ∷ []) b.1 c.1 ∙ rw d.1 (last_skips q o tag b.0 e.1)

  pub ends_544 : is_cash q o.cash o.margin ≡ true → says_in 544 Ends ≡ o.cash
  ends_544 h = own_says q o (8060 is x ∷ last_field q o ∷ []) h (last_skips q o 544 refl refl)

  pub ends_8214 : is_cash q o.cash o.margin ≡ true → says_in 8214 Ends ≡ o.margin
  ends_8214 h = own_skips q o 8214 (8060 is x ∷ last_field q o ∷ []) refl refl ∙ last_says q o h

-- and that of a Trade: 375 and 382 of bonds before these, 851 and 880 among them
module _ (q : Instrument) (o : Shown) (f : Fill) (x : Value) where
  abbrev pub Dealt : List Field
  Dealt = 851 is Number f.liquidity ∷ 880 is Number f.first ∷ 8060 is x ∷ last_field q o ∷ []

  abbrev pub Deal : List Field
  Deal = other_field q f ∷ count_field q ∷ own_field q o ∷ Dealt

  deal_skips : (tag : ℕ) → eqb 0 tag ≡ false → eqb 375 tag ≡ false → eqb 382 tag ≡ false → eqb 423 tag ≡ false → eqb 544 tag ≡ false
      → says_in tag Deal ≡ says_in tag Dealt
  deal_skips tag a b c d e =
      other_skips q f tag (count_field q ∷ own_field q o ∷ Dealt) a b ∙ count_skips q tag (own_field q o ∷ Dealt) a c ∙ own_skips q o tag Dealt d e

  pub deal_378 : says_in 378 Deal ≡ 0
  deal_378 = deal_skips 378 refl refl refl refl refl ∙ last_skips q o 378 refl refl

  pub deal_375 : says_in 375 Deal ≡ other_said q f.other
  deal_375 =
      other_says q f (count_field q ∷ own_field q o ∷ Dealt)
      (count_skips q 375 (own_field q o ∷ Dealt) refl refl ∙ own_skips q o 375 Dealt refl refl ∙ last_skips q o 375 refl refl)

  pub deal_851 : says_in 851 Deal ≡ f.liquidity
  deal_851 = deal_skips 851 refl refl refl refl refl

  pub deal_880 : says_in 880 Deal ≡ f.first
  deal_880 = deal_skips 880 refl refl refl refl refl

  pub deal_544 : is_cash q o.cash o.margin ≡ true → says_in 544 Deal ≡ o.cash
  deal_544 h =
      other_skips q f 544 (count_field q ∷ own_field q o ∷ Dealt) refl refl ∙ count_skips q 544 (own_field q o ∷ Dealt) refl refl
      ∙ own_says q o Dealt h (last_skips q o 544 refl refl)

  pub deal_8214 : is_cash q o.cash o.margin ≡ true → says_in 8214 Deal ≡ o.margin
  deal_8214 h = deal_skips 8214 refl refl refl refl refl ∙ last_says q o h

-- ---- by kind
module _ (r : Reading) (s : Stamp) (o : Shown) (h : Sound o.order) (k : is_cash s.of o.cash o.margin ≡ true) where
  pub accepted_said : ((tag : ℕ) → says tag r ≡ says_in tag (accepted_row s o)) → SaysOrder r s o
  unfolding accepted_fields header figures_of
  accepted_said e =
      record {
        says_34 = e 34;
        says_17 = e 17;
        says_37 = e 37;
        says_38 = e 38;
        says_14 = e 14;
        says_151 = e 151;
        says_54 = e 54 ∙ side_says o.order h;
        says_59 = e 59 ∙ tif_says o.order h;
        says_109 = e 109 ∙ or_number_says o.order.mpid;
        says_110 = e 110 ∙ or_number_says o.order.minqty;
        says_544 = e 544 ∙ ends_544 s.of o (digit o.class) k;
        says_8214 = e 8214 ∙ ends_8214 s.of o (digit o.class) k;
      }

  pub replaced_said : (w : Ground) → ((tag : ℕ) → says tag r ≡ says_in tag (replaced_row s o w)) → SaysOrder r s o
  unfolding replaced_fields header figures_of
  replaced_said w e =
      record {
        says_34 = e 34;
        says_17 = e 17;
        says_37 = e 37;
        says_38 = e 38;
        says_14 = e 14;
        says_151 = e 151;
        says_54 = e 54 ∙ side_says o.order h;
        says_59 = e 59 ∙ tif_says o.order h;
        says_109 = e 109 ∙ or_number_says o.order.mpid;
        says_110 = e 110 ∙ or_number_says o.order.minqty;
        says_544 = e 544 ∙ ends_544 s.of o (digit o.class) k;
        says_8214 = e 8214 ∙ ends_8214 s.of o (digit o.class) k;
      }

  pub canceled_said : (w : Ground) → ((tag : ℕ) → says tag r ≡ says_in tag (canceled_row s o w)) → SaysOrder r s o
  unfolding canceled_fields header figures_of
  canceled_said w e =
      record {
        says_34 = e 34;
        says_17 = e 17;
        says_37 = e 37;
        says_38 = e 38;
        says_14 = e 14;
        says_151 = e 151;
        says_54 = e 54 ∙ side_says o.order h;
        says_59 = e 59 ∙ tif_says o.order h;
        says_109 = e 109 ∙ or_number_says o.order.mpid;
        says_110 = e 110 ∙ or_number_says o.order.minqty;
        says_544 = e 544 ∙ ends_544 s.of o (digit o.class) k;
        says_8214 = e 8214 ∙ ends_8214 s.of o (digit o.class) k;
      }

  pub trade_said : (f : Fill) → ((tag : ℕ) → says tag r ≡ says_in tag (trade_row s o f)) → SaysOrder r s o
  unfolding trade_fields header figures_of
  trade_said f e =
      record {
        says_34 = e 34;
        says_17 = e 17;
        says_37 = e 37;
        says_38 = e 38;
        says_14 = e 14;
        says_151 = e 151;
        says_54 = e 54 ∙ side_says o.order h;
        says_59 = e 59 ∙ tif_says o.order h;
        says_109 = e 109 ∙ or_number_says o.order.mpid;
        says_110 = e 110 ∙ or_number_says o.order.minqty;
        says_544 = e 544 ∙ deal_544 s.of o f (digit o.class) k;
        says_8214 = e 8214 ∙ deal_8214 s.of o f (digit o.class) k;
      }

  pub fill_said : (f : Fill) → ((tag : ℕ) → says tag r ≡ says_in tag (trade_row s o f)) → SaysFill s.of r f
  unfolding trade_fields header figures_of
  fill_said f e =
      let x = digit o.class in
      record {
        says_32 = e 32;
        says_375 = e 375 ∙ deal_375 s.of o f x;
        says_851 = e 851 ∙ deal_851 s.of o f x;
        says_880 = e 880 ∙ deal_880 s.of o f x;
      }
