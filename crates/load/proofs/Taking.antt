-- One message, submitted and run to its end: what it leaves, and how the two calls make it.
use mathlib.Core.Path.{◌≡◌, refl, sym, ap, ◌∙◌}
use mathlib.Core.Bool.{true, false}
use mathlib.Core.List.{List, [], ◌++◌}
use Prim.Native.Nat.{ℕ, ◌+◌, ◌-◌, ◌^◌, ◌≤◌, ◌<◌}
use native.Mathlib.Omega.{arith}
use lib.Dec.{eqb, ltb}
use lib.ListN.{length, length-append, take, drop, length-drop}
use lib.Seq.{length-take-le}
use mir.Syntax.{w64}
use mir.Val.{Fits}
use borrow.Author.Tests.{eq-eqb, ne_eqb}
use Rattle.octets.specs.Written.{Wrote}
use Rattle.octets.proofs.Bools.{split, not_both}
use Rattle.octets.proofs.Runs.{then, wrote_rest, wrote_length}
use Rattle.decimal.specs.declared.Instrument.{Instrument}
use Rattle.request.specs.declared.Asked.{Asked}
use Rattle.request.specs.declared.Asked.TheVariants.{Garbled, Refused, Enters, Replaces, Cancels}
use Rattle.table.specs.Heading.{next_of, work_of}
use Rattle.table.specs.Market.{is_market_of}
use Rattle.table.specs.Facts.{Market}
use Rattle.table.proofs.Instruments.{of_market}
use Rattle.table.proofs.Facts.{market_facts}
use Rattle.std.specs.Prelude.{Result, Ok, Err}
use Rattle.refusals.specs.declared.Refusal.{Refusal}
use Rattle.refusals.specs.declared.Refusal.TheVariants.{NumbersSpent}
use Rattle.calls.specs.declared.OrderReason.{OrderReason}
use Rattle.calls.specs.declared.ChangeReason.{ChangeReason}
use Rattle.calls.specs.declared.ReplyKind.{ReplyKind}
use Rattle.calls.specs.declared.ReplyKind.TheVariants.{SessionReject, OrderReject, ChangeReject, Taken}
use Rattle.calls.specs.declared.Reply.{Reply}
use Rattle.calls.specs.declared.Progress.{Progress}
use Rattle.calls.specs.Told.{joined, room_asked}
use Rattle.calls.specs.Checks.{new_stands, cancel_stands, replace_stands}
use Rattle.calls.specs.Submit.{Submitted, unchanged, reported, rejecting, faulted, new_rejected, change_rejected, new_taken, replacement_taken, cancel_taken, entering, replacing, canceling, handled, submitted, reply_number, submit_number, submit_length}
use Rattle.calls.specs.Run.{still, worked, ran}
use Rattle.intake.specs.Intake.{Ready, Asking, Left}
use Rattle.intake.proofs.Keeping.{Comes, no_room, no_market, in_work, spent, heard, comes}
use Rattle.intake.proofs.Theorems.{submit_keeps, submit_numbers, submit_short}
use Rattle.turns.specs.Turns.{Walked}
use Rattle.turns.proofs.Joins.{joined_append}
use Rattle.turns.proofs.Taking.{stops_still}
use Rattle.turns.proofs.Theorems.{run_keeps, run_numbers, reports_fit}
use Rattle.load.specs.Load.{enough, taken}
use Rattle.load.specs.Turn.{Took}

module _ (kind : Instrument) where
  -- ---- Submit

  -- what it says of the length is the length of its report, and requests are not refused because the numbers are spent
  pub record Told (s : Submitted) : Type 0 where
    pub bytes : submit_length s.answer ≡ length (joined s.reports)
    pub other : eqb (submit_number s.answer) 4 ≡ false

  no_four : (kind : ReplyKind) → eqb (reply_number kind) 4 ≡ false
  no_four SessionReject = refl
  no_four OrderReject = refl
  no_four ChangeReject = refl
  no_four Taken = refl

  one_told : (t report : List ℕ) (kind : ReplyKind) → Told (reported t report kind)
  unfolding joined
  one_told t report kind = record { bytes = omega (arith, length-append report []); other = no_four kind }

  module _ (t message : List ℕ) where
    new_told : (s : Result (Unit {0}) OrderReason) → (o : _) → Told (entering t message o s)
    unfolding new_taken new_rejected rejecting
    new_told (Ok stands) o = one_told _ _ Taken
    new_told (Err r) o = one_told _ _ OrderReject

    replace_told : (s : Result (Unit {0}) ChangeReason) → (o : _) → Told (replacing t message o s)
    unfolding replacement_taken change_rejected rejecting
    replace_told (Ok stands) o = one_told _ _ Taken
    replace_told (Err r) o = one_told _ _ ChangeReject

    cancel_told : (s : Result (Unit {0}) ChangeReason) → (o : _) → Told (canceling t message o s)
    unfolding cancel_taken change_rejected rejecting
    cancel_told (Ok stands) o = one_told _ _ Taken
    cancel_told (Err r) o = one_told _ _ ChangeReject

    handled_told : (x : Asked) → Asking t message x → Told (handled t message x)
    unfolding faulted rejecting joined
    handled_told Garbled a = record { bytes = refl; other = refl }
    handled_told (Refused r) a = one_told _ _ SessionReject
    handled_told (Enters o) a = new_told (new_stands t message o) o
    handled_told (Replaces o) a = replace_told (replace_stands t message o) o
    handled_told (Cancels o) a = cancel_told (cancel_stands t message o) o

    module _ (room : ℕ) where
      pub submit_bytes : submit_length (submitted kind t message room).answer ≡ length (joined (submitted kind t message room).reports)
      unfolding joined
      submit_bytes = by (comes kind t message room)
        where
          by : Comes kind t message room → submit_length (submitted kind t message room).answer ≡ length (joined (submitted kind t message room).reports)
          by (no_room a e) = rw e
          by (no_market a n e) = rw e
          by (in_work a n w e) = rw e
          by (spent a n w h e) = rw e
          by (heard a n q e) = rw e (handled_told _ q).bytes

      -- a market that can take a message is not told that its numbers are spent
      pub submit_takes : next_of t ≤ 999998976 → eqb (submit_number (submitted kind t message room).answer) 4 ≡ false
      submit_takes y = by (comes kind t message room)
        where
          by : Comes kind t message room → eqb (submit_number (submitted kind t message room).answer) 4 ≡ false
          by (no_room a e) = rw e
          by (no_market a n e) = rw e
          by (in_work a n w e) = rw e
          by (spent a n w h e) = absurd (omega arith)
          by (heard a n q e) = rw e (handled_told _ q).other

      -- and one whose numbers are, is told so
      pub submit_spent : is_market_of kind t ≡ true → work_of t ≡ 0 → 1024 ≤ room → 999998976 < next_of t → submitted kind t message room ≡ unchanged t NumbersSpent
      submit_spent m w r h = by (comes kind t message room)
        where
          by : Comes kind t message room → submitted kind t message room ≡ unchanged t NumbersSpent
          by (no_room a e) = absurd (omega arith)
          by (no_market a n e) = absurd (not_both m n)
          by (in_work a n l e) = absurd (omega arith)
          by (spent a n l g e) = e
          by (heard a n q e) = absurd (omega (arith, q.numbers))

  -- ---- Run, on a market, is its steps, whatever the room

  module _ (t : List ℕ) (room n : ℕ) (m : is_market_of kind t ≡ true) where
    narrow_still : ltb room room_asked ≡ true → worked n t room ≡ still t
    narrow_still e = stops_still t room n (split (eqb (work_of t) 0) (λ z. rw z) (λ z. rw (z, e)))

    pub ran_table : (ran kind t room n).table ≡ (worked n t room).table
    unfolding ran
    ran_table = split (ltb room room_asked) (λ e. rw (e, narrow_still e)) (λ e. rw (e, m))

    pub ran_reports : (ran kind t room n).reports ≡ (worked n t room).reports
    unfolding ran
    ran_reports = split (ltb room room_asked) (λ e. rw (e, narrow_still e)) (λ e. rw (e, m))

  -- ---- both

  module _ (t message : List ℕ) (room : ℕ) where
    -- what Submit leaves, and the room behind its report
    abbrev pub after : List ℕ
    after = (submitted kind t message room).table

    abbrev pub left : ℕ
    left = room - length (joined (submitted kind t message room).reports)

    pub taken_number : (taken kind t message room).number ≡ submit_number (submitted kind t message room).answer
    unfolding taken
    taken_number = split (eqb (work_of after) 0) (λ e. rw e) (λ e. rw e)

    -- nothing is in work after Submit
    module _ (e : work_of after ≡ 0) where
      pub idle_table : (taken kind t message room).table ≡ after
      unfolding taken
      idle_table = rw (eq-eqb (work_of after) 0 e)

      pub idle_reports : (taken kind t message room).reports ≡ (submitted kind t message room).reports
      unfolding taken
      idle_reports = rw (eq-eqb (work_of after) 0 e)

    -- something is
    module _ (e : work_of after ≡ 0 → ⊥) where
      pub busy_table : (taken kind t message room).table ≡ (ran kind after left enough).table
      unfolding taken
      busy_table = rw (ne_eqb (work_of after) 0 e)

      pub busy_reports : (taken kind t message room).reports ≡ (submitted kind t message room).reports ++ (ran kind after left enough).reports
      unfolding taken
      busy_reports = rw (ne_eqb (work_of after) 0 e)

    pub submit_fits : 1024 ≤ room → length (joined (submitted kind t message room).reports) ≤ 512
    submit_fits r = omega (arith, submit_short kind t message room, submit_bytes t message room)

    pub taken_kept : is_market_of kind t ≡ true → is_market_of kind (taken kind t message room).table ≡ true
    unfolding taken
    taken_kept m =
        let s = submit_keeps kind t message room m in
        split (eqb (work_of after) 0) (λ e. rw e s) (λ e. rw e (run_keeps kind after left enough s))

    pub taken_next : is_market_of kind t ≡ true → next_of (taken kind t message room).table ≡ next_of t + length (taken kind t message room).reports
    unfolding taken
    taken_next m =
        let s = submit_keeps kind t message room m in
        let n = submit_numbers kind t message room in
        let rs = (submitted kind t message room).reports in
        let qs = (ran kind after left enough).reports in
        split (eqb (work_of after) 0)
        (λ e. rw e n)
        (λ e. rw e (omega (arith, n, run_numbers kind after left enough s, length-append rs qs)))

    pub taken_fits : 1024 ≤ room → length (joined (taken kind t message room).reports) ≤ room
    unfolding taken
    taken_fits r =
        let rs = (submitted kind t message room).reports in
        let qs = (ran kind after left enough).reports in
        split (eqb (work_of after) 0)
        (λ e. rw e (omega (arith, submit_fits r)))
        (λ e. rw (e, joined_append rs qs) (omega (arith, submit_fits r, reports_fit kind after left enough, length-append (joined rs) (joined qs))))

  -- ---- the code: Submit's report is written, and nothing is in work
  module _ (t message area : List ℕ) (y : Ready kind t) (room : 1024 ≤ length area) (a : Result Reply Refusal) (u area₁ : List ℕ)
      (l : Left (submitted kind t message (length area)) area a u area₁) (len : ℕ) (b : len ≡ submit_length a) where
    first_wrote : Wrote area 0 (joined (submitted kind t message (length area)).reports) len area₁
    first_wrote =
        record { place = b ∙ ap submit_length l.answers ∙ submit_bytes t message (length area) ∙ omega arith; bytes_in = l.area_is }

    pub first_few : len ≤ 512
    first_few = omega (arith, first_wrote.place, submit_fits t message (length area) room)

    first_long : length area₁ ≡ length area
    first_long = wrote_length first_wrote

    pub first_within : len ≤ length area₁
    first_within = omega (arith, first_few, first_long)

    first_kept : is_market_of kind u ≡ true
    first_kept = rw l.table_is (submit_keeps kind t message (length area) y.market)

    pub first_market : Market u
    first_market = market_facts u (of_market kind u first_kept)

    module _ (w : ℕ) (q : w ≡ work_of u) where
      pub took_idle : w ≡ 0 → Took kind t message area len u area₁
      took_idle z =
          let e : work_of (after t message (length area)) ≡ 0 = rw (← l.table_is) (sym q ∙ z) in
          record {
            table = l.table_is ∙ sym (idle_table t message (length area) e);
            bytes_in = rw (idle_reports t message (length area) e) first_wrote;
          }

      module _ (z : w ≡ 0 → ⊥) (r : Progress) (v part : List ℕ) (k : Walked u (take (length area₁ - len) (drop len area₁)) 256 r v part) where
        abbrev more : ℕ
        more = r.bytes

        rest_long : length (take (length area₁ - len) (drop len area₁)) ≡ left t message (length area)
        rest_long =
            length-take-le (length area₁ - len) (drop len area₁) (rw (length-drop len area₁) (omega arith))
            ∙ omega (arith, first_long, first_wrote.place)

        busy : work_of (after t message (length area)) ≡ 0 → ⊥
        busy e = z (q ∙ ap work_of l.table_is ∙ e)

        market : is_market_of kind u ≡ true
        market = first_kept

        reports_are : (ran kind (after t message (length area)) (left t message (length area)) enough).reports
            ≡ (worked 256 u (length (take (length area₁ - len) (drop len area₁)))).reports
        reports_are = rw (rest_long, ← l.table_is) (ran_reports u (left t message (length area)) 256 market)

        rest_wrote : Wrote (take (length area₁ - len) (drop len area₁)) 0 (joined (ran kind (after t message (length area)) (left t message (length area)) enough).reports) more part
        rest_wrote = rw reports_are (record { place = ap (λ (p : Progress). p.bytes) k.answer ∙ omega arith; bytes_in = k.bytes_in })

        both_wrote : Wrote area 0 (joined (taken kind t message (length area)).reports) (len + more) (take len area₁ ++ (part ++ drop (length area₁ - len) (drop len area₁)))
        both_wrote =
            rw (busy_reports t message (length area) busy, joined_append (submitted kind t message (length area)).reports (ran kind (after t message (length area)) (left t message (length area)) enough).reports)
            (then first_wrote (wrote_rest area₁ len first_within rest_wrote))

        pub took_busy : Took kind t message area (len + more) v (take len area₁ ++ (part ++ drop (length area₁ - len) (drop len area₁)))
        took_busy =
            record {
              table =
                  k.table
                  ∙ rw (rest_long, ← l.table_is) (sym (ran_table u (left t message (length area)) 256 market))
                  ∙ sym (busy_table t message (length area) busy);
              bytes_in = both_wrote;
            }

        pub both_fit : length area < 2 ^ 64 → Fits w64 (len + more)
        both_fit s = record { fits = omega (arith, both_wrote.place, taken_fits t message (length area) room) }
