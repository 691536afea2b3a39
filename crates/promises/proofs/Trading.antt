-- The reports of a step: two Trades with the number of the first as their 880, which are not of one MPID, or no Trade.
use mathlib.Core.Path.{◌≡◌, refl, sym, ap, ◌∙◌}
use mathlib.Core.Bool.{false}
use mathlib.Core.List.{List, [], ◌∷◌, map}
use Prim.Native.Nat.{ℕ, ◌+◌, ◌≤◌, ◌<◌}
use native.Mathlib.Omega.{arith}
use lib.Dec.{lit≤}
use lib.ListN.{length}
use borrow.Author.Tests.{eq-eqb, ne_eqb}
use Rattle.matching.specs.declared.Event.{Event}
use Rattle.matching.specs.declared.Event.TheVariants.{Traded}
use Rattle.matching.specs.Matching.{Book, at}
use Rattle.matching.specs.Held.{In, Ready, Readies}
use Rattle.matching.specs.Accounts.{SelfTradeFree, quiet, apart}
use Rattle.matching.proofs.Steps.{Pair, trade, newest, oldest, equal, less, more, Stepped, rests, kills, expires, matched}
use Rattle.matching.proofs.Fair.{step_fair, fair_owners}
use Rattle.table.specs.Places.{table_bytes}
use Rattle.table.specs.Heading.{work_of}
use Rattle.table.specs.Orders.{book_of, applied}
use Rattle.table.proofs.Same.{same_in, work_same}
use Rattle.table.proofs.Frames.{framed_long}
use Rattle.table.proofs.Applied.{framed_applied, heading_applied, book_applied}
use Rattle.report.specs.declared.Reading.{Reading}
use Rattle.calls.specs.Run.{event_report, event_reports}
use Rattle.readback.specs.Says.{says}
use Rattle.readback.specs.Told.{kind_told}
use Rattle.promises.specs.Tallies.{is_trade, trades_of}
use Rattle.promises.proofs.Pairs.{Paired, no_trade_of, paired_none, paired_two}
use Rattle.promises.proofs.Playing.{TellsAll, owner_then, owner_still, in_then}

-- ---- events that no Trade tells
abbrev Untraded : List Event → Type 0
Untraded [] = Unit {0}
Untraded (e ∷ es) = (is_trade (kind_told e) ≡ false) × Untraded es

untraded_none : (read : List ℕ → Reading) (es : List Event) (t : List ℕ) (n : ℕ) → Untraded es → TellsAll read t n es → (k : ℕ) → trades_of k (map read (event_reports t n es)) ≡ 0
unfolding event_reports trades_of
untraded_none read [] t n u h k = refl
untraded_none read (e ∷ es) t n u h k =
    let z = no_trade_of k (read (event_report (applied t e) n e)) (ap is_trade h.0.event.kind ∙ u.0) in
    rw z (omega (arith, untraded_none read es (applied t e) (n + 1) u.1 h.1 k))

untraded_paired : (read : List ℕ → Reading) (es : List Event) (t : List ℕ) (n high : ℕ) → Untraded es → TellsAll read t n es → n ≤ high → Paired n high (map read (event_reports t n es))
untraded_paired read es t n high u h l = paired_none n high (map read (event_reports t n es)) l (untraded_none read es t n u h)

-- ---- the two Trades of r, which rests, and w, in work
module _ (read : List ℕ → Reading) (t : List ℕ) (n r w q l : ℕ) (long : length t ≡ table_bytes) (work : work_of t ≡ w) (i : In (book_of t) w) (p : Pair (book_of t) w r)
    (o : (at (book_of t) r).mpid ≡ (at (book_of t) w).mpid → (at (book_of t) r).mpid ≡ 0) (ready : Readies (book_of t) (Traded r w q l ∷ Traded w r q l ∷ []))
    (tells : TellsAll read t n (Traded r w q l ∷ Traded w r q l ∷ [])) where
  abbrev first : Event
  first = Traded r w q l

  abbrev second : Event
  second = Traded w r q l

  -- the tables after each
  abbrev mid : List ℕ
  mid = applied t first

  abbrev end : List ℕ
  end = applied mid second

  long_mid : length mid ≡ table_bytes
  long_mid = framed_long t mid long (framed_applied t first long refl ready.0)

  ready_mid : Ready (book_of mid) second
  ready_mid = rw (book_applied t first long refl ready.0) ready.1.0

  work_mid : work_of mid ≡ w
  work_mid = work_same (same_in 32 33 (heading_applied t first p.inside.low) (lit≤ tt) (lit≤ tt)) ∙ work

  work_end : work_of end ≡ w
  work_end = work_same (same_in 32 33 (heading_applied mid second i.low) (lit≤ tt) (lit≤ tt)) ∙ work_mid

  -- their 880
  first_pair : says 880 (read (event_report mid n first)) ≡ n
  first_pair = tells.0.pair ∙ rw (work_mid, ne_eqb r w p.apart)

  second_pair : says 880 (read (event_report end (n + 1) second)) ≡ n
  second_pair = tells.1.0.pair ∙ rw (work_end, eq-eqb w w refl) (omega arith)

  -- their MPIDs
  first_owner : says 109 (read (event_report mid n first)) ≡ (at (book_of t) r).mpid
  first_owner = tells.0.event.mpid ∙ owner_then t first long refl ready.0 r p.inside

  second_owner : says 109 (read (event_report end (n + 1) second)) ≡ (at (book_of t) w).mpid
  second_owner =
      tells.1.0.event.mpid
      ∙ owner_then mid second long_mid refl ready_mid w (in_then t first long refl ready.0 w i)
      ∙ owner_still t first long refl ready.0 w

  trade_paired : (high : ℕ) → n < high → Paired n high (map read (event_reports t n (first ∷ second ∷ [])))
  unfolding event_reports
  trade_paired high h =
      paired_two (read (event_report mid n first)) (read (event_report end (n + 1) second)) n (ap is_trade tells.0.event.kind) (ap is_trade tells.1.0.event.kind)
      first_pair second_pair (λ e. first_owner ∙ o (sym first_owner ∙ e ∙ second_owner)) high h

-- who trades something is of another owner, or of none
owners : (b : Book) (r w q l : ℕ) {es : List Event} → 0 < q → SelfTradeFree b (Traded r w q l ∷ es) → (at b r).mpid ≡ (at b w).mpid → (at b r).mpid ≡ 0
owners b r w q l p (quiet z x) = absurd (omega arith)
owners b r w q l p (apart h x) = h

-- ---- a step
pub step_paired : (read : List ℕ → Reading) (t : List ℕ) (n v high : ℕ) {es : List Event} → length t ≡ table_bytes → In (book_of t) (work_of t) → Stepped (book_of t) (work_of t) es v
    → Readies (book_of t) es → TellsAll read t n es → n + length es ≤ high → Paired n high (map read (event_reports t n es))
step_paired read t n v high long i (rests z x) r h l = untraded_paired read _ t n high tt h (omega arith)
step_paired read t n v high long i (kills x) r h l = untraded_paired read _ t n high (refl, tt) h (omega arith)
step_paired read t n v high long i (expires z x) r h l = untraded_paired read _ t n high (refl, tt) h (omega arith)
step_paired read t n v high long i (matched p (trade o)) r h l =
    let f = fair_owners (book_of t) (step_fair (book_of t) (work_of t) _ (matched p (trade o))) in
    trade_paired read t n _ (work_of t) _ _ long refl i p (owners (book_of t) _ (work_of t) _ _ (omega (arith, p.w_open, p.r_open)) f) r h high (omega arith)
step_paired read t n v high long i (matched p newest) r h l = untraded_paired read _ t n high (refl, tt) h (omega arith)
step_paired read t n v high long i (matched p oldest) r h l = untraded_paired read _ t n high (refl, tt) h (omega arith)
step_paired read t n v high long i (matched p (equal x)) r h l = untraded_paired read _ t n high (refl, (refl, tt)) h (omega arith)
step_paired read t n v high long i (matched p (less x)) r h l = untraded_paired read _ t n high (refl, (refl, tt)) h (omega arith)
step_paired read t n v high long i (matched p (more x)) r h l = untraded_paired read _ t n high (refl, (refl, tt)) h (omega arith)
