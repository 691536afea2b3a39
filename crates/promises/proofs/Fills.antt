-- The trades that reports tell are those of the events that they are of, each resting order by its ClOrdID; and no step changes one.
use mathlib.Core.Path.{subst, ◌≡◌, refl, sym, ap, ◌∙◌}
use mathlib.Core.Bool.{Bool, false, cond, ◌&&◌, ◌||◌}
use mathlib.Core.List.{List, [], ◌∷◌, ◌++◌, map, append-nil, map-append}
use mathlib.Core.Logic.{◌≢◌, ◌⊎◌, inl, inr, ⊎_elim}
use Prim.Native.Nat.{ℕ, ◌+◌, ◌*◌, ◌≤◌, ◌<◌}
use native.Mathlib.Omega.{arith}
use lib.Dec.{eqb, lit≤}
use lib.ListN.{length, get_or, replicate}
use Rattle.octets.specs.Octets.{put, text_at, bytes_of, text_bytes}
use Rattle.octets.proofs.Bools.{split}
use Rattle.octets.proofs.Places.{below_or, length_bytes_of}
use Rattle.octets.proofs.Parts.{length_text_bytes}
use Rattle.decimal.specs.declared.Instrument.{Instrument}
use Rattle.decimal.specs.Writing.{level_text}
use Rattle.matching.specs.declared.Event.{Event}
use Rattle.matching.specs.declared.Event.TheVariants.{Accepted, Replaced, Withdrawn, Canceled, Decremented, Traded, Killed, Expired}
use Rattle.matching.specs.Matching.{Book, who, change, after, decided_after, partner, happens, work_after, Ran, run}
use Rattle.matching.specs.Held.{In}
use Rattle.matching.specs.Happens.{Fits}
use Rattle.matching.specs.OutOfTheWay.{Lot, fill, fills}
use Rattle.matching.proofs.Events.{length_after, length_play}
use Rattle.matching.proofs.Steps.{run_fits}
use Rattle.matching.proofs.OutOfTheWay as events
use Rattle.matching.proofs.Theorems as matching
use Rattle.matching.proofs.Ends.{idle}
use Rattle.table.specs.Heading.{work_of, next_of, instrument_of, put_work, put_decided, mode_of}
use Rattle.table.specs.Orders.{cl_ord_id_at, order_at, amount_bytes, book_of, applied}
use Rattle.table.specs.Facts.{Market}
use Rattle.table.specs.Best.{book_row, put_best, clear_best}
use Rattle.table.specs.Changes.{played, misses_now, step_events, step_work, numbered, stepped}
use Rattle.table.proofs.Same.{Same, same_then, put_below, put_above, id_same, work_same}
use Rattle.table.proofs.Stores.{length_amounts}
use Rattle.table.proofs.Bests.{length_book_row}
use Rattle.table.proofs.Frames.{market_formed, id_short}
use Rattle.table.proofs.Books.{length_book}
use Rattle.table.proofs.Kept.{stepped_kept}
use Rattle.report.specs.declared.Value.{Value}
use Rattle.report.specs.declared.Value.TheVariants.{Absent}
use Rattle.report.specs.declared.Field.{Field}
use Rattle.report.specs.declared.Kind.{Kind}
use Rattle.report.specs.declared.Kind.TheVariants.{Trade}
use Rattle.report.specs.declared.Reading.{Reading}
use Rattle.report.specs.Fields.{field, value_bytes}
use Rattle.report.specs.Reports.{read_of}
use Rattle.rows.specs.Rows.{padded, header, figures_of, trade_fields}
use Rattle.ticket.specs.Tickets.{kept_cause, stamp_on, shown_on, row_of, ticket_of}
use Rattle.ticket.specs.Legible.{Legible}
use Rattle.ticket.proofs.Running.{Legibles, step_legibles}
use Rattle.readback.specs.AsRead.{as_read}
use Rattle.readback.specs.Says.{says}
use Rattle.readback.specs.Told.{kind_told}
use Rattle.readback.proofs.Events.{event_says, event_is_read}
use Rattle.readback.proofs.Theorems.{bytes_are_read}
use Rattle.calls.specs.Run.{event_report, event_reports, step_reports}
use Rattle.turns.proofs.Stepping.{events_fit, step_book, step_work_lem}
use Rattle.turns.proofs.Agreeing.{run_one}
use Rattle.promises.specs.Tallies.{is_trade}
use Rattle.promises.specs.OwnOrders.{value_in, text_in, is_resting, Fill, fills_in}
use Rattle.promises.proofs.Agreeing.{applied_instrument}
use Rattle.promises.proofs.Minimums.{Stepping, none_stepping, one_stepping, stepping_then}

-- ---- the bytes that hold a ClOrdID

-- those of record i
abbrev pub SameId : List ℕ → List ℕ → ℕ → Type 0
SameId t u i = Same t u (128 * i) (128 * i + 33)

module _ (t : List ℕ) (i : ℕ) where
  -- a write in the heading leaves them
  pub heading_id : (p : ℕ) (vs : List ℕ) → 1 ≤ i → p + length vs ≤ 128 → SameId (put t p vs) t i
  heading_id p vs l h = put_above t p vs (128 * i) (128 * i + 33) (omega arith)

  -- one behind the ClOrdID of any record too
  pub behind_id : (k a : ℕ) (vs : List ℕ) → 33 ≤ a → a + length vs ≤ 128 → SameId (put t (128 * k + a) vs) t i
  behind_id k a vs low high =
      ⊎_elim (λ (x : i < k + 1). put_below t (128 * k + a) vs (128 * i) (128 * i + 33) (omega arith))
      (λ (x : k + 1 ≤ i). put_above t (128 * k + a) vs (128 * i) (128 * i + 33) (omega arith)) (below_or i (k + 1))

  -- and one that begins another record
  pub other_id : (k : ℕ) (vs : List ℕ) → i ≢ k → length vs ≤ 128 → SameId (put t (128 * k) vs) t i
  other_id k vs n h =
      ⊎_elim (λ (x : i < k). put_below t (128 * k) vs (128 * i) (128 * i + 33) (omega arith))
      (λ (x : k ≤ i). put_above t (128 * k) vs (128 * i) (128 * i + 33) (omega (arith, apart x))) (below_or i k)
    where
      apart : k ≤ i → k < i
      apart x = ⊎_elim (λ (y : k < i). y) (λ (y : i ≤ k). absurd (n (omega arith))) (below_or k i)

pub same_id_self : (t : List ℕ) (i : ℕ) → SameId t t i
same_id_self t i = record { size = refl; byte = λ k a b. refl }

pub applied_id : (t : List ℕ) (e : Event) (i : ℕ) → SameId (applied t e) t i
unfolding applied
applied_id t e i = behind_id t i (who e) 64 (amount_bytes (change e (order_at t (who e)))) (lit≤ tt) (omega (arith, length_amounts (change e (order_at t (who e)))))

played_id : (es : List Event) (t : List ℕ) (i : ℕ) → SameId (played t es) t i
unfolding played
played_id [] t i = same_id_self t i
played_id (e ∷ es) t i = same_then (played_id es (applied t e) i) (applied_id t e i)

module _ (t : List ℕ) (i : ℕ) (l : 1 ≤ i) where
  pub numbered_id : (n : ℕ) → SameId (numbered t n) t i
  unfolding numbered
  numbered_id n = heading_id t i 28 (bytes_of 4 (next_of t + n)) l (omega (arith, length_bytes_of 4 (next_of t + n)))

  pub working_id : (w : ℕ) (stamp : List ℕ) → length stamp ≤ 21 → SameId (put_work t w stamp) t i
  working_id w stamp short = heading_id t i 32 (w ∷ text_bytes 21 stamp) l (omega (arith, length_text_bytes 21 stamp short))

  pub decided_id : (d : ℕ) → SameId (put_decided t d) t i
  decided_id d = heading_id t i 96 (d ∷ []) l (lit≤ tt)

  pub told_id : SameId (put_best t) t i
  told_id = heading_id t i 97 (book_row t) l (omega (arith, length_book_row t))

  pub cleared_id : SameId (clear_best t) t i
  cleared_id = heading_id t i 97 (replicate 31 0) l (lit≤ tt)

pub stepped_id : (t : List ℕ) (i : ℕ) → 1 ≤ i → SameId (stepped t) t i
unfolding stepped
stepped_id t i l =
    let es = step_events t in
    let u : List ℕ = numbered (played t es) (length es) in
    let s : SameId u t i = same_then (numbered_id (played t es) i l (length es)) (played_id es t i) in
    split (eqb (step_work t) 0)
    (λ e. rw e
    (same_then (told_id (put_decided (put_work u 0 []) 0) i l)
    (same_then (decided_id (put_work u 0 []) i l 0) (same_then (working_id u i l 0 [] (lit≤ tt)) s))))
    (λ e. rw e (same_then (decided_id u i l (decided_after (book_of t) (work_of t))) s))

-- so every order of a market keeps its ClOrdID
pub id_kept : (t u : List ℕ) → Market t → (i : ℕ) → In (book_of t) i → SameId u t i → cl_ord_id_at u i ≡ cl_ord_id_at t i
id_kept t u m i h s = id_same i s (id_short t i ((market_formed t m).records i h.low (omega (arith, h.high, length_book t))))

-- ---- the report of a trade

-- a trade as it is told: the level as a yield or a price
abbrev pub fill_of : Instrument → Lot (List ℕ) → Fill
fill_of q x = record { cl_ord_id = x.whose; quantity = x.quantity; price = level_text q x.level }

module _ (t : List ℕ) (n i m x l : ℕ) where
  abbrev trade_report : List ℕ
  trade_report = event_report t n (Traded i m x l)

  abbrev trade_fields_of : List Field
  trade_fields_of = row_of t n (kept_cause t) (Traded i m x l)

  -- the field at a place of the row, where it is the first with its tag
  trade_read : Legible t [] n (kept_cause t) (Traded i m x l) → (tag place : ℕ)
      → value_in tag (as_read [] t trade_fields_of) ≡ (get_or (as_read [] t trade_fields_of) place (field 0 Absent)).value
      → text_in (instrument_of t) tag trade_report ≡ value_bytes [] t (get_or (padded trade_fields_of) place (field 0 Absent)).value
  unfolding text_in event_report ticket_of
  trade_read h tag place e =
      let r : (read_of (instrument_of t) trade_report).fields ≡ as_read [] t trade_fields_of = ap (λ (x : Reading). x.fields) (event_is_read t [] n (kept_cause t) (Traded i m x l) h) in
      ap (λ (fs : List Field). value_bytes trade_report [] (value_in tag fs)) r
      ∙ ap (λ (v : Value). value_bytes trade_report [] v) e ∙ bytes_are_read [] t [] trade_fields_of place

  pub trade_id : Legible t [] n (kept_cause t) (Traded i m x l) → text_in (instrument_of t) 11 trade_report ≡ cl_ord_id_at t i
  unfolding row_of trade_fields header figures_of shown_on stamp_on text_at
  trade_id h = trade_read h 11 8 refl

  pub trade_price : Legible t [] n (kept_cause t) (Traded i m x l) → text_in (instrument_of t) 31 trade_report ≡ level_text (instrument_of t) l
  unfolding row_of trade_fields header figures_of shown_on stamp_on
  trade_price h = trade_read h 31 12 refl

-- ---- whether a report tells a trade
resting_is : (r : Reading) (k : Kind) (x : ℕ) → r.kind ≡ k → says 851 r ≡ x → is_resting r ≡ (is_trade k && eqb x 1)
unfolding is_resting
resting_is r k x p e = λ j. is_trade (p j) && eqb (e j) 1

fills_first : (q : Instrument) (r : List ℕ) (rs : List (List ℕ)) (c : Bool) → is_resting (read_of q r) ≡ c
    → fills_in q (r ∷ rs) ≡ cond c (record { cl_ord_id = text_in q 11 r; quantity = says 32 (read_of q r); price = text_in q 31 r } ∷ fills_in q rs) (fills_in q rs)
unfolding fills_in
fills_first q r rs c e = rw e

-- ---- the reports of events, on the table after each: w is in work, and name gives the ClOrdIDs
module _ (t : List ℕ) (n : ℕ) (name : ℕ → List ℕ) (w : ℕ) (work : work_of t ≡ w) (rs : List (List ℕ)) where
  abbrev market : Instrument
  market = instrument_of t

  trade_fill : (i m x l : ℕ) → cl_ord_id_at t i ≡ name i → Legible t [] n (kept_cause t) (Traded i m x l)
      → fills_in market (event_report t n (Traded i m x l) ∷ rs) ≡ map (fill_of market) (fill name w (Traded i m x l)) ++ fills_in market rs
  unfolding event_report
  trade_fill i m x l s h =
      let g = event_says t [] n (kept_cause t) (Traded i m x l) h in
      let r = event_report t n (Traded i m x l) in
      let e = resting_is (read_of market r) Trade (cond (eqb i (work_of t)) 2 1) g.is_kind g.says_851 in
      fills_first market r rs (eqb (cond (eqb i (work_of t)) 2 1) 1) e
      ∙ rw (trade_id t n i m x l h, trade_price t n i m x l h, g.says_32, s, work) (split (eqb i w) (λ z. rw z) (λ z. rw z))

  no_fill_lem : (e : Event) → is_trade (kind_told e) ≡ false → Legible t [] n (kept_cause t) e → fills_in market (event_report t n e ∷ rs) ≡ fills_in market rs
  unfolding event_report
  no_fill_lem e z h =
      let g = event_says t [] n (kept_cause t) e h in
      fills_first market (event_report t n e) rs false (resting_is (read_of market (event_report t n e)) (kind_told e) _ g.is_kind refl ∙ rw z)

  event_fill : (e : Event) → cl_ord_id_at t (who e) ≡ name (who e) → Legible t [] n (kept_cause t) e
      → fills_in market (event_report t n e ∷ rs) ≡ map (fill_of market) (fill name w e) ++ fills_in market rs
  event_fill (Accepted i o) s h = no_fill_lem (Accepted i o) refl h
  event_fill (Replaced i l x p) s h = no_fill_lem (Replaced i l x p) refl h
  event_fill (Withdrawn i x) s h = no_fill_lem (Withdrawn i x) refl h
  event_fill (Canceled i x) s h = no_fill_lem (Canceled i x) refl h
  event_fill (Decremented i x) s h = no_fill_lem (Decremented i x) refl h
  event_fill (Traded i m x l) s h = trade_fill i m x l s h
  event_fill (Killed i x) s h = no_fill_lem (Killed i x) refl h
  event_fill (Expired i x) s h = no_fill_lem (Expired i x) refl h

fills_map : {A : Type 0} (f : Lot (List ℕ) → A) (xs ys : List (Lot (List ℕ))) (zs : List A) → map f ys ≡ zs → map f (xs ++ ys) ≡ map f xs ++ zs
fills_map f xs ys zs e = map-append f xs ys ∙ ap (λ l. map f xs ++ l) e

applied_work : (t : List ℕ) (e : Event) → 1 ≤ who e → work_of (applied t e) ≡ work_of t
unfolding applied
applied_work t e l = work_same (put_below t (128 * who e + 64) (amount_bytes (change e (order_at t (who e)))) 32 33 (omega arith))

-- all events in turn, from a table t whose orders of book c have these names
module _ (q : Instrument) (c : Book) (name : ℕ → List ℕ) (w : ℕ) where
  events_fills : (es : List Event) (t : List ℕ) (n : ℕ) (b : Book) → instrument_of t ≡ q → work_of t ≡ w → length b ≡ length c → Fits b es
      → ((i : ℕ) → In c i → (u : List ℕ) → SameId u t i → cl_ord_id_at u i ≡ name i) → Legibles t n es
      → fills_in q (event_reports t n es) ≡ map (fill_of q) (fills name w es)
  unfolding event_reports fills fills_in
  events_fills [] t n b k z d f s h = refl
  events_fills (e ∷ es) t n b k z d f s h =
      let u : List ℕ = applied t e in
      let v : instrument_of u ≡ q = applied_instrument t e ∙ k in
      let inside : In c (who e) = record { low = f.0.inside.low; high = omega (arith, f.0.inside.high) } in
      let y : work_of u ≡ w = applied_work t e f.0.inside.low ∙ z in
      let g = events_fills es u (n + 1) (after b e) v y (length_after b e f.0 ∙ d) f.1 (λ i h x r. s i h x (same_then r (applied_id t e i))) h.1 in
      first v (event_fill u n name w y (event_reports u (n + 1) es) e (s (who e) inside u (applied_id t e (who e))) h.0)
      ∙ sym (fills_map (fill_of q) (fill name w e) (fills name w es) _ (sym g))
    where
      first : instrument_of (applied t e) ≡ q → fills_in (instrument_of (applied t e)) (event_report (applied t e) n e ∷ event_reports (applied t e) (n + 1) es)
          ≡ map (fill_of (instrument_of (applied t e))) (fill name w e) ++ fills_in (instrument_of (applied t e)) (event_reports (applied t e) (n + 1) es)
          → fills_in q (event_report (applied t e) n e ∷ event_reports (applied t e) (n + 1) es) ≡ map (fill_of q) (fill name w e) ++ fills_in q (event_reports (applied t e) (n + 1) es)
      first v x =
          subst
          (λ (m : Instrument). fills_in m (event_report (applied t e) n e ∷ event_reports (applied t e) (n + 1) es)
          ≡ map (fill_of m) (fill name w e) ++ fills_in m (event_reports (applied t e) (n + 1) es))
          v x

-- the reports of a step
pub step_fills : (q : Instrument) (t : List ℕ) → instrument_of t ≡ q → Market t → 1 ≤ work_of t
    → fills_in q (step_reports t) ≡ map (fill_of q) (fills (cl_ord_id_at t) (work_of t) (step_events t))
unfolding step_reports
step_fills q t k m l =
    events_fills q (book_of t) (cl_ord_id_at t) (work_of t) (step_events t) t (next_of t) (book_of t) k refl refl (events_fit t m l)
    (λ i h u s. id_kept t u m i h s) (step_legibles t m l)

-- ---- runs of steps
pub fills_append : (q : Instrument) (rs ss : List (List ℕ)) → fills_in q (rs ++ ss) ≡ fills_in q rs ++ fills_in q ss
unfolding fills_in
fills_append q [] ss = refl
fills_append q (r ∷ rs) ss = split (is_resting (read_of q r)) (λ t. rw (t, fills_append q rs ss)) (λ t. rw (t, fills_append q rs ss))

-- names that agree on the orders of a book tell its trades alike
pub fills_alike : (name later : ℕ → List ℕ) (w : ℕ) (es : List Event) (b c : Book) → length b ≡ length c → Fits b es → ((i : ℕ) → In c i → later i ≡ name i)
    → fills later w es ≡ fills name w es
unfolding fills
fills_alike name later w [] b c d f s = refl
fills_alike name later w (e ∷ es) b c d f s =
    let g = fills_alike name later w es (after b e) c (length_after b e f.0 ∙ d) f.1 s in
    let one = s (who e) (record { low = f.0.inside.low; high = omega (arith, f.0.inside.high) }) in
    rw g (ap (λ (l : List (Lot (List ℕ))). l ++ fills name w es) (same e one))
  where
    same : (e : Event) → later (who e) ≡ name (who e) → fill later w e ≡ fill name w e
    same (Accepted i o) s = refl
    same (Replaced i l x p) s = refl
    same (Withdrawn i x) s = refl
    same (Canceled i x) s = refl
    same (Decremented i x) s = refl
    same (Traded i m x l) s = rw s
    same (Killed i x) s = refl
    same (Expired i x) s = refl

-- table u with the reports rs is what n steps lead to from table t, and the reports tell their trades
pub record Filling (q : Instrument) (t u : List ℕ) (rs : List (List ℕ)) (n : ℕ) : Type 0 where
  pub steps : Stepping t u (map (read_of q) rs) n
  pub fills : fills_in q rs ≡ map (fill_of q) (fills (cl_ord_id_at t) (work_of t) (run (mode_of t) (misses_now t) n (book_of t) (work_of t)).events)
  pub ids : (i : ℕ) → 1 ≤ i → SameId u t i
  pub work : (work_of u ≡ work_of t) ⊎ (work_of u ≡ 0)
  pub size : length (book_of u) ≡ length (book_of t)
  pub market : Market u

pub record Fillings (q : Instrument) (t u : List ℕ) (rs : List (List ℕ)) : Type 0 where
  pub number : ℕ
  pub by : Filling q t u rs number

pub none_fills : (q : Instrument) (t : List ℕ) → Market t → Fillings q t t []
unfolding run fills_in fills
none_fills q t m =
    record { number = 0; by = record { steps = none_stepping t; fills = refl; ids = λ i l. same_id_self t i; work = inl refl; size = refl; market = m } }

work_then : (t : List ℕ) → work_of (stepped t) ≡ step_work t → (work_of (stepped t) ≡ work_of t) ⊎ (work_of (stepped t) ≡ 0)
unfolding step_work work_after
work_then t e =
    split (misses_now t || eqb (partner (book_of t) (work_of t)) 0)
    (λ x. inr (e ∙ rw x))
    (λ x. inl (e ∙ rw x))

pub one_fills : (q : Instrument) (t : List ℕ) → instrument_of t ≡ q → Market t → 1 ≤ work_of t → Fillings q t (stepped t) (step_reports t)
unfolding run step_events step_work
one_fills q t k m l =
    let e = run_one (mode_of t) (misses_now t) 0 (book_of t) (work_of t) l in
    record {
      number = 1;
      by = record {
        steps = one_stepping q t k m l;
        fills = rw (e, append-nil (happens (mode_of t) (misses_now t) (book_of t) (work_of t))) (step_fills q t k m l);
        ids = stepped_id t;
        work = stays;
        size = ap length (step_book t m l) ∙ length_play (happens (mode_of t) (misses_now t) (book_of t) (work_of t)) (book_of t) (events_fit t m l);
        market = stepped_kept t m l;
      };
    }
  where
    stays : (work_of (stepped t) ≡ work_of t) ⊎ (work_of (stepped t) ≡ 0)
    stays = work_then t (step_work_lem t m l)

-- some steps and then others
module _ (q : Instrument) (t u v : List ℕ) (rs ss : List (List ℕ)) (m n : ℕ) (here : Market t) (a : Filling q t u rs m) (b : Filling q u v ss n) where
  abbrev first : Ran
  first = run (mode_of t) (misses_now t) m (book_of t) (work_of t)

  abbrev rest : Ran
  rest = run (mode_of u) (misses_now u) n (book_of u) (work_of u)

  -- the rest, by the ClOrdIDs and the order in work of the first table
  rest_fills : fills (cl_ord_id_at u) (work_of u) rest.events ≡ fills (cl_ord_id_at t) (work_of t) rest.events
  unfolding fills
  rest_fills = ⊎_elim (λ (e : work_of u ≡ work_of t). on e) (λ (e : work_of u ≡ 0). none e) a.work
    where
      names : (w : ℕ) → fills (cl_ord_id_at u) w rest.events ≡ fills (cl_ord_id_at t) w rest.events
      names w =
          fills_alike (cl_ord_id_at t) (cl_ord_id_at u) w rest.events (book_of u) (book_of t) a.size
          (run_fits (mode_of u) (misses_now u) n (book_of u) (work_of u) a.market.held.work) (λ i h. id_kept t u here i h (a.ids i h.low))

      on : work_of u ≡ work_of t → fills (cl_ord_id_at u) (work_of u) rest.events ≡ fills (cl_ord_id_at t) (work_of t) rest.events
      on e = names (work_of u) ∙ ap (λ (w : ℕ). fills (cl_ord_id_at t) w rest.events) e

      none : work_of u ≡ 0 → fills (cl_ord_id_at u) (work_of u) rest.events ≡ fills (cl_ord_id_at t) (work_of t) rest.events
      none e =
          let z : rest.events ≡ [] = ap (λ (w : ℕ). (run (mode_of u) (misses_now u) n (book_of u) w).events) e ∙ ap (λ (r : Ran). r.events) (idle (mode_of u) (misses_now u) n (book_of u)) in
          ap (fills (cl_ord_id_at u) (work_of u)) z ∙ ap (fills (cl_ord_id_at t) (work_of t)) (sym z)

  filling_then : Filling q t v (rs ++ ss) (m + n)
  filling_then =
      let g = matching.goes_on (mode_of t) (misses_now t) m n (book_of t) (work_of t) in
      let e : rest ≡ run (mode_of t) (eqb m 0 && misses_now t) n first.book first.work = rw (a.steps.modes, a.steps.missed, a.steps.book, a.steps.work) in
      let f : (run (mode_of t) (misses_now t) (m + n) (book_of t) (work_of t)).events ≡ first.events ++ rest.events = g.events ∙ ap (λ (r : Ran). first.events ++ r.events) (sym e) in
      record {
        steps = rw (map-append (read_of q) rs ss) (stepping_then t u v (map (read_of q) rs) (map (read_of q) ss) m n a.steps b.steps);
        fills =
            fills_append q rs ss
            ∙ rw (a.fills, b.fills, rest_fills, f, events.fills_append (cl_ord_id_at t) (work_of t) first.events rest.events)
            (sym (map-append (fill_of q) (fills (cl_ord_id_at t) (work_of t) first.events) (fills (cl_ord_id_at t) (work_of t) rest.events)));
        ids = λ i l. same_then (b.ids i l) (a.ids i l);
        work = ⊎_elim (λ (e : work_of v ≡ work_of u). ⊎_elim (λ (d : work_of u ≡ work_of t). inl (e ∙ d)) (λ (d : work_of u ≡ 0). inr (e ∙ d)) a.work) (λ (e : work_of v ≡ 0). inr e) b.work;
        size = b.size ∙ a.size;
        market = b.market;
      }

pub fillings_then : (q : Instrument) (t u v : List ℕ) (rs ss : List (List ℕ)) → Market t → Fillings q t u rs → Fillings q u v ss → Fillings q t v (rs ++ ss)
fillings_then q t u v rs ss here a b =
    record { number = a.number + b.number; by = filling_then q t u v rs ss a.number b.number here a.by b.by }
