-- The rehearsed cases (document 01, "Rehearsed books"), two of replacements and eight of minimums, each over any table that is a market of
-- bonds, whose book is the one written down with its last order in work, not decided yet, and whose modes are as said: which events the
-- reports of Run are of, what is left open, and in how many steps.
use mathlib.Core.Path.{◌≡◌, refl, sym, ap, ◌∙◌}
use mathlib.Core.Bool.{true, false}
use mathlib.Core.List.{List, [], ◌∷◌, map}
use Prim.Native.Nat.{ℕ, ◌+◌, ◌≤◌}
use native.Mathlib.Nat.{add-zero}
use native.Mathlib.Omega.{arith}
use lib.Dec.{eqb}
use Rattle.octets.specs.Characters.{bytes}
use Rattle.decimal.specs.declared.Instrument.TheVariants.{Bonds}
use Rattle.matching.specs.declared.Event.{Event}
use Rattle.std.specs.Prelude.{Some, None, Ok}
use Rattle.matching.specs.declared.Order.{Order}
use Rattle.matching.specs.Matching.{Book, at, open_of, minimum_of, misses, place_after, change, after, play}
use Rattle.matching.specs.Rehearsed.{yield, book_a, events1, events2, events3, book4, events4, book5, events5, book6, events6, book7, events7, book8, book9, events9, book10, book11, mirror11, book_turn, events_reduced, events_raised, book_kill, events_kill, events_fill, book_least, events_least2, events_least3, Shows, Averages}
use Rattle.matching.proofs.Cases.{case1, case2, case3, case4, case5, case6, case7, case8, case9, case10, case11, case11_mirror, reduced_first, raised_behind, kill_missed, kill_filled, least1, missed1, least2, missed2, least3, missed3}
use Rattle.table.specs.Heading.{work_of, decided_of, mode_of}
use Rattle.table.specs.Orders.{book_of}
use Rattle.table.specs.Market.{is_market_of}
use Rattle.table.specs.Changes.{misses_now}
use Rattle.table.proofs.Instruments.{of_market}
use Rattle.table.proofs.Facts.{market_facts}
use Rattle.table.proofs.Kept.{minimum_undecided}
use Rattle.market.specs.Depth.{depth_answer}
use Rattle.promises.specs.Shown.{ShowsOn, AveragesOn}
use Rattle.promises.proofs.Agreeing.{ran_matches}
use Rattle.promises.proofs.Depths.{found}

-- where nothing is decided yet, the minimum is asked for
asked_now : (t : List ℕ) → decided_of t ≡ 0 → misses (mode_of t) 0 (book_of t) (work_of t) ≡ misses_now t
unfolding misses_now
asked_now t d = ap (λ (x : ℕ). misses (mode_of t) x (book_of t) (work_of t)) (sym d)

-- what matching shows on the book, Run shows on the table
on_table : (t : List ℕ) (w : ℕ) (es : List Event) (os : List ℕ) (n : ℕ) → is_market_of Bonds t ≡ true → work_of t ≡ w → decided_of t ≡ 0 → 1 ≤ n → Shows (mode_of t) (book_of t) w es os n
    → ShowsOn Bonds t es os n
on_table t w es os n m e d low s room budget h l =
    let z : n + 0 ≡ n = add-zero n in
    let q = asked_now t d in
    let ended = rw (z, ← e, q) at (s.ended 0) in
    let events = rw (z, ← e, q) at (s.events 0) in
    let left = rw (z, ← e, q) at (s.left 0) in
    let steps = rw (z, ← e, q) at (s.steps 0) in
    let g = ran_matches Bonds n t room budget m low h l ended in
    record {
      events = rw events at g.events;
      left = ap (λ (b : Book). map open_of b) g.book ∙ left;
      steps = g.steps ∙ steps;
      ended = g.work ∙ ended;
    }

-- the AvgPx that matching gives of order w on the book, Run gives on the table
average_on_table : {sum executed mean : ℕ} {text : List ℕ} (t : List ℕ) (w n : ℕ) → is_market_of Bonds t ≡ true → work_of t ≡ w → decided_of t ≡ 0 → 1 ≤ n
    → Averages (mode_of t) (book_of t) w n sum executed mean text
    → AveragesOn Bonds t w n sum executed mean text
average_on_table t w n m e d low c room budget h l =
    let z : n + 0 ≡ n = add-zero n in
    let q = asked_now t d in
    let ended = rw (z, ← e, q) at (c.ended 0) in
    let g = (ran_matches Bonds n t room budget m low h l ended).book in
    record {
      is_sum = rw e at (ap (λ (x : Book). (at x (work_of t)).sum) g ∙ rw (z, ← e, q) at (c.is_sum 0));
      is_executed = rw e at (ap (λ (x : Book). (at x (work_of t)).executed) g ∙ rw (z, ← e, q) at (c.is_executed 0));
      is_mean = c.is_mean;
      is_text_lem = c.is_text_lem;
    }

-- an order in work that has no minimum is not decided
least_none : (o : Order) → eqb o.tif 4 ≡ false → o.minqty ≡ 0 → minimum_of o ≡ 0
unfolding minimum_of
least_none o f z = rw (f, z)

undecided : (t : List ℕ) → is_market_of Bonds t ≡ true → (b : Book) (w : ℕ) → book_of t ≡ b → work_of t ≡ w → eqb (at b w).tif 4 ≡ false → (at b w).minqty ≡ 0
    → decided_of t ≡ 0
undecided t m b w e d f z = minimum_undecided t (market_facts t (of_market Bonds t m)) (rw (e, d) (least_none (at b w) f z))

module _ (t : List ℕ) (m : is_market_of Bonds t ≡ true) where
  -- 1: A buys 1,200, mode 1: trades of 100 and 200, 900 canceled; 200 and 500 stay; 4 steps
  pub table1 : book_of t ≡ book_a → work_of t ≡ 5 → mode_of t 10 ≡ 1 → ShowsOn Bonds t events1 (0 ∷ 0 ∷ 200 ∷ 500 ∷ 0 ∷ []) 4
  table1 b w d = on_table t 5 _ _ 4 m w (undecided t m book_a 5 b w refl refl) (omega arith) (case1 (mode_of t) (book_of t) d b)

  -- 2: mode 2: A's sell canceled, a trade of 500; 400 rests; 5 steps
  pub table2 : book_of t ≡ book_a → work_of t ≡ 5 → mode_of t 10 ≡ 2 → ShowsOn Bonds t events2 (0 ∷ 0 ∷ 0 ∷ 0 ∷ 400 ∷ []) 5
  table2 b w d = on_table t 5 _ _ 5 m w (undecided t m book_a 5 b w refl refl) (omega arith) (case2 (mode_of t) (book_of t) d b)

  -- 3: mode 3: the buy decremented by 200; 200 rests
  pub table3 : book_of t ≡ book_a → work_of t ≡ 5 → mode_of t 10 ≡ 3 → ShowsOn Bonds t events3 (0 ∷ 0 ∷ 0 ∷ 0 ∷ 200 ∷ []) 5
  table3 b w d = on_table t 5 _ _ 5 m w (undecided t m book_a 5 b w refl refl) (omega arith) (case3 (mode_of t) (book_of t) d b).0

  -- 4: mode 3, A's sell of 200 alone, A buys 200: both canceled
  pub table4 : book_of t ≡ book4 → work_of t ≡ 2 → mode_of t 10 ≡ 3 → ShowsOn Bonds t events4 (0 ∷ 0 ∷ []) 2
  table4 b w d = on_table t 2 _ _ 2 m w (undecided t m book4 2 b w refl refl) (omega arith) (case4 (mode_of t) (book_of t) d b)

  -- 5: A buys 50: the buy canceled, the sell has 150 open, decremented by 50
  pub table5 : book_of t ≡ book5 → work_of t ≡ 2 → mode_of t 10 ≡ 3 → ShowsOn Bonds t events5 (150 ∷ 0 ∷ []) 2
  table5 b w d = on_table t 2 _ _ 2 m w (undecided t m book5 2 b w refl refl) (omega arith) (case5 (mode_of t) (book_of t) d b)

  -- 6: two orders with no MPID that meet trade
  pub table6 : book_of t ≡ book6 → work_of t ≡ 2 → ShowsOn Bonds t events6 (150 ∷ 0 ∷ []) 2
  table6 b w = on_table t 2 _ _ 2 m w (undecided t m book6 2 b w refl refl) (omega arith) (case6 (mode_of t) (book_of t) b)

  -- 7: MPID 14 buys 1,200 IOC: trades of 1,000, 200 expire; 5 steps
  pub table7 : book_of t ≡ book7 → work_of t ≡ 5 → ShowsOn Bonds t events7 (0 ∷ 0 ∷ 0 ∷ 0 ∷ 0 ∷ []) 5
  table7 b w = on_table t 5 _ _ 5 m w (undecided t m book7 5 b w refl refl) (omega arith) (case7 (mode_of t) (book_of t) b)

  -- 8: a sell at 0.101, a buy at 0.102: no trade
  pub table8 : book_of t ≡ book8 → work_of t ≡ 2 → ShowsOn Bonds t [] (100 ∷ 100 ∷ []) 1
  table8 b w = on_table t 2 _ _ 1 m w (undecided t m book8 2 b w refl refl) (omega arith) (case8 (mode_of t) (book_of t) b)

  -- 9: a sell and a buy at -0.005: a trade at -0.005
  pub table9 : book_of t ≡ book9 → work_of t ≡ 2 → ShowsOn Bonds t events9 (0 ∷ 0 ∷ []) 2
  table9 b w = on_table t 2 _ _ 2 m w (undecided t m book9 2 b w refl refl) (omega arith) (case9 (mode_of t) (book_of t) b)

  -- 10: five sells of 999,999,999 at 0.100: one level of 4,999,999,995 and 5 orders
  pub table10 : book_of t ≡ book10 → work_of t ≡ 0
      → (depth_answer Bonds t 2 0 ≡ Ok (Some (record { level = yield 100; total = 4_999_999_995; orders = 5 }))) × (depth_answer Bonds t 2 1 ≡ Ok None)
  table10 b w =
      let c = case10 (book_of t) b in
      (found Bonds t m w 2 0 refl ∙ ap Ok c.0, found Bonds t m w 2 1 refl ∙ ap Ok c.1)

  -- 11: 1 at 0.100 and 2 at 0.101: AvgPx 0.100667
  pub table11 : book_of t ≡ book11 → work_of t ≡ 3 → AveragesOn Bonds t 3 3 3_000_000_302 3 1_000_000_100_667 (bytes "0.100667")
  table11 b w = average_on_table t 3 3 m w (undecided t m book11 3 b w refl refl) (omega arith) (case11 (mode_of t) (book_of t) b)

  -- 11, its mirror: 1 at -0.100 and 2 at -0.101: AvgPx -0.100667
  pub table11_mirror : book_of t ≡ mirror11 → work_of t ≡ 3
      → AveragesOn Bonds t 3 3 2_999_999_698 3 999_999_899_333 (bytes "-0.100667")
  table11_mirror b w = average_on_table t 3 3 m w (undecided t m mirror11 3 b w refl refl) (omega arith) (case11_mirror (mode_of t) (book_of t) b)

  -- two sells of 200 at one yield, and a buy of 250: the first, reduced to 150, trades before the second, which came after it
  pub table_reduced : book_of t ≡ book_turn 150 → work_of t ≡ 3 → ShowsOn Bonds t events_reduced (0 ∷ 100 ∷ 0 ∷ []) 3
  unfolding change after play place_after
  table_reduced b w = on_table t 3 _ _ 3 m w (undecided t m (book_turn 150) 3 b w refl refl) (omega arith) (reduced_first (mode_of t) (book_of t) b)

  -- raised to 300, it trades behind the second
  pub table_raised : book_of t ≡ book_turn 300 → work_of t ≡ 3 → ShowsOn Bonds t events_raised (250 ∷ 0 ∷ 0 ∷ []) 3
  unfolding change after play place_after
  table_raised b w = on_table t 3 _ _ 3 m w (undecided t m (book_turn 300) 3 b w refl refl) (omega arith) (raised_behind (mode_of t) (book_of t) b)

  -- Fill or Kill by MPID 14 into book R: 1,200 are killed in one step, and the book is untouched
  pub table_killed : book_of t ≡ book_kill 1200 → work_of t ≡ 5 → decided_of t ≡ 0 → ShowsOn Bonds t events_kill (100 ∷ 200 ∷ 200 ∷ 500 ∷ 0 ∷ []) 1
  table_killed b w d = on_table t 5 _ _ 1 m w d (omega arith) (kill_missed (mode_of t) (book_of t) b)

  -- 1,000 trade, and nothing is left
  pub table_filled : book_of t ≡ book_kill 1000 → work_of t ≡ 5 → decided_of t ≡ 0 → ShowsOn Bonds t events_fill (0 ∷ 0 ∷ 0 ∷ 0 ∷ 0 ∷ []) 5
  table_filled b w d = on_table t 5 _ _ 5 m w d (omega arith) (kill_filled (mode_of t) (book_of t) b)

  -- A's 1,200 IOC with a MinQty. Mode 1: 300 trade and the rest is canceled with 378=100; 301 are not reached
  pub table_least1 : book_of t ≡ book_least 300 → work_of t ≡ 5 → decided_of t ≡ 0 → mode_of t 10 ≡ 1 → ShowsOn Bonds t events1 (0 ∷ 0 ∷ 200 ∷ 500 ∷ 0 ∷ []) 4
  table_least1 b w d q = on_table t 5 _ _ 4 m w d (omega arith) (least1 (mode_of t) (book_of t) q b)

  pub table_missed1 : book_of t ≡ book_least 301 → work_of t ≡ 5 → decided_of t ≡ 0 → mode_of t 10 ≡ 1 → ShowsOn Bonds t events_kill (100 ∷ 200 ∷ 200 ∷ 500 ∷ 0 ∷ []) 1
  table_missed1 b w d q = on_table t 5 _ _ 1 m w d (omega arith) (missed1 (mode_of t) (book_of t) q b)

  -- modes 2 and 3: 800 trade and the rest expires; 801 are not reached, and A's own sell is untouched
  pub table_least2 : book_of t ≡ book_least 800 → work_of t ≡ 5 → decided_of t ≡ 0 → mode_of t 10 ≡ 2 → ShowsOn Bonds t events_least2 (0 ∷ 0 ∷ 0 ∷ 0 ∷ 0 ∷ []) 5
  table_least2 b w d q = on_table t 5 _ _ 5 m w d (omega arith) (least2 (mode_of t) (book_of t) q b)

  pub table_missed2 : book_of t ≡ book_least 801 → work_of t ≡ 5 → decided_of t ≡ 0 → mode_of t 10 ≡ 2 → ShowsOn Bonds t events_kill (100 ∷ 200 ∷ 200 ∷ 500 ∷ 0 ∷ []) 1
  table_missed2 b w d q = on_table t 5 _ _ 1 m w d (omega arith) (missed2 (mode_of t) (book_of t) q b)

  pub table_least3 : book_of t ≡ book_least 800 → work_of t ≡ 5 → decided_of t ≡ 0 → mode_of t 10 ≡ 3 → ShowsOn Bonds t events_least3 (0 ∷ 0 ∷ 0 ∷ 0 ∷ 0 ∷ []) 5
  table_least3 b w d q = on_table t 5 _ _ 5 m w d (omega arith) (least3 (mode_of t) (book_of t) q b)

  pub table_missed3 : book_of t ≡ book_least 801 → work_of t ≡ 5 → decided_of t ≡ 0 → mode_of t 10 ≡ 3 → ShowsOn Bonds t events_kill (100 ∷ 200 ∷ 200 ∷ 500 ∷ 0 ∷ []) 1
  table_missed3 b w d q = on_table t 5 _ _ 1 m w d (omega arith) (missed3 (mode_of t) (book_of t) q b)
