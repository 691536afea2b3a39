-- What Top answers (document 02, T-06 and T-08, and refusals 2, 3 and 10): the best level of a side, as the heading says. It looks at the
-- length of the table and at its heading alone, so it answers on tables too that are no market; on a market its answer is that of
-- Depth for k = 0, which is a theorem. It changes nothing. Assumes nothing.
use Rattle.std.specs.Prelude.{Bool, cond, not, ◌&&◌, ◌||◌, List, ℕ, ◌*◌, eqb, leb, ltb, Ok, Err}
use Rattle.octets.specs.Octets.{part_at, all_zero}
use Rattle.decimal.specs.declared.Instrument.{Instrument}
use Rattle.decimal.specs.Instruments.{highest}
use Rattle.refusals.specs.declared.Refusal.TheVariants.{NoMarket, InWork, BadSide}
use Rattle.matching.specs.declared.Level.{Level}
use Rattle.table.specs.Places.{orders_spare_byte, levels_spare_byte}
use Rattle.table.specs.Heading.{work_of, decided_of}
use Rattle.table.specs.Best.{best_at, in_words}
use Rattle.table.specs.Market.{has_length, has_settings, has_next, has_stamp, is_of}
use Rattle.market.specs.Depth.{DepthAnswer, is_side}

-- ---- a heading in its ranges

-- no level: zeros
unfoldable pub is_none : Level → Bool
is_none b = eqb b.level 0 && eqb b.total 0 && eqb b.orders 0

-- no level, or 1 to 255 orders, level 1 to the market's highest, and 1 to 999,999,999 an order in total
unfoldable pub is_best : Instrument → Level → Bool
is_best q b =
    is_none b
    || (leb b.orders 255 && leb 1 b.orders && leb 1 b.level && leb b.level (highest q)
    && leb b.orders b.total && leb b.total (b.orders * 999999999))

-- both best levels are such; while an order is in work there is none
unfoldable pub has_levels : Instrument → List ℕ → Bool
has_levels q t = cond (eqb (work_of t) 0) (is_best q (best_at t 1) && is_best q (best_at t 2)) (is_none (best_at t 1) && is_none (best_at t 2))

-- the decision is noted as 0, or as 1 while an order is in work
unfoldable pub has_note : List ℕ → Bool
has_note t = eqb (decided_of t) 0 || (eqb (decided_of t) 1 && ltb 0 (work_of t))

-- the bytes among the best levels that nothing uses are zero
unfoldable pub has_gaps : List ℕ → Bool
has_gaps t = all_zero (part_at t orders_spare_byte 1) && all_zero (part_at t levels_spare_byte 4)

-- all of this of what the call is for, and the clauses of a market on its settings, its next number and the 52 of the order in work
unfoldable pub has_heading : Instrument → List ℕ → Bool
has_heading q t = is_of q t && has_settings t && has_next t && has_stamp t && has_note t && has_gaps t && has_levels q t

-- ---- the answer

-- refused if the length or the heading is wrong, an order is in work, or the side is none; else the level that the heading keeps,
-- or that there is none
unfoldable pub top_answer : Instrument → List ℕ → ℕ → DepthAnswer
top_answer q t side =
    cond (not (has_length t)) (Err NoMarket)
    (cond (not (has_heading q t)) (Err NoMarket)
    (cond (not (eqb (work_of t) 0)) (Err InWork)
    (cond (not (is_side side)) (Err BadSide)
    (Ok (in_words (best_at t side))))))
