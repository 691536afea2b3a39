-- Buys are printed before sells, whichever was accepted first: what is printed for a book of one sell and one buy, computed. And sells of
-- every side are printed together, by price.
use mathlib.Core.Path.{◌≡◌, refl}
use mathlib.Core.List.{List, [], ◌∷◌}
use Prim.Native.Nat.{ℕ}
use Prim.Native.Char.{code}
use Prim.Native.String.{String, [] as end, ◌∷◌ as ◌then◌}
use Rattle.decimal.specs.declared.Instrument.TheVariants.{Bonds, Equities}
use Rattle.decimal.specs.Writing.{decimal, places, plain, fixed, level_text}
use Rattle.matching.specs.Matching.{Book, open_of, sum_over, count_of}
use Rattle.matching.specs.Rehearsed.{yield, minus, new, sell, buy}
use Rattle.matching.specs.Depth.{stands, behind, nearer, next, level_at, on_level, share, total, orders, depth}
use Rattle.book.specs.Sheet.{figure, level_line, lines, side_lines, both_sides}

-- the bytes of what is written in quotes
unfoldable bytes : String → List ℕ
bytes end = []
bytes (c then s) = code c ∷ bytes s

-- a sell of 700 at 0.100, and then a buy of 300 at 0.105
abbrev both : Book
both = sell 700 (yield 100) 1 0 ∷ buy 300 (yield 105) 2 0 ∷ []

buys_first : both_sides Bonds both ≡ bytes "1 0.105 300 1\n2 0.100 700 1\n"
unfolding decimal places plain fixed level_text open_of sum_over count_of stands behind nearer next level_at on_level share total orders depth figure level_line lines side_lines both_sides bytes
buys_first = refl

-- prices are levels below 1,000,000,000: a short sell of 200 at 100.1, a sell of 100 at 100.0, an exempt one of 50 at 100.1, a buy of 300 at
-- 99.9
abbrev shares : Book
shares = new 5 200 (minus 1001) 1 0 0 0 ∷ sell 100 (minus 1000) 2 0 ∷ new 6 50 (minus 1001) 3 0 0 0 ∷ buy 300 (minus 999) 4 0 ∷ []

every_sell : both_sides Equities shares ≡ bytes "1 99.9 300 1\n2 100.0 100 1\n2 100.1 250 2\n"
unfolding decimal places plain fixed level_text open_of sum_over count_of stands behind nearer next level_at on_level share total orders depth figure level_line lines side_lines both_sides bytes
every_sell = refl
