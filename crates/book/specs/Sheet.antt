-- What is printed for a table (document 01, "Rehearsed books", the program `book`; document 02, T-08): a heading, then a line for each
-- level of the buys, then one for each level of the sells, whatever their side, the best first. A table that is no market of bonds where
-- bonds are to be printed, or none of equities where those are, or has an order in work, has the heading alone. Assumes nothing.
use Rattle.std.specs.Prelude.{cond, ◌&&◌, List, [], ◌∷◌, ◌++◌, ℕ, zero, suc, eqb, length, Option, Some, None}
use Rattle.octets.specs.Characters.{byte, bytes}
use Rattle.decimal.specs.declared.Instrument.{Instrument}
use Rattle.decimal.specs.declared.Instrument.TheVariants.{Bonds, Equities}
use Rattle.decimal.specs.Writing.{decimal, level_text}
use Rattle.matching.specs.declared.Level.{Level}
use Rattle.matching.specs.Matching.{Book}
use Rattle.matching.specs.Depth.{depth}
use Rattle.table.specs.Heading.{work_of}
use Rattle.table.specs.Orders.{book_of}
use Rattle.table.specs.Market.{is_market_of}

abbrev pub space : ℕ
space = byte " "

abbrev pub line_end : ℕ
line_end = byte "\n"

-- the words at the top, and a line end
abbrev pub heading : Instrument → List ℕ
heading Bonds = bytes "side yield quantity orders\n"
heading Equities = bytes "side price quantity orders\n"

-- a number, and the character behind it
unfoldable pub figure : ℕ → ℕ → List ℕ
figure n mark = decimal n ++ (mark ∷ [])

-- the line of a level: side, yield with three decimals or price with one, total open quantity, number of orders
unfoldable pub level_line : Instrument → ℕ → ℕ → ℕ → ℕ → List ℕ
level_line q side level total orders =
    figure side space ++ level_text q level ++ (space ∷ []) ++ figure total space ++ figure orders line_end

-- where there is no level there is no line
abbrev pub line_of : Instrument → ℕ → Option Level → List ℕ
line_of q side (Some l) = level_line q side l.level l.total l.orders
line_of q side None = []

-- the lines of the first n levels of a side, the best first
unfoldable pub lines : Instrument → Book → ℕ → ℕ → List ℕ
lines q b side zero = []
lines q b side (suc n) = lines q b side n ++ line_of q side (depth b side n)

-- all of a side: it has at most as many levels as the book has orders
unfoldable pub side_lines : Instrument → Book → ℕ → List ℕ
side_lines q b side = lines q b side (length b)

-- side 1, the buys, then side 2, the sells
unfoldable pub both_sides : Instrument → Book → List ℕ
both_sides q b = side_lines q b 1 ++ side_lines q b 2

-- the whole sheet
unfoldable pub sheet_of : Instrument → List ℕ → List ℕ
sheet_of q t = cond (is_market_of q t && eqb (work_of t) 0) (heading q ++ both_sides q (book_of t)) (heading q)
