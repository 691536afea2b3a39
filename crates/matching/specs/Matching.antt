-- Matching, step by step: which orders meet, which is the best, what one step does and in which order it is reported, what
-- the book is afterwards, and runs of steps (document 01, "Matching, step by step"; the three modes are those of the paper
-- on self-trade prevention); and the minimum that an order must reach to be matched at all (document 02, T-05). A book is a
-- list of orders; an order is named by its number, from 1; number 0 is no order.
-- Assumes nothing: every definition gives something for every book.
use Rattle.std.specs.Prelude.{ℕ, zero, suc, ◌+◌, ◌-◌, ◌*◌, min, Bool, false, cond, not, ◌&&◌, ◌||◌, List, [], ◌∷◌, ◌++◌, length, get_or, set, ltb, leb, eqb}
use Rattle.decimal.specs.declared.Instrument.{Instrument}
use Rattle.decimal.specs.declared.Instrument.TheVariants.{Bonds, Equities}
use Rattle.matching.specs.declared.Order.{Order}
use Rattle.matching.specs.declared.Prevention.{Prevention}
use Rattle.matching.specs.declared.Prevention.TheVariants.{CancelNewest, CancelOldest, Decrement}
use Rattle.matching.specs.declared.Outcome.{Outcome}
use Rattle.matching.specs.declared.Outcome.TheVariants.{Trade, Prevented, Kills, Expires, Rests}
use Rattle.matching.specs.declared.Event.{Event}
use Rattle.matching.specs.declared.Event.TheVariants.{Accepted, Replaced, Withdrawn, Canceled, Decremented, Traded, Killed, Expired}

-- ---- the sense of levels

-- side 1 buys, any other sells
abbrev pub buys : ℕ → Bool
buys side = eqb side 1

-- the sides that an order of a market may have: of bonds 1 and 2, of equities also 5 and 6, which are sells
unfoldable pub is_side_of : Instrument → ℕ → Bool
is_side_of Bonds side = eqb side 1 || eqb side 2
is_side_of Equities side = eqb side 1 || eqb side 2 || eqb side 5 || eqb side 6

-- the levels b of a buy and s of a sell meet: the seller offers the yield that the buyer wants, or more; or asks the price that the
-- buyer gives, or less
abbrev pub crosses : ℕ → ℕ → Bool
crosses b s = leb b s

-- level x is better than level y: among buys the lower of the two, among sells the higher
abbrev pub ahead : Bool → ℕ → ℕ → Bool
ahead buy x y = cond buy (ltb x y) (ltb y x)

-- ---- one order, and two

-- what is open: OrderQty less what is executed, decremented and canceled
unfoldable pub open_of : Order → ℕ
open_of o = o.qty - (o.executed + o.decremented + o.canceled)

-- something is open
abbrev pub is_open : Order → Bool
is_open o = ltb 0 (open_of o)

-- it buys
abbrev pub is_buy : Order → Bool
is_buy o = buys o.side

-- its time in force lets nothing of it rest: IOC, 3, and Fill or Kill, 4
abbrev pub is_immediate : Order → Bool
is_immediate o = eqb o.tif 3 || eqb o.tif 4

-- the minimum that it must trade, 0 for none: the whole OrderQty of a Fill or Kill, and of any other order the MinQty it was sent with
unfoldable pub minimum_of : Order → ℕ
minimum_of o = cond (eqb o.tif 4) o.qty o.minqty

-- one buys and the other sells
abbrev pub opposite : Order → Order → Bool
opposite o r = cond (is_buy o) (not (is_buy r)) (is_buy r)

-- their levels meet, o being of the one side and r of the other
unfoldable pub meets : Order → Order → Bool
meets o r = cond (is_buy o) (crosses o.level r.level) (crosses r.level o.level)

-- a goes before c, of the same side: by the better level, and at one level by the earlier place
unfoldable pub better : Order → Order → Bool
better a c = cond (eqb a.level c.level) (ltb a.place c.place) (ahead (is_buy a) a.level c.level)

-- r is open, opposite to o, and meets it
unfoldable pub faces : Order → Order → Bool
faces o r = is_open r && opposite o r && meets o r

-- both carry an MPID and it is the same
unfoldable pub same_owner : Order → Order → Bool
same_owner o r = ltb 0 o.mpid && eqb o.mpid r.mpid

-- ---- the book

-- the orders by number, number 1 first
abbrev pub Book : Type 0
Book = List Order

-- no order: nothing of it is open
abbrev pub none : Order
none = record { side = 0; tif = 0; level = 0; qty = 0; executed = 0; decremented = 0; canceled = 0; sum = 0; place = 0; mpid = 0; minqty = 0 }

-- order number k of the book
abbrev pub at : Book → ℕ → Order
at b zero = none
at b (suc k) = get_or b k none

-- the book with o as order number k; a number behind the last one adds it
abbrev pub put : Book → ℕ → Order → Book
put b zero o = b
put b (suc k) o = cond (ltb k (length b)) (set b k o) (b ++ o ∷ [])

-- the sum of f over the first n orders, and the number of them that a test holds of
unfoldable pub sum_over : (Order → ℕ) → Book → ℕ → ℕ
sum_over f b zero = 0
sum_over f b (suc n) = sum_over f b n + f (at b (suc n))

unfoldable pub count_of : (Order → Bool) → Book → ℕ → ℕ
count_of f b n = sum_over (λ o. cond (f o) 1 0) b n

-- ---- the best open opposite order that an order meets

-- the better for o of order c, found so far (0 for none), and order k
unfoldable pub choose : Book → Order → ℕ → ℕ → ℕ
choose b o c k = cond (faces o (at b k) && (eqb c 0 || better (at b k) (at b c))) k c

-- of the first n orders the best open opposite one that o meets; 0 if it meets none
unfoldable pub best : Book → Order → ℕ → ℕ
best b o zero = 0
best b o (suc n) = choose b o (best b o n) (suc n)

-- the order that w, the order in work, is matched with next; 0 if it has nothing open or meets none
unfoldable pub partner : Book → ℕ → ℕ
partner b w = cond (is_open (at b w)) (best b (at b w) (length b)) 0

-- ---- what a step comes to

-- what the mode does to the newest (the order in work) and the oldest (the resting one), by what is open of each
unfoldable pub prevention : ℕ → ℕ → ℕ → Prevention
prevention mode newest oldest =
    cond (eqb mode 1) (CancelNewest newest) (cond (eqb mode 2) (CancelOldest oldest) (Decrement newest oldest))

-- what becomes of the order in work, o, that is matched with r: prevention, where both are of one owner; otherwise a trade of
-- as much as both have open, at the level of r
unfoldable pub meeting : Order → Order → ℕ → Outcome
meeting o r mode =
    cond (same_owner o r) (Prevented (prevention mode (open_of o) (open_of r)))
    (Trade (min (open_of o) (open_of r)) r.level)

-- what becomes of one that is matched with none: what is left of an immediate order expires, any other order rests
unfoldable pub ending : Order → Outcome
ending o = cond (is_immediate o && is_open o) (Expires (open_of o)) Rests

-- what the next step of w comes to, by the mode of each MPID; missed tells that w does not reach its minimum: what is open of it
-- is then killed, and it is matched with nobody
unfoldable pub outcome : (ℕ → ℕ) → Bool → Book → ℕ → Outcome
outcome modes missed b w =
    let o = at b w in
    cond (missed && is_open o) (Kills (open_of o))
    (cond (eqb (partner b w) 0) (ending o) (meeting o (at b (partner b w)) (modes o.mpid)))

-- ---- events, in the order of their reports

-- of a prevention between w, in work, and r, resting: a decrement cancels the smaller and then lowers the larger; equal ones
-- are both canceled, the resting one first
unfoldable pub preventing : ℕ → ℕ → Prevention → List Event
preventing w r (CancelNewest q) = Canceled w q ∷ []
preventing w r (CancelOldest q) = Canceled r q ∷ []
preventing w r (Decrement newest oldest) =
    cond (eqb newest oldest) (Canceled r oldest ∷ Canceled w newest ∷ [])
    (cond (ltb newest oldest) (Canceled w newest ∷ Decremented r newest ∷ [])
    (Canceled r oldest ∷ Decremented w oldest ∷ []))

-- of any outcome: a trade is reported of the resting order and then of the one in work
unfoldable pub causes : ℕ → ℕ → Outcome → List Event
causes w r (Trade q l) = Traded r w q l ∷ Traded w r q l ∷ []
causes w r (Prevented p) = preventing w r p
causes w r (Kills q) = Killed w q ∷ []
causes w r (Expires q) = Expired w q ∷ []
causes w r Rests = []

-- ---- the book after events

-- the number of an event's order
abbrev pub who : Event → ℕ
who (Accepted n o) = n
who (Replaced n l q p) = n
who (Withdrawn n q) = n
who (Canceled n q) = n
who (Decremented n q) = n
who (Traded n m q l) = n
who (Killed n q) = n
who (Expired n q) = n

-- who keeps its place: the place of an order after a requested replacement to a level and quantity. With the same yield and a
-- quantity not above OrderQty before it the order keeps the place it has; any other replacement takes the place given
unfoldable pub place_after : Order → ℕ → ℕ → ℕ → ℕ
place_after o level quantity given = cond (eqb level o.level && leb quantity o.qty) o.place given

-- an order with other amounts
abbrev pub amounts : Order → ℕ → ℕ → ℕ → ℕ → Order
amounts o e d c s =
    record {
      side = o.side;
      tif = o.tif;
      level = o.level;
      qty = o.qty;
      executed = e;
      decremented = d;
      canceled = c;
      sum = s;
      place = o.place;
      mpid = o.mpid;
      minqty = o.minqty;
    }

-- an order with other terms
abbrev pub terms : Order → ℕ → ℕ → ℕ → Order
terms o l q p =
    record {
      side = o.side;
      tif = o.tif;
      level = l;
      qty = q;
      executed = o.executed;
      decremented = o.decremented;
      canceled = o.canceled;
      sum = o.sum;
      place = p;
      mpid = o.mpid;
      minqty = o.minqty;
    }

-- an event's order afterwards
unfoldable pub change : Event → Order → Order
change (Accepted n x) o = x
change (Replaced n l q p) o = terms o l q (place_after o l q p)
change (Withdrawn n q) o = amounts o o.executed o.decremented (o.canceled + q) o.sum
change (Canceled n q) o = amounts o o.executed o.decremented (o.canceled + q) o.sum
change (Decremented n q) o = amounts o o.executed (o.decremented + q) o.canceled o.sum
change (Traded n m q l) o = amounts o (o.executed + q) o.decremented o.canceled (o.sum + q * l)
change (Killed n q) o = amounts o o.executed o.decremented (o.canceled + q) o.sum
change (Expired n q) o = amounts o o.executed o.decremented (o.canceled + q) o.sum

-- the book after an event, and after events one by one
unfoldable pub after : Book → Event → Book
after b e = put b (who e) (change e (at b (who e)))

unfoldable pub play : Book → List Event → Book
play b [] = b
play b (e ∷ es) = play (after b e) es

-- ---- one step, and runs of steps

-- the events of the next step of w, and the book after it
unfoldable pub happens : (ℕ → ℕ) → Bool → Book → ℕ → List Event
happens modes missed b w = causes w (partner b w) (outcome modes missed b w)

abbrev pub book_after : (ℕ → ℕ) → Bool → Book → ℕ → Book
book_after modes missed b w = play b (happens modes missed b w)

-- who is in work after it: w as long as it was matched with somebody; a step that kills it or matches it with none ends the work
unfoldable pub work_after : Bool → Book → ℕ → ℕ
work_after missed b w = cond (missed || eqb (partner b w) 0) 0 w

-- what a run comes to: the book, the order in work (0 for none), all events in turn, and the steps taken
pub record Ran : Type 0 where
  pub book : Book
  pub work : ℕ
  pub events : List Event
  pub steps : ℕ

-- steps of w until nothing is in work or the budget is spent; missed is asked for by the first step alone
unfoldable pub run : (ℕ → ℕ) → Bool → ℕ → Book → ℕ → Ran
run modes missed zero b w = record { book = b; work = w; events = []; steps = 0 }
run modes missed (suc n) b zero = record { book = b; work = 0; events = []; steps = 0 }
run modes missed (suc n) b (suc k) =
    let w = suc k in
    let rest = run modes false n (book_after modes missed b w) (work_after missed b w) in
    record { book = rest.book; work = rest.work; events = happens modes missed b w ++ rest.events; steps = suc rest.steps }

-- ---- the decision: an order that would not reach its minimum is not matched

-- the quantity that the matching steps would trade: what w has executed when they have run to their end, without regard to any
-- minimum, less what it had executed before
unfoldable pub would_trade : (ℕ → ℕ) → Book → ℕ → ℕ
would_trade modes b w = (at (run modes false (length b + 1) b w).book w).executed - (at b w).executed

-- whether w misses its minimum, where it is not decided yet; after the decision the minimum is not looked at
unfoldable pub misses : (ℕ → ℕ) → ℕ → Book → ℕ → Bool
misses modes decided b w = eqb decided 0 && ltb (would_trade modes b w) (minimum_of (at b w))

-- the decision as it is noted after a step of w: an order with a minimum is decided, any other has nothing to decide
unfoldable pub decided_after : Book → ℕ → ℕ
decided_after b w = cond (ltb 0 (minimum_of (at b w))) 1 0

-- ---- how many orders a message can still meet, and how many reports it can still cause

-- open opposite orders that w meets
unfoldable pub met_by : Book → ℕ → ℕ
met_by b w = count_of (faces (at b w)) b (length b)

-- r is open and opposite to o, met or not; and the number of those
unfoldable pub opposed : Order → Order → Bool
opposed o r = is_open r && opposite o r

unfoldable pub opposed_to : Book → ℕ → ℕ
opposed_to b w = count_of (opposed (at b w)) b (length b)

-- the reports that the work on w can still cause, at most: two for each open opposite order, and one at the end
unfoldable pub most_reports : Book → ℕ → ℕ
most_reports b w = cond (is_open (at b w)) (2 * opposed_to b w + 1) 0

-- the number of reports of a prevention, and of any outcome
abbrev pub prevented_reports : Prevention → ℕ
prevented_reports (CancelNewest q) = 1
prevented_reports (CancelOldest q) = 1
prevented_reports (Decrement newest oldest) = 2

abbrev pub reports : Outcome → ℕ
reports (Trade q l) = 2
reports (Prevented p) = prevented_reports p
reports (Kills q) = 1
reports (Expires q) = 1
reports Rests = 0
