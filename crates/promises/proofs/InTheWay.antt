-- A history in which two own orders stand in the way, so that what is said of them is not said of nothing: A, whose mode is 2, sells 300 at
-- 0.101, of which 100 are bought; then 100, 200 and 500 are sold at 0.100, the 200 by A; and A buys 700 at 0.100. The same with A's two
-- sells canceled first; and the same under modes 1 and 3, where it makes a difference. The definitions are run on all bytes.
use mathlib.Core.Path.{◌≡◌, refl}
use mathlib.Core.List.{List, [], ◌∷◌, map}
use Prim.Native.Nat.{ℕ}
use Rattle.octets.specs.Characters.{bytes, message}
use Rattle.decimal.specs.declared.Instrument.TheVariants.{Bonds}
use Rattle.table.specs.Changes.{taken}
use Rattle.table.specs.Orders.{withdrawn}
use Rattle.table.specs.Opened.{opened}
use Rattle.calls.specs.Checks.{change_stands, cancel_stands}
use Rattle.calls.specs.Submit.{cancel_taken}
use Rattle.report.specs.Reports.{read_of}
use Rattle.promises.specs.History.{Call, Submit, Run, table_after, reports_after}
use Rattle.promises.specs.Tallies.{account_of}
use Rattle.promises.specs.Whole.{open_by}
use Rattle.promises.specs.OwnOrders.{text_in, is_resting, Fill, fills_in, first_id}
use Rattle.promises.proofs.Lived.{before, computes, tells}

-- what cancels and trades that are told compute with besides
finds : ℕ
unfolding taken withdrawn change_stands cancel_stands cancel_taken text_in is_resting fills_in
finds = 0

-- A is MPID 10 and has this mode
abbrev pub opens : ℕ → List ℕ
opens mode = opened Bonds before (bytes "V") (bytes "P") (bytes "350") 101 (10 ∷ 11 ∷ 12 ∷ 13 ∷ []) (mode ∷ 1 ∷ 1 ∷ 1 ∷ [])

abbrev pub own_first_turn : List ℕ
own_first_turn = message "8=FIX.4.2|9=129|35=D|34=1|49=P|52=20260105-09:00:00|56=V|11=a|21=1|38=300|40=2|44=0.101|47=A|54=2|55=350|59=0|60=20260105-09:00:00|8060=1|109=10|10=183|"

abbrev pub bought : List ℕ
bought = message "8=FIX.4.2|9=129|35=D|34=2|49=P|52=20260105-09:00:00|56=V|11=b|21=1|38=100|40=2|44=0.101|47=A|54=1|55=350|59=0|60=20260105-09:00:00|8060=1|109=12|10=184|"

abbrev pub other_before : List ℕ
other_before = message "8=FIX.4.2|9=129|35=D|34=3|49=P|52=20260105-09:00:00|56=V|11=c|21=1|38=100|40=2|44=0.100|47=A|54=2|55=350|59=0|60=20260105-09:00:00|8060=1|109=11|10=185|"

abbrev pub own_second : List ℕ
own_second = message "8=FIX.4.2|9=129|35=D|34=4|49=P|52=20260105-09:00:00|56=V|11=d|21=1|38=200|40=2|44=0.100|47=A|54=2|55=350|59=0|60=20260105-09:00:00|8060=1|109=10|10=187|"

abbrev pub other_behind : List ℕ
other_behind = message "8=FIX.4.2|9=129|35=D|34=5|49=P|52=20260105-09:00:00|56=V|11=e|21=1|38=500|40=2|44=0.100|47=A|54=2|55=350|59=0|60=20260105-09:00:00|8060=1|109=13|10=195|"

abbrev pub cancel_first : List ℕ
cancel_first = message "8=FIX.4.2|9=84|35=F|34=6|49=P|52=20260105-09:00:00|56=V|11=f|41=a|54=2|55=350|60=20260105-09:00:00|10=227|"

abbrev pub cancel_second : List ℕ
cancel_second = message "8=FIX.4.2|9=84|35=F|34=7|49=P|52=20260105-09:00:00|56=V|11=g|41=d|54=2|55=350|60=20260105-09:00:00|10=232|"

abbrev pub buys : List ℕ
buys = message "8=FIX.4.2|9=129|35=D|34=8|49=P|52=20260105-09:00:00|56=V|11=h|21=1|38=700|40=2|44=0.100|47=A|54=1|55=350|59=0|60=20260105-09:00:00|8060=1|109=10|10=199|"

-- the sells, each of which rests; the cancels; and the buy
abbrev pub stand : List Call
stand =
    Submit own_first_turn 1024 ∷ Run 1024 1 ∷ Submit bought 1024 ∷ Run 2048 2 ∷ Submit other_before 1024 ∷ Run 1024 1 ∷ Submit own_second 1024 ∷ Run 1024 1
    ∷ Submit other_behind 1024 ∷ Run 1024 1 ∷ []

abbrev pub step_aside : List Call
step_aside = Submit cancel_first 1024 ∷ Submit cancel_second 1024 ∷ []

abbrev pub goes : List Call
goes = Submit buys 1024 ∷ Run 5120 5 ∷ []

-- the table before the buy, as it stands and with the cancels first
abbrev pub standing : ℕ → List ℕ
standing mode = table_after Bonds (opens mode) stand

abbrev pub cleared : ℕ → List ℕ
cleared mode = table_after Bonds (standing mode) step_aside

-- the trades of the buy by ClOrdID, and what of it is left and was canceled
pub record Shown : Type 0 where
  pub fills : List Fill
  pub left : ℕ
  pub canceled : ℕ

abbrev pub shown : List (List ℕ) → Shown
shown rs =
    let a = account_of (first_id Bonds rs) (map (read_of Bonds) rs) in
    record { fills = fills_in Bonds rs; left = a.left; canceled = a.cancels }

abbrev fill : List ℕ → ℕ → Fill
fill id q = record { cl_ord_id = id; quantity = q; price = bytes "0.100" }

-- A's two sells are in the way, one of them partly executed
pub in_the_way : open_by (standing 2) 101 ∷ open_by (standing 2) 106 ∷ [] ≡ 200 ∷ 200 ∷ []
unfolding computes tells
in_the_way = refl

-- with mode 2 the buy trades 100 and 500 and keeps 100, as if A had canceled both first
pub alone : shown (reports_after Bonds (standing 2) goes) ≡ record { fills = fill (bytes "c") 100 ∷ fill (bytes "e") 500 ∷ []; left = 100; canceled = 0 }
unfolding computes tells finds
alone = refl

pub canceled_first : shown (reports_after Bonds (cleared 2) goes) ≡ record { fills = fill (bytes "c") 100 ∷ fill (bytes "e") 500 ∷ []; left = 100; canceled = 0 }
unfolding computes tells finds
canceled_first = refl

-- with mode 1 it is canceled at the first of A's sells; with mode 3 both lessen it: so there own orders cost fills
pub newest_costs : shown (reports_after Bonds (standing 1) goes) ≡ record { fills = []; left = 0; canceled = 700 }
unfolding computes tells finds
newest_costs = refl

pub decrement_costs : shown (reports_after Bonds (standing 3) goes) ≡ record { fills = fill (bytes "c") 100 ∷ fill (bytes "e") 200 ∷ []; left = 0; canceled = 0 }
unfolding computes tells finds
decrement_costs = refl
