-- What holds of the six calls together, for bonds as for equities: on a market each of them leaves a market that trades the same, so that a table that Open made and only the calls
-- have written is never refused as none; and two results that meet the contract of a call are the same, down to every lent byte.
use mathlib.Core.Path.{◌≡◌, sym, ◌∙◌}
use mathlib.Core.Bool.{true}
use mathlib.Core.List.{List}
use Prim.Native.Nat.{ℕ}
use lib.ListN.{length}
use Rattle.decimal.specs.declared.Instrument.{Instrument}
use Rattle.table.specs.Market.{is_market_of}
use Rattle.table.specs.Opened.{is_opening, opened}
use Rattle.table.proofs.Theorems.{opening_makes_a_market}
use Rattle.report.specs.declared.Reading.{Reading}
use Rattle.report.specs.Reports.{read_of}
use Rattle.std.specs.Prelude.{Result}
use Rattle.refusals.specs.declared.Refusal.{Refusal}
use Rattle.calls.specs.declared.Reply.{Reply}
use Rattle.calls.specs.declared.Progress.{Progress}
use Rattle.calls.specs.Told.{area_after}
use Rattle.calls.specs.Open.{open_answer}
use Rattle.calls.specs.Submit.{submitted}
use Rattle.calls.specs.Run.{ran}
use Rattle.intake.proofs.Theorems.{submit_keeps}
use Rattle.turns.proofs.Theorems.{run_keeps}
use Rattle.market.specs.Depth.{DepthAnswer, depth_answer}
use Rattle.market.specs.Top.{top_answer}
use Rattle.market.proofs.Tops.{top_is_depth}

-- ---- a market stays a market

pub open_makes : (q : Instrument) (t venue port code : List ℕ) (first : ℕ) (mpids modes : List ℕ) → is_opening q t venue port code first mpids modes ≡ true
    → is_market_of q (opened q t venue port code first mpids modes) ≡ true
open_makes = opening_makes_a_market

pub submit_leaves : (q : Instrument) (t message : List ℕ) (room : ℕ) → is_market_of q t ≡ true → is_market_of q (submitted q t message room).table ≡ true
submit_leaves = submit_keeps

pub run_leaves : (q : Instrument) (t : List ℕ) (room budget : ℕ) → is_market_of q t ≡ true → is_market_of q (ran q t room budget).table ≡ true
run_leaves = run_keeps

-- ---- on a market Top answers what Depth answers for k = 0, refusals and "no such level" included

pub top_tells_depth : (q : Instrument) (t : List ℕ) (side : ℕ) → is_market_of q t ≡ true → top_answer q t side ≡ depth_answer q t side 0
top_tells_depth = top_is_depth

-- ---- what a call may answer and leave, by its contract: the answer r, the table u and the report area b

pub record OpenGives (q : Instrument) (t venue port code : List ℕ) (first : ℕ) (mpids modes : List ℕ) (r : Result (Unit {0}) Refusal) (u : List ℕ) : Type 0 where
  pub answer : r ≡ open_answer q t venue port code first mpids modes
  pub table : u ≡ opened q t venue port code first mpids modes

pub record SubmitGives (q : Instrument) (t message area : List ℕ) (r : Result Reply Refusal) (u b : List ℕ) : Type 0 where
  pub answer : r ≡ (submitted q t message (length area)).answer
  pub table : u ≡ (submitted q t message (length area)).table
  pub reports : b ≡ area_after area (submitted q t message (length area)).reports

pub record RunGives (q : Instrument) (t area : List ℕ) (budget : ℕ) (r : Result Progress Refusal) (u b : List ℕ) : Type 0 where
  pub answer : r ≡ (ran q t (length area) budget).answer
  pub table : u ≡ (ran q t (length area) budget).table
  pub reports : b ≡ area_after area (ran q t (length area) budget).reports

-- ---- and nothing else

same : {A : Type 0} {x r s : A} → r ≡ x → s ≡ x → r ≡ s
same p q = p ∙ sym q

pub open_is_one : (q : Instrument) (t venue port code : List ℕ) (first : ℕ) (mpids modes : List ℕ) (r s : Result (Unit {0}) Refusal) (u v : List ℕ)
    → OpenGives q t venue port code first mpids modes r u → OpenGives q t venue port code first mpids modes s v → (r ≡ s) × (u ≡ v)
open_is_one q t venue port code first mpids modes r s u v a b = (same a.answer b.answer, same a.table b.table)

pub submit_is_one : (q : Instrument) (t message area : List ℕ) (r s : Result Reply Refusal) (u v b c : List ℕ)
    → SubmitGives q t message area r u b → SubmitGives q t message area s v c → (r ≡ s) × (u ≡ v) × (b ≡ c)
submit_is_one q t message area r s u v b c x y = (same x.answer y.answer, same x.table y.table, same x.reports y.reports)

pub run_is_one : (q : Instrument) (t area : List ℕ) (budget : ℕ) (r s : Result Progress Refusal) (u v b c : List ℕ)
    → RunGives q t area budget r u b → RunGives q t area budget s v c → (r ≡ s) × (u ≡ v) × (b ≡ c)
run_is_one q t area budget r s u v b c x y = (same x.answer y.answer, same x.table y.table, same x.reports y.reports)

pub depth_is_one : (q : Instrument) (t : List ℕ) (side k : ℕ) (r s : DepthAnswer) → r ≡ depth_answer q t side k → s ≡ depth_answer q t side k → r ≡ s
depth_is_one q t side k r s x y = same x y

pub top_is_one : (q : Instrument) (t : List ℕ) (side : ℕ) (r s : DepthAnswer) → r ≡ top_answer q t side → s ≡ top_answer q t side → r ≡ s
top_is_one q t side r s x y = same x y

pub read_is_one : (q : Instrument) (report : List ℕ) (r s : Reading) → r ≡ read_of q report → s ≡ read_of q report → r ≡ s
read_is_one q report r s x y = same x y
