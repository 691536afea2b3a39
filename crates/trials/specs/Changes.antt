-- Reports of a market of bonds or of equities with one byte changed, and how many of them are refused (document 01, Read and refusal
-- 11; document 02, T-08). Assumes nothing.
use Rattle.std.specs.Prelude.{ℕ, zero, suc, ◌+◌, ◌-◌, ◌≤◌, Bool, true, false, cond, List, ◌++◌, eqb, length, take, get_or, set}
use Rattle.decimal.specs.declared.Instrument.{Instrument}
use Rattle.report.specs.declared.Kind.{Kind}
use Rattle.report.specs.declared.Kind.TheVariants.{Accepted, Replaced, Canceled, Trade, Rejected, CancelReject, SessionReject, Refused}
use Rattle.report.specs.Frame.{check_sum, trailer}
use Rattle.report.specs.Reports.{read_of}

-- the kind of what is none
abbrev pub is_refused : Kind → Bool
is_refused Accepted = false
is_refused Replaced = false
is_refused Canceled = false
is_refused Trade = false
is_refused Rejected = false
is_refused CancelReject = false
is_refused SessionReject = false
is_refused Refused = true

-- 1 if the bytes are refused, else 0
unfoldable pub refusal : Instrument → List ℕ → ℕ
refusal q s = cond (is_refused (read_of q s).kind) 1 0

-- the bytes with a true 10, which takes the last seven
unfoldable pub mended : List ℕ → List ℕ
mended s = take (length s - 7) s ++ trailer (check_sum (take (length s - 7) s))

-- the bytes with b at place i, 10 made true again where that is asked
unfoldable pub changed : Bool → List ℕ → ℕ → ℕ → List ℕ
changed again s i b = cond again (mended (set s i b)) (set s i b)

-- what can be a report by its length
pub record Sized (s : List ℕ) : Type 0 where
  pub least : 7 ≤ length s
  pub most : length s ≤ 512

-- 1 if the value b, other than the byte at place i, makes it refused, else 0
unfoldable pub refused_to : Instrument → Bool → List ℕ → ℕ → ℕ → ℕ
refused_to q again s i b = cond (eqb b (get_or s i 0)) 0 (refusal q (changed again s i b))

-- how many of the values below n do
unfoldable pub refused_at : Instrument → Bool → List ℕ → ℕ → ℕ → ℕ
refused_at q again s i zero = 0
refused_at q again s i (suc n) = refused_at q again s i n + refused_to q again s i n

-- how many such changes at the first n places
unfoldable pub refused_in : Instrument → Bool → List ℕ → ℕ → ℕ
refused_in q again s zero = 0
refused_in q again s (suc n) = refused_in q again s n + refused_at q again s n 256
