-- A whole report as bytes: 8, 9, the body, 10; document 01, "The reports" and "Reading a message" (BodyLength, CheckSum).
-- The body is the bytes of all fields from 35 to the last before 10; version and CheckSum are those of a message. Assumes nothing.
use Rattle.std.specs.Prelude.{List, ◌++◌, ℕ, length}
use Rattle.decimal.specs.Writing.{decimal, places}
use Rattle.fix.specs.Garbled.{fix42}
unfoldable pub use Rattle.fix.specs.Garbled.{check_sum}
use Rattle.report.specs.Fields.{written}

-- FIX.4.2
unfoldable pub version : List ℕ
version = fix42

-- 8, 9 and the body
unfoldable pub front : List ℕ → List ℕ
front body = written 8 version ++ written 9 (decimal (length body)) ++ body

-- 10
unfoldable pub trailer : ℕ → List ℕ
trailer sum = written 10 (places 3 sum)

-- the whole
unfoldable pub report_bytes : List ℕ → List ℕ
report_bytes body = front body ++ trailer (check_sum (front body))
