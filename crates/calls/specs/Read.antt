-- What Read answers, as the paper's numbers (document 01, "The table and its calls", Read and refusal 11); its kind and fields are
-- `read_of` of the crate report. It changes nothing. Assumes nothing.
use Rattle.std.specs.Prelude.{ℕ}
use Rattle.report.specs.declared.Kind.{Kind}
use Rattle.report.specs.declared.Kind.TheVariants.{Accepted, Replaced, Canceled, Trade, Rejected, CancelReject, SessionReject, Refused}

-- the paper's number
abbrev pub read_number : Kind → ℕ
read_number Accepted = 0
read_number Replaced = 0
read_number Canceled = 0
read_number Trade = 0
read_number Rejected = 0
read_number CancelReject = 0
read_number SessionReject = 0
read_number Refused = 11

-- the kind as a number, 0 for what is none
abbrev pub kind_number : Kind → ℕ
kind_number Accepted = 1
kind_number Replaced = 2
kind_number Canceled = 3
kind_number Trade = 4
kind_number Rejected = 5
kind_number CancelReject = 6
kind_number SessionReject = 7
kind_number Refused = 0
