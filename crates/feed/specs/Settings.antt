-- How a feed is set up (document 02, T-01 and T-08; source documents 000 and 003, 3, 4.2 and 5.1): which reports it copies, and which identifiers 109 shows. Both
-- are numbers: subscription 1 reconciliation, 2 full; shows 1 the order entry port, 2 the trade group, 3 both. Assumes nothing.
use Rattle.std.specs.Prelude.{ℕ, Bool, true, false, cond, not, ◌&&◌, ◌||◌, List, ◌∷◌, ◌++◌, eqb, leb, length}
use Rattle.octets.specs.Characters.{byte}
use Rattle.decimal.specs.declared.Instrument.{Instrument}
use Rattle.report.specs.declared.Kind.{Kind}
use Rattle.report.specs.declared.Kind.TheVariants.{Accepted, Replaced, Canceled, Trade, Rejected, CancelReject, SessionReject, Refused}
use Rattle.report.specs.Shapes.{all_from}
use Rattle.feed.specs.Rows.{longest}

-- the text of 109: the port's identifier, the group's, or both with a hyphen between
unfoldable pub client_of : ℕ → List ℕ → List ℕ → List ℕ
client_of shows port group = cond (eqb shows 1) port (cond (eqb shows 2) group (port ++ (byte "-" ∷ group)))

-- an identifier: some characters, each from 21 to 7E hex
unfoldable pub is_identifier : List ℕ → Bool
is_identifier v = not (eqb (length v) 0) && all_from 0x21 v

-- those that 109 shows are identifiers; one that it does not show is not looked at
unfoldable pub are_identifiers : ℕ → List ℕ → List ℕ → Bool
are_identifiers shows port group =
    cond (eqb shows 1) (is_identifier port)
    (cond (eqb shows 2) (is_identifier group)
    (cond (eqb shows 3) (is_identifier port && is_identifier group) false))

-- the settings mean something, and 109 is not longer than it may be
unfoldable pub is_setting : Instrument → ℕ → ℕ → List ℕ → List ℕ → Bool
is_setting q subscription shows port group =
    (eqb subscription 1 || eqb subscription 2) && are_identifiers shows port group && leb (length (client_of shows port group)) (longest q)

-- reconciliation copies Trade alone, full Accepted, Replaced, Canceled and Trade; the other kinds are never copied
abbrev pub copied_by : ℕ → Kind → Bool
copied_by subscription Accepted = eqb subscription 2
copied_by subscription Replaced = eqb subscription 2
copied_by subscription Canceled = eqb subscription 2
copied_by subscription Trade = true
copied_by subscription Rejected = false
copied_by subscription CancelReject = false
copied_by subscription SessionReject = false
copied_by subscription Refused = false
