-- What the inner functions of the reading of a body answer. Nothing here need be believed: `asked` does not cite it.
use Rattle.std.specs.Prelude.{Option, Some, None, Ok, Err, ℕ, ◌%◌, ◌≡◌, List, [], ◌∷◌, Bool, true, false, cond, not, ◌||◌, get_or, set, replicate, eqb}
use Rattle.octets.specs.Octets.{part_at}
use Rattle.decimal.specs.declared.Instrument.{Instrument}
use Rattle.decimal.specs.declared.Instrument.TheVariants.{Bonds, Equities}
use Rattle.fix.specs.Fields.{fields_of}
use Rattle.fix.specs.Garbled.{head_of, body_part}
use Rattle.fix.specs.Steps.{Held}
use Rattle.fix.specs.declared.frame.Part.{Part}
use Rattle.fix.specs.declared.frame.Head.{Head}
use Rattle.request.specs.declared.Kind.{Kind}
use Rattle.request.specs.declared.Kind.TheVariants.{NewOrder, Replacement, Cancel, Unknown}
use Rattle.request.specs.declared.Terms.{Terms}
use Rattle.request.specs.declared.Asked.{Asked}
use Rattle.request.specs.declared.Asked.TheVariants.{Enters, Replaces, Cancels}
use Rattle.request.specs.declared.Reason.{Reason}
use Rattle.request.specs.declared.Reason.TheVariants.{RequiredTagMissing, ValueIncorrect, InvalidMsgType}
use Rattle.request.specs.Session.{Verdict, needed, belongs, listed, first_failing, first_clashing}
use Rattle.request.specs.Asks.{said_in, length_in, refusal_of}

-- the length of a row: the tags that are listed in some market have different remainders by it
abbrev pub slots : ℕ
slots = 45

-- the place of a tag in a row
abbrev pub slot : ℕ → ℕ
slot t = t % slots

-- what a row has for a tag
abbrev pub row_at : List ℕ → ℕ → ℕ
row_at row t = get_or row (slot t) 0

-- the rows are empty
pub record Blank (says lens : List ℕ) : Type 0 where
  pub no_says : says ≡ replicate slots 0
  pub no_lens : lens ≡ replicate slots 0

-- so they are, and the row of the message holds the fields of the body
pub record Starts (b row : List ℕ) (from : ℕ) (says lens : List ℕ) : Type 0 where
  pub no_says : says ≡ replicate slots 0
  pub no_lens : lens ≡ replicate slots 0
  pub held : Held row from 7 (fields_of b)

-- the rows with a field more, where its tag has nothing there yet
unfoldable pub kept_says : List ℕ → List ℕ → ℕ → ℕ → List ℕ
kept_says says lens t n = cond (eqb (row_at lens t) 0) (set says (slot t) n) says

unfoldable pub kept_lens : List ℕ → ℕ → ℕ → List ℕ
kept_lens lens t len = cond (eqb (row_at lens t) 0) (set lens (slot t) len) lens

-- the market trades equities
abbrev pub is_equities : Instrument → Bool
is_equities Bonds = false
is_equities Equities = true

-- r tells whether a message of the type may have the tag, whatever the market trades
pub record InEach (k : Kind) (t : ℕ) (r : Bool) : Type 0 where
  pub told : (q : Instrument) → r ≡ belongs q k t

-- a tag that is listed in some market
unfoldable pub known : ℕ → Bool
known t = listed Bonds t || listed Equities t

-- the two rows hold, for each such tag, what its value says and how long it is
abbrev pub Gathered : Instrument → List ℕ → ℕ → List ℕ → List ℕ → Type 0
Gathered q b from says lens = (t : ℕ) → known t ≡ true → (row_at says t ≡ said_in q b from t) × (row_at lens t ≡ length_in b t)

-- the verdict on a body, with the rows that it leaves where it passes
pub record Walked (q : Instrument) (k : Kind) (b : List ℕ) (from : ℕ) (r : Verdict) (says lens : List ℕ) : Type 0 where
  pub verdict : r ≡ first_failing q k b from (fields_of b)
  pub rows : r ≡ Ok tt → Gathered q b from says lens

-- the head is that of the message, and the row holds the fields of its body
pub record Admitted (s : List ℕ) (h : Head) (row : List ℕ) : Type 0 where
  pub head : h ≡ head_of s
  pub held : Held row (body_part s).start 7 (fields_of (part_at s (body_part s).start (body_part s).len))

-- the first of the tags with no length in the row
unfoldable pub first_unset : List ℕ → List ℕ → Option ℕ
first_unset [] lens = None
first_unset (t ∷ ts) lens = cond (eqb (row_at lens t) 0) (Some t) (first_unset ts lens)

-- ---- what the rows say

-- a tag that stands in the message has a length: no value that passed is empty
unfoldable pub has_row : List ℕ → ℕ → Bool
has_row lens t = not (eqb (row_at lens t) 0)

abbrev pub text_row : List ℕ → List ℕ → ℕ → Part
text_row says lens t = record { start = row_at says t; len = row_at lens t }

unfoldable pub terms_row : List ℕ → Terms
terms_row says =
    record {
      quantity = row_at says 38;
      level = row_at says 44;
      side = row_at says 54;
      tif = row_at says 59;
      capacity = row_at says 47;
      class = row_at says 8060;
      mpid = row_at says 109;
      minqty = row_at says 110;
      cash = row_at says 544;
      margin = row_at says 8214;
    }

unfoldable pub request_row : Kind → Head → List ℕ → List ℕ → Asked
request_row NewOrder h says lens =
    Enters (record { time = h.time; id = text_row says lens 11; account = text_row says lens 1; code = text_row says lens 55; terms = terms_row says })
request_row Replacement h says lens =
    Replaces (record { time = h.time; id = text_row says lens 11; original = text_row says lens 41; code = text_row says lens 55; quantity = row_at says 38; level = row_at says 44; side = row_at says 54 })
request_row Cancel h says lens =
    Cancels (record { time = h.time; id = text_row says lens 11; original = text_row says lens 41; code = text_row says lens 55; side = row_at says 54 })
request_row Unknown h says lens = refusal_of h InvalidMsgType 35

-- what a verdict on a message of the type comes to: a session Reject, or the request
abbrev pub outcome_row : Kind → Head → List ℕ → List ℕ → Verdict → Asked
outcome_row k h says lens (Err f) = refusal_of h f.reason f.tag
outcome_row k h says lens (Ok x) = request_row k h says lens

-- where there is a tag, that it fails for the reason, else what follows
abbrev pub fault_or : Reason → Option ℕ → Verdict → Verdict
fault_or reason (Some t) rest = Err (record { reason = reason; tag = t })
fault_or reason None rest = rest

-- the verdict on fields that agree, and on fields of which each by itself passed
unfoldable pub completed_by : Instrument → Kind → List ℕ → Verdict
completed_by q k lens = fault_or RequiredTagMissing (first_unset (needed q k) lens) (Ok tt)

unfoldable pub agreed_by : Instrument → Kind → List ℕ → List ℕ → Verdict
agreed_by q k says lens = fault_or ValueIncorrect (first_clashing q (has_row lens) (row_at says)) (completed_by q k lens)
