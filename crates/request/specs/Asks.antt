-- What a message asks of the market that has this venue id and this port id: it is garbled, or it gets a session Reject, or it
-- asks for a new order, a replacement or a cancel. From "Reading a message" of document 01 and T-05 and T-08 of document 02; what the
-- market trades is q. A text is given by where it stands in the message, a number as a number. Assumes nothing: every list of bytes
-- has one answer.
use Rattle.std.specs.Prelude.{Option, Some, None, Ok, Err, ℕ, ◌+◌, List, Bool, true, false, cond, not}
use Rattle.octets.specs.Octets.{part_at, same_bytes}
use Rattle.decimal.specs.declared.Instrument.{Instrument}
use Rattle.fix.specs.declared.frame.Part.{Part}
use Rattle.fix.specs.declared.frame.Head.{Head}
use Rattle.fix.specs.Fields.{fields_of, find_tag, has_tag, value_of}
use Rattle.fix.specs.Garbled.{garbled_message, head_of, body_part}
use Rattle.request.specs.declared.Kind.{Kind}
use Rattle.request.specs.declared.Kind.TheVariants.{NewOrder, Replacement, Cancel, Unknown}
use Rattle.request.specs.declared.Reason.{Reason}
use Rattle.request.specs.declared.Reason.TheVariants.{RequiredTagMissing, ValueIncorrect, CompIdProblem, InvalidMsgType}
use Rattle.request.specs.declared.Terms.{Terms}
use Rattle.request.specs.declared.Asked.{Asked}
use Rattle.request.specs.declared.Asked.TheVariants.{Garbled, Refused, Enters, Replaces, Cancels}
use Rattle.request.specs.Session.{number_of, Judged, Verdict, kind_of, needed, shape_of, look_as, first_failing, first_clashing, first_missing}

-- ---- the body: the part of the message between field 56 and field 10

unfoldable pub body_of : List ℕ → List ℕ
body_of s = part_at s (body_part s).start (body_part s).len

-- ---- what the value of a tag says in a body b, which stands at place `from` of the message; 0 where it has none

abbrev pub number_said : Judged → ℕ
number_said (Ok n) = n
number_said (Err r) = 0

abbrev pub said_found : Instrument → List ℕ → ℕ → ℕ → Option Part → ℕ
said_found q b from t (Some p) = number_said (look_as (from + p.start) (shape_of q t) (part_at b p.start p.len))
said_found q b from t None = 0

abbrev pub length_found : Option Part → ℕ
length_found (Some p) = p.len
length_found None = 0

unfoldable pub said_in : Instrument → List ℕ → ℕ → ℕ → ℕ
said_in q b from t = said_found q b from t (find_tag t (fields_of b))

unfoldable pub length_in : List ℕ → ℕ → ℕ
length_in b t = length_found (find_tag t (fields_of b))

-- some field of the body has the tag
unfoldable pub has_in : List ℕ → ℕ → Bool
has_in b t = has_tag t (fields_of b)

-- where a text stands
abbrev pub text_in : Instrument → List ℕ → ℕ → ℕ → Part
text_in q b from t = record { start = said_in q b from t; len = length_in b t }

-- ---- a session Reject

-- a Reject of the message for a reason (373) and a tag (371)
unfoldable pub refusal_of : Head → Reason → ℕ → Asked
refusal_of h reason tag =
    Refused (record { reason = number_of reason; tag = tag; number = h.number; kind = h.kind; time = h.time })

-- ---- requests

unfoldable pub terms_in : Instrument → List ℕ → ℕ → Terms
terms_in q b from =
    record {
      quantity = said_in q b from 38;
      level = said_in q b from 44;
      side = said_in q b from 54;
      tif = said_in q b from 59;
      capacity = said_in q b from 47;
      class = said_in q b from 8060;
      mpid = said_in q b from 109;
      minqty = said_in q b from 110;
      cash = said_in q b from 544;
      margin = said_in q b from 8214;
    }

-- what a complete message of the type asks
unfoldable pub request_in : Instrument → Kind → Head → List ℕ → ℕ → Asked
request_in q NewOrder h b from =
    Enters (record { time = h.time; id = text_in q b from 11; account = text_in q b from 1; code = text_in q b from 55; terms = terms_in q b from })
request_in q Replacement h b from =
    Replaces (record { time = h.time; id = text_in q b from 11; original = text_in q b from 41; code = text_in q b from 55; quantity = said_in q b from 38; level = said_in q b from 44; side = said_in q b from 54 })
request_in q Cancel h b from =
    Cancels (record { time = h.time; id = text_in q b from 11; original = text_in q b from 41; code = text_in q b from 55; side = said_in q b from 54 })
request_in q Unknown h b from = refusal_of h InvalidMsgType 35

-- ---- from the left

-- where there is a tag, a Reject of the message for the reason and that tag, else what follows
abbrev pub refused_or : Head → Reason → Option ℕ → Asked → Asked
refused_or h reason (Some t) rest = refusal_of h reason t
refused_or h reason None rest = rest

-- the fields agree: the smallest needed tag that is missing, or the request
unfoldable pub completed : Instrument → Kind → Head → List ℕ → ℕ → Asked
completed q k h b from = refused_or h RequiredTagMissing (first_missing (needed q k) (fields_of b)) (request_in q k h b from)

-- each field by itself passed: the first that clashes with others, or what follows
unfoldable pub agreed : Instrument → Kind → Head → List ℕ → ℕ → Asked
agreed q k h b from = refused_or h ValueIncorrect (first_clashing q (has_in b) (said_in q b from)) (completed q k h b from)

abbrev pub after_body : Instrument → Kind → Head → List ℕ → ℕ → Verdict → Asked
after_body q k h b from (Err f) = refusal_of h f.reason f.tag
after_body q k h b from (Ok x) = agreed q k h b from

-- the type is known, and the ids are right: the body decides
unfoldable pub body_asked : Instrument → Kind → Head → List ℕ → ℕ → Asked
body_asked q k h b from = after_body q k h b from (first_failing q k b from (fields_of b))

-- 35 is not known: 11. 49 is not the port, or else 56 not the venue: 9. Then the body.
abbrev pub is_known : Kind → Bool
is_known NewOrder = true
is_known Replacement = true
is_known Cancel = true
is_known Unknown = false

unfoldable pub head_asked : Instrument → List ℕ → List ℕ → List ℕ → Asked
head_asked q venue port s =
    cond (not (is_known (kind_of (value_of s 35)))) (refusal_of (head_of s) InvalidMsgType 35)
    (cond (not (same_bytes (value_of s 49) port)) (refusal_of (head_of s) CompIdProblem 49)
    (cond (not (same_bytes (value_of s 56) venue)) (refusal_of (head_of s) CompIdProblem 56)
    (body_asked q (kind_of (value_of s 35)) (head_of s) (body_of s) (body_part s).start)))

-- what a message asks
unfoldable pub asked_of : Instrument → List ℕ → List ℕ → List ℕ → Asked
asked_of q venue port s = cond (garbled_message s) Garbled (head_asked q venue port s)

-- the number of a refusal that an answer is: 5 garbled, 6 a session Reject, 0 none so far
abbrev pub refusal_number : Asked → ℕ
refusal_number Garbled = 5
refusal_number (Refused r) = 6
refusal_number (Enters o) = 0
refusal_number (Replaces o) = 0
refusal_number (Cancels o) = 0
