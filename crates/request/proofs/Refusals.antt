-- What a session Reject says, whatever the message: its reason (373) is one of eight, its tag (371) is one that a field can have,
-- and the message's type, number and time can be repeated.
use Rattle.std.specs.Prelude.{Option, Some, None, Ok, Err}
use Prim.Native.Nat.{ℕ, ◌≤◌, ◌<◌}
use mathlib.Core.Path.{◌≡◌, refl, subst}
use mathlib.Core.List.{List, [], ◌∷◌}
use mathlib.Core.Bool.{Bool, true, false, cond, not, ◌&&◌, or-true}
use native.Mathlib.Omega.{arith}
use lib.Dec.{leb}
use borrow.Author.Tests.{eq-eqb, leb-true}
use Rattle.octets.specs.Octets.{same_bytes}
use Rattle.octets.proofs.Bools.{both_l, both_r, not_both}
use Rattle.decimal.specs.declared.Instrument.{Instrument}
use Rattle.decimal.specs.declared.Instrument.TheVariants.{Bonds, Equities}
use Rattle.fix.specs.Fields.{Fld, fields_of, has_tag, value_of}
use Rattle.fix.specs.Garbled.{garbled_message, head_of, body_part}
use Rattle.fix.proofs.Values.{Spelt, Timed, clear_head}
use Rattle.fix.proofs.Bodies.{body_unbroken, fields_below}
use Rattle.request.specs.declared.Kind.{Kind}
use Rattle.request.specs.declared.Kind.TheVariants.{NewOrder, Replacement, Cancel, Unknown}
use Rattle.request.specs.declared.Reason.{Reason}
use Rattle.request.specs.declared.Reason.TheVariants.{RequiredTagMissing, TagNotDefined, UndefinedTag, TagWithoutValue, ValueIncorrect, IncorrectDataFormat, CompIdProblem, InvalidMsgType}
use Rattle.request.specs.declared.Refusal.{Refusal}
use Rattle.request.specs.declared.Asked.{Asked}
use Rattle.request.specs.declared.Asked.TheVariants.{Garbled, Refused, Enters, Replaces, Cancels}
use Rattle.request.specs.Session.{number_of, Judged, Verdict, kind_of, needed, one_of, judge, or_else, first_failing, minimum_clashes, margin_clashes, first_clashing, first_missing}
use Rattle.request.specs.Asks.{body_of, request_in, refusal_of, refused_or, completed, agreed, after_body, body_asked, is_known, head_asked, asked_of}
use Rattle.request.proofs.Keys.{each_is}

-- the reasons for which a message is rejected
abbrev pub reasons : List ℕ
reasons = 1 ∷ 2 ∷ 3 ∷ 4 ∷ 5 ∷ 6 ∷ 9 ∷ 11 ∷ []

pub record RefusalSpelt (s : List ℕ) (r : Refusal) : Type 0 where
  pub reason_is : one_of r.reason reasons ≡ true
  pub tag_low : 0 < r.tag
  pub tag_high : r.tag ≤ 9999
  pub number_low : 0 < r.number
  pub number_high : r.number < 1000000000
  pub kind : Spelt s r.kind 1 2 32 126
  pub time : Timed s r.time

-- what holds of both answers of a test
by_cond : {A : Type 0} (P : A → Type 0) (t : Bool) (x y : A) → (t ≡ true → P x) → (t ≡ false → P y) → P (cond t x y)
by_cond P true x y f g = f refl
by_cond P false x y f g = g refl

-- the number of each is one of them
reason_in : (r : Reason) → one_of (number_of r) reasons ≡ true
unfolding one_of
reason_in RequiredTagMissing = refl
reason_in TagNotDefined = refl
reason_in UndefinedTag = refl
reason_in TagWithoutValue = refl
reason_in ValueIncorrect = refl
reason_in IncorrectDataFormat = refl
reason_in CompIdProblem = refl
reason_in InvalidMsgType = refl

-- the first field that fails is one of the fields
abbrev Named : List Fld → Verdict → Type 0
Named fs (Ok x) = Unit {0}
Named fs (Err f) = has_tag f.tag fs ≡ true

named_more : (f : Fld) (fs : List Fld) (v : Verdict) → Named fs v → Named (f ∷ fs) v
unfolding has_tag
named_more f fs (Ok x) w = tt
named_more f fs (Err e) w = rw (w, or-true)

named_first : (f : Fld) (fs : List Fld) (x : Judged) (v : Verdict) → Named (f ∷ fs) v → Named (f ∷ fs) (or_else x f.tag v)
unfolding has_tag
named_first f fs (Ok n) v w = w
named_first f fs (Err r) v w = rw (eq-eqb f.tag f.tag refl)

failing_named : (q : Instrument) (k : Kind) (b : List ℕ) (from : ℕ) (fs : List Fld) → Named fs (first_failing q k b from fs)
unfolding first_failing
failing_named q k b from [] = tt
failing_named q k b from (f ∷ fs) =
    named_first f fs (judge q k b from f) (first_failing q k b from fs) (named_more f fs (first_failing q k b from fs) (failing_named q k b from fs))

-- a tag that a field can have, or none
abbrev Below : Option ℕ → Type 0
Below None = Unit {0}
Below (Some t) = (0 < t) × (t ≤ 9999)

-- ---- a tag that clashes is one of those that are asked
clashing_below : (q : Instrument) (has : ℕ → Bool) (says : ℕ → ℕ) → Below (first_clashing q has says)
unfolding first_clashing
clashing_below q has says =
    by_cond Below (minimum_clashes has says) (Some 110) _ (λ y. (omega arith, omega arith))
    (λ n. by_cond Below (margin_clashes q has says) (Some 8214) None (λ y. (omega arith, omega arith)) (λ n. tt))

-- ---- a tag that is missing is one of those that are needed
abbrev in_range : ℕ → Bool
in_range t = leb 1 t && leb t 9999

missing_below : (ts : List ℕ) (fs : List Fld) → each_is in_range ts ≡ true → Below (first_missing ts fs)
unfolding each_is first_missing
missing_below [] fs e = tt
missing_below (t ∷ ts) fs e =
    let r = both_l (in_range t) (each_is in_range ts) e in
    by_cond Below (has_tag t fs) (first_missing ts fs) (Some t)
    (λ y. missing_below ts fs (both_r (in_range t) (each_is in_range ts) e))
    (λ n. (leb-true 1 t (both_l (leb 1 t) (leb t 9999) r), leb-true t 9999 (both_r (leb 1 t) (leb t 9999) r)))

needed_below : (q : Instrument) (k : Kind) → each_is in_range (needed q k) ≡ true
unfolding each_is
needed_below Bonds NewOrder = refl
needed_below Equities NewOrder = refl
needed_below q Replacement = refl
needed_below q Cancel = refl
needed_below q Unknown = refl

-- ---- from the left
abbrev Right : List ℕ → Asked → Type 0
Right s (Refused r) = RefusalSpelt s r
Right s Garbled = Unit {0}
Right s (Enters o) = Unit {0}
Right s (Replaces o) = Unit {0}
Right s (Cancels o) = Unit {0}

module _ (q : Instrument) (s : List ℕ) (g : garbled_message s ≡ false) where
  refusal_right : (reason : Reason) (tag : ℕ) → 0 < tag → tag ≤ 9999 → Right s (refusal_of (head_of s) reason tag)
  unfolding refusal_of
  refusal_right reason tag b c =
      let h = clear_head s g in
      record { reason_is = reason_in reason; tag_low = b; tag_high = c; number_low = h.number_low; number_high = h.number_high; kind = h.kind; time = h.time }

  request_right : (k : Kind) → Right s (request_in q k (head_of s) (body_of s) (body_part s).start)
  unfolding request_in
  request_right NewOrder = tt
  request_right Replacement = tt
  request_right Cancel = tt
  request_right Unknown = refusal_right InvalidMsgType 35 (omega arith) (omega arith)

  tag_right : (reason : Reason) (t : Option ℕ) (x : Asked) → Below t → Right s x → Right s (refused_or (head_of s) reason t x)
  tag_right reason (Some t) x b w = refusal_right reason t b.0 b.1
  tag_right reason None x b w = w

  completed_right : (k : Kind) → Right s (completed q k (head_of s) (body_of s) (body_part s).start)
  unfolding completed
  completed_right k = tag_right RequiredTagMissing _ _ (missing_below (needed q k) (fields_of (body_of s)) (needed_below q k)) (request_right k)

  agreed_right : (k : Kind) → Right s (agreed q k (head_of s) (body_of s) (body_part s).start)
  unfolding agreed
  agreed_right k = tag_right ValueIncorrect _ _ (clashing_below q _ _) (completed_right k)

  unbroken : has_tag 0 (fields_of (body_of s)) ≡ false
  unfolding body_of
  unbroken = body_unbroken s g

  after_right : (k : Kind) (v : Verdict) → Named (fields_of (body_of s)) v → Right s (after_body q k (head_of s) (body_of s) (body_part s).start v)
  after_right k (Ok x) w = agreed_right k
  after_right k (Err f) w =
      let some : f.tag ≡ 0 → ⊥ = λ e. not_both w (rw e unbroken) in
      refusal_right f.reason f.tag (omega arith) (omega (arith, fields_below (body_of s) f.tag w))

  body_right : (k : Kind) → Right s (body_asked q k (head_of s) (body_of s) (body_part s).start)
  unfolding body_asked
  body_right k =
      let fs = fields_of (body_of s) in
      after_right k (first_failing q k (body_of s) (body_part s).start fs) (failing_named q k (body_of s) (body_part s).start fs)

  head_right : (venue port : List ℕ) → Right s (head_asked q venue port s)
  unfolding head_asked
  head_right venue port =
      by_cond (Right s) (not (is_known (kind_of (value_of s 35)))) _ _ (λ y. refusal_right InvalidMsgType 35 (omega arith) (omega arith))
      (λ k. by_cond (Right s) (not (same_bytes (value_of s 49) port)) _ _ (λ y. refusal_right CompIdProblem 49 (omega arith) (omega arith))
      (λ p. by_cond (Right s) (not (same_bytes (value_of s 56) venue)) _ _ (λ y. refusal_right CompIdProblem 56 (omega arith) (omega arith))
      (λ v. body_right (kind_of (value_of s 35)))))

asked_right : (q : Instrument) (venue port s : List ℕ) → Right s (asked_of q venue port s)
unfolding asked_of
asked_right q venue port s = by_cond (Right s) (garbled_message s) _ _ (λ y. tt) (λ g. head_right q s g venue port)

-- every session Reject of a message
pub refused_spelt : (q : Instrument) (venue port s : List ℕ) (r : Refusal) → asked_of q venue port s ≡ Refused r → RefusalSpelt s r
refused_spelt q venue port s r e = subst (Right s) e (asked_right q venue port s)
