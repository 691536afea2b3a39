-- What the texts of a request are, whatever the message: each lies within it, is as long as its tag allows, and has nothing
-- but the characters that a market keeps and a report may have. A theorem for each of the three requests.
use Rattle.std.specs.Prelude.{Option, Some, None, Ok, Err}
use Prim.Native.Nat.{ℕ, ◌+◌, ◌≤◌, ◌<◌}
use mathlib.Core.Path.{◌≡◌, refl, sym, subst}
use mathlib.Core.List.{List}
use mathlib.Core.Bool.{true, ◌&&◌}
use native.Mathlib.Omega.{arith}
use native.Mathlib.Nat.{suc-ne-zero, not-suc-le-zero}
use lib.Dec.{ltb, leb, eqb}
use lib.ListN.{length, get_or, take, drop, length-take, length-drop}
use borrow.Author.Tests.{eqb-true, leb-true}
use Rattle.octets.specs.Octets.{part_at}
use Rattle.octets.proofs.Bools.{split, both_l, both_r}
use Rattle.octets.proofs.Parts.{length_part, get_d_part}
use Rattle.decimal.specs.declared.Instrument.{Instrument}
use Rattle.decimal.specs.declared.Instrument.TheVariants.{Bonds, Equities}
use Rattle.decimal.specs.Reading.{digit_run, number, is_number, num_of}
use Rattle.decimal.proofs.Numbers.{digit_at}
use Rattle.std.proofs.lemmas.Option.{cond_some}
use Rattle.fix.specs.declared.frame.Part.{Part}
use Rattle.fix.specs.Fields.{fields_of, find_tag}
use Rattle.fix.specs.Garbled.{head_of, body_part}
use Rattle.fix.proofs.Loops.{found_inside}
use Rattle.fix.proofs.Values.{Spelt, spelt_by, Timed, text_low, found_text, clear_head}
use Rattle.request.specs.declared.Kind.{Kind}
use Rattle.request.specs.declared.Kind.TheVariants.{NewOrder, Replacement, Cancel}
use Rattle.request.specs.declared.Reason.TheVariants.{IncorrectDataFormat}
use Rattle.request.specs.declared.NewOrder.{NewOrder as NewOrderAsked}
use Rattle.request.specs.declared.Replacement.{Replacement as ReplacementAsked}
use Rattle.request.specs.declared.Cancellation.{Cancellation}
use Rattle.request.specs.declared.Asked.{Asked}
use Rattle.request.specs.declared.Asked.TheVariants.{Enters, Replaces, Cancels}
use Rattle.request.specs.Session.{Judged, needed, one_of, Text, Digits, shape_of, look_as, first_failing}
use Rattle.request.specs.Asks.{body_of, said_in, length_in, text_in, terms_in, request_in, asked_of}
use Rattle.request.proofs.Told.{Told, stands_told, needed_told, text_in_lem, Passed, request_passed}
use Rattle.request.proofs.Requests.{enters_kind, replaces_kind, cancels_kind}

no : ◌≡◌ {A = ℕ} 0 1 → ⊥
no z = suc-ne-zero 0 (sym z)

-- ---- a text or digits say where they stand

-- v is nothing but digits, at most n, and stands at place m
record Run (at n : ℕ) (v : List ℕ) (m : ℕ) : Type 0 where
  place : m ≡ at
  short : length v ≤ n
  digits : digit_run v ≡ length v

module _ (at n : ℕ) (v : List ℕ) (m : ℕ) where
  text_place : look_as at (Text n) v ≡ Ok m → m ≡ at
  unfolding look_as
  text_place e =
      split (leb 1 (length v) && leb (length v) n) (λ y. let same : ◌≡◌ {A = Judged} (Ok at) (Ok m) = rw y at e in cc)
      (λ d. let same : ◌≡◌ {A = Judged} (Err IncorrectDataFormat) (Ok m) = rw d at e in let z : ◌≡◌ {A = ℕ} 0 1 = cc in absurd (no z))

  run_by : (x : Option ℕ) → num_of n v ≡ x → look_as at (Digits n) v ≡ Ok m → Run at n v m
  unfolding look_as num_of is_number
  run_by (Some i) ex e =
      let same : ◌≡◌ {A = Judged} (Ok at) (Ok m) = rw ex at e in
      let t = (cond_some (is_number n v) (number v) i ex).0 in
      let a = ltb 0 (length v) in
      record {
        place = cc;
        short = leb-true (length v) n (both_r a (leb (length v) n) (both_l (a && leb (length v) n) (eqb (digit_run v) (length v)) t));
        digits = eqb-true (digit_run v) (length v) (both_r (a && leb (length v) n) (eqb (digit_run v) (length v)) t);
      }
  run_by None ex e = let same : ◌≡◌ {A = Judged} (Err IncorrectDataFormat) (Ok m) = rw ex at e in let z : ◌≡◌ {A = ℕ} 0 1 = cc in absurd (no z)

-- ---- a value of the body, by its place in the message
module _ (q : Instrument) (s : List ℕ) where
  abbrev from : ℕ
  from = (body_part s).start

  body_short : length (body_of s) ≤ (body_part s).len
  unfolding body_of part_at
  body_short = simp (length-take, length-drop) (omega arith)

  body_inside : 0 < length (body_of s) → from + length (body_of s) ≤ length s
  unfolding body_of part_at
  body_inside h = let z : 0 < length (take (body_part s).len (drop from s)) = h in simp (length-take, length-drop) (omega (arith, simp (length-take, length-drop) at z))

  body_byte : (i : ℕ) → i < length (body_of s) → get_or (body_of s) i 0 ≡ get_or s (from + i) 0
  unfolding body_of
  body_byte i h = get_d_part s from (body_part s).len i (omega (arith, body_short))

  module _ (t : ℕ) (w : Told q (body_of s) from t) (pos : 0 < t) (at : said_in q (body_of s) from t ≡ from + w.start) where
    within : w.start + w.len < length (body_of s)
    within = found_inside (body_of s) t w.start w.len pos w.at

    told_byte : (k : ℕ) → k < w.len → get_or s (said_in q (body_of s) from t + k) 0 ≡ get_or (body_of s) (w.start + k) 0
    told_byte k h =
        let z : said_in q (body_of s) from t + k ≡ from + (w.start + k) = omega arith in
        rw z (sym (body_byte (w.start + k) (omega (arith, within))))

    told_spelt : (most low high : ℕ) → w.len ≤ most → ((k : ℕ) → k < w.len → (low ≤ get_or (body_of s) (w.start + k) 0) × (get_or (body_of s) (w.start + k) 0 ≤ high))
        → Spelt s (text_in q (body_of s) from t) 1 most low high
    told_spelt most low high h all =
        let l = w.length_is in
        spelt_by s (text_in q (body_of s) from t) 1 most low high
        (omega (arith, within, body_inside (omega (arith, within)))) (omega (arith, w.some)) (omega arith)
        (λ k i. rw (told_byte k (omega arith)) (all k (omega arith)))

  pub text_spelt : (t n : ℕ) → 0 < t → shape_of q t ≡ Text n → Told q (body_of s) from t → Spelt s (text_in q (body_of s) from t) 1 n 32 126
  text_spelt t n pos e w =
      told_spelt t w pos (text_place (from + w.start) n (part_at (body_of s) w.start w.len) (said_in q (body_of s) from t) (rw (← e) w.looks))
      n 32 126 (omega (arith, text_in_lem q (body_of s) from t n pos e w, w.length_is))
      (λ k i. text_low _ (found_text (body_of s) t w.start w.len w.at k i))

  pub digits_spelt : (t n : ℕ) → 0 < t → shape_of q t ≡ Digits n → Told q (body_of s) from t → Spelt s (text_in q (body_of s) from t) 1 n 48 57
  digits_spelt t n pos e w =
      let v = part_at (body_of s) w.start w.len in
      let r = run_by (from + w.start) n v (said_in q (body_of s) from t) (num_of n v) refl (rw (← e) w.looks) in
      let h = found_inside (body_of s) t w.start w.len pos w.at in
      let l : length v ≡ w.len = length_part (body_of s) w.start w.len (omega arith) in
      told_spelt t w pos r.place n 48 57 (omega (arith, r.short))
      (λ k i. rw (← get_d_part (body_of s) w.start w.len k i) (digit_at v k r.digits (omega arith)))

  -- ---- 11 and 41, and 1, which a message may leave out
  id_spelt : Told q (body_of s) from 11 → Spelt s (text_in q (body_of s) from 11) 1 32 32 126
  unfolding shape_of one_of
  id_spelt = text_spelt 11 32 (omega arith) refl

  original_spelt : Told q (body_of s) from 41 → Spelt s (text_in q (body_of s) from 41) 1 32 32 126
  unfolding shape_of one_of
  original_spelt = text_spelt 41 32 (omega arith) refl

  account_by : first_failing q NewOrder (body_of s) from (fields_of (body_of s)) ≡ Ok tt → (f : Option Part) → find_tag 1 (fields_of (body_of s)) ≡ f
      → Spelt s (text_in q (body_of s) from 1) 0 10 32 126
  unfolding shape_of one_of said_in length_in
  account_by p (Some v) e =
      let w = text_spelt 1 10 (omega arith) refl (stands_told q NewOrder (body_of s) from 1 p (record { start = v.start; len = v.len; at = e })) in
      record { inside = w.inside; long = w.long; some = omega arith; short = w.short; bytes = w.bytes }
  account_by p None e = rw e (spelt_by s (record { start = 0; len = 0 }) 0 10 32 126 (omega arith) (omega arith) (omega arith) (λ k i. absurd (not-suc-le-zero i)))

  -- 52 is a time
  time_spelt : (k : Kind) (x : Asked) → Passed q s k x → Timed s (head_of s).time
  time_spelt k x w = (clear_head s w.clear).time

-- ---- the code: digits of a bond, any characters of a share
abbrev pub code_low : Instrument → ℕ
code_low Bonds = 48
code_low Equities = 32

abbrev pub code_high : Instrument → ℕ
code_high Bonds = 57
code_high Equities = 126

code_spelt : (q : Instrument) (s : List ℕ) → Told q (body_of s) (body_part s).start 55 → Spelt s (text_in q (body_of s) (body_part s).start 55) 1 9 (code_low q) (code_high q)
unfolding shape_of one_of
code_spelt Bonds s = digits_spelt Bonds s 55 9 (omega arith) refl
code_spelt Equities s = text_spelt Equities s 55 9 (omega arith) refl

-- ---- a new order
pub record NewSpelt (q : Instrument) (s : List ℕ) (o : NewOrderAsked) : Type 0 where
  pub time : Timed s o.time
  pub id : Spelt s o.id 1 32 32 126
  pub account : Spelt s o.account 0 10 32 126
  pub code : Spelt s o.code 1 9 (code_low q) (code_high q)

new_spelt : (q : Instrument) (s : List ℕ) (o : NewOrderAsked) → Passed q s NewOrder (Enters o) → NewSpelt q s o
unfolding request_in one_of
new_spelt q s o w =
    let b = body_of s in
    let from = (body_part s).start in
    let told : (t : ℕ) → one_of t (needed q NewOrder) ≡ true → Told q b from t = λ t m. needed_told q NewOrder b from t w.passes w.complete m in
    let same : record { time = (head_of s).time; id = text_in q b from 11; account = text_in q b from 1; code = text_in q b from 55; terms = terms_in q b from } ≡ o = cc in
    rw (← same)
    (record {
      time = time_spelt q s NewOrder (Enters o) w;
      id = id_spelt q s (told 11 refl);
      account = account_by q s w.passes (find_tag 1 (fields_of b)) refl;
      code = code_spelt q s (told 55 refl);
    })

-- the texts of every new order that a message asks for
pub enters_spelt : (q : Instrument) (venue port s : List ℕ) (o : NewOrderAsked) → asked_of q venue port s ≡ Enters o → NewSpelt q s o
enters_spelt q venue port s o e =
    let w = request_passed q venue port s (Enters o) refl e in
    new_spelt q s o (subst (λ k. Passed q s k (Enters o)) (enters_kind q _ _ _ _ o w.asks) w)

-- ---- a replacement
pub record ReplacementSpelt (q : Instrument) (s : List ℕ) (o : ReplacementAsked) : Type 0 where
  pub time : Timed s o.time
  pub id : Spelt s o.id 1 32 32 126
  pub original : Spelt s o.original 1 32 32 126
  pub code : Spelt s o.code 1 9 (code_low q) (code_high q)

replacement_spelt : (q : Instrument) (s : List ℕ) (o : ReplacementAsked) → Passed q s Replacement (Replaces o) → ReplacementSpelt q s o
unfolding request_in one_of
replacement_spelt q s o w =
    let b = body_of s in
    let from = (body_part s).start in
    let told : (t : ℕ) → one_of t (needed q Replacement) ≡ true → Told q b from t = λ t m. needed_told q Replacement b from t w.passes w.complete m in
    let same : record { time = (head_of s).time; id = text_in q b from 11; original = text_in q b from 41; code = text_in q b from 55; quantity = said_in q b from 38; level = said_in q b from 44; side = said_in q b from 54 } ≡ o = cc in
    rw (← same)
    (record {
      time = time_spelt q s Replacement (Replaces o) w;
      id = id_spelt q s (told 11 refl);
      original = original_spelt q s (told 41 refl);
      code = code_spelt q s (told 55 refl);
    })

-- the texts of every replacement that a message asks for
pub replaces_spelt : (q : Instrument) (venue port s : List ℕ) (o : ReplacementAsked) → asked_of q venue port s ≡ Replaces o → ReplacementSpelt q s o
replaces_spelt q venue port s o e =
    let w = request_passed q venue port s (Replaces o) refl e in
    replacement_spelt q s o (subst (λ k. Passed q s k (Replaces o)) (replaces_kind q _ _ _ _ o w.asks) w)

-- ---- a cancel
pub record CancelSpelt (q : Instrument) (s : List ℕ) (o : Cancellation) : Type 0 where
  pub time : Timed s o.time
  pub id : Spelt s o.id 1 32 32 126
  pub original : Spelt s o.original 1 32 32 126
  pub code : Spelt s o.code 1 9 (code_low q) (code_high q)

cancel_spelt : (q : Instrument) (s : List ℕ) (o : Cancellation) → Passed q s Cancel (Cancels o) → CancelSpelt q s o
unfolding request_in one_of
cancel_spelt q s o w =
    let b = body_of s in
    let from = (body_part s).start in
    let told : (t : ℕ) → one_of t (needed q Cancel) ≡ true → Told q b from t = λ t m. needed_told q Cancel b from t w.passes w.complete m in
    let same : record { time = (head_of s).time; id = text_in q b from 11; original = text_in q b from 41; code = text_in q b from 55; side = said_in q b from 54 } ≡ o = cc in
    rw (← same)
    (record {
      time = time_spelt q s Cancel (Cancels o) w;
      id = id_spelt q s (told 11 refl);
      original = original_spelt q s (told 41 refl);
      code = code_spelt q s (told 55 refl);
    })

-- the texts of every cancel that a message asks for
pub cancels_spelt : (q : Instrument) (venue port s : List ℕ) (o : Cancellation) → asked_of q venue port s ≡ Cancels o → CancelSpelt q s o
cancels_spelt q venue port s o e =
    let w = request_passed q venue port s (Cancels o) refl e in
    cancel_spelt q s o (subst (λ k. Passed q s k (Cancels o)) (cancels_kind q _ _ _ _ o w.asks) w)
