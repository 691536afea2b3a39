-- What is known of a request: each needed tag stands in the body, and each value that stands there is of its shape. For the
-- ranges that a market keeps.
use Rattle.std.specs.Prelude.{Option, Some, None, Ok, Err}
use Prim.Native.Nat.{ℕ, ◌+◌, ◌^◌, ◌≤◌, ◌<◌}
use mathlib.Core.Path.{◌≡◌, refl, sym, ap, ◌∙◌}
use mathlib.Core.List.{List, [], ◌∷◌}
use mathlib.Core.Bool.{Bool, true, false, ◌&&◌}
use native.Mathlib.Omega.{arith}
use native.Mathlib.Nat.{suc-ne-zero}
use lib.Dec.{leb, eqb}
use lib.ListN.{length, get_or, length-take, length-drop}
use borrow.Author.Tests.{eqb-true, eqb-false, leb-true}
use Rattle.octets.specs.Octets.{part_at, same_bytes}
use Rattle.octets.proofs.Bools.{split, both_r, neither_l, neither_r, not_both}
use Rattle.decimal.specs.declared.Instrument.{Instrument}
use Rattle.decimal.specs.declared.Instrument.TheVariants.{Bonds, Equities}
use Rattle.decimal.specs.Instruments.{highest}
use Rattle.decimal.specs.Reading.{is_digit, num_of, level_of}
use Rattle.decimal.proofs.Numbers.{num_below}
use Rattle.decimal.proofs.Yields.{level_range}
use Rattle.fix.specs.Fields.{Fld, fields_of, find_tag, has_tag, value_of}
use Rattle.fix.specs.Garbled.{garbled_message, head_of, body_part}
use Rattle.fix.proofs.Loops.{parts_same, found_inside}
use Rattle.request.specs.declared.Kind.{Kind}
use Rattle.request.specs.declared.Reason.{Reason}
use Rattle.request.specs.declared.Reason.TheVariants.{RequiredTagMissing, ValueIncorrect, IncorrectDataFormat, CompIdProblem, InvalidMsgType}
use Rattle.request.specs.declared.Asked.{Asked}
use Rattle.request.specs.declared.Asked.TheVariants.{Garbled, Refused, Enters, Replaces, Cancels}
use Rattle.request.specs.Session.{Judged, Verdict, kind_of, needed, one_of, Text, Amount, Quote, Among, shape_of, char_says, look_as, judge, or_else, first_failing, first_clashing, first_missing}
use Rattle.request.specs.Asks.{body_of, said_in, length_in, has_in, request_in, refusal_of, refused_or, completed, agreed, after_body, body_asked, is_known, head_asked, asked_of}
use Rattle.request.proofs.Keys.{each_is, each_at}
use Rattle.request.proofs.Gathering.{Means, says_means}
use Rattle.request.proofs.Clashes.{some_none}

no : ◌≡◌ {A = ℕ} 0 1 → ⊥
no z = suc-ne-zero 0 (sym z)

-- ---- a value that stands in a body that passes
pub record Tells (q : Instrument) (k : Kind) (b : List ℕ) (from t start len : ℕ) : Type 0 where
  pub said : ℕ
  pub means : Means q k b from (record { tag = t; start = start; len = len }) said

tells_first : (q : Instrument) (k : Kind) (b : List ℕ) (from : ℕ) (f : Fld) (x : Judged) (rest : Verdict) → judge q k b from f ≡ x → or_else x f.tag rest ≡ Ok tt
    → Tells q k b from f.tag f.start f.len
tells_first q k b from f (Ok n) rest e p = record { said = n; means = says_means q k b from f n e }
tells_first q k b from f (Err r) rest e p = let z : ◌≡◌ {A = ℕ} 0 1 = cc in absurd (no z)

rest_passes : (x : Judged) (t : ℕ) (rest : Verdict) → or_else x t rest ≡ Ok tt → rest ≡ Ok tt
rest_passes (Ok n) t rest e = e
rest_passes (Err r) t rest e = let z : ◌≡◌ {A = ℕ} 0 1 = cc in absurd (no z)

pub found_tells : (q : Instrument) (k : Kind) (b : List ℕ) (from t start len : ℕ) (fs : List Fld) → first_failing q k b from fs ≡ Ok tt → find_tag t fs ≡ Some (record { start = start; len = len })
    → Tells q k b from t start len
unfolding first_failing find_tag
found_tells q k b from t start len [] p e = let z : ◌≡◌ {A = ℕ} 0 1 = cc in absurd (no z)
found_tells q k b from t start len (f ∷ fs) p e =
    split (eqb f.tag t)
    (λ y.
    let same = parts_same f.start f.len start len (rw y at e) in
    rw (← eqb-true f.tag t y, ← same.0, ← same.1) (tells_first q k b from f (judge q k b from f) (first_failing q k b from fs) refl p))
    (λ n. found_tells q k b from t start len fs (rest_passes (judge q k b from f) f.tag (first_failing q k b from fs) p) (rw n at e))

-- what it says is what the request says
pub tells_said : (q : Instrument) (k : Kind) (b : List ℕ) (from t start len : ℕ) (w : Tells q k b from t start len) → find_tag t (fields_of b) ≡ Some (record { start = start; len = len }) → said_in q b from t ≡ w.said
unfolding said_in
tells_said q k b from t start len w e = rw e (rw w.means.looks)

pub tells_length : (b : List ℕ) (t start len : ℕ) → find_tag t (fields_of b) ≡ Some (record { start = start; len = len }) → length_in b t ≡ len
unfolding length_in
tells_length b t start len e = rw e

-- ---- a needed tag stands in a complete body
pub missing_has : (ts : List ℕ) (fs : List Fld) (t : ℕ) → first_missing ts fs ≡ None → one_of t ts ≡ true → has_tag t fs ≡ true
unfolding first_missing one_of
missing_has [] fs t m o = absurd (not_both o refl)
missing_has (u ∷ ts) fs t m o =
    split (has_tag u fs)
    (λ y. split (eqb t u) (λ same. rw (eqb-true t u same) y) (λ n. missing_has ts fs t (rw y at m) (rw n at o)))
    (λ n. absurd (some_none u (rw n at m)))

pub record Stands (t : ℕ) (fs : List Fld) : Type 0 where
  pub start : ℕ
  pub len : ℕ
  pub at : find_tag t fs ≡ Some (record { start = start; len = len })

pub has_stands : (t : ℕ) (fs : List Fld) → has_tag t fs ≡ true → Stands t fs
unfolding has_tag find_tag
has_stands t [] h = absurd (not_both h refl)
has_stands t (f ∷ fs) h =
    split (eqb f.tag t) (λ y. record { start = f.start; len = f.len; at = rw y })
    (λ n. let w = has_stands t fs (rw n at h) in record { start = w.start; len = w.len; at = rw n w.at })

-- a tag that no field has says nothing
pub lacks_nothing : (t : ℕ) (fs : List Fld) → has_tag t fs ≡ false → find_tag t fs ≡ None
unfolding has_tag find_tag
lacks_nothing t [] h = refl
lacks_nothing t (f ∷ fs) h = rw (neither_l (eqb f.tag t) (has_tag t fs) h) (lacks_nothing t fs (neither_r (eqb f.tag t) (has_tag t fs) h))

-- ---- what a value of each shape says
module _ (at n : ℕ) (v : List ℕ) (m : ℕ) where
  amount_by : (x : Option ℕ) → num_of n v ≡ x → look_as at (Amount n) v ≡ Ok m → (0 < m) × (m < 10 ^ n)
  unfolding look_as
  amount_by (Some i) ex e =
      split (eqb i 0)
      (λ y. let same : ◌≡◌ {A = Judged} (Err ValueIncorrect) (Ok m) = rw (ex, y) at e in let z : ◌≡◌ {A = ℕ} 0 1 = cc in absurd (no z))
      (λ d. let same : ◌≡◌ {A = Judged} (Ok i) (Ok m) = rw (ex, d) at e in
      let r : i ≡ m = cc in
      let l = num_below n v i ex in
      let w = eqb-false i 0 d in
      (omega arith, omega arith))
  amount_by None ex e = let same : ◌≡◌ {A = Judged} (Err IncorrectDataFormat) (Ok m) = rw ex at e in let z : ◌≡◌ {A = ℕ} 0 1 = cc in absurd (no z)

  -- an amount is 1 to n digits, not 0
  pub amount_range : look_as at (Amount n) v ≡ Ok m → (0 < m) × (m < 10 ^ n)
  amount_range = amount_by (num_of n v) refl

  -- a text has at most n characters
  pub text_range : look_as at (Text n) v ≡ Ok m → length v ≤ n
  unfolding look_as
  text_range e =
      split (leb 1 (length v) && leb (length v) n) (λ y. leb-true (length v) n (both_r (leb 1 (length v)) (leb (length v) n) y))
      (λ d. let same : ◌≡◌ {A = Judged} (Err IncorrectDataFormat) (Ok m) = rw d at e in let z : ◌≡◌ {A = ℕ} 0 1 = cc in absurd (no z))

module _ (at : ℕ) (v : List ℕ) (m : ℕ) where
  quote_by : (q : Instrument) (x : Option ℕ) → level_of q v ≡ x → look_as at (Quote q) v ≡ Ok m → (0 < m) × (m ≤ highest q)
  unfolding look_as
  quote_by q (Some i) ex e =
      let same : ◌≡◌ {A = Judged} (Ok i) (Ok m) = rw ex at e in
      let r : i ≡ m = cc in
      let l = level_range q v i ex in
      (omega arith, omega arith)
  quote_by q None ex e = let same : ◌≡◌ {A = Judged} (Err IncorrectDataFormat) (Ok m) = rw ex at e in let z : ◌≡◌ {A = ℕ} 0 1 = cc in absurd (no z)

  -- a level is 1 to the highest
  pub quote_range : (q : Instrument) → look_as at (Quote q) v ≡ Ok m → (0 < m) × (m ≤ highest q)
  quote_range q = quote_by q (level_of q v) refl

  -- a character is one of those that it may be
  pub among_says : (cs : List ℕ) → look_as at (Among cs) v ≡ Ok m → (one_of (get_or v 0 0) cs ≡ true) × (char_says (get_or v 0 0) ≡ m)
  unfolding look_as
  among_says cs e =
      split (eqb (length v) 1)
      (λ y. split (one_of (get_or v 0 0) cs)
      (λ o. let same : ◌≡◌ {A = Judged} (Ok (char_says (get_or v 0 0))) (Ok m) = rw (y, o) at e in (o, cc))
      (λ d. let same : ◌≡◌ {A = Judged} (Err ValueIncorrect) (Ok m) = rw (y, d) at e in let z : ◌≡◌ {A = ℕ} 0 1 = cc in absurd (no z)))
      (λ d. let same : ◌≡◌ {A = Judged} (Err IncorrectDataFormat) (Ok m) = rw d at e in let z : ◌≡◌ {A = ℕ} 0 1 = cc in absurd (no z))

-- ---- a needed tag of a complete body: its value stands there and is of the tag's shape
pub record Told (q : Instrument) (b : List ℕ) (from t : ℕ) : Type 0 where
  pub start : ℕ
  pub len : ℕ
  pub at : find_tag t (fields_of b) ≡ Some (record { start = start; len = len })
  pub some : 0 < len
  pub length_is : length_in b t ≡ len
  pub looks : look_as (from + start) (shape_of q t) (part_at b start len) ≡ Ok (said_in q b from t)

pub stands_told : (q : Instrument) (k : Kind) (b : List ℕ) (from t : ℕ) → first_failing q k b from (fields_of b) ≡ Ok tt → Stands t (fields_of b) → Told q b from t
stands_told q k b from t p w =
    let x = found_tells q k b from t w.start w.len (fields_of b) p w.at in
    let z = x.means.some in
    record {
      start = w.start;
      len = w.len;
      at = w.at;
      some = omega arith;
      length_is = tells_length b t w.start w.len w.at;
      looks = x.means.looks ∙ ap Ok (sym (tells_said q k b from t w.start w.len x w.at));
    }

pub needed_has : (q : Instrument) (k : Kind) (b : List ℕ) (t : ℕ) → first_missing (needed q k) (fields_of b) ≡ None → one_of t (needed q k) ≡ true → has_in b t ≡ true
unfolding has_in
needed_has q k b t m o = missing_has (needed q k) (fields_of b) t m o

pub needed_told : (q : Instrument) (k : Kind) (b : List ℕ) (from t : ℕ) → first_failing q k b from (fields_of b) ≡ Ok tt → first_missing (needed q k) (fields_of b) ≡ None → one_of t (needed q k) ≡ true
    → Told q b from t
unfolding has_in
needed_told q k b from t p m o = stands_told q k b from t p (has_stands t (fields_of b) (needed_has q k b t m o))

-- a value within the body has the length that its field says
told_length : (q : Instrument) (b : List ℕ) (from t : ℕ) → 0 < t → (w : Told q b from t) → length (part_at b w.start w.len) ≡ w.len
unfolding part_at
told_length q b from t h w = simp (length-take, length-drop) (omega (arith, found_inside b t w.start w.len h w.at))

-- ---- what the numbers and texts of a request may be
module _ (q : Instrument) (b : List ℕ) (from : ℕ) where
  pub quantity_range : Told q b from 38 → (0 < said_in q b from 38) × (said_in q b from 38 < 1000000000)
  unfolding shape_of one_of
  quantity_range w = amount_range (from + w.start) 9 (part_at b w.start w.len) (said_in q b from 38) w.looks

  pub level_in_lem : Told q b from 44 → (0 < said_in q b from 44) × (said_in q b from 44 ≤ highest q)
  unfolding shape_of one_of
  level_in_lem w = quote_range (from + w.start) (part_at b w.start w.len) (said_in q b from 44) q w.looks

  pub mpid_range : Told q b from 109 → (0 < said_in q b from 109) × (said_in q b from 109 < 1000000)
  unfolding shape_of one_of
  mpid_range w = amount_range (from + w.start) 6 (part_at b w.start w.len) (said_in q b from 109) w.looks

  pub minqty_range : Told q b from 110 → (0 < said_in q b from 110) × (said_in q b from 110 < 1000000000)
  unfolding shape_of one_of
  minqty_range w = amount_range (from + w.start) 9 (part_at b w.start w.len) (said_in q b from 110) w.looks

  -- one of some characters says one of their numbers
  one_said : (t : ℕ) (cs ns : List ℕ) (w : Told q b from t) → shape_of q t ≡ Among cs → each_is (λ c. one_of (char_says c) ns) cs ≡ true → one_of (said_in q b from t) ns ≡ true
  one_said t cs ns w e all =
      let v = part_at b w.start w.len in
      let a = among_says (from + w.start) v (said_in q b from t) cs (rw (← e) w.looks) in
      rw (← a.1) (each_at (λ c. one_of (char_says c) ns) cs (get_or v 0 0) all a.0)

  pub tif_in : Told q b from 59 → one_of (said_in q b from 59) (0 ∷ 3 ∷ 4 ∷ []) ≡ true
  unfolding shape_of one_of each_is char_says is_digit
  tif_in w = one_said 59 (48 ∷ 51 ∷ 52 ∷ []) (0 ∷ 3 ∷ 4 ∷ []) w refl refl

  pub capacity_in : Told q b from 47 → one_of (said_in q b from 47) (65 ∷ 80 ∷ []) ≡ true
  unfolding shape_of one_of each_is char_says is_digit
  capacity_in w = one_said 47 (65 ∷ 80 ∷ []) (65 ∷ 80 ∷ []) w refl refl

  pub class_in : Told q b from 8060 → one_of (said_in q b from 8060) (1 ∷ 3 ∷ 4 ∷ 5 ∷ 6 ∷ []) ≡ true
  unfolding shape_of one_of each_is char_says is_digit
  class_in w = one_said 8060 (49 ∷ 51 ∷ 52 ∷ 53 ∷ 54 ∷ []) (1 ∷ 3 ∷ 4 ∷ 5 ∷ 6 ∷ []) w refl refl

  -- a text has 1 to n characters
  pub text_in_lem : (t n : ℕ) → 0 < t → shape_of q t ≡ Text n → Told q b from t → (0 < length_in b t) × (length_in b t ≤ n)
  text_in_lem t n h e w =
      let l = told_length q b from t h w in
      let r = text_range (from + w.start) n (part_at b w.start w.len) (said_in q b from t) (rw (← e) w.looks) in
      let same = w.length_is in
      let z = w.some in
      (omega arith, omega arith)

-- the sides of a market
abbrev pub sides : Instrument → List ℕ
sides Bonds = 1 ∷ 2 ∷ []
sides Equities = 1 ∷ 2 ∷ 5 ∷ 6 ∷ []

pub side_in : (q : Instrument) (b : List ℕ) (from : ℕ) → Told q b from 54 → one_of (said_in q b from 54) (sides q) ≡ true
unfolding shape_of one_of each_is char_says is_digit
side_in Bonds b from w = one_said Bonds b from 54 (49 ∷ 50 ∷ []) (1 ∷ 2 ∷ []) w refl refl
side_in Equities b from w = one_said Equities b from 54 (49 ∷ 50 ∷ 53 ∷ 54 ∷ []) (1 ∷ 2 ∷ 5 ∷ 6 ∷ []) w refl refl

-- 544 and 8214
module _ (b : List ℕ) (from : ℕ) where
  pub cash_in : Told Equities b from 544 → one_of (said_in Equities b from 544) (1 ∷ 2 ∷ 3 ∷ []) ≡ true
  unfolding shape_of one_of each_is char_says is_digit
  cash_in w = one_said Equities b from 544 (49 ∷ 50 ∷ 51 ∷ []) (1 ∷ 2 ∷ 3 ∷ []) w refl refl

  pub margin_in : Told Equities b from 8214 → one_of (said_in Equities b from 8214) (1 ∷ 2 ∷ []) ≡ true
  unfolding shape_of one_of each_is char_says is_digit
  margin_in w = one_said Equities b from 8214 (49 ∷ 50 ∷ []) (1 ∷ 2 ∷ []) w refl refl

-- ---- a message that asks something passed every check
abbrev pub is_request : Asked → Bool
is_request Garbled = false
is_request (Refused r) = false
is_request (Enters o) = true
is_request (Replaces o) = true
is_request (Cancels o) = true

pub record Passed (q : Instrument) (s : List ℕ) (k : Kind) (x : Asked) : Type 0 where
  pub clear : garbled_message s ≡ false
  pub passes : first_failing q k (body_of s) (body_part s).start (fields_of (body_of s)) ≡ Ok tt
  pub agrees : first_clashing q (has_in (body_of s)) (said_in q (body_of s) (body_part s).start) ≡ None
  pub complete : first_missing (needed q k) (fields_of (body_of s)) ≡ None
  pub asks : request_in q k (head_of s) (body_of s) (body_part s).start ≡ x

refused_none : (s : List ℕ) (r : Reason) (t : ℕ) (x : Asked) → refusal_of (head_of s) r t ≡ x → is_request x ≡ true → ⊥
unfolding refusal_of
refused_none s r t x e h = not_both (rw (← e) at h) refl

module _ (q : Instrument) (venue port s : List ℕ) (x : Asked) (h : is_request x ≡ true) where
  passed_lacks : (k : Kind) → garbled_message s ≡ false → first_failing q k (body_of s) (body_part s).start (fields_of (body_of s)) ≡ Ok tt
      → first_clashing q (has_in (body_of s)) (said_in q (body_of s) (body_part s).start) ≡ None → (t : Option ℕ) → first_missing (needed q k) (fields_of (body_of s)) ≡ t
      → refused_or (head_of s) RequiredTagMissing t (request_in q k (head_of s) (body_of s) (body_part s).start) ≡ x → Passed q s k x
  passed_lacks k c e a (Some t) m same = absurd (refused_none s RequiredTagMissing t x same h)
  passed_lacks k c e a None m same = record { clear = c; passes = e; agrees = a; complete = m; asks = same }

  passed_clash : (k : Kind) → garbled_message s ≡ false → first_failing q k (body_of s) (body_part s).start (fields_of (body_of s)) ≡ Ok tt
      → (t : Option ℕ) → first_clashing q (has_in (body_of s)) (said_in q (body_of s) (body_part s).start) ≡ t
      → refused_or (head_of s) ValueIncorrect t (completed q k (head_of s) (body_of s) (body_part s).start) ≡ x → Passed q s k x
  unfolding completed
  passed_clash k c e (Some t) a same = absurd (refused_none s ValueIncorrect t x same h)
  passed_clash k c e None a same = passed_lacks k c e a (first_missing (needed q k) (fields_of (body_of s))) refl same

  passed_body : (k : Kind) (v : Verdict) → garbled_message s ≡ false → first_failing q k (body_of s) (body_part s).start (fields_of (body_of s)) ≡ v
      → after_body q k (head_of s) (body_of s) (body_part s).start v ≡ x → Passed q s k x
  unfolding agreed
  passed_body k (Err f) c e same = absurd (refused_none s f.reason f.tag x same h)
  passed_body k (Ok u) c e same = passed_clash k c e (first_clashing q (has_in (body_of s)) (said_in q (body_of s) (body_part s).start)) refl same

  pub request_passed : asked_of q venue port s ≡ x → Passed q s (kind_of (value_of s 35)) x
  unfolding asked_of head_asked body_asked
  request_passed same =
      split (garbled_message s) (λ y. absurd (not_both h (rw (← (rw y at same)))))
      (λ c. split (is_known (kind_of (value_of s 35)))
      (λ k. split (same_bytes (value_of s 49) port)
      (λ p. split (same_bytes (value_of s 56) venue)
      (λ v. passed_body (kind_of (value_of s 35)) _ c refl (rw (c, k, p, v) at same))
      (λ n. absurd (refused_none s CompIdProblem 56 x (rw (c, k, p, n) at same) h)))
      (λ n. absurd (refused_none s CompIdProblem 49 x (rw (c, k, n) at same) h)))
      (λ n. absurd (refused_none s InvalidMsgType 35 x (rw (c, n) at same) h)))
