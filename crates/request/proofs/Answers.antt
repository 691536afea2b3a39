-- From the rows to the answer: the first tag that clashes, the smallest that is missing, the request, and the session rejects
-- before them.
use Rattle.std.specs.Prelude.{Option, Some, None, Ok, Err}
use Prim.Native.Nat.{ℕ, ◌+◌, ◌≤◌, ◌<◌}
use mathlib.Core.Path.{◌≡◌, refl, sym, ap, ◌∙◌}
use mathlib.Core.List.{List, [], ◌∷◌}
use mathlib.Core.Bool.{Bool, true, false, cond, not, ◌&&◌, ◌||◌}
use native.Mathlib.Omega.{arith}
use native.Mathlib.Nat.{suc-ne-zero}
use native.Mathlib.Numerals.{add-one}
use lib.Dec.{ltb, eqb}
use lib.ListN.{length, get_or, set, drop, replicate, drop_of_length-le}
use lib.Seq.{drop-cons}
use borrow.Author.Tests.{ne_eqb, not-true, not-false}
use Rattle.octets.specs.Octets.{part_at, same_bytes}
use Rattle.octets.proofs.Bools.{split, both_l, both_r}
use Rattle.decimal.specs.declared.Instrument.{Instrument}
use Rattle.decimal.specs.declared.Instrument.TheVariants.{Bonds, Equities}
use Rattle.fix.specs.declared.frame.Part.{Part}
use Rattle.fix.specs.declared.frame.Head.{Head}
use Rattle.fix.specs.Fields.{Fld, fields_of, find_tag, has_tag, value_of}
use Rattle.fix.specs.Garbled.{body_part, head_of}
use Rattle.fix.specs.Steps.{Held, Framed}
use Rattle.fix.proofs.Opening.{value_part}
use Rattle.fix.proofs.Verdict.{is_garbled, is_good_lem, good_head}
use Rattle.request.specs.declared.Kind.{Kind}
use Rattle.request.specs.declared.Kind.TheVariants.{NewOrder, Replacement, Cancel, Unknown}
use Rattle.request.specs.declared.Reason.{Reason}
use Rattle.request.specs.declared.Reason.TheVariants.{RequiredTagMissing, ValueIncorrect, CompIdProblem, InvalidMsgType}
use Rattle.request.specs.declared.Fault.{Fault}
use Rattle.request.specs.declared.Terms.{Terms}
use Rattle.request.specs.declared.Asked.{Asked}
use Rattle.request.specs.declared.Asked.TheVariants.{Garbled, Enters, Replaces, Cancels}
use Rattle.request.specs.Session.{Judged, Verdict, kind_of, needed, one_of, belongs, listed, judge, or_else, first_failing, minimum_clashes, margin_clashes, first_clashing, first_missing}
use Rattle.request.specs.Asks.{length_found, said_in, length_in, has_in, text_in, terms_in, request_in, refusal_of, refused_or, completed, agreed, body_asked, is_known, body_of, head_asked, asked_of}
use Rattle.request.specs.Gathers.{slots, slot, Starts, Admitted, kept_says, kept_lens, known, Gathered, Walked, first_unset, row_at, has_row, text_row, terms_row, request_row, Blank, outcome_row, fault_or, completed_by, agreed_by}
use Rattle.request.proofs.Keys.{each_is}
use Rattle.request.proofs.Gathering.{says_means}

-- ---- a field kept
module _ (says lens : List ℕ) (t n len : ℕ) where
  pub kept_says_lem : get_or lens (slot t) 0 ≡ 0 → set says (slot t) n ≡ kept_says says lens t n
  unfolding kept_says
  kept_says_lem h = simp h

  pub kept_lens_lem : get_or lens (slot t) 0 ≡ 0 → set lens (slot t) len ≡ kept_lens lens t len
  unfolding kept_lens
  kept_lens_lem h = simp h

  pub left_says : (get_or lens (slot t) 0 ≡ 0 → ⊥) → says ≡ kept_says says lens t n
  unfolding kept_says
  left_says h = rw (ne_eqb (get_or lens (slot t) 0) 0 h)

  pub left_lens : (get_or lens (slot t) 0 ≡ 0 → ⊥) → lens ≡ kept_lens lens t len
  unfolding kept_lens
  left_lens h = rw (ne_eqb (get_or lens (slot t) 0) 0 h)

-- ---- the first of some tags with nothing in the row. The invariant: it is the first from i on
abbrev pub Unset : List ℕ → List ℕ → ℕ → Type 0
Unset ts lens i = (i ≤ length ts) × (first_unset ts lens ≡ first_unset (drop i ts) lens)

module _ (ts lens : List ℕ) (i : ℕ) (inv : Unset ts lens i) where
  module _ (h : i < length ts) (b : Bool) (eb : b ≡ has_row lens (get_or ts i 0)) where
    pub unset_here : not b ≡ true → Some (get_or ts i 0) ≡ first_unset ts lens
    unfolding first_unset has_row
    unset_here e =
        let z : eqb (row_at lens (get_or ts i 0)) 0 ≡ true = not-false _ (sym eb ∙ not-true b e) in
        rw (inv.1, drop-cons ts i 0, z)

    pub unset_more : not b ≡ false → Unset ts lens (i + 1)
    unfolding first_unset has_row
    unset_more e =
        let z : eqb (row_at lens (get_or ts i 0)) 0 ≡ false = not-true _ (sym eb ∙ not-false b e) in
        (omega arith, rw (inv.1, drop-cons ts i 0, z, add-one))

  pub unset_none : length ts ≤ i → None ≡ first_unset ts lens
  unfolding first_unset
  unset_none h = rw (inv.1, drop_of_length-le ts {i = i} h)

pub unset_kind : (q : Instrument) (k l : Kind) (lens : List ℕ) (r : Option ℕ) → k ≡ l → r ≡ first_unset (needed q l) lens → r ≡ first_unset (needed q k) lens
unset_kind q k l lens r e h = rw e h

pub unset_unknown : (q : Instrument) (k : Kind) (lens : List ℕ) → k ≡ Unknown → None ≡ first_unset (needed q k) lens
unfolding first_unset
unset_unknown q k lens e = rw e

-- the tags of a new order, by what is traded
pub unset_bonds : (q : Instrument) (lens : List ℕ) (r : Option ℕ) → q ≡ Bonds → r ≡ first_unset (needed Bonds NewOrder) lens → r ≡ first_unset (needed q NewOrder) lens
unset_bonds q lens r e h = rw e h

pub unset_equities : (q : Instrument) (lens : List ℕ) (r : Option ℕ) → q ≡ Equities → r ≡ first_unset (needed Equities NewOrder) lens → r ≡ first_unset (needed q NewOrder) lens
unset_equities q lens r e h = rw e h

-- ---- the first tag that clashes
pub has_is : (lens : List ℕ) (t x : ℕ) → x ≡ row_at lens t → not (eqb x 0) ≡ has_row lens t
unfolding has_row
has_is lens t x e = rw e

pub minimum_is : (says lens : List ℕ) (a b c : Bool) (x y z : ℕ) → a ≡ has_row lens 110 → b ≡ has_row lens 59 → c ≡ has_row lens 38
    → x ≡ row_at says 110 → y ≡ row_at says 59 → z ≡ row_at says 38
    → (a && ((b && (eqb y 0 || eqb y 4)) || (c && ltb z x))) ≡ minimum_clashes (has_row lens) (row_at says)
unfolding minimum_clashes
minimum_is says lens a b c x y z ea eb ec ex ey ez = rw (ea, eb, ec, ex, ey, ez)

module _ (q : Instrument) (says lens : List ℕ) where
  pub margin_bonds : q ≡ Bonds → false ≡ margin_clashes q (has_row lens) (row_at says)
  unfolding margin_clashes
  margin_bonds e = rw e

  pub margin_is : (a b : Bool) (x : ℕ) → q ≡ Equities → a ≡ has_row lens 8214 → b ≡ has_row lens 544 → x ≡ row_at says 544
      → (a && b && eqb x 1) ≡ margin_clashes q (has_row lens) (row_at says)
  unfolding margin_clashes
  margin_is a b x e ea eb ex = rw (e, ea, eb, ex)

  module _ (a : Bool) (e : a ≡ minimum_clashes (has_row lens) (row_at says)) where
    pub clash_minimum : a ≡ true → Some 110 ≡ first_clashing q (has_row lens) (row_at says)
    unfolding first_clashing
    clash_minimum h = rw (← e, h)

    module _ (n : a ≡ false) (c : Bool) (g : c ≡ margin_clashes q (has_row lens) (row_at says)) where
      pub clash_margin : c ≡ true → Some 8214 ≡ first_clashing q (has_row lens) (row_at says)
      unfolding first_clashing
      clash_margin h = rw (← e, n, ← g, h)

      pub clash_none : c ≡ false → None ≡ first_clashing q (has_row lens) (row_at says)
      unfolding first_clashing
      clash_none h = rw (← e, n, ← g, h)

-- ---- where the body passes, a tag has no length exactly if no field has it
passes_first : (x : Judged) (t : ℕ) (rest : Verdict) → or_else x t rest ≡ Ok tt → rest ≡ Ok tt
passes_first (Ok n) t rest e = e
passes_first (Err r) t rest e = let z : ◌≡◌ {A = ℕ} 0 1 = cc in absurd (suc-ne-zero 0 (sym z))

passes_says : (q : Instrument) (k : Kind) (b : List ℕ) (from : ℕ) (f : Fld) (x : Judged) (t : ℕ) (rest : Verdict) → judge q k b from f ≡ x → or_else x t rest ≡ Ok tt → f.len ≡ 0 → ⊥
passes_says q k b from f (Ok n) t rest g e = (says_means q k b from f n g).some
passes_says q k b from f (Err r) t rest g e = let z : ◌≡◌ {A = ℕ} 0 1 = cc in absurd (suc-ne-zero 0 (sym z))

length_has : (q : Instrument) (k : Kind) (b : List ℕ) (from t : ℕ) (fs : List Fld) → first_failing q k b from fs ≡ Ok tt → eqb (length_found (find_tag t fs)) 0 ≡ not (has_tag t fs)
unfolding first_failing find_tag has_tag
length_has q k b from t [] e = refl
length_has q k b from t (f ∷ fs) e =
    split (eqb f.tag t)
    (λ y. rw y (ne_eqb f.len 0 (passes_says q k b from f (judge q k b from f) f.tag (first_failing q k b from fs) refl e)))
    (λ n. rw n (length_has q k b from t fs (passes_first (judge q k b from f) f.tag (first_failing q k b from fs) e)))

module _ (q : Instrument) (k : Kind) (b : List ℕ) (from : ℕ) (says lens : List ℕ) (rows : Gathered q b from says lens) (passes : first_failing q k b from (fields_of b) ≡ Ok tt) where
  unset_missing : (ts : List ℕ) → each_is known ts ≡ true → first_unset ts lens ≡ first_missing ts (fields_of b)
  unfolding first_unset first_missing each_is length_in
  unset_missing [] e = refl
  unset_missing (t ∷ ts) e =
      let ih = unset_missing ts (both_r (known t) (each_is known ts) e) in
      let l = (rows t (both_l (known t) (each_is known ts) e)).1 in
      rw (l, length_has q k b from t (fields_of b) passes, ih) (swap (has_tag t (fields_of b)) (first_missing ts (fields_of b)) (Some t))
    where
      swap : (a : Bool) (x y : Option ℕ) → cond (not a) y x ≡ cond a x y
      swap true x y = refl
      swap false x y = refl

  all_needed : (i : Instrument) (k : Kind) → each_is known (needed i k) ≡ true
  unfolding each_is known listed belongs one_of
  all_needed Bonds NewOrder = refl
  all_needed Equities NewOrder = refl
  all_needed i Replacement = refl
  all_needed i Cancel = refl
  all_needed i Unknown = refl

  at : (t : ℕ) → known t ≡ true → get_or says (slot t) 0 ≡ said_in q b from t
  at t h = (rows t h).0

  text : (t : ℕ) → known t ≡ true → text_row says lens t ≡ text_in q b from t
  text t h = rw ((rows t h).0, (rows t h).1)

  terms : terms_row says ≡ terms_in q b from
  unfolding terms_row terms_in known listed belongs one_of
  terms = rw (at 38 refl, at 44 refl, at 54 refl, at 59 refl, at 47 refl, at 8060 refl, at 109 refl, at 110 refl, at 544 refl, at 8214 refl)

  requests : (l : Kind) (h : Head) → request_row l h says lens ≡ request_in q l h b from
  unfolding request_row request_in known listed belongs one_of
  requests NewOrder h = rw (text 11 refl, text 1 refl, text 55 refl, terms)
  requests Replacement h = rw (text 11 refl, text 41 refl, text 55 refl, at 38 refl, at 44 refl, at 54 refl)
  requests Cancel h = rw (text 11 refl, text 41 refl, text 55 refl, at 54 refl)
  requests Unknown h = refl

  has : (t : ℕ) → known t ≡ true → has_row lens t ≡ has_in b t
  unfolding has_row has_in length_in
  has t h = rw ((rows t h).1, length_has q k b from t (fields_of b) passes) (twice (has_tag t (fields_of b)))
    where
      twice : (a : Bool) → not (not a) ≡ a
      twice true = refl
      twice false = refl

  margins : (i : Instrument) → margin_clashes i (has_row lens) (row_at says) ≡ margin_clashes i (has_in b) (said_in q b from)
  unfolding margin_clashes known listed belongs one_of
  margins Bonds = refl
  margins Equities = rw (has 8214 refl, has 544 refl, at 544 refl)

  clashes : first_clashing q (has_row lens) (row_at says) ≡ first_clashing q (has_in b) (said_in q b from)
  unfolding first_clashing minimum_clashes known listed belongs one_of
  clashes = rw (has 110 refl, has 59 refl, has 38 refl, at 59 refl, at 38 refl, at 110 refl, margins q)

  -- a tag that fails a verdict, and a tag that a message is rejected for
  module _ (h : Head) (reason : Reason) (v : Verdict) (x : Asked) (e : outcome_row k h says lens v ≡ x) where
    by_tag : (t : Option ℕ) → outcome_row k h says lens (fault_or reason t v) ≡ refused_or h reason t x
    by_tag (Some t) = refl
    by_tag None = e

  complete : (h : Head) → outcome_row k h says lens (completed_by q k lens) ≡ completed q k h b from
  unfolding completed_by completed
  complete h =
      rw (unset_missing (needed q k) (all_needed q k)) (by_tag h RequiredTagMissing (Ok tt) (request_in q k h b from) (requests k h) (first_missing (needed q k) (fields_of b)))

  agree : (h : Head) → outcome_row k h says lens (agreed_by q k says lens) ≡ agreed q k h b from
  unfolding agreed_by agreed
  agree h =
      rw clashes (by_tag h ValueIncorrect (completed_by q k lens) (completed q k h b from) (complete h) (first_clashing q (has_in b) (said_in q b from)))

-- ---- the request of each type, by the rows
module _ (k : Kind) (h : Head) (says lens : List ℕ) (id code : Part) (ei : id ≡ text_row says lens 11) (ec : code ≡ text_row says lens 55) where
  pub request_new : (account : Part) (terms : Terms) → k ≡ NewOrder → account ≡ text_row says lens 1 → terms ≡ terms_row says
      → Enters (record { time = h.time; id = id; account = account; code = code; terms = terms }) ≡ request_row k h says lens
  unfolding request_row
  request_new account terms ek ea et = rw (ek, ei, ec, ea, et)

  module _ (original : Part) (eo : original ≡ text_row says lens 41) (side : ℕ) (es : side ≡ get_or says (slot 54) 0) where
    pub request_replace : (quantity level : ℕ) → k ≡ Replacement → quantity ≡ get_or says (slot 38) 0 → level ≡ get_or says (slot 44) 0
        → Replaces (record { time = h.time; id = id; original = original; code = code; quantity = quantity; level = level; side = side }) ≡ request_row k h says lens
    unfolding request_row
    request_replace quantity level ek eq el = rw (ek, ei, ec, eo, es, eq, el)

    pub request_cancel : k ≡ Cancel → Cancels (record { time = h.time; id = id; original = original; code = code; side = side }) ≡ request_row k h says lens
    unfolding request_row
    request_cancel ek = rw (ek, ei, ec, eo, es)

pub request_unknown : (k : Kind) (h : Head) (says lens : List ℕ) (r : Asked) → k ≡ Unknown → r ≡ refusal_of h InvalidMsgType 35 → r ≡ request_row k h says lens
unfolding request_row
request_unknown k h says lens r ek er = er ∙ rw ek

-- ---- the verdict, from the last step back
module _ (q : Instrument) (k : Kind) (lens : List ℕ) (r : Option ℕ) (e : r ≡ first_unset (needed q k) lens) where
  pub completes_missing : (t : ℕ) → r ≡ Some t → Err (record { reason = RequiredTagMissing; tag = t }) ≡ completed_by q k lens
  unfolding completed_by
  completes_missing t g = rw (← e, g)

  pub completes_is : r ≡ None → Ok tt ≡ completed_by q k lens
  unfolding completed_by
  completes_is g = rw (← e, g)

module _ (q : Instrument) (k : Kind) (says lens : List ℕ) (r : Option ℕ) (e : r ≡ first_clashing q (has_row lens) (row_at says)) where
  pub agrees_clash : (t : ℕ) → r ≡ Some t → Err (record { reason = ValueIncorrect; tag = t }) ≡ agreed_by q k says lens
  unfolding agreed_by
  agrees_clash t g = rw (← e, g)

  pub agrees_is : r ≡ None → (x : Verdict) → x ≡ completed_by q k lens → x ≡ agreed_by q k says lens
  unfolding agreed_by
  agrees_is g x h = h ∙ rw (← e, g)

module _ (q : Instrument) (k : Kind) (h : Head) (b x : List ℕ) (from : ℕ) (v : Verdict) (says lens : List ℕ) (eb : b ≡ x) (w : Walked q k b from v says lens) where
  pub decides_fails : (f : Fault) → v ≡ Err f → outcome_row k h says lens (Err f) ≡ body_asked q k h x from
  unfolding body_asked
  decides_fails f g = rw (← eb) (rw (← w.verdict, g))

  pub decides_passes : v ≡ Ok tt → (r : Verdict) → r ≡ agreed_by q k says lens → outcome_row k h says lens r ≡ body_asked q k h x from
  unfolding body_asked
  decides_passes g r er =
      ap (outcome_row k h says lens) er ∙ agree q k b from says lens (w.rows g) (sym w.verdict ∙ g) h ∙ rw (← eb) (rw (← w.verdict, g))

pub starts : (s v row : List ℕ) (start len : ℕ) (says lens : List ℕ) → v ≡ part_at s start len → Held row start 7 (fields_of (part_at s start len))
    → Blank says lens → Starts v row start says lens
starts s v row start len says lens e h n = record { no_says = n.no_says; no_lens = n.no_lens; held = rw e h }

pub blank : Blank (replicate slots 0) (replicate slots 0)
blank = record { no_says = refl; no_lens = refl }

-- ---- the type
module _ (v : List ℕ) (a : Bool) (ea : a ≡ same_bytes v (68 ∷ [])) where
  pub kind_new : a ≡ true → NewOrder ≡ kind_of v
  unfolding kind_of
  kind_new h = rw (sym ea ∙ h)

  module _ (ha : a ≡ false) (c : Bool) (ec : c ≡ same_bytes v (71 ∷ [])) where
    pub kind_replacement : c ≡ true → Replacement ≡ kind_of v
    unfolding kind_of
    kind_replacement h = rw (sym ea ∙ ha, sym ec ∙ h)

    module _ (hc : c ≡ false) (d : Bool) (ed : d ≡ same_bytes v (70 ∷ [])) where
      pub kind_cancel : d ≡ true → Cancel ≡ kind_of v
      unfolding kind_of
      kind_cancel h = rw (sym ea ∙ ha, sym ec ∙ hc, sym ed ∙ h)

      pub kind_unknown : d ≡ false → Unknown ≡ kind_of v
      unfolding kind_of
      kind_unknown h = rw (sym ea ∙ ha, sym ec ∙ hc, sym ed ∙ h)

-- ---- the head
module _ (q : Instrument) (venue port s : List ℕ) (h : Head) (eh : h ≡ head_of s) (says lens : List ℕ) where
  value_35 : part_at s h.kind.start h.kind.len ≡ value_of s 35
  unfolding head_of
  value_35 = rw eh (value_part s 35)

  value_49 : part_at s h.sender.start h.sender.len ≡ value_of s 49
  unfolding head_of
  value_49 = rw eh (value_part s 49)

  value_56 : part_at s h.target.start h.target.len ≡ value_of s 56
  unfolding head_of
  value_56 = rw eh (value_part s 56)

  body_is : (k : Kind) → body_asked q k h (part_at s h.body.start h.body.len) h.body.start ≡ body_asked q k (head_of s) (body_of s) (body_part s).start
  unfolding head_of body_of
  body_is k = ap (λ x. body_asked q k x (part_at s x.body.start x.body.len) x.body.start) eh

  module _ (k : Kind) (ek : k ≡ kind_of (part_at s h.kind.start h.kind.len)) (a : Bool) (ea : a ≡ is_known k) where
    kind_is : kind_of (value_of s 35) ≡ k
    kind_is = sym (ek ∙ ap kind_of value_35)

    pub admits_kind : not a ≡ true → outcome_row k h says lens (Err (record { reason = InvalidMsgType; tag = 35 })) ≡ head_asked q venue port s
    unfolding head_asked
    admits_kind g = rw (kind_is, sym ea ∙ not-true a g, eh)

    module _ (ga : not a ≡ false) (v₂ : List ℕ) (e₂ : v₂ ≡ part_at s h.sender.start h.sender.len) (c : Bool) (ec : c ≡ same_bytes v₂ port) where
      sender_is : same_bytes (value_of s 49) port ≡ c
      sender_is = sym (ec ∙ ap (λ x. same_bytes x port) (e₂ ∙ value_49))

      pub admits_sender : not c ≡ true → outcome_row k h says lens (Err (record { reason = CompIdProblem; tag = 49 })) ≡ head_asked q venue port s
      unfolding head_asked
      admits_sender g = rw (kind_is, sym ea ∙ not-false a ga, sender_is, not-true c g, eh)

      module _ (gc : not c ≡ false) (v₃ : List ℕ) (e₃ : v₃ ≡ part_at s h.target.start h.target.len) (d : Bool) (ed : d ≡ same_bytes v₃ venue) where
        target_is : same_bytes (value_of s 56) venue ≡ d
        target_is = sym (ed ∙ ap (λ x. same_bytes x venue) (e₃ ∙ value_56))

        pub admits_target : not d ≡ true → outcome_row k h says lens (Err (record { reason = CompIdProblem; tag = 56 })) ≡ head_asked q venue port s
        unfolding head_asked
        admits_target g = rw (kind_is, sym ea ∙ not-false a ga, sender_is, not-false c gc, target_is, not-true d g, eh)

        pub admits_body : not d ≡ false → (r : Verdict) → outcome_row k h says lens r ≡ body_asked q k h (part_at s h.body.start h.body.len) h.body.start
            → outcome_row k h says lens r ≡ head_asked q venue port s
        unfolding head_asked
        admits_body g r er = er ∙ body_is k ∙ rw (kind_is, sym ea ∙ not-false a ga, sender_is, not-false c gc, target_is, not-false d g)

-- the answer by the verdict
module _ (k : Kind) (h : Head) (says lens : List ℕ) (v : Verdict) (x r : Asked) (e : outcome_row k h says lens v ≡ x) where
  pub admits_refusal : (f : Fault) → v ≡ Err f → r ≡ refusal_of h f.reason f.tag → r ≡ x
  admits_refusal f g er = er ∙ rw g at e

  pub admits_request : v ≡ Ok tt → r ≡ request_row k h says lens → r ≡ x
  admits_request g er = er ∙ rw g at e

pub kind_part : (s v : List ℕ) (p n : ℕ) (k : Kind) → v ≡ part_at s p n → k ≡ kind_of v → k ≡ kind_of (part_at s p n)
kind_part s v p n k e g = g ∙ ap kind_of e

-- ---- the message
module _ (q : Instrument) (venue port s row : List ℕ) (f : Option Head) (w : Framed s row f) where
  pub asked_garbled : f ≡ None → Garbled ≡ asked_of q venue port s
  unfolding asked_of
  asked_garbled g = rw (← is_garbled s f w.frame g)

  pub asked_good : (h : Head) (r : Asked) → f ≡ Some h → r ≡ head_asked q venue port s → r ≡ asked_of q venue port s
  unfolding asked_of
  asked_good h r g er = er ∙ rw (← is_good_lem s f w.frame h g)

pub asked_head : (s row : List ℕ) (f : Option Head) (h : Head) → Framed s row f → f ≡ Some h → Admitted s h row
asked_head s row f h w g = record { head = good_head s f w.frame h g; held = w.held h g }

pub admits_held : (s row : List ℕ) (h : Head) → Admitted s h row → Held row h.body.start 7 (fields_of (part_at s h.body.start h.body.len))
unfolding head_of
admits_held s row h a = rw a.head a.held
