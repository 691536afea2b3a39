-- Fields that stand one behind another: what each answer of `standing` rests on, and what it comes to for a report.
use Prim.Native.Nat.{ℕ, zero, suc, ◌+◌, ◌-◌, ◌^◌, ◌≤◌, ◌<◌}
use mathlib.Core.Path.{◌≡◌, refl, sym, ap, ◌∙◌}
use mathlib.Core.Bool.{Bool, true, false, cond, not, false≢true}
use mathlib.Core.List.{List, [], ◌∷◌}
use native.Mathlib.Omega.{arith}
use lib.Dec.{ltb, eqb}
use lib.ListN.{length, take, drop, replicate, length-drop}
use mir.Syntax.{w64}
use mir.Val.{Fits}
use borrow.Author.Tests.{eq-eqb, ne_eqb, eqb-true, eqb-false, not-true, not-false}
use Rattle.octets.proofs.Bools.{split}
use Rattle.decimal.specs.declared.Instrument.{Instrument}
use Rattle.decimal.specs.Writing.{decimal}
use Rattle.report.specs.declared.Value.{Value}
use Rattle.report.specs.declared.Value.TheVariants.{Absent, Number}
use Rattle.report.specs.declared.Field.{Field}
use Rattle.report.specs.declared.Shape.{Shape}
use Rattle.report.specs.declared.Shape.TheVariants as shape
use Rattle.report.specs.declared.Slot.{Slot}
use Rattle.report.specs.declared.Got.{Got}
use Rattle.report.specs.declared.Kind.{Kind}
use Rattle.report.specs.declared.Kind.TheVariants.{Accepted, Replaced, Canceled, Trade, Rejected, CancelReject, SessionReject, Refused}
use Rattle.report.specs.declared.Reading.{Reading}
use Rattle.report.specs.Fields.{field, label}
use Rattle.report.specs.Shapes.{value_in}
use Rattle.report.specs.Parse.{starts, len_to, got_of, found, value_at, field_at, Rows, row, bad, cons_row, next_rows, read_row}
use Rattle.report.specs.Slots.{unused, slots_of}
use Rattle.report.specs.Reports.{length_slot, body_at, trailer_at, checked, read_framed, kind_of, reading_of, read_of}
use Rattle.kinds.specs.Standing.{value_from, next_of, after, after_all, slot, is_row, is_canceled}
use Rattle.report.proofs.Labels.{starts_length, starts_long, label_length}
use Rattle.report.proofs.Parses.{found_next, value_none, value_is}
use Rattle.report.proofs.Frames.{body_within}
use Rattle.report.proofs.Only.{value_found, body_found}
use Rattle.report.proofs.Readings.{read_is}
use Rattle.fix.specs.declared.frame.Part.{Part}
use Rattle.std.proofs.Common.{Option, Some, None}

-- ---- behind a label
module _ (s : List ℕ) (at tag : ℕ) where
  pub from_none : at ≡ 0 → 0 ≡ value_from s at tag
  unfolding value_from
  from_none e = rw (eq-eqb at 0 e)

  pub from_past : (at ≡ 0 → ⊥) → length s < at → 0 ≡ value_from s at tag
  unfolding value_from
  from_past n h = rw (ne_eqb at 0 n, starts_long (label tag) (drop at s) (omega (arith, length-drop at s, label_length tag)))

  module _ (n : at ≡ 0 → ⊥) (t : Bool) (te : t ≡ starts (label tag) (drop at s)) where
    pub from_yes : t ≡ true → (k : ℕ) → k ≡ length (decimal tag) → at + k + 1 ≡ value_from s at tag
    unfolding value_from
    from_yes y k ke = rw (ne_eqb at 0 n, sym te ∙ y) (omega (arith, label_length tag))

    pub from_not : t ≡ false → 0 ≡ value_from s at tag
    unfolding value_from
    from_not y = rw (ne_eqb at 0 n, sym te ∙ y)

-- ---- behind a field
module _ (s : List ℕ) (at tag : ℕ) (v : ℕ) (ve : v ≡ value_from s at tag) where
  pub record There : Type 0 where
    pub some : at ≡ 0 → ⊥
    pub stands : starts (label tag) (drop at s) ≡ true
    pub from : v ≡ at + length (label tag)

  pub there : (v ≡ 0 → ⊥) → There
  unfolding value_from
  there n =
      split (eqb at 0)
      (λ e. absurd (n (ve ∙ rw e)))
      (λ e. split (starts (label tag) (drop at s))
      (λ t. record { some = eqb-false at 0 e; stands = t; from = ve ∙ rw (e, t) })
      (λ t. absurd (n (ve ∙ rw (e, t)))))

  pub from_within : (v ≡ 0 → ⊥) → v ≤ length s
  from_within n = let f = there n in omega (arith, f.from, starts_length (label tag) (drop at s) f.stands, length-drop at s, label_length tag)

  module _ (o : Bool) (x : Shape) where
    -- the label is not there
    pub stands_none : v ≡ 0 → (r : ℕ) → r ≡ cond o at 0 → r ≡ after s at (slot tag o x)
    unfolding value_from after field_at
    stands_none z r re =
        split (eqb at 0)
        (λ e. let a : at ≡ 0 = eqb-true at 0 e in let c : cond o at 0 ≡ 0 = split o (λ q. rw q a) (λ q. rw q) in rw e (re ∙ c))
        (λ e. split (starts (label tag) (drop at s))
        (λ t. let y : v ≡ at + length (label tag) = ve ∙ rw (e, t) in absurd (omega (arith, label_length tag)))
        (λ t. rw (e, t) (split o (λ q. rw q (re ∙ rw q)) (λ q. rw q (re ∙ rw q)))))

    module _ (n : v ≡ 0 → ⊥) where
      to_value : after s at (slot tag o x) ≡ next_of (value_at s v x)
      unfolding after field_at
      to_value = let f = there n in rw (ne_eqb at 0 f.some, f.stands, ← f.from)

      -- no SOH ends its value
      pub stands_end : (e : ℕ) → e ≡ v + len_to (drop v s) → length s ≤ e → 0 ≡ after s at (slot tag o x)
      stands_end e k h = sym (to_value ∙ ap next_of (sym (value_none s v x e k h)))

      -- its value decides
      pub stands_value : (e : ℕ) → e ≡ v + len_to (drop v s) → e < length s → (p : Option Value) → p ≡ value_in x v (take (e - v) (drop v s)) → (r : ℕ) → r ≡ next_of (got_of p (e + 1)) → r ≡ after s at (slot tag o x)
      stands_value e k h p pe r re = re ∙ sym (to_value ∙ ap next_of (sym (value_is s v x e k h p pe)))

-- ---- no field
module _ (s : List ℕ) (at v : ℕ) (ve : v ≡ value_from s at 0) where
  pub unused_none : v ≡ 0 → at ≡ after s at unused
  unused_none z = stands_none s at 0 v ve true shape.Nothing z at refl

  pub unused_there : (v ≡ 0 → ⊥) → 0 ≡ after s at unused
  unfolding value_at
  unused_there n = sym (to_value s at 0 v ve true shape.Nothing n ∙ split (ltb (v + len_to (drop v s)) (length s)) (λ t. rw t) (λ t. rw t))

after_none : (s : List ℕ) (xs : List Slot) → after_all s 0 xs ≡ 0
unfolding after
after_none s [] = refl
after_none s (x ∷ xs) = after_none s xs

-- more of them change nothing
idle_one : (s : List ℕ) (a : ℕ) → after s (after s a unused) unused ≡ after s a unused
idle_one s a =
    split (eqb (value_from s a 0) 0)
    (λ t. let z : a ≡ after s a unused = unused_none s a (value_from s a 0) refl (eqb-true (value_from s a 0) 0 t) in ap (λ (b : ℕ). after s b unused) (sym z))
    (λ t. let z : 0 ≡ after s a unused = unused_there s a (value_from s a 0) refl (eqb-false (value_from s a 0) 0 t) in
    ap (λ (b : ℕ). after s b unused) (sym z) ∙ after_none s (unused ∷ []) ∙ z)

idle_all : (s : List ℕ) (b : ℕ) (n : ℕ) → after s b unused ≡ b → after_all s b (replicate n unused) ≡ b
idle_all s b zero e = refl
idle_all s b (suc n) e = ap (λ (c : ℕ). after_all s c (replicate n unused)) e ∙ idle_all s b n e

pub idle : (s : List ℕ) (a n r : ℕ) → r ≡ after s a unused → r ≡ after_all s (after s a unused) (replicate n unused)
idle s a n r e = e ∙ sym (idle_all s (after s a unused) n (idle_one s a))

-- ---- one behind another
pub link : (s : List ℕ) (x : Slot) {a b r : ℕ} → r ≡ after s b x → b ≡ a → r ≡ after s a x
link s x p e = p ∙ ap (λ (c : ℕ). after s c x) e

pub link_all : (s : List ℕ) (xs : List Slot) {a b r : ℕ} → r ≡ after_all s b xs → b ≡ a → r ≡ after_all s a xs
link_all s xs p e = p ∙ ap (λ (c : ℕ). after_all s c xs) e

-- ---- the row that is read
abbrev row_next : Rows → ℕ
row_next (row fs n) = n
row_next bad = 0

row_next_cons : (f : Field) (r : Rows) → row_next (cons_row f r) ≡ row_next r
row_next_cons f (row fs n) = refl
row_next_cons f bad = refl

after_is : (s : List ℕ) (at : ℕ) (x : Slot) → 0 < at → after s at x ≡ next_of (field_at s at x)
unfolding after
after_is s at x h = rw (ne_eqb at 0 (λ q. omega (arith, q)))

skip_some : (at : ℕ) (o : Bool) (v : Value) (n : ℕ) → 0 < at → cond o (found Absent at) None ≡ found v n → 0 < n
skip_some at true v n h e = omega (arith, found_next Absent v at n e)
skip_some at false v n h e = let z : ◌≡◌ {A = ℕ} 0 1 = cc in absurd (omega arith)

found_some : (s : List ℕ) (at : ℕ) (x : Slot) (v : Value) (n : ℕ) → 0 < at → field_at s at x ≡ found v n → 0 < n
unfolding field_at
found_some s at x v n h e =
    split (starts (label x.tag) (drop at s))
    (λ t. let f = value_found s (at + length (label x.tag)) x.shape v n (rw t at e) in omega (arith, f.next))
    (λ t. skip_some at x.optional v n h (rw t at e))

module _ (s : List ℕ) (at : ℕ) (x : Slot) (xs : List Slot) (h : 0 < at) (ih : (n : ℕ) → 0 < n → after_all s n xs ≡ row_next (read_row s n xs)) where
  row_turn : (g : Option Got) → field_at s at x ≡ g → after_all s (after s at x) xs ≡ row_next (next_rows x.tag g (λ n. read_row s n xs))
  row_turn (Some g) e =
      ap (λ (c : ℕ). after_all s c xs) (after_is s at x h ∙ ap next_of e) ∙ ih g.next (found_some s at x g.value g.next h e) ∙ sym (row_next_cons (field x.tag g.value) (read_row s g.next xs))
  row_turn None e = ap (λ (c : ℕ). after_all s c xs) (after_is s at x h ∙ ap next_of e) ∙ after_none s xs

after_row : (s : List ℕ) (at : ℕ) (xs : List Slot) → 0 < at → after_all s at xs ≡ row_next (read_row s at xs)
after_row s at [] h = refl
after_row s at (x ∷ xs) h = row_turn s at x xs h (λ n k. after_row s n xs k) (field_at s at x) refl

-- ---- the whole
is_checked_lem : (s : List ℕ) (end : ℕ) (r : Rows) → trailer_at s end ≡ true → 0 < end → eqb (row_next r) end ≡ is_row (checked s end r)
is_checked_lem s end (row fs n) u h = rw u (split (eqb n end) (λ v. rw v) (λ v. rw v))
is_checked_lem s end bad u h = ne_eqb 0 end (λ q. omega (arith, q))

no_sum : (s : List ℕ) (end : ℕ) (r : Rows) → trailer_at s end ≡ false → is_row (checked s end r) ≡ false
no_sum s end (row fs n) u = rw u (split (eqb n end) (λ v. rw v) (λ v. rw v))
no_sum s end bad u = refl

module _ (s : List ℕ) where
  pub unframed : body_at s ≡ None → (xs : List Slot) → false ≡ is_row (read_framed s xs)
  unfolding read_framed
  unframed e xs = rw e

  module _ (body : Part) (e : body_at s ≡ Some body) where
    pub frame_within : body.start + body.len ≤ length s
    frame_within = body_within s body.start body.len e

    pub frame_fits : length s < 2 ^ 64 → Fits w64 (body.start + body.len)
    frame_fits l = record { fits = omega (arith, frame_within) }

    framed : (xs : List Slot) → read_framed s xs ≡ checked s (body.start + body.len) (read_row s body.start xs)
    unfolding read_framed
    framed xs = rw e

    some : 0 < body.start
    some = found_some s 10 length_slot (Number body.len) body.start (omega arith) (body_found s body.start body.len e).1

    module _ (t : Bool) (te : t ≡ trailer_at s (body.start + body.len)) (xs : List Slot) where
      pub framed_sum : not t ≡ true → false ≡ is_row (read_framed s xs)
      framed_sum n = sym (ap is_row (framed xs) ∙ no_sum s (body.start + body.len) (read_row s body.start xs) (sym te ∙ not-true t n))

      pub framed_row : not t ≡ false → (m : ℕ) → m ≡ after_all s body.start xs → eqb m (body.start + body.len) ≡ is_row (read_framed s xs)
      framed_row y m me =
          ap (λ (j : ℕ). eqb j (body.start + body.len)) (me ∙ after_row s body.start xs some)
          ∙ is_checked_lem s (body.start + body.len) (read_row s body.start xs) (sym te ∙ not-false t y) (omega (arith, some)) ∙ sym (ap is_row (framed xs))

-- the kind of what was read
told : (k : Kind) (r : Rows) → is_canceled k ≡ false → (reading_of k r).kind ≡ cond (is_row r) k Refused
told Accepted (row fs n) e = refl
told Replaced (row fs n) e = refl
told Canceled (row fs n) e = absurd (false≢true (sym e))
told Trade (row fs n) e = refl
told Rejected (row fs n) e = refl
told CancelReject (row fs n) e = refl
told SessionReject (row fs n) e = refl
told Refused (row fs n) e = refl
told k bad e = refl

module _ (q : Instrument) (s : List ℕ) (k : Kind) (ke : k ≡ kind_of s) where
  pub kind_by_fields : (slots : List Slot) → slots ≡ slots_of q k → (x : Reading) → x ≡ reading_of k (read_framed s slots) → x.kind ≡ (read_of q s).kind
  kind_by_fields slots se x xe = ap (λ (y : Reading). y.kind) (read_is q s k slots x ke se xe)

  module _ (c : Bool) (ce : c ≡ is_canceled k) (no : c ≡ false) (t : Bool) (te : t ≡ is_row (read_framed s (slots_of q k))) where
    whole : cond t k Refused ≡ (read_of q s).kind
    whole =
        ap (λ (b : Bool). cond b k Refused) te ∙ sym (told k (read_framed s (slots_of q k)) (sym ce ∙ no))
        ∙ kind_by_fields (slots_of q k) refl (reading_of k (read_framed s (slots_of q k))) refl

    pub kind_stands : t ≡ true → k ≡ (read_of q s).kind
    kind_stands y = sym (ap (λ (b : Bool). cond b k Refused) y) ∙ whole

    pub kind_refused : t ≡ false → Refused ≡ (read_of q s).kind
    kind_refused y = sym (ap (λ (b : Bool). cond b k Refused) y) ∙ whole
