-- The walk over the fields of a body: the verdict, and the rows of what the values say.
use Rattle.std.specs.Prelude.{Option, Some, None, Ok, Err}
use Prim.Native.Nat.{ℕ, zero, suc, ◌+◌, ◌-◌, ◌*◌, ◌^◌, ◌≤◌, ◌<◌}
use mathlib.Core.Path.{◌≡◌, refl, sym, ap, ◌∙◌}
use mathlib.Core.List.{List, [], ◌∷◌}
use mathlib.Core.Bool.{Bool, true, false, cond, not, ◌&&◌, ◌||◌, or-true}
use native.Mathlib.Omega.{arith}
use native.Mathlib.Nat.{suc-ne-zero}
use lib.Dec.{eqb}
use lib.ListN.{length, get_or, set, take, drop, replicate, length-set}
use lib.Seq.{get_or-set_same, get_or-set_other}
use types.Run.{OneOf}
use borrow.Author.Tests.{eq-eqb, ne_eqb, eqb-true, eqb-false, not-true, not-false}
use Rattle.octets.specs.Octets.{part_at}
use Rattle.octets.proofs.Parts.{lent_part}
use Rattle.octets.proofs.Bools.{split, both_l, both_r, or_r, not_both}
use Rattle.decimal.specs.declared.Instrument.{Instrument}
use Rattle.decimal.specs.declared.Instrument.TheVariants.{Bonds, Equities}
use Rattle.fix.specs.declared.pass.Noted.{Noted}
use Rattle.fix.specs.Fields.{Fld, fields_of, find_tag}
use Rattle.fix.specs.Steps.{field_at, moved, Held, seat_of}
use Rattle.request.specs.declared.Kind.{Kind}
use Rattle.request.specs.declared.Kind.TheVariants.{NewOrder, Replacement, Cancel, Unknown}
use Rattle.request.specs.declared.Reason.{Reason}
use Rattle.request.specs.declared.Reason.TheVariants.{UndefinedTag, TagNotDefined, TagWithoutValue}
use Rattle.request.specs.Session.{Judged, needed, optional, one_of, belongs, listed, shape_of, look_as, judge, first_failing}
use Rattle.request.specs.Asks.{said_in, length_in}
use Rattle.request.specs.Gathers.{slots, slot, is_equities, InEach, Starts, kept_says, kept_lens, known, Walked}
use Rattle.request.proofs.Insides.{Inside, fields_inside}
use Rattle.request.proofs.Keys.{Each, covered, none_of, each_is, each_at}

zeros : (n i : ℕ) → ◌≡◌ {A = ℕ} (get_or (replicate n 0) i 0) 0
zeros zero i = refl
zeros (suc n) zero = refl
zeros (suc n) (suc i) = zeros n i

-- ---- the tags that some market lists
abbrev tags : List ℕ
tags = 1 ∷ 11 ∷ 21 ∷ 38 ∷ 40 ∷ 41 ∷ 44 ∷ 47 ∷ 54 ∷ 55 ∷ 59 ∷ 60 ∷ 109 ∷ 110 ∷ 544 ∷ 8060 ∷ 8214 ∷ []

in_tags : (ts : List ℕ) (t : ℕ) → each_is (λ k. one_of k tags) ts ≡ true → one_of t ts ≡ true → one_of t tags ≡ true
in_tags ts t e o = each_at (λ k. one_of k tags) ts t e o

kind_tags : (q : Instrument) (k : Kind) → (each_is (λ u. one_of u tags) (needed q k) && each_is (λ u. one_of u tags) (optional q k)) ≡ true
unfolding each_is one_of
kind_tags Bonds NewOrder = refl
kind_tags Equities NewOrder = refl
kind_tags q Replacement = refl
kind_tags q Cancel = refl
kind_tags q Unknown = refl

belongs_tag : (q : Instrument) (k : Kind) (t : ℕ) → belongs q k t ≡ true → one_of t tags ≡ true
unfolding belongs
belongs_tag q k t h =
    let e = kind_tags q k in
    let a = each_is (λ u. one_of u tags) (needed q k) in
    let b = each_is (λ u. one_of u tags) (optional q k) in
    split (one_of t (needed q k)) (λ y. in_tags (needed q k) t (both_l a b e) y) (λ n. in_tags (optional q k) t (both_r a b e) (or_r (one_of t (needed q k)) (one_of t (optional q k)) h n))

-- what belongs to a type is listed
pub belongs_listed : (q : Instrument) (k : Kind) (t : ℕ) → belongs q k t ≡ true → listed q t ≡ true
unfolding listed belongs one_of
belongs_listed q NewOrder t h = rw h
belongs_listed q Replacement t h = rw (h, or-true)
belongs_listed q Cancel t h = rw (h, or-true)
belongs_listed q Unknown t h = absurd (not_both h refl)

listed_tag : (q : Instrument) (t : ℕ) → listed q t ≡ true → one_of t tags ≡ true
unfolding listed
listed_tag q t h =
    let a = belongs q NewOrder t in
    let b = belongs q Replacement t in
    split a (λ y. belongs_tag q NewOrder t y)
    (λ n. split b (λ y. belongs_tag q Replacement t y) (λ m. belongs_tag q Cancel t (or_r (a || b) (belongs q Cancel t) h (rw (n, m)))))

pub listed_known : (q : Instrument) (t : ℕ) → listed q t ≡ true → known t ≡ true
unfolding known
listed_known Bonds t h = rw h
listed_known Equities t h = rw (h, or-true)

known_tag : (t : ℕ) → known t ≡ true → one_of t tags ≡ true
unfolding known
known_tag t h =
    split (listed Bonds t) (λ y. listed_tag Bonds t y) (λ n. listed_tag Equities t (or_r (listed Bonds t) (listed Equities t) h n))

-- a tag of neither list of a type
pub none_belongs : (q : Instrument) (k : Kind) (t : ℕ) → one_of t (needed q k) ≡ false → one_of t (optional q k) ≡ false → false ≡ belongs q k t
unfolding belongs
none_belongs q k t a b = rw (a, b)

-- a new order: the tags that each market has, those of equities, and no other
abbrev pub commons : List ℕ
commons = 1 ∷ 11 ∷ 21 ∷ 38 ∷ 40 ∷ 44 ∷ 47 ∷ 54 ∷ 59 ∷ 109 ∷ 8060 ∷ []

abbrev pub others : List ℕ
others = 55 ∷ 60 ∷ 110 ∷ []

pub new_commons : (q : Instrument) → Each (λ t. true ≡ belongs q NewOrder t) commons
unfolding belongs one_of
new_commons Bonds = (refl, (refl, (refl, (refl, (refl, (refl, (refl, (refl, (refl, (refl, (refl, tt)))))))))))
new_commons Equities = (refl, (refl, (refl, (refl, (refl, (refl, (refl, (refl, (refl, (refl, (refl, tt)))))))))))

pub new_others : (q : Instrument) → Each (λ t. true ≡ belongs q NewOrder t) others
unfolding belongs one_of
new_others Bonds = (refl, (refl, (refl, tt)))
new_others Equities = (refl, (refl, (refl, tt)))

pub new_own : (q : Instrument) (r : Bool) → r ≡ is_equities q → Each (λ t. r ≡ belongs q NewOrder t) (544 ∷ 8214 ∷ [])
unfolding belongs one_of
new_own Bonds r e = (e, (e, tt))
new_own Equities r e = (e, (e, tt))

pub new_none : (q : Instrument) (t : ℕ) → (OneOf commons t → ⊥) → (OneOf others t → ⊥) → (OneOf (544 ∷ 8214 ∷ []) t → ⊥) → false ≡ belongs q NewOrder t
unfolding covered one_of
new_none Bonds t f g h =
    none_belongs Bonds NewOrder t (none_of commons others (544 ∷ 8214 ∷ []) t f g h (needed Bonds NewOrder) refl)
    (none_of commons others (544 ∷ 8214 ∷ []) t f g h (optional Bonds NewOrder) refl)
new_none Equities t f g h =
    none_belongs Equities NewOrder t (none_of commons others (544 ∷ 8214 ∷ []) t f g h (needed Equities NewOrder) refl)
    (none_of commons others (544 ∷ 8214 ∷ []) t f g h (optional Equities NewOrder) refl)

-- a type whose tags are the same in each market
pub by_each : (q : Instrument) (k l : Kind) (t : ℕ) (b : Bool) → k ≡ l → InEach l t b → b ≡ belongs q k t
by_each q k l t b e h = rw e (h.told q)

pub some_is : (q : Instrument) (t : ℕ) (a b c : Bool) → a ≡ belongs q NewOrder t → InEach Replacement t b → InEach Cancel t c → (a || b || c) ≡ listed q t
unfolding listed
some_is q t a b c ea eb ec = rw (ea, eb.told q, ec.told q)

pub by_kind : (q : Instrument) (k l : Kind) (t : ℕ) (b : Bool) → k ≡ l → b ≡ belongs q l t → b ≡ belongs q k t
by_kind q k l t b e h = rw e h

pub unknown_none : (q : Instrument) (k : Kind) (t : ℕ) → k ≡ Unknown → false ≡ belongs q k t
unfolding belongs one_of
unknown_none q k t e = rw e

-- their remainders differ
apart : ℕ → ℕ → Bool
unfolding each_is
apart t u = not (eqb (slot t) (slot u)) || eqb t u

all_apart : each_is (λ t. each_is (apart t) tags) tags ≡ true
unfolding each_is apart
all_apart = refl

pub slots_differ : (t u : ℕ) → known t ≡ true → known u ≡ true → (t ≡ u → ⊥) → slot t ≡ slot u → ⊥
unfolding apart
slots_differ t u ht hu d e =
    let a = each_at (λ t. each_is (apart t) tags) tags t all_apart (known_tag t ht) in
    let b = each_at (apart t) tags u a (known_tag u hu) in
    not_both b (rw (eq-eqb (slot t) (slot u) e, ne_eqb t u d))

-- ---- one field
abbrev fld : ℕ → ℕ → ℕ → Fld
fld t start len = record { tag = t; start = start; len = len }

module _ (q : Instrument) (k : Kind) (b : List ℕ) (from t start len : ℕ) (y : Bool) (ey : y ≡ belongs q k t) where
  module _ (z : Bool) (ez : z ≡ listed q t) (h : not y ≡ true) where
    pub judge_type : z ≡ true → Err TagNotDefined ≡ judge q k b from (fld t start len)
    unfolding judge
    judge_type g = rw (sym ez ∙ g, sym ey ∙ not-true y h)

    pub judge_unlisted : z ≡ false → Err UndefinedTag ≡ judge q k b from (fld t start len)
    unfolding judge
    judge_unlisted g = rw (sym ez ∙ g)

  module _ (h : not y ≡ false) where
    here : belongs q k t ≡ true
    here = sym ey ∙ not-false y h

    pub judge_empty : len ≡ 0 → Err TagWithoutValue ≡ judge q k b from (fld t start len)
    unfolding judge
    judge_empty g = rw (belongs_listed q k t here, here) (simp (eq-eqb len 0 g))

    judge_look : (v : List ℕ) (r : Judged) → (len ≡ 0 → ⊥) → v ≡ part_at b start len → r ≡ look_as (from + start) (shape_of q t) v → r ≡ judge q k b from (fld t start len)
    unfolding judge
    judge_look v r g ev er = er ∙ rw (belongs_listed q k t here, here, ne_eqb len 0 g, ev)

    -- the value as it was lent
    pub judge_lent : (r : Judged) → (len ≡ 0 → ⊥) → r ≡ look_as (from + start) (shape_of q t) (take (start + len - start) (drop start b))
        → r ≡ judge q k b from (fld t start len)
    judge_lent r g er = judge_look (part_at b start len) r g refl (rw (lent_part b start len) at er)

-- a field that says something
pub record Means (q : Instrument) (k : Kind) (b : List ℕ) (from : ℕ) (f : Fld) (n : ℕ) : Type 0 where
  pub listed_is : listed q f.tag ≡ true
  pub some : f.len ≡ 0 → ⊥
  pub looks : look_as (from + f.start) (shape_of q f.tag) (part_at b f.start f.len) ≡ Ok n

means_by : (a c e : Bool) (x : Judged) (n : ℕ) → cond (not a) (Err UndefinedTag) (cond (not c) (Err TagNotDefined) (cond e (Err TagWithoutValue) x)) ≡ Ok n
    → (a ≡ true) × (e ≡ false) × (x ≡ Ok n)
means_by true true false x n same = (refl, refl, same)
means_by false c e x n same = let z : ◌≡◌ {A = ℕ} 0 1 = cc in absurd (suc-ne-zero 0 (sym z))
means_by true false e x n same = let z : ◌≡◌ {A = ℕ} 0 1 = cc in absurd (suc-ne-zero 0 (sym z))
means_by true true true x n same = let z : ◌≡◌ {A = ℕ} 0 1 = cc in absurd (suc-ne-zero 0 (sym z))

pub says_means : (q : Instrument) (k : Kind) (b : List ℕ) (from : ℕ) (f : Fld) (n : ℕ) → judge q k b from f ≡ Ok n → Means q k b from f n
unfolding judge
says_means q k b from f n same =
    let m = means_by (listed q f.tag) (belongs q k f.tag) (eqb f.len 0) _ n same in
    record { listed_is = m.0; some = eqb-false f.len 0 m.1; looks = m.2 }

-- ---- the invariant: the verdict on all is that on those left, and the rows hold what the fields before them say
pub record Gathering (q : Instrument) (k : Kind) (b : List ℕ) (from : ℕ) (left : List Fld) (says lens : List ℕ) : Type 0 where
  pub says_room : length says ≡ slots
  pub lens_room : length lens ≡ slots
  pub verdict : first_failing q k b from (fields_of b) ≡ first_failing q k b from left
  pub fresh : (t : ℕ) → known t ≡ true → get_or lens (slot t) 0 ≡ 0 → (get_or says (slot t) 0 ≡ 0) × (find_tag t (fields_of b) ≡ find_tag t left)
  pub held : (t : ℕ) → known t ≡ true → (get_or lens (slot t) 0 ≡ 0 → ⊥) → (get_or says (slot t) 0 ≡ said_in q b from t) × (get_or lens (slot t) 0 ≡ length_in b t)

-- those left are what the row holds from the field with the number j on
pub record Seated (q : Instrument) (k : Kind) (b row : List ℕ) (from j : ℕ) (says lens : List ℕ) : Type 0 where
  pub left : List Fld
  pub held : Held row from j left
  pub inside : Inside (length b) left
  pub gathers : Gathering q k b from left says lens

pub gather_start : (q : Instrument) (k : Kind) (b row : List ℕ) (from : ℕ) (says lens : List ℕ) → Starts b row from says lens → Seated q k b row from 7 says lens
gather_start q k b row from says lens h =
    record {
      left = fields_of b;
      held = h.held;
      inside = fields_inside b;
      gathers = record {
        says_room = rw h.no_says;
        lens_room = rw h.no_lens;
        verdict = refl;
        fresh = λ t l z. (rw h.no_says (zeros slots (slot t)), refl);
        held = λ t l z. absurd (z (rw h.no_lens (zeros slots (slot t))));
      };
    }

held_room : (row : List ℕ) (from j : ℕ) (left : List Fld) → Held row from j left → j < 341
held_room row from j [] h = h.1
held_room row from j (f ∷ fs) h = h.0.room

-- ---- a step over the row: the next field, and those behind it
pub record Taken (q : Instrument) (k : Kind) (b row : List ℕ) (from next : ℕ) (says lens : List ℕ) (t start len : ℕ) : Type 0 where
  pub behind : from ≤ start
  pub within : start - from + len ≤ length b
  pub rest : List Fld
  pub held : Held row from next rest
  pub inside : Inside (length b) rest
  pub gathers : Gathering q k b from (fld t (start - from) len ∷ rest) says lens

-- a test that the tag is not 10
abbrev note : ℕ → ℕ → ℕ → ℕ → Noted
note t start len n = record { tag = t; start = start; len = len; next = record { number = n } }

good_if : (a : Bool) (t start len n : ℕ) (x : Noted) → cond a None (Some (note t start len n)) ≡ Some x
    → (a ≡ false) × (t ≡ x.tag) × (start ≡ x.start) × (len ≡ x.len) × (n ≡ x.next.number)
good_if false t start len n x e =
    let q : note t start len n ≡ x = cc in
    (refl, ap (λ (y : Noted). y.tag) q, ap (λ (y : Noted). y.start) q, ap (λ (y : Noted). y.len) q, ap (λ (y : Noted). y.next.number) q)
good_if true t start len n x e = let z : ◌≡◌ {A = ℕ} 0 1 = cc in absurd (suc-ne-zero 0 (sym z))

end_if : (a : Bool) (t start len n : ℕ) → cond a None (Some (note t start len n)) ≡ None → a ≡ true
end_if true t start len n e = refl
end_if false t start len n e = let z : ◌≡◌ {A = ℕ} 0 1 = cc in absurd (suc-ne-zero 0 (sym z))

-- the field of the row, by its numbers
record Numbers (row : List ℕ) (from j : ℕ) (f : Fld) : Type 0 where
  tag : get_or row (j * 3) 0 ≡ f.tag
  start : get_or row (j * 3 + 1) 0 ≡ from + f.start
  len : get_or row (j * 3 + 2) 0 ≡ f.len

numbers : (row : List ℕ) (from j : ℕ) (f : Fld) → field_at row j ≡ moved from f → Numbers row from j f
unfolding field_at moved
numbers row from j f e = record { tag = ap (λ (g : Fld). g.tag) e; start = ap (λ (g : Fld). g.start) e; len = ap (λ (g : Fld). g.len) e }

module _ (q : Instrument) (k : Kind) (b row : List ℕ) (from j : ℕ) (says lens : List ℕ) (inv : Seated q k b row from j says lens) where
  pub seat_room : j < 341
  seat_room = held_room row from j inv.left inv.held

  module _ (r : Option Noted) (e : r ≡ seat_of row j) where
    taken_by : (left : List Fld) → Held row from j left → Inside (length b) left → Gathering q k b from left says lens → (x : Noted) → r ≡ Some x
        → Taken q k b row from x.next.number says lens x.tag x.start x.len
    unfolding seat_of
    taken_by [] h i w x g =
        let same = good_if (eqb (get_or row (j * 3) 0) 10) _ _ _ _ x (sym e ∙ g) in
        absurd (eqb-false (get_or row (j * 3) 0) 10 same.0 h.0)
    taken_by (f ∷ fs) h i w x g =
        let same = good_if (eqb (get_or row (j * 3) 0) 10) _ _ _ _ x (sym e ∙ g) in
        let n = numbers row from j f h.0.here in
        let a : f.tag ≡ x.tag = sym n.tag ∙ same.1 in
        let c : from + f.start ≡ x.start = sym n.start ∙ same.2 in
        let d : f.len ≡ x.len = sym n.len ∙ same.3 in
        let z : f.start ≡ x.start - from = omega (arith, c) in
        record {
          behind = omega (arith, c);
          within = omega (arith, z, d, i.0);
          rest = fs;
          held = rw (← same.4) h.1;
          inside = i.1;
          gathers = rw (← a, ← z, ← d) w;
        }

    pub taken : (x : Noted) → r ≡ Some x → Taken q k b row from x.next.number says lens x.tag x.start x.len
    taken x g = taken_by inv.left inv.held inv.inside inv.gathers x g

    pub seat_behind : (x : Noted) → r ≡ Some x → from ≤ x.start
    seat_behind x g = (taken x g).behind

    pub seat_within : (x : Noted) → r ≡ Some x → x.start - from + x.len ≤ length b
    seat_within x g = (taken x g).within

    pub seat_less : (x : Noted) → r ≡ Some x → 341 - x.next.number < 341 - j
    unfolding seat_of
    seat_less x g =
        let same = good_if (eqb (get_or row (j * 3) 0) 10) _ _ _ _ x (sym e ∙ g) in
        omega (arith, same.4, seat_room)

    pub place_near : (x : Noted) → r ≡ Some x → x.start < 2 ^ 64 → from + (x.start - from) < 2 ^ 64
    place_near x g h = omega (arith, seat_behind x g)

    empty_by : (left : List Fld) → Held row from j left → r ≡ None → left ≡ []
    unfolding seat_of
    empty_by [] h g = refl
    empty_by (f ∷ fs) h g =
        let same = end_if (eqb (get_or row (j * 3) 0) 10) _ _ _ _ (sym e ∙ g) in
        absurd (h.0.other (sym (numbers row from j f h.0.here).tag ∙ eqb-true (get_or row (j * 3) 0) 10 same))

    module _ (f : Noted) (g : r ≡ Some f) where
      abbrev t : ℕ
      t = f.tag

      abbrev start : ℕ
      start = f.start

      abbrev len : ℕ
      len = f.len

      step : Taken q k b row from f.next.number says lens t start len
      step = taken f g

      w : Gathering q k b from (fld t (start - from) len ∷ step.rest) says lens
      w = step.gathers

      module _ (x : Judged) (ex : x ≡ judge q k b from (fld t (start - from) len)) where
        pub gather_fails : (reason : Reason) (says' lens' : List ℕ) → x ≡ Err reason → Walked q k b from (Err (record { reason = reason; tag = t })) says' lens'
        unfolding first_failing
        gather_fails reason says' lens' gx =
            record {
              verdict = sym (w.verdict ∙ rw (← ex, gx));
              rows = λ same. let z : ◌≡◌ {A = ℕ} 0 1 = cc in absurd (suc-ne-zero 0 (sym z));
            }

        module _ (n : ℕ) (gx : x ≡ Ok n) where
          m : Means q k b from (fld t (start - from) len) n
          m = says_means q k b from (fld t (start - from) len) n (sym ex ∙ gx)

          verdict_next : first_failing q k b from (fields_of b) ≡ first_failing q k b from step.rest
          unfolding first_failing
          verdict_next = w.verdict ∙ rw (← ex, gx)

          -- another tag is looked for in the rest
          find_past : (u : ℕ) → (t ≡ u → ⊥) → find_tag u (fld t (start - from) len ∷ step.rest) ≡ find_tag u step.rest
          unfolding find_tag
          find_past u d = simp (ne_eqb t u d)

          find_now : find_tag t (fld t (start - from) len ∷ step.rest) ≡ Some (record { start = start - from; len = len })
          unfolding find_tag
          find_now = simp (eq-eqb t t refl)

          -- its tag has something in the rows already
          again : (get_or lens (slot t) 0 ≡ 0 → ⊥) → Gathering q k b from step.rest says lens
          again h =
              record {
                says_room = w.says_room;
                lens_room = w.lens_room;
                verdict = verdict_next;
                fresh = λ u l z.
                    let y = w.fresh u l z in
                    (y.0, y.1 ∙ find_past u (λ same. h (rw same z)));
                held = w.held;
              }

          -- it has nothing yet
          module _ (h : get_or lens (slot t) 0 ≡ 0) where
            first : find_tag t (fields_of b) ≡ Some (record { start = start - from; len = len })
            first = (w.fresh t (listed_known q t m.listed_is) h).1 ∙ find_now

            other : (u : ℕ) → known u ≡ true → (u ≡ t → ⊥) → (get_or (set says (slot t) n) (slot u) 0 ≡ get_or says (slot u) 0) × (get_or (set lens (slot t) len) (slot u) 0 ≡ get_or lens (slot u) 0)
            other u l d =
                let a = slots_differ u t l (listed_known q t m.listed_is) d in
                (get_or-set_other says (slot t) (slot u) n 0 a, get_or-set_other lens (slot t) (slot u) len 0 a)

            same_says : get_or (set says (slot t) n) (slot t) 0 ≡ n
            same_says = get_or-set_same says (slot t) n 0 (omega (arith, w.says_room))

            same_lens : get_or (set lens (slot t) len) (slot t) 0 ≡ len
            same_lens = get_or-set_same lens (slot t) len 0 (omega (arith, w.lens_room))

            said_here : n ≡ said_in q b from t
            unfolding said_in
            said_here = rw first (rw m.looks)

            length_here : len ≡ length_in b t
            unfolding length_in
            length_here = rw first

            stored : Gathering q k b from step.rest (set says (slot t) n) (set lens (slot t) len)
            stored =
                record {
                  says_room = simp length-set w.says_room;
                  lens_room = simp length-set w.lens_room;
                  verdict = verdict_next;
                  fresh = λ u l z. split (eqb u t)
                      (λ y. absurd (m.some (sym same_lens ∙ rw (eqb-true u t y) at z)))
                      (λ d.
                      let o = other u l (eqb-false u t d) in
                      let f = w.fresh u l (sym o.1 ∙ z) in
                      (o.0 ∙ f.0, f.1 ∙ find_past u (λ same. eqb-false u t d (sym same))));
                  held = λ u l z. split (eqb u t)
                      (λ y. rw (eqb-true u t y) (same_says ∙ said_here, same_lens ∙ length_here))
                      (λ d.
                      let o = other u l (eqb-false u t d) in
                      let f = w.held u l (λ same. z (o.1 ∙ same)) in
                      (o.0 ∙ f.0, o.1 ∙ f.1));
                }

          pub gather_more : (says' lens' : List ℕ) → says' ≡ kept_says says lens t n → lens' ≡ kept_lens lens t len → Seated q k b row from f.next.number says' lens'
          unfolding kept_says kept_lens
          gather_more says' lens' es el =
              split (eqb (get_or lens (slot t) 0) 0)
              (λ y. record { left = step.rest; held = step.held; inside = step.inside; gathers = rw (es, el) (rw y (stored (eqb-true (get_or lens (slot t) 0) 0 y))) })
              (λ d. record { left = step.rest; held = step.held; inside = step.inside; gathers = rw (es, el) (rw d (again (eqb-false (get_or lens (slot t) 0) 0 d))) })

    ended : (left : List Fld) → left ≡ [] → Gathering q k b from left says lens → Walked q k b from (Ok tt) says lens
    unfolding first_failing find_tag said_in length_in
    ended left same w =
        record {
          verdict = sym (w.verdict ∙ rw same);
          rows = λ same'. λ t l. split (eqb (get_or lens (slot t) 0) 0)
              (λ y.
              let z = eqb-true (get_or lens (slot t) 0) 0 y in
              let f = w.fresh t l z in
              let v : find_tag t (fields_of b) ≡ None = f.1 ∙ rw same in
              (f.0 ∙ rw v, z ∙ rw v))
              (λ d. w.held t l (eqb-false (get_or lens (slot t) 0) 0 d));
        }

    pub gather_end : r ≡ None → Walked q k b from (Ok tt) says lens
    gather_end g = ended inv.left (empty_by inv.left inv.held g) inv.gathers
