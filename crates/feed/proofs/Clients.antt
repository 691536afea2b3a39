-- The identifiers that 109 shows: what each test of them rests on, and the text they make.
use Prim.Native.Nat.{ℕ, ◌+◌, ◌≤◌, ◌<◌}
use mathlib.Core.Path.{◌≡◌, refl, sym, ap, ◌∙◌}
use mathlib.Core.Bool.{Bool, true, false, not, ◌&&◌, ◌||◌, and-false, false≢true}
use mathlib.Core.List.{List, [], ◌∷◌, ◌++◌}
use native.Mathlib.Omega.{arith}
use lib.Dec.{ltb, leb, eqb, lit≤}
use lib.ListN.{length, length-append}
use lib.Seq.{append_snoc}
use borrow.Author.Tests.{eq-eqb, ne_eqb, ltb-true, ltb-false, le-leb, lt-leb, leb-true, leb-false}
use mir.Syntax.{w64}
use mir.Val.{Fits}
use Rattle.octets.specs.Written.{Room, Wrote}
use Rattle.octets.proofs.Runs.{room_first, room_then, then}
use Rattle.octets.proofs.Bools.{split, both_l, both_r, both_i}
use Rattle.decimal.specs.declared.Instrument.{Instrument}
use Rattle.decimal.specs.declared.Instrument.TheVariants.{Bonds, Equities}
use Rattle.report.specs.Shapes.{all_from}
use Rattle.feed.specs.Rows.{longest}
use Rattle.feed.specs.Settings.{client_of, is_identifier, are_identifiers, is_setting}

-- ---- how long 109 may be
pub longest_most : (q : Instrument) → longest q ≤ 30
longest_most Bonds = lit≤ tt
longest_most Equities = lit≤ tt

-- ---- both are shown with a hyphen between
both_shown : (shows : ℕ) (port group : List ℕ) → (shows ≡ 1 → ⊥) → (shows ≡ 2 → ⊥) → client_of shows port group ≡ port ++ (45 ∷ []) ++ group
unfolding client_of
both_shown shows port group one two = rw (ne_eqb shows 1 one, ne_eqb shows 2 two) (sym (append_snoc port 45 group))

-- ---- one identifier
and_true : (a : Bool) → (a && true) ≡ a
and_true true = refl
and_true false = refl

module _ (v : List ℕ) (most : ℕ) where
  pub none_not : length v ≡ 0 → false ≡ (is_identifier v && leb (length v) most)
  unfolding is_identifier
  none_not e = rw (eq-eqb (length v) 0 e)

  module _ (some : length v ≡ 0 → ⊥) where
    pub long_not : most < length v → false ≡ (is_identifier v && leb (length v) most)
    long_not h = rw (lt-leb (length v) most h) (sym (and-false (is_identifier v)))

    pub all_so : length v ≤ most → (r : Bool) → r ≡ all_from 33 v → r ≡ (is_identifier v && leb (length v) most)
    unfolding is_identifier
    all_so h r e = rw (ne_eqb (length v) 0 some, le-leb (length v) most h) (e ∙ sym (and_true (all_from 33 v)))

-- ---- those that are shown, where 109 has at most so many characters
module _ (q : Instrument) (most : ℕ) (me : most ≡ longest q) (shows : ℕ) (port group : List ℕ) where
  abbrev Good : Bool
  Good = are_identifiers shows port group && leb (length (client_of shows port group)) (longest q)

  pub client_port : shows ≡ 1 → (r : Bool) → r ≡ (is_identifier port && leb (length port) most) → r ≡ Good
  unfolding are_identifiers client_of
  client_port h r e = rw (eq-eqb shows 1 h, ← me) e

  module _ (one : shows ≡ 1 → ⊥) where
    pub client_group : shows ≡ 2 → (r : Bool) → r ≡ (is_identifier group && leb (length group) most) → r ≡ Good
    unfolding are_identifiers client_of
    client_group h r e = rw (ne_eqb shows 1 one, eq-eqb shows 2 h, ← me) e

    module _ (two : shows ≡ 2 → ⊥) where
      pub client_other : (shows ≡ 3 → ⊥) → false ≡ Good
      unfolding are_identifiers
      client_other h = rw (ne_eqb shows 1 one, ne_eqb shows 2 two, ne_eqb shows 3 h)

      client_both : client_of shows port group ≡ port ++ (45 ∷ []) ++ group
      client_both = both_shown shows port group one two

      long : length (client_of shows port group) ≡ length port + length group + 1
      long = ap length client_both ∙ length-append (port ++ (45 ∷ [])) group ∙ omega (arith, length-append port (45 ∷ []))

      module _ (three : shows ≡ 3) where
        good : Good ≡ (is_identifier port && is_identifier group && leb (length (client_of shows port group)) most)
        unfolding are_identifiers
        good = rw (ne_eqb shows 1 one, ne_eqb shows 2 two, eq-eqb shows 3 three, ← me)

        not_shorter : (n : ℕ) → n ≤ length (client_of shows port group) → leb n most ≡ false → leb (length (client_of shows port group)) most ≡ false
        not_shorter n h e = lt-leb (length (client_of shows port group)) most (omega (arith, leb-false n most e))

        module _ (a b : Bool) (ae : a ≡ (is_identifier port && leb (length port) most)) (be : b ≡ (is_identifier group && leb (length group) most)) where
          no_port : a ≡ false → Good ≡ false
          no_port n =
              good ∙ split (is_identifier port)
              (λ y.
              let z : leb (length port) most ≡ false = sym (rw y at ae) ∙ n in
              rw (not_shorter (length port) (omega (arith, long)) z) (and-false (is_identifier port && is_identifier group)))
              (λ y. rw y)

          no_group : b ≡ false → Good ≡ false
          no_group n =
              good ∙ split (is_identifier group)
              (λ y.
              let z : leb (length group) most ≡ false = sym (rw y at be) ∙ n in
              rw (not_shorter (length group) (omega (arith, long)) z) (and-false (is_identifier port && is_identifier group)))
              (λ y. rw (y, and-false (is_identifier port)))

          pub client_not : (a && b) ≡ false → false ≡ Good
          client_not e = split a (λ t. sym (no_group (let z : (true && b) ≡ false = rw t at e in z))) (λ t. sym (no_port t))

          pub client_short : (a && b) ≡ true → ltb (length port + length group) most ≡ Good
          client_short e =
              let tp = both_l (is_identifier port) (leb (length port) most) (sym ae ∙ both_l a b e) in
              let tg = both_l (is_identifier group) (leb (length group) most) (sym be ∙ both_r a b e) in
              sym (good ∙ rw (tp, tg)
              (split (ltb (length port + length group) most)
              (λ y. rw y (le-leb (length (client_of shows port group)) most (omega (arith, ltb-true (length port + length group) most y, long))))
              (λ y. rw y (lt-leb (length (client_of shows port group)) most (omega (arith, ltb-false (length port + length group) most y, long))))))

-- both tests were passed: the lengths can be added
pub both_few : (most : ℕ) → most ≤ 30 → (port group : List ℕ) (a b : Bool) → a ≡ (is_identifier port && leb (length port) most) → b ≡ (is_identifier group && leb (length group) most) → (a && b) ≡ true
    → Fits w64 (length port + length group)
both_few most few port group a b ae be e =
    record {
      fits = omega (
        arith,
        leb-true (length port) most (both_r (is_identifier port) (leb (length port) most) (sym ae ∙ both_l a b e)),
        leb-true (length group) most (both_r (is_identifier group) (leb (length group) most) (sym be ∙ both_r a b e)),
      );
    }

-- ---- the text as it is written
module _ (shows : ℕ) (port group : List ℕ) where
  text_port : shows ≡ 1 → client_of shows port group ≡ port
  unfolding client_of
  text_port h = rw (eq-eqb shows 1 h)

  pub room_port : {out : List ℕ} → shows ≡ 1 → Room out 0 (client_of shows port group) → Room out 0 port
  room_port h r = rw (text_port h) at r

  pub wrote_port : {out : List ℕ} {n : ℕ} {after : List ℕ} → shows ≡ 1 → Wrote out 0 port n after → Wrote out 0 (client_of shows port group) n after
  wrote_port h w = rw (text_port h) w

  module _ (one : shows ≡ 1 → ⊥) where
    text_group : shows ≡ 2 → client_of shows port group ≡ group
    unfolding client_of
    text_group h = rw (ne_eqb shows 1 one, eq-eqb shows 2 h)

    pub room_group : {out : List ℕ} → shows ≡ 2 → Room out 0 (client_of shows port group) → Room out 0 group
    room_group h r = rw (text_group h) at r

    pub wrote_group : {out : List ℕ} {n : ℕ} {after : List ℕ} → shows ≡ 2 → Wrote out 0 group n after → Wrote out 0 (client_of shows port group) n after
    wrote_group h w = rw (text_group h) w

    module _ (two : shows ≡ 2 → ⊥) where
      room_all : {out : List ℕ} → Room out 0 (client_of shows port group) → Room out 0 (port ++ (45 ∷ []) ++ group)
      room_all r = rw (both_shown shows port group one two) at r

      pub room_first_one : {out : List ℕ} → Room out 0 (client_of shows port group) → Room out 0 port
      room_first_one r = room_first _ _ (room_first _ _ (room_all r))

      pub room_hyphen : {out : List ℕ} {a : ℕ} {after : List ℕ} → Room out 0 (client_of shows port group) → Wrote out 0 port a after → Room after a (45 ∷ [])
      room_hyphen r w = room_then _ (room_first _ _ (room_all r)) w

      pub room_second_one : {out : List ℕ} {a b : ℕ} {after after₂ : List ℕ} → Room out 0 (client_of shows port group) → Wrote out 0 port a after → Wrote after a (45 ∷ []) b after₂ → Room after₂ b group
      room_second_one r w v = room_then _ (room_all r) (then w v)

      pub wrote_both : {out : List ℕ} {a b n : ℕ} {after after₂ after₃ : List ℕ} → Wrote out 0 port a after → Wrote after a (45 ∷ []) b after₂ → Wrote after₂ b group n after₃
          → Wrote out 0 (client_of shows port group) n after₃
      wrote_both w v u = rw (both_shown shows port group one two) (then (then w v) u)

-- the text of 109 that they make
all_both : (a b : List ℕ) → all_from 33 a ≡ true → all_from 33 b ≡ true → all_from 33 (a ++ (45 ∷ b)) ≡ true
all_both [] b e f = f
all_both (x ∷ a) b e f =
    split (ltb x 33)
    (λ t. let z : false ≡ true = rw t at e in absurd (false≢true z))
    (λ t. split (ltb 126 x)
    (λ u. let z : false ≡ true = rw (t, u) at e in absurd (false≢true z))
    (λ u. rw (t, u) (all_both a b (rw (t, u) at e) f)))

text_both : (port group : List ℕ) → (is_identifier port && is_identifier group) ≡ true → is_identifier (port ++ (45 ∷ group)) ≡ true
unfolding is_identifier
text_both port group e =
    let p = both_l (is_identifier port) (is_identifier group) e in
    let g = both_r (is_identifier port) (is_identifier group) e in
    both_i
    (ap not (ne_eqb (length (port ++ (45 ∷ group))) 0 (λ z. omega (arith, z, length-append port (45 ∷ group)))))
    (all_both port group (both_r (not (eqb (length port) 0)) (all_from 33 port) p) (both_r (not (eqb (length group) 0)) (all_from 33 group) g))

text_shown : (shows : ℕ) (port group : List ℕ) → are_identifiers shows port group ≡ true → is_identifier (client_of shows port group) ≡ true
unfolding are_identifiers client_of
text_shown shows port group e =
    split (eqb shows 1)
    (λ a. rw a (rw a at e))
    (λ a. split (eqb shows 2)
    (λ b. rw (a, b) (rw (a, b) at e))
    (λ b. split (eqb shows 3)
    (λ d. rw (a, b) (text_both port group (rw (a, b, d) at e)))
    (λ d. let z : false ≡ true = rw (a, b, d) at e in absurd (false≢true z))))

-- ---- the settings
module _ (q : Instrument) (subscription shows : ℕ) (port group : List ℕ) where
  pub setting_known : (eqb subscription 1 || eqb subscription 2) ≡ true → (r : Bool) → r ≡ (are_identifiers shows port group && leb (length (client_of shows port group)) (longest q))
      → r ≡ is_setting q subscription shows port group
  unfolding is_setting
  setting_known h r e = rw h e

  pub setting_unknown : (eqb subscription 1 || eqb subscription 2) ≡ false → false ≡ is_setting q subscription shows port group
  unfolding is_setting
  setting_unknown h = rw h

  module _ (h : is_setting q subscription shows port group ≡ true) where
    shown : (are_identifiers shows port group ≡ true) × (length (client_of shows port group) ≤ longest q)
    unfolding is_setting
    shown =
        let a = eqb subscription 1 || eqb subscription 2 in
        let b = are_identifiers shows port group in
        let d = leb (length (client_of shows port group)) (longest q) in
        (both_r a b (both_l (a && b) d h), leb-true (length (client_of shows port group)) (longest q) (both_r (a && b) d h))

    pub setting_short : length (client_of shows port group) ≤ longest q
    setting_short = shown.1

    -- the text of 109 is an identifier itself
    pub setting_text : is_identifier (client_of shows port group) ≡ true
    setting_text = text_shown shows port group shown.0
