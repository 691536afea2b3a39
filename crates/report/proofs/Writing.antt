-- The laws of writing: run after run until nothing is left, and a body that is closed in place.
use Prim.Native.Nat.{ℕ, ◌+◌, ◌-◌, ◌^◌, ◌≤◌, ◌<◌}
use native.Mathlib.Omega.{arith}
use native.Mathlib.Nat.{add-zero}
use native.Mathlib.Decide.{dec_lt}
use mathlib.Core.Path.{◌≡◌, refl, sym, ap, ◌∙◌}
use mathlib.Core.List.{List, [], ◌++◌}
use lib.Dec.{lit<}
use lib.ListN.{length, take, get_or, set, length-append}
use lib.Seq.{ext_get_or, take_all, length-take-le}
use mir.Syntax.{w64}
use mir.Val.{Fits}
use Rattle.octets.specs.Octets.{put, part_at}
use Rattle.octets.specs.Written.{Room, Wrote}
use Rattle.octets.proofs.Places.{length_put, put_put, get_d_put_below, get_d_put_above, get_d_put_in}
use Rattle.octets.proofs.Parts.{length_part, get_d_part, part_above, part_in_lem}
use Rattle.octets.proofs.Runs.{then, room_first, room_then, wrote_length, wrote_front, wrote_within, wrote_none, copy_more}
use Rattle.decimal.specs.Writing.{decimal}
use Rattle.decimal.proofs.Digits.{decimal_few}
use Rattle.report.specs.Fields.{written}
use Rattle.report.specs.Frame.{check_sum, version, front, trailer, report_bytes}
use Rattle.report.proofs.Bytes.{length_written, trailer_length, report_length}

-- ---- one run after another: rest is still to be written from place next on, and gives the whole

pub record Ahead (area : List ℕ) (at : ℕ) (whole : List ℕ) (next : ℕ) (now rest : List ℕ) : Type 0 where
  pub end : put now next rest ≡ put area at whole
  pub place : next + length rest ≡ at + length whole
  pub kept : length now ≡ length area
  pub room : at + length whole ≤ length area

module _ {area : List ℕ} {at : ℕ} {whole : List ℕ} where
  pub ahead_all : Room area at whole → Ahead area at whole at area whole
  ahead_all r = record { end = refl; place = refl; kept = refl; room = r.fits }

  pub ahead_room : {next : ℕ} {now : List ℕ} (b rest : List ℕ) → Ahead area at whole next now (b ++ rest) → Room now next b
  ahead_room b rest h = record { fits = omega (arith, h.place, h.kept, h.room, length-append b rest) }

  pub ahead_more : {next next₂ : ℕ} {now after : List ℕ} (b rest : List ℕ) → Ahead area at whole next now (b ++ rest) → Wrote now next b next₂ after
      → Ahead area at whole next₂ after rest
  ahead_more {next} {next₂} {now} {after} b rest h w =
      record {
        end = rw (w.bytes_in, w.place) (put_put now next b rest ∙ h.end);
        place = omega (arith, w.place, h.place, length-append b rest);
        kept = wrote_length w ∙ h.kept;
        room = h.room;
      }

  pub ahead_none : {next : ℕ} {now : List ℕ} → Ahead area at whole next now [] → Wrote area at whole next now
  unfolding put
  ahead_none h = record { place = omega (arith, h.place); bytes_in = h.end }

-- ---- what is written over leaves no trace, and a part put where it stands changes nothing

over : (t : List ℕ) (p : ℕ) (xs ys : List ℕ) → p + length xs ≤ length ys → length ys ≤ length t → put (put t p xs) 0 ys ≡ put t 0 ys
over t p xs ys h l =
    ext_get_or 0 (put (put t p xs) 0 ys) (put t 0 ys)
    (length_put (put t p xs) 0 ys ∙ length_put t p xs ∙ sym (length_put t 0 ys))
    (λ i k. elim (dec_lt i (length ys)) [
      | yes q ↦
          let e : 0 + i ≡ i = omega arith in
          rw e at (get_d_put_in (put t p xs) 0 ys i q (omega (arith, l, length_put t p xs)) ∙ sym (get_d_put_in t 0 ys i q (omega (arith, l))))
      | no q ↦
          get_d_put_above (put t p xs) 0 ys i (omega (arith, q)) ∙ get_d_put_above t p xs i (omega (arith, q, h))
          ∙ sym (get_d_put_above t 0 ys i (omega (arith, q)))
    ])

put_there : (t : List ℕ) (p n : ℕ) → p + n ≤ length t → t ≡ put t p (part_at t p n)
put_there t p n h =
    let ps : List ℕ = part_at t p n in
    let k : length ps ≡ n = length_part t p n h in
    sym (ext_get_or 0 (put t p ps) t (length_put t p ps)
    (λ i l. elim (dec_lt i p) [
      | yes q ↦ get_d_put_below t p ps i q
      | no q ↦ elim (dec_lt i (p + n)) [
        | yes r ↦
            let e : p + (i - p) ≡ i = omega (arith, q) in
            rw e at (get_d_put_in t p ps (i - p) (omega (arith, k, q, r)) (omega (arith, k, h)) ∙ get_d_part t p n (i - p) (omega (arith, q, r)))
        | no r ↦ get_d_put_above t p ps i (omega (arith, k, r))
      ]
    ]))

whole_part : (xs : List ℕ) → part_at xs 0 (length xs) ≡ xs
unfolding part_at
whole_part xs = take_all (length xs) xs (omega arith)

-- ---- a body that need not be moved, and one that is not moved yet
pub stays : (t : List ℕ) (at n : ℕ) → at ≡ 16 → 16 + n ≤ length t → t ≡ put t at (part_at t 16 n)
stays t at n e h = rw e (put_there t 16 n h)

pub move_none : (t : List ℕ) (at : ℕ) → Wrote t at [] (at + 0) t
move_none t at = rw (add-zero at) (wrote_none t at)

-- ---- a body moved: after i bytes the first i stand in their new place
module _ (t : List ℕ) (at n i : ℕ) {now : List ℕ} (a : at ≤ 16) (h : 16 + n ≤ length t) (w : Wrote t at (take i (part_at t 16 n)) (at + i) now) where
  pub move_place : i < n → at + i < length now
  move_place l = omega (arith, wrote_length w)

  pub move_from : i < n → 16 + i < length now
  move_from l = omega (arith, wrote_length w)

  pub move_fits : length t < 2 ^ 64 → i < n → Fits w64 (at + i)
  move_fits f l = record { fits = omega (arith, move_place l, wrote_length w) }

  pub move_more : i < n → Wrote t at (take (i + 1) (part_at t 16 n)) (at + (i + 1)) (set now (at + i) (get_or now (16 + i) 0))
  move_more l =
      let k : length (part_at t 16 n) ≡ n = length_part t 16 n h in
      let j : length (take i (part_at t 16 n)) ≡ i = length-take-le i (part_at t 16 n) (omega (arith, k, l)) in
      let e : get_or now (16 + i) 0 ≡ get_or (part_at t 16 n) i 0 =
      rw w.bytes_in (get_d_put_above t at (take i (part_at t 16 n)) (16 + i) (omega (arith, a, j))) ∙ sym (get_d_part t 16 n i l) in
      let f : at + i + 1 ≡ at + (i + 1) = omega arith in
      rw (e, ← f) (copy_more (part_at t 16 n) i (omega (arith, k, l)) w)

  pub move_end : n ≤ i → now ≡ put t at (part_at t 16 n)
  move_end l = w.bytes_in ∙ ap (λ (x : List ℕ). put t at x) (take_all i (part_at t 16 n) (omega (arith, l, length_part t 16 n h)))

-- ---- a body closed in place

front_bytes : (n : ℕ) → n ≤ 489 → length (written 8 version ++ written 9 (decimal n)) ≤ 16
unfolding version
front_bytes n h =
    omega (
      arith,
      length-append (written 8 version) (written 9 (decimal n)),
      length_written 8 version,
      length_written 9 (decimal n),
      decimal_few 0 8 (lit< tt),
      decimal_few 0 9 (lit< tt),
      decimal_few 2 n (omega (arith, h)),
    )

pub front_room : (area : List ℕ) (n : ℕ) → n ≤ 489 → 512 ≤ length area → Room area 0 (written 8 version ++ written 9 (decimal n))
front_room area n h l = record { fits = omega (arith, front_bytes n h) }

module _ (area : List ℕ) (n : ℕ) {at : ℕ} {mid : List ℕ} (w : Wrote area 0 (written 8 version ++ written 9 (decimal n)) at mid)
    (h : n ≤ 489) (l : 512 ≤ length area) where
  pub front_place : at ≤ 16
  front_place = omega (arith, w.place, front_bytes n h)

  pub front_long : 16 + n ≤ length mid
  front_long = omega (arith, wrote_length w)

  abbrev Body : List ℕ
  Body = part_at area 16 n

  -- once it is moved
  module _ {now : List ℕ} (m : now ≡ put mid at (part_at mid 16 n)) where
    pub moved_front : Wrote area 0 (front Body) (at + n) now
    unfolding front
    moved_front =
        let k : length Body ≡ n = length_part area 16 n (omega arith) in
        let e : part_at mid 16 n ≡ Body =
        ap (λ (x : List ℕ). part_at x 16 n) w.bytes_in ∙ part_above area 0 (written 8 version ++ written 9 (decimal n)) 16 n (omega arith) (omega (arith, front_bytes n h)) in
        let v : Wrote mid at Body (at + n) now = record { place = omega (arith, k); bytes_in = m ∙ ap (λ (x : List ℕ). put mid at x) e } in
        then (rw (← k) at w) v

    moved_room : Room area 0 (report_bytes Body)
    moved_room = record { fits = omega (arith, report_length Body (omega (arith, length_part area 16 n (omega arith)))) }

    pub moved_within : at + n ≤ length now
    unfolding report_bytes
    moved_within = wrote_within moved_front (room_first _ _ moved_room)

    pub moved_lent : at + n ≡ length (take (at + n) now)
    moved_lent = sym (length-take-le (at + n) now moved_within)

    pub moved_fits : Fits w64 (at + n)
    moved_fits = record { fits = omega (arith, front_place, h) }

    module _ (sum : ℕ) (c : sum ≡ check_sum (take (at + n) now)) where
      sum_is : sum ≡ check_sum (front Body)
      unfolding report_bytes
      sum_is = c ∙ ap check_sum (wrote_front moved_front (room_first _ _ moved_room))

      pub closing_room : Room now (at + n) (trailer sum)
      unfolding report_bytes
      closing_room = rw sum_is (room_then _ moved_room moved_front)

      pub closing : {next : ℕ} {after : List ℕ} → Wrote now (at + n) (trailer sum) next after → Wrote area 0 (report_bytes Body) next after
      unfolding report_bytes
      closing t = then moved_front (rw sum_is at t)

-- what the body was written from is all that is in the report
module _ {area : List ℕ} {body : List ℕ} {end : ℕ} {mid : List ℕ} (h : length body ≤ 489) (l : 512 ≤ length area) (w : Wrote area 16 body end mid) where
  pub close_low : 16 ≤ end
  close_low = omega (arith, w.place)

  pub close_high : end ≤ 505
  close_high = omega (arith, w.place)

  pub close_long : 512 ≤ length mid
  close_long = omega (arith, wrote_length w)

  whole_length : 16 + length body ≤ length (report_bytes body)
  unfolding report_bytes front version decimal
  whole_length =
      omega (
        arith,
        length-append (front body) (trailer (check_sum (front body))),
        trailer_length (check_sum (front body)),
        length-append (written 8 version ++ written 9 (decimal (length body))) body,
        length-append (written 8 version) (written 9 (decimal (length body))),
        length_written 8 version,
        length_written 9 (decimal (length body)),
      )

  pub closed : {next : ℕ} {after : List ℕ} → Wrote mid 0 (report_bytes (part_at mid 16 (end - 16))) next after → Wrote area 0 (report_bytes body) next after
  closed {next} {after} v =
      let n : end - 16 ≡ length body = omega (arith, w.place) in
      let e : part_at mid 16 (end - 16) ≡ body =
      rw (n, w.bytes_in) (part_in_lem area 16 body 0 (length body) (omega arith) (omega (arith, l, h)) ∙ whole_part body) in
      let x : Wrote mid 0 (report_bytes body) next after = rw e at v in
      record {
        place = x.place;
        bytes_in = x.bytes_in ∙ ap (λ (t : List ℕ). put t 0 (report_bytes body)) w.bytes_in
            ∙ over area 16 body (report_bytes body) whole_length (omega (arith, report_length body h, l));
      }
