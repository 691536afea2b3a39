-- Under Cancel Oldest an order's trades are told by what others offer on the other side, in turn, and by nothing else: so two books that
-- differ in its owner's own orders give it the same ones.
use mathlib.Core.Path.{◌≡◌, refl, sym, ap, ◌∙◌}
use mathlib.Core.Bool.{Bool, true, false, cond, not, ◌&&◌, ◌||◌}
use mathlib.Core.List.{List, [], ◌∷◌, ◌++◌, map, append_assoc, append-nil}
use mathlib.Core.Logic.{◌≢◌}
use Prim.Native.Nat.{ℕ, zero, suc, ◌+◌, ◌-◌, ◌≤◌, ◌<◌, min}
use native.Mathlib.Omega.{arith}
use lib.ListN.{length}
use lib.Dec.{ltb, eqb}
use borrow.Author.Tests.{ltb-true, ltb-false, eqb-true, eqb-false, lt-ltb, eq-eqb, ne_eqb}
use Rattle.octets.proofs.Bools.{split, not_both, both_l}
use Rattle.matching.specs.declared.Order.{Order}
use Rattle.matching.specs.declared.Event.{Event}
use Rattle.matching.specs.declared.Event.TheVariants.{Canceled, Traded, Expired}
use Rattle.matching.specs.Matching.{Book, at, open_of, is_open, is_buy, is_immediate, buys, crosses, meets, best, same_owner, partner, prevention, meeting, ending, outcome, preventing, causes, after, play, happens, work_after, Ran, run, would_trade, misses}
use Rattle.matching.specs.Depth.{stands}
use Rattle.matching.specs.InTurn.{in_turn}
use Rattle.matching.specs.Held.{In, amount}
use Rattle.matching.specs.Accounts.{tally, trades, cancels}
use Rattle.matching.specs.Happens.{Fit, Fits}
use Rattle.matching.specs.OutOfTheWay.{those, facing, is_of, others_on, Lot, lot_of, SameOrder, OutOfTheWay, fill, fills, lapsed, SameFills}
use Rattle.matching.proofs.Books.{open_in}
use Rattle.matching.proofs.Events.{two_fit, change_open, change_executed, change_canceled, after_same, play_tally, Terms, terms_of, play_terms, play_open, length_play}
use Rattle.matching.proofs.Steps.{both_no, best_none, Pair, paired, happens_fits, run_plays, run_fits}
use Rattle.matching.proofs.Ends.{idle, run_ends}
use Rattle.matching.proofs.Minimum.{left_length}
use Rattle.matching.proofs.Deciding.{killed_whole}
use Rattle.matching.proofs.InTurn.{stands_open, stands_side, front_once, times_apart, Each, each_imp, each_those, in_turn_stands, front, head_partner, faces_stands, Alike, in_turn_closed, front_closed}

-- ---- what an order takes of offers in turn

-- an order of a side and level meets a level of the other side
abbrev reach : Bool → ℕ → ℕ → Bool
reach buy level l = cond buy (crosses level l) (crosses l level)

-- of each offer that it meets it takes as much as it has left, up to the first that it does not meet
unfoldable pub takes : {A : Type 0} → Bool → ℕ → ℕ → List (Lot A) → List (Lot A)
takes buy level q [] = []
takes buy level q (x ∷ xs) =
    cond (ltb 0 q && reach buy level x.level)
    (record { whose = x.whose; level = x.level; quantity = min q x.quantity } ∷ takes buy level (q - min q x.quantity) xs)
    []

-- in all
unfoldable pub in_all : {A : Type 0} → List (Lot A) → ℕ
in_all [] = 0
in_all (x ∷ xs) = x.quantity + in_all xs

-- with nothing left it takes nothing
takes_none : {A : Type 0} (buy : Bool) (level : ℕ) (l : List (Lot A)) → takes buy level 0 l ≡ []
unfolding takes
takes_none buy level [] = refl
takes_none buy level (x ∷ xs) = refl

in_all_append : {A : Type 0} (l m : List (Lot A)) → in_all (l ++ m) ≡ in_all l + in_all m
unfolding in_all
in_all_append [] m = omega arith
in_all_append (x ∷ l) m = omega (arith, in_all_append l m)

pub fills_append : {A : Type 0} (name : ℕ → A) (w : ℕ) (es fs : List Event) → fills name w (es ++ fs) ≡ fills name w es ++ fills name w fs
unfolding fills
fills_append name w [] fs = refl
fills_append name w (e ∷ es) fs = rw (fills_append name w es fs) (sym (append_assoc (fill name w e) (fills name w es) (fills name w fs)))

lapsed_append : (es fs : List Event) → lapsed (es ++ fs) ≡ lapsed es + lapsed fs
unfolding lapsed
lapsed_append [] fs = omega arith
lapsed_append (e ∷ es) fs = omega (arith, lapsed_append es fs)

-- ---- what it takes on a book
abbrev pub offers : {A : Type 0} → (ℕ → A) → Book → ℕ → List (Lot A)
offers name b w = map (lot_of name b) (others_on b (facing (at b w)) (at b w).mpid)

unfoldable pub taken : {A : Type 0} → (ℕ → A) → Book → ℕ → List (Lot A)
taken name b w = takes (is_buy (at b w)) (at b w).level (open_of (at b w)) (offers name b w)

-- events that lead from b to c: w traded what it takes, and of what is left it kept all or nothing, as its time in force says
pub record Takes {A : Type 0} (name : ℕ → A) (b : Book) (w : ℕ) (es : List Event) (c : Book) : Type 0 where
  pub trades : fills name w es ≡ taken name b w
  pub left : open_of (at c w) ≡ cond (is_immediate (at b w)) 0 (open_of (at b w) - in_all (taken name b w))
  pub back : lapsed es ≡ cond (is_immediate (at b w)) (open_of (at b w) - in_all (taken name b w)) 0
  pub executed : (at c w).executed ≡ (at b w).executed + in_all (taken name b w)
  pub canceled : (at c w).canceled ≡ (at b w).canceled + lapsed es

-- ---- a first step, and the rest
module _ {A : Type 0} (name : ℕ → A) (b c : Book) (w : ℕ) (es : List Event) (first : List (Lot A)) where
  takes_then : fills name w es ≡ first → lapsed es ≡ 0 → is_immediate (at c w) ≡ is_immediate (at b w)
      → open_of (at b w) ≡ open_of (at c w) + in_all first → (at c w).executed ≡ (at b w).executed + in_all first
      → (at c w).canceled ≡ (at b w).canceled → taken name b w ≡ first ++ taken name c w → (fs : List Event) (d : Book) → Takes name c w fs d → Takes name b w (es ++ fs) d
  takes_then f z i o x v t fs d h =
      let n = in_all_append first (taken name c w) in
      let k : open_of (at b w) - in_all (taken name b w) ≡ open_of (at c w) - in_all (taken name c w) = rw (t, n) (omega arith) in
      record {
        trades = fills_append name w es fs ∙ rw (f, t) (ap (λ (l : List (Lot A)). first ++ l) h.trades);
        left = rw (k, ← i) h.left;
        back = rw (k, ← i) (lapsed_append es fs ∙ rw z (omega (arith, h.back)));
        executed = rw (t, n) (omega (arith, h.executed));
        canceled = rw (lapsed_append es fs, z) (omega (arith, h.canceled));
      }

-- ---- who stands on the other side
pub facing_against : (o : Order) → buys (facing o) ≡ not (is_buy o)
unfolding facing
facing_against o = turned (is_buy o)
  where
    turned : (x : Bool) → buys (cond x 2 1) ≡ not x
    turned true = refl
    turned false = refl

facing_same : (o p : Order) → o.side ≡ p.side → facing o ≡ facing p
unfolding facing
facing_same o p e = rw e

-- nobody of an empty hand is met: if w is matched with none, it takes nothing
module _ (b : Book) (w : ℕ) (z : partner b w ≡ 0) where
  none_met : 0 < open_of (at b w) → (k : ℕ) → stands (facing (at b w)) (at b k) ≡ true → meets (at b w) (at b k) ≡ false
  unfolding partner
  none_met h k t =
      let o = at b w in
      let i = open_in b k (stands_open (facing o) (at b k) t) in
      let e : best b o (length b) ≡ 0 = rw (lt-ltb 0 (open_of o) h) at z in
      let f = best_none b o (length b) e k i.low i.high in
      let g : (stands (facing o) (at b k) && meets o (at b k)) ≡ false = sym (faces_stands b o (facing o) (facing_against o) (at b k)) ∙ f in
      rw t at g

  lots_not_met : {A : Type 0} (name : ℕ → A) (q : ℕ) (l : List ℕ) → Each (λ k. meets (at b w) (at b k) ≡ false) l
      → takes (is_buy (at b w)) (at b w).level q (map (lot_of name b) l) ≡ []
  unfolding takes meets
  lots_not_met name q [] h = refl
  lots_not_met name q (x ∷ xs) h = rw (h.0, both_no (ltb 0 q))

  taken_none : {A : Type 0} (name : ℕ → A) → taken name b w ≡ []
  unfolding taken others_on
  taken_none name =
      split (ltb 0 (open_of (at b w)))
      (λ t.
      let s = facing (at b w) in
      lots_not_met name (open_of (at b w)) (others_on b (facing (at b w)) (at b w).mpid)
      (each_those (λ k. meets (at b w) (at b k) ≡ false) _ (in_turn b s)
      (each_imp (λ k. stands s (at b k) ≡ true) (λ k. meets (at b w) (at b k) ≡ false) (none_met (ltb-true 0 (open_of (at b w)) t)) (in_turn b s) (in_turn_stands b s))))
      (λ t. rw (le_zero t) (takes_none _ _ (offers name b w)))
    where
      le_zero : ltb 0 (open_of (at b w)) ≡ false → open_of (at b w) ≡ 0
      le_zero t = omega (arith, ltb-false 0 (open_of (at b w)) t)

  -- and its work ends: an immediate order gives its rest back, any other keeps it
  takes_expired : {A : Type 0} (name : ℕ → A) → In b w → is_immediate (at b w) ≡ true
      → Takes name b w (Expired w (open_of (at b w)) ∷ []) (after b (Expired w (open_of (at b w))))
  unfolding fills lapsed in_all
  takes_expired name i m =
      let f : Fit b (Expired w (open_of (at b w))) = record { moving = refl; inside = i; enough = omega arith; whole = λ l. refl } in
      let e = after_same b (Expired w (open_of (at b w))) f in
      record {
        trades = sym (taken_none name);
        left = rw (m, e) (change_open (Expired w (open_of (at b w))) (at b w) refl ∙ omega arith);
        back = rw (m, taken_none name) (omega arith);
        executed = rw (taken_none name, e) (change_executed (Expired w (open_of (at b w))) (at b w) refl);
        canceled = rw e (omega (arith, change_canceled (Expired w (open_of (at b w))) (at b w) refl));
      }

  takes_rests : {A : Type 0} (name : ℕ → A) → (is_immediate (at b w) && is_open (at b w)) ≡ false → Takes name b w [] b
  unfolding fills lapsed in_all
  takes_rests name h =
      record {
        trades = sym (taken_none name);
        left = rw (taken_none name) (split (is_immediate (at b w)) (λ t. rw t (shut t)) (λ t. rw t (omega arith)));
        back = rw (taken_none name) (split (is_immediate (at b w)) (λ t. rw t (omega (arith, shut t))) (λ t. rw t));
        executed = rw (taken_none name) (omega arith);
        canceled = omega arith;
      }
    where
      shut : is_immediate (at b w) ≡ true → open_of (at b w) ≡ 0
      shut t = let g : is_open (at b w) ≡ false = rw t at h in omega (arith, ltb-false 0 (open_of (at b w)) g)

  takes_ended : {A : Type 0} (name : ℕ → A) → In b w → Takes name b w (causes w 0 (ending (at b w))) (play b (causes w 0 (ending (at b w))))
  unfolding causes ending play
  takes_ended name i =
      split (is_immediate (at b w) && is_open (at b w))
      (λ t. rw t (takes_expired name i (both_l _ _ t)))
      (λ t. rw t (takes_rests name t))

-- the one that it is matched with is the first in turn
module _ (b : Book) (w r : ℕ) (e : partner b w ≡ r) (l : 0 < r) where
  matched_first : (rest : List ℕ) × (in_turn b (facing (at b w)) ≡ r ∷ rest)
  matched_first =
      let p = paired b w r e l in
      first (in_turn b (facing (at b w))) (sym (head_partner b w (facing (at b w)) (facing_against (at b w)) p.w_open) ∙ e)
    where
      first : (m : List ℕ) → cond (meets (at b w) (at b (front m))) (front m) 0 ≡ r → (rest : List ℕ) × (m ≡ r ∷ rest)
      first [] h = absurd (split (meets (at b w) (at b 0)) (λ t. let z = rw t at h in omega arith) (λ t. let z = rw t at h in omega arith))
      first (x ∷ xs) h =
          split (meets (at b w) (at b x))
          (λ t. (xs, ap (λ (y : ℕ). y ∷ xs) (rw t at h)))
          (λ t. absurd (let z = rw t at h in omega arith))

-- ---- orders that offer the same on two books
pub lots_same : {A : Type 0} (name : ℕ → A) (b : Book) (later : ℕ → A) (c : Book) (f g : ℕ → Bool) (l : List ℕ)
    → Each (λ k. (f k ≡ g k) × (lot_of later c k ≡ lot_of name b k)) l → map (lot_of later c) (those f l) ≡ map (lot_of name b) (those g l)
unfolding those
lots_same name b later c f g [] h = refl
lots_same {A} name b later c f g (x ∷ xs) h =
    let ih = lots_same name b later c f g xs h.1 in
    rw h.0.0
    (split (g x)
    (λ t. rw t (ap (λ (y : Lot A). y ∷ map (lot_of later c) (those f xs)) h.0.1 ∙ ap (λ (m : List (Lot A)). lot_of name b x ∷ m) ih))
    (λ t. rw t ih))

-- an order that events leave alone
untouched : (b : Book) (es : List Event) → Fits b es → (k : ℕ) → tally amount k es ≡ 0 → open_of (at (play b es) k) ≡ open_of (at b k)
untouched b es f k z = omega (arith, play_open k es b f)

-- ---- a match: r is first in turn on the other side, and events of these two lead to another book
module _ (b : Book) (w r : ℕ) (i : In b w) (p : Pair b w r) (rest : List ℕ) (e : in_turn b (facing (at b w)) ≡ r ∷ rest) where
  not_own_side : stands (facing (at b w)) (at b w) ≡ true → ⊥
  not_own_side t = wrong (is_buy (at b w)) (stands_side (facing (at b w)) (at b w) t ∙ facing_against (at b w))
    where
      wrong : (x : Bool) → x ≡ not x → ⊥
      wrong true h = not_both refl h
      wrong false h = not_both h refl

  -- those behind it are neither r nor w
  rest_apart : Each (λ k. (k ≢ r) × (k ≢ w)) rest
  rest_apart = both rest (times_apart r rest (front_once b (facing (at b w)) r rest e)) (rw e at (in_turn_stands b (facing (at b w)))).1
    where
      both : (l : List ℕ) → Each (λ k. k ≢ r) l → Each (λ k. stands (facing (at b w)) (at b k) ≡ true) l → Each (λ k. (k ≢ r) × (k ≢ w)) l
      both [] x y = tt
      both (k ∷ l) x y = ((x.0, λ q. not_own_side (rw q at y.0)), both l x.1 y.1)

  -- what the others offer first
  offers_front : {A : Type 0} (name : ℕ → A) → same_owner (at b w) (at b r) ≡ false
      → offers name b w ≡ lot_of name b r ∷ map (lot_of name b) (those (λ k. not (same_owner (at b w) (at b k))) rest)
  unfolding others_on those is_of same_owner
  offers_front name t = rw (e, t)

  offers_own : {A : Type 0} (name : ℕ → A) → same_owner (at b w) (at b r) ≡ true
      → offers name b w ≡ map (lot_of name b) (those (λ k. not (same_owner (at b w) (at b k))) rest)
  unfolding others_on those is_of same_owner
  offers_own name t = rw (e, t)

  module _ (es : List Event) (f : Fits b es) (two : (k : ℕ) → k ≢ r → k ≢ w → tally amount k es ≡ 0) where
    term : (k : ℕ) → terms_of (at (play b es) k) ≡ terms_of (at b k)
    term k = play_terms k es b f

    alike : (k : ℕ) → is_open (at (play b es) k) ≡ is_open (at b k) → Alike (at b k) (at (play b es) k)
    alike k h =
        record {
          live = h;
          side = ap (λ (t : Terms). t.side) (term k);
          level = ap (λ (t : Terms). t.level) (term k);
          place = ap (λ (t : Terms). t.place) (term k);
        }

    owner : (j k : ℕ) → same_owner (at (play b es) j) (at (play b es) k) ≡ same_owner (at b j) (at b k)
    unfolding same_owner
    owner j k = rw (ap (λ (t : Terms). t.mpid) (term j), ap (λ (t : Terms). t.mpid) (term k))

    lot : {A : Type 0} (name : ℕ → A) (k : ℕ) → (k ≢ r) × (k ≢ w) → lot_of name (play b es) k ≡ lot_of name b k
    lot name k n = rw (untouched b es f k (two k n.0 n.1), ap (λ (t : Terms). t.level) (term k))

    -- where r is closed and w is not, the others are those behind r, and offer what they did
    offers_rest : {A : Type 0} (name : ℕ → A) → open_of (at (play b es) r) ≡ 0 → 0 < open_of (at (play b es) w)
        → offers name (play b es) w ≡ map (lot_of name b) (those (λ k. not (same_owner (at b w) (at b k))) rest)
    unfolding others_on is_of same_owner
    offers_rest {A} name z h =
        rw turns (lots_same name b name c _ _ rest (each_imp (λ k. (k ≢ r) × (k ≢ w)) _ one rest rest_apart))
      where
        c : Book
        c = play b es

        still : (k : ℕ) → k ≢ r → is_open (at c k) ≡ is_open (at b k)
        still k n =
            split (eqb k w)
            (λ t. rw (eqb-true k w t) (lt-ltb 0 (open_of (at c w)) h ∙ sym (lt-ltb 0 (open_of (at b w)) p.w_open)))
            (λ t. rw (untouched b es f k (two k n (eqb-false k w t))))

        turns : in_turn c (facing (at c w)) ≡ rest
        turns =
            ap (λ (s : ℕ). in_turn c s) (facing_same (at c w) (at b w) (ap (λ (t : Terms). t.side) (term w)))
            ∙ in_turn_closed b c (facing (at b w)) r z (λ k n. alike k (still k n)) ∙ front_closed b (facing (at b w)) r rest e

        one : (k : ℕ) → (k ≢ r) × (k ≢ w) → (not (same_owner (at c w) (at c k)) ≡ not (same_owner (at b w) (at b k))) × (lot_of name c k ≡ lot_of name b k)
        one k n = (rw (owner w k), lot name k n)

    -- what w takes afterwards: the same of what is left, whether anything is left or not
    taken_rest : {A : Type 0} (name : ℕ → A) → (0 < open_of (at (play b es) w) → open_of (at (play b es) r) ≡ 0)
        → taken name (play b es) w
        ≡ takes (is_buy (at b w)) (at b w).level (open_of (at (play b es) w)) (map (lot_of name b) (those (λ k. not (same_owner (at b w) (at b k))) rest))
    unfolding taken
    taken_rest {A} name z =
        rw (ap (λ (t : Terms). eqb t.side 1) (term w), ap (λ (t : Terms). t.level) (term w))
        (split (ltb 0 (open_of (at (play b es) w)))
        (λ t. let h = ltb-true 0 (open_of (at (play b es) w)) t in rw (offers_rest name (z h) h))
        (λ t. let n : open_of (at (play b es) w) ≡ 0 = omega (arith, ltb-false 0 (open_of (at (play b es) w)) t) in rw n (takes_none _ _ _ ∙ sym (takes_none _ _ _))))

    immediate : is_immediate (at (play b es) w) ≡ is_immediate (at b w)
    immediate = ap (λ (t : Terms). eqb t.tif 3 || eqb t.tif 4) (term w)

  -- an order of one's own is canceled, and that is all
  abbrev aside : List Event
  aside = Canceled r (open_of (at b r)) ∷ []

  module _ {A : Type 0} (name : ℕ → A) (own : same_owner (at b w) (at b r) ≡ true) where
    takes_aside : (fs : List Event) (d : Book) → Takes name (play b aside) w fs d → Takes name b w (aside ++ fs) d
    unfolding tally fills lapsed in_all taken
    takes_aside fs d h =
        takes_then name b (play b aside) w aside [] refl refl (immediate aside fit two)
        (rw open_same (omega arith)) executed_same canceled_same taken_same fs d h
      where
        fit : Fits b aside
        fit = (record { moving = refl; inside = p.inside; enough = omega arith; whole = λ l. refl }, tt)

        two : (k : ℕ) → k ≢ r → k ≢ w → tally amount k aside ≡ 0
        two k n m = rw (ne_eqb k r n)

        open_same : open_of (at (play b aside) w) ≡ open_of (at b w)
        open_same = untouched b aside fit w (rw (ne_eqb w r (λ q. p.apart (sym q))))

        shut : open_of (at (play b aside) r) ≡ 0
        shut = play_open r aside b fit ∙ rw (eq-eqb r r refl) (omega arith)

        executed_same : (at (play b aside) w).executed ≡ (at b w).executed + 0
        executed_same = play_tally (λ o. o.executed) trades change_executed w aside b fit ∙ rw (ne_eqb w r (λ q. p.apart (sym q)))

        canceled_same : (at (play b aside) w).canceled ≡ (at b w).canceled
        canceled_same =
            play_tally (λ o. o.canceled) cancels change_canceled w aside b fit ∙ rw (ne_eqb w r (λ q. p.apart (sym q))) (omega arith)

        taken_same : taken name b w ≡ taken name (play b aside) w
        taken_same = rw (taken_rest aside fit two name (λ x. shut), open_same, offers_own name own)

  -- a trade of as much as both have open
  abbrev exchanged : ℕ
  exchanged = min (open_of (at b w)) (open_of (at b r))

  abbrev trading : List Event
  trading = Traded r w exchanged (at b r).level ∷ Traded w r exchanged (at b r).level ∷ []

  module _ {A : Type 0} (name : ℕ → A) (other : same_owner (at b w) (at b r) ≡ false) where
    takes_trading : (fs : List Event) (d : Book) → Takes name (play b trading) w fs d → Takes name b w (trading ++ fs) d
    unfolding tally fills lapsed in_all taken takes meets
    takes_trading fs d h =
        takes_then name b (play b trading) w trading (one ∷ []) (rw (not_r, eq-eqb w w refl)) refl (immediate trading fit two)
        (omega (arith, open_w)) executed_w canceled_w taken_w fs d h
      where
        one : Lot A
        one = record { whose = name r; level = (at b r).level; quantity = exchanged }

        not_r : eqb r w ≡ false
        not_r = ne_eqb r w p.apart

        not_w : eqb w r ≡ false
        not_w = ne_eqb w r (λ q. p.apart (sym q))

        part : (k m : ℕ) → In b k → exchanged ≤ open_of (at b k) → Fit b (Traded k m exchanged (at b r).level)
        part k m j l = record { moving = refl; inside = j; enough = l; whole = λ x. absurd (omega arith) }

        fit : Fits b trading
        fit = two_fit b _ _ (λ q. p.apart (sym q)) (part r w p.inside (omega arith)) (part w r i (omega arith))

        two : (k : ℕ) → k ≢ r → k ≢ w → tally amount k trading ≡ 0
        two k n m = rw (ne_eqb k r n, ne_eqb k w m)

        open_w : open_of (at (play b trading) w) ≡ open_of (at b w) - exchanged
        open_w = play_open w trading b fit ∙ rw (not_w, eq-eqb w w refl) (omega arith)

        open_r : open_of (at (play b trading) r) ≡ open_of (at b r) - exchanged
        open_r = play_open r trading b fit ∙ rw (not_r, eq-eqb r r refl) (omega arith)

        executed_w : (at (play b trading) w).executed ≡ (at b w).executed + (exchanged + 0)
        executed_w = play_tally (λ o. o.executed) trades change_executed w trading b fit ∙ rw (not_w, eq-eqb w w refl) (omega arith)

        canceled_w : (at (play b trading) w).canceled ≡ (at b w).canceled
        canceled_w = play_tally (λ o. o.canceled) cancels change_canceled w trading b fit ∙ rw (not_w, eq-eqb w w refl) (omega arith)

        taken_w : taken name b w ≡ one ∷ taken name (play b trading) w
        taken_w =
            rw (taken_rest trading fit two name (λ x. omega (arith, open_w, open_r)), open_w, offers_front name other, lt-ltb 0 (open_of (at b w)) p.w_open, p.meet)

-- ---- a step under Cancel Oldest
data Goes (b : Book) (w : ℕ) : List Event → ℕ → Type 0 where
  ends : partner b w ≡ 0 → Goes b w (causes w 0 (ending (at b w))) 0
  own : (r : ℕ) → partner b w ≡ r → 0 < r → same_owner (at b w) (at b r) ≡ true → Goes b w (Canceled r (open_of (at b r)) ∷ []) w
  other : (r : ℕ) → partner b w ≡ r → 0 < r → same_owner (at b w) (at b r) ≡ false
      → Goes b w
      (Traded r w (min (open_of (at b w)) (open_of (at b r))) (at b r).level
      ∷ Traded w r (min (open_of (at b w)) (open_of (at b r))) (at b r).level
      ∷ [])
      w

goes : (modes : ℕ → ℕ) (b : Book) (w : ℕ) → modes (at b w).mpid ≡ 2 → Goes b w (happens modes false b w) (work_after false b w)
unfolding happens outcome meeting causes prevention preventing work_after
goes modes b w two =
    split (eqb (partner b w) 0)
    (λ t. let z = eqb-true (partner b w) 0 t in rw (t, z) (ends z))
    (λ t. rw (t, two)
    (split (same_owner (at b w) (at b (partner b w)))
    (λ u. rw u (own (partner b w) refl (omega (arith, eqb-false (partner b w) 0 t)) u))
    (λ u. rw u (other (partner b w) refl (omega (arith, eqb-false (partner b w) 0 t)) u))))

-- ---- a run to its end trades what the others offer
module _ {A : Type 0} (name : ℕ → A) (modes : ℕ → ℕ) where
  pub run_takes : (n : ℕ) (b : Book) (w : ℕ) → In b w → modes (at b w).mpid ≡ 2 → (run modes false n b w).work ≡ 0
      → Takes name b w (run modes false n b w).events (run modes false n b w).book
  unfolding run
  run_takes zero b w i two z = absurd (omega (arith, i.low))
  run_takes (suc n) b zero i two z = absurd (omega (arith, i.low))
  run_takes (suc n) b (suc k) i two z =
      go (happens modes false b (suc k)) (work_after false b (suc k)) (happens_fits modes false b (suc k) i) (goes modes b (suc k) two) z (run_takes n)
    where
      next : (es : List Event) → Fits b es → (run modes false n (play b es) (suc k)).work ≡ 0
          → ((c : Book) (w : ℕ) → In c w → modes (at c w).mpid ≡ 2 → (run modes false n c w).work ≡ 0
          → Takes name c w (run modes false n c w).events (run modes false n c w).book)
          → Takes name (play b es) (suc k) (run modes false n (play b es) (suc k)).events (run modes false n (play b es) (suc k)).book
      next es f z ih =
          ih (play b es) (suc k) (record { low = i.low; high = rw (length_play es b f) i.high })
          (ap (λ (t : Terms). modes t.mpid) (play_terms (suc k) es b f) ∙ two) z

      go : (es : List Event) (v : ℕ) → Fits b es → Goes b (suc k) es v → (run modes false n (play b es) v).work ≡ 0
          → ((c : Book) (w : ℕ) → In c w → modes (at c w).mpid ≡ 2 → (run modes false n c w).work ≡ 0
          → Takes name c w (run modes false n c w).events (run modes false n c w).book)
          → Takes name b (suc k) (es ++ (run modes false n (play b es) v).events) (run modes false n (play b es) v).book
      go es v f (ends h) z ih = rw (idle modes false n (play b es), append-nil es) (takes_ended b (suc k) h name i)
      go es v f (own r e l t) z ih =
          let first = matched_first b (suc k) r e l in
          takes_aside b (suc k) r i (paired b (suc k) r e l) first.0 first.1 name t _ _ (next es f z ih)
      go es v f (other r e l t) z ih =
          let first = matched_first b (suc k) r e l in
          takes_trading b (suc k) r i (paired b (suc k) r e l) first.0 first.1 name t _ _ (next es f z ih)

-- what w would trade is what it takes in all
pub would_take : {A : Type 0} (name : ℕ → A) (modes : ℕ → ℕ) (b : Book) (w : ℕ) → In b w → modes (at b w).mpid ≡ 2 → would_trade modes b w ≡ in_all (taken name b w)
unfolding would_trade
would_take name modes b w i two =
    let n = length b + 1 in
    let g = run_ends modes false n b w i.high (omega (arith, left_length b w)) in
    omega (arith, (run_takes name modes n b w i two g.ended).executed)

-- ---- what w has executed and canceled at the end is what its events say
pub record Sums {A : Type 0} (name : ℕ → A) (b : Book) (w : ℕ) (r : Ran) : Type 0 where
  pub executed : (at r.book w).executed ≡ (at b w).executed + in_all (fills name w r.events)
  pub canceled : (at r.book w).canceled ≡ (at b w).canceled + lapsed r.events

module _ {A : Type 0} (name : ℕ → A) (modes : ℕ → ℕ) (b : Book) (w : ℕ) (i : In b w) (two : modes (at b w).mpid ≡ 2) where
  run_sums : (n : ℕ) → (run modes false n b w).work ≡ 0 → Sums name b w (run modes false n b w)
  run_sums n z = let t = run_takes name modes n b w i two z in record { executed = rw t.trades t.executed; canceled = t.canceled }

  killed_sums : (n : ℕ) → 0 < open_of (at b w) → (run modes true n b w).work ≡ 0 → Sums name b w (run modes true n b w)
  unfolding fills lapsed in_all tally
  killed_sums n o z =
      let e = (killed_whole modes b w i n o z).events in
      let p = run_plays modes true n b w in
      let f = run_fits modes true n b w i.high in
      let x = play_tally (λ o. o.executed) trades change_executed w (run modes true n b w).events b f in
      let y = play_tally (λ o. o.canceled) cancels change_canceled w (run modes true n b w).events b f in
      record { executed = rw p (x ∙ rw (e, eq-eqb w w refl)); canceled = rw p (y ∙ rw (e, eq-eqb w w refl)) }

  pub decided_sums : (decided n : ℕ) → 0 < open_of (at b w) → (run modes (misses modes decided b w) n b w).work ≡ 0
      → Sums name b w (run modes (misses modes decided b w) n b w)
  decided_sums decided n o z =
      split (misses modes decided b w) (λ t. rw t (killed_sums n o (rw t at z))) (λ t. rw t (run_sums n (rw t at z)))

-- ---- two books on which the same order is in work, with the owner's own orders out of the way on the second
those_clear : (keep : ℕ → Bool) (l : List ℕ) → Each (λ k. keep k ≡ true) l → those keep l ≡ l
unfolding those
those_clear keep [] h = refl
those_clear keep (x ∷ xs) h = rw (h.0, those_clear keep xs h.1)

module _ {A : Type 0} (name : ℕ → A) (b : Book) (w : ℕ) (title : ℕ → A) (c : Book) (v : ℕ) (same : SameOrder (at b w) (at c v))
    (h : OutOfTheWay (facing (at b w)) (at b w).mpid name b title c) where
  same_offers : offers title c v ≡ offers name b w
  unfolding others_on
  same_offers =
      rw (facing_same (at c v) (at b w) (sym same.side), ← same.mpid, those_clear (λ k. not (is_of (at b w).mpid (at c k))) (in_turn c s) (each_imp _ _ clear (in_turn c s) (in_turn_stands c s)))
      h.others
    where
      s : ℕ
      s = facing (at b w)

      clear : (k : ℕ) → stands s (at c k) ≡ true → not (is_of (at b w).mpid (at c k)) ≡ true
      clear k t = rw (h.clear k t)

  same_taken : taken title c v ≡ taken name b w
  unfolding taken
  same_taken = rw (same_offers, ← same.side, ← same.level, ← same.quantity)

  same_immediate : is_immediate (at c v) ≡ is_immediate (at b w)
  same_immediate = rw (← same.tif)

  module _ (modes ways : ℕ → ℕ) (two : modes (at b w).mpid ≡ 2) (there : ways (at b w).mpid ≡ 2) (i : In b w) (j : In c v) where
    two_there : ways (at c v).mpid ≡ 2
    two_there = rw (← same.mpid) there

    pub same_fills : (m n : ℕ) → (run modes false m b w).work ≡ 0 → (run ways false n c v).work ≡ 0
        → SameFills name w (run modes false m b w) title v (run ways false n c v)
    same_fills m n x y =
        let f = run_takes name modes m b w i two x in
        let g = run_takes title ways n c v j two_there y in
        record {
          trades = g.trades ∙ same_taken ∙ sym f.trades;
          left = g.left ∙ rw (same_taken, same_immediate, ← same.quantity) (sym f.left);
          back = g.back ∙ rw (same_taken, same_immediate, ← same.quantity) (sym f.back);
        }

    -- they miss their minimum on both or on neither
    pub same_missed : (decided : ℕ) → misses ways decided c v ≡ misses modes decided b w
    unfolding misses
    same_missed decided = rw (would_take title ways c v j two_there, would_take name modes b w i two, same_taken, ← same.minimum)

    killed_fills : (m n : ℕ) → 0 < open_of (at b w) → (run modes true m b w).work ≡ 0 → (run ways true n c v).work ≡ 0
        → SameFills name w (run modes true m b w) title v (run ways true n c v)
    unfolding fills lapsed
    killed_fills m n o x y =
        let f = killed_whole modes b w i m o x in
        let g = killed_whole ways c v j n (rw (← same.quantity) o) y in
        record {
          trades = rw (f.events, g.events);
          left = g.shut ∙ sym f.shut;
          back = rw (f.events, g.events, same.quantity);
        }

    -- and so whatever they miss
    pub same_decided : (decided m n : ℕ) → 0 < open_of (at b w)
        → let r = run modes (misses modes decided b w) m b w in
        let s = run ways (misses ways decided c v) n c v in
        r.work ≡ 0 → s.work ≡ 0 → SameFills name w r title v s
    same_decided decided m n o x y =
        rw (same_missed decided)
        (split (misses modes decided b w)
        (λ t. rw t (killed_fills m n o (rw t at x) (rw (same_missed decided, t) at y)))
        (λ t. rw t (same_fills m n (rw t at x) (rw (same_missed decided, t) at y))))
