-- How own orders come out of the way: canceled one by one, each as its owner asks; and an order that enters on the other side, or is
-- replaced there, leaves those of this side as they are.
use mathlib.Core.Path.{◌≡◌, refl, sym, ap, ◌∙◌}
use mathlib.Core.Bool.{true, false, not, ◌&&◌}
use mathlib.Core.List.{List, [], ◌∷◌, map}
use mathlib.Core.Logic.{◌≢◌}
use Prim.Native.Nat.{ℕ, suc, ◌≤◌, ◌<◌}
use native.Mathlib.Omega.{arith}
use lib.ListN.{length}
use lib.Dec.{eqb}
use borrow.Author.Tests.{eqb-true, eqb-false}
use Rattle.octets.proofs.Bools.{split, not_both, both_i}
use Rattle.matching.specs.declared.Event.{Event}
use Rattle.matching.specs.declared.Event.TheVariants.{Withdrawn}
use Rattle.matching.specs.Matching.{Book, at, open_of, who, after}
use Rattle.matching.specs.Held.{In}
use Rattle.matching.specs.Happens.{Fit}
use Rattle.matching.specs.Depth.{stands}
use Rattle.matching.specs.InTurn.{in_turn}
use Rattle.matching.specs.OutOfTheWay.{is_of, others_on, Lot, lot_of, OutOfTheWay}
use Rattle.matching.proofs.Events.{after_there, after_same, after_other, change_open}
use Rattle.matching.proofs.InTurn.{Each, each_imp, in_turn_stands, those_all, in_turn_stay, closed_stands, and_true}
use Rattle.matching.proofs.OutOfTheWay.{lots_same}

-- ---- a side that stays as it is
pub record Still {A : Type 0} (s : ℕ) (name : ℕ → A) (b : Book) (later : ℕ → A) (d : Book) : Type 0 where
  pub standing : (k : ℕ) → stands s (at d k) ≡ stands s (at b k)
  pub order : (k : ℕ) → stands s (at b k) ≡ true → at d k ≡ at b k
  pub named : (k : ℕ) → stands s (at b k) ≡ true → later k ≡ name k

module _ {A : Type 0} (s : ℕ) (name : ℕ → A) (b : Book) (later : ℕ → A) (d : Book) (h : Still s name b later d) where
  still_turn : in_turn d s ≡ in_turn b s
  still_turn =
      in_turn_stay b d s (λ k. true)
      (record {
        stay = λ k. h.standing k ∙ sym (and_true (stands s (at b k)));
        level = λ k t. rw (h.order k (sym (h.standing k) ∙ t));
        place = λ k t. rw (h.order k (sym (h.standing k) ∙ t));
      })
      ∙ those_all (λ k. true) (in_turn b s) (λ k. refl)

  still_lot : (k : ℕ) → stands s (at b k) ≡ true → lot_of later d k ≡ lot_of name b k
  still_lot k t = rw (h.order k t, h.named k t)

  still_all : map (lot_of later d) (in_turn d s) ≡ map (lot_of name b) (in_turn b s)
  still_all = rw still_turn (each_map (in_turn b s) (in_turn_stands b s))
    where
      each_map : (l : List ℕ) → Each (λ k. stands s (at b k) ≡ true) l → map (lot_of later d) l ≡ map (lot_of name b) l
      each_map [] e = refl
      each_map (x ∷ xs) e = ap (λ (y : Lot A). y ∷ map (lot_of later d) xs) (still_lot x e.0) ∙ ap (λ (m : List (Lot A)). lot_of name b x ∷ m) (each_map xs e.1)

  still_others : (p : ℕ) → map (lot_of later d) (others_on d s p) ≡ map (lot_of name b) (others_on b s p)
  unfolding others_on
  still_others p =
      rw still_turn
      (lots_same name b later d _ _ (in_turn b s)
      (each_imp (λ k. stands s (at b k) ≡ true) _ (λ k t. (rw (h.order k t), still_lot k t)) (in_turn b s) (in_turn_stands b s)))

-- what stays on both books stays out of the way
pub still_out : {A : Type 0} (s p : ℕ) (name : ℕ → A) (b : Book) (title : ℕ → A) (c : Book) (later : ℕ → A) (d : Book) (next : ℕ → A) (e : Book)
    → Still s name b later d → Still s title c next e → OutOfTheWay s p name b title c → OutOfTheWay s p later d next e
still_out s p name b title c later d next e x y h =
    record {
      clear = λ k t.
          let u = sym (y.standing k) ∙ t in
          rw (y.order k u) (h.clear k u);
      others = still_all s title c next e y ∙ h.others ∙ sym (still_others s name b later d x p);
    }

-- an event of an order that stands on this side neither before nor after it
pub event_still : {A : Type 0} (s : ℕ) (name : ℕ → A) (b : Book) (e : Event) (later : ℕ → A) → 0 < who e → who e ≤ suc (length b)
    → stands s (at b (who e)) ≡ false → stands s (at (after b e) (who e)) ≡ false
    → ((k : ℕ) → stands s (at b k) ≡ true → k ≢ who e → later k ≡ name k) → Still s name b later (after b e)
event_still s name b e later l h x y n =
    record {
      standing = λ k.
          split (eqb k (who e))
          (λ t. rw (eqb-true k (who e) t) (y ∙ sym x))
          (λ t. rw (after_there b e l h k (eqb-false k (who e) t)));
      order = λ k t. after_there b e l h k (other k t);
      named = λ k t. n k t (other k t);
    }
  where
    other : (k : ℕ) → stands s (at b k) ≡ true → k ≢ who e
    other k t q = not_both t (rw q x)

-- ---- orders of an MPID that were withdrawn: of b every order of the side that still stands on c, and all that are not of the MPID
pub record Withdrew {A : Type 0} (s p : ℕ) (name : ℕ → A) (b : Book) (title : ℕ → A) (c : Book) : Type 0 where
  pub same : (k : ℕ) → stands s (at c k) ≡ true → at c k ≡ at b k
  pub named : (k : ℕ) → stands s (at c k) ≡ true → title k ≡ name k
  pub stay : (k : ℕ) → stands s (at b k) ≡ true → is_of p (at b k) ≡ false → at c k ≡ at b k

pub withdrew_none : {A : Type 0} (s p : ℕ) (name : ℕ → A) (b : Book) → Withdrew s p name b name b
withdrew_none s p name b = record { same = λ k t. refl; named = λ k t. refl; stay = λ k t u. refl }

-- one more
pub withdrew_more : {A : Type 0} (s p : ℕ) (name : ℕ → A) (b : Book) (title : ℕ → A) (c : Book) (j : ℕ) (later : ℕ → A)
    → In c j → is_of p (at c j) ≡ true → ((k : ℕ) → stands s (at c k) ≡ true → k ≢ j → later k ≡ title k)
    → Withdrew s p name b title c → Withdrew s p name b later (after c (Withdrawn j (open_of (at c j))))
withdrew_more s p name b title c j later i own n h =
    record {
      same = λ k t. let u = before k t in rw (elsewhere k u.0) (h.same k u.1);
      named = λ k t. let u = before k t in n k u.1 u.0 ∙ h.named k u.1;
      stay = λ k t u.
          let e = h.stay k t u in
          elsewhere k (λ q. not_both own (rw (← q, e) u)) ∙ e;
    }
  where
    fit : Fit c (Withdrawn j (open_of (at c j)))
    fit = record { moving = refl; inside = i; enough = omega arith; whole = λ l. refl }

    shut : open_of (at (after c (Withdrawn j (open_of (at c j)))) j) ≡ 0
    shut = rw (after_same c (Withdrawn j (open_of (at c j))) fit) (change_open (Withdrawn j (open_of (at c j))) (at c j) refl ∙ omega arith)

    elsewhere : (k : ℕ) → k ≢ j → at (after c (Withdrawn j (open_of (at c j)))) k ≡ at c k
    elsewhere k q = after_other c (Withdrawn j (open_of (at c j))) fit k q

    before : (k : ℕ) → stands s (at (after c (Withdrawn j (open_of (at c j)))) k) ≡ true → (k ≢ j) × (stands s (at c k) ≡ true)
    before k t =
        let d : k ≢ j = λ q. not_both t (rw q (closed_stands s _ shut)) in
        (d, rw (elsewhere k d) at t)

-- when none of them is left, they are out of the way
module _ {A : Type 0} (s p : ℕ) (name : ℕ → A) (b : Book) (title : ℕ → A) (c : Book) (h : Withdrew s p name b title c)
    (clear : (k : ℕ) → stands s (at c k) ≡ true → is_of p (at c k) ≡ false) where
  left_standing : (k : ℕ) → stands s (at c k) ≡ (stands s (at b k) && not (is_of p (at b k)))
  left_standing k =
      split (stands s (at c k))
      (λ t. let e = h.same k t in let f = clear k t in t ∙ sym (both_i (rw e at t) (rw (← e, f))))
      (λ t. t ∙ sym (none t))
    where
      none : stands s (at c k) ≡ false → (stands s (at b k) && not (is_of p (at b k))) ≡ false
      none t =
          split (stands s (at b k))
          (λ u. rw u
          (split (is_of p (at b k))
          (λ v. rw v)
          (λ v. absurd (not_both u (rw (← h.stay k u v) t)))))
          (λ u. rw u)

  withdrew_turn : in_turn c s ≡ others_on b s p
  unfolding others_on
  withdrew_turn =
      in_turn_stay b c s (λ k. not (is_of p (at b k)))
      (record { stay = left_standing; level = λ k t. rw (h.same k t); place = λ k t. rw (h.same k t) })

  pub withdrew_out : OutOfTheWay s p name b title c
  withdrew_out = record { clear = clear; others = each_map (in_turn c s) (in_turn_stands c s) ∙ ap (map (lot_of name b)) withdrew_turn }
    where
      each_map : (l : List ℕ) → Each (λ k. stands s (at c k) ≡ true) l → map (lot_of title c) l ≡ map (lot_of name b) l
      each_map [] e = refl
      each_map (x ∷ xs) e =
          let one : lot_of title c x ≡ lot_of name b x = rw (h.same x e.0, h.named x e.0) in
          ap (λ (y : Lot A). y ∷ map (lot_of title c) xs) one ∙ ap (λ (m : List (Lot A)). lot_of name b x ∷ m) (each_map xs e.1)
