-- Reports handed to a feed one by one: what is told from the copies, report by report.
use mathlib.Core.Path.{◌≡◌, refl, sym, ap, ◌∙◌}
use mathlib.Core.Bool.{Bool, true, false, cond}
use mathlib.Core.List.{List, [], ◌∷◌, ◌++◌, map}
use Prim.Native.Nat.{ℕ, ◌+◌, ◌≤◌}
use native.Mathlib.Omega.{arith}
use lib.ListN.{length}
use Rattle.octets.proofs.Bools.{split}
use Rattle.decimal.specs.declared.Instrument.{Instrument}
use Rattle.report.specs.Reports.{read_of}
use Rattle.readback.specs.Says.{says}
use Rattle.promises.specs.Tallies.{Account, noted, account_from, traded_for, traded, is_refused, unread}
use Rattle.feed.specs.Settings.{client_of, is_setting, copied_by}
use Rattle.feed.specs.Copies.{Fed, is_none, copy_bytes, read_copy_of}
use Rattle.backoffice.specs.Feeds.{written_by, next_after, copies_from, NumberedFrom}
use Rattle.backoffice.proofs.Copying.{none_refused, copied_by_full, Same, noted_same, traded_same, noted_other, traded_other, copy_same, copy_34, copy_17, given_so, fed_copied, fed_not}

-- every report is read
module _ (q : Instrument) (r : List ℕ) (rs : List (List ℕ)) (h : unread (map (read_of q) (r ∷ rs)) ≡ 0) where
  parts : (is_refused (read_of q r).kind ≡ false) × (unread (map (read_of q) rs) ≡ 0)
  unfolding unread
  parts = by (is_refused (read_of q r).kind) h
    where
      by : (b : Bool) → cond b 1 0 + unread (map (read_of q) rs) ≡ 0 → (b ≡ false) × (unread (map (read_of q) rs) ≡ 0)
      by true e = absurd (omega (arith, e))
      by false e = (refl, omega (arith, e))

  pub some_read : is_none (read_of q r).kind ≡ false
  some_read = none_refused (read_of q r).kind ∙ parts.0

  pub rest_read : unread (map (read_of q) rs) ≡ 0
  rest_read = parts.1

module _ (q : Instrument) (subscription shows : ℕ) (port group : List ℕ) (set : is_setting q subscription shows port group ≡ true) where
  abbrev client : List ℕ
  client = client_of shows port group

  -- the copies from one report on
  module _ (r : List ℕ) (rs : List (List ℕ)) (n : ℕ) (low : 1 ≤ n) (high : n + length (r ∷ rs) ≤ 1000000000) (h : unread (map (read_of q) (r ∷ rs)) ≡ 0) where
    few : n ≤ 999999999
    few = omega (arith, high)

    abbrev copy : List ℕ
    copy = copy_bytes r n client (read_of q r).fields

    pub copies_with : copied_by subscription (read_of q r).kind ≡ true
        → copies_from q subscription shows port group n (r ∷ rs) ≡ copy ∷ copies_from q subscription shows port group (n + 1) rs
    unfolding copies_from
    copies_with c =
        ap (λ (f : Fed). written_by f.answer f.bytes ++ copies_from q subscription shows port group (next_after n f.answer) rs)
        (fed_copied q subscription shows port group set r (some_read q r rs h) n low few c)

    pub copies_without : copied_by subscription (read_of q r).kind ≡ false
        → copies_from q subscription shows port group n (r ∷ rs) ≡ copies_from q subscription shows port group n rs
    unfolding copies_from
    copies_without c =
        ap (λ (f : Fed). written_by f.answer f.bytes ++ copies_from q subscription shows port group (next_after n f.answer) rs)
        (fed_not q subscription shows port group set r (some_read q r rs h) n low few c)

    module _ (c : copied_by subscription (read_of q r).kind ≡ true) where
      pub same_said : Same (read_copy_of q copy) (read_of q r)
      same_said =
          copy_same q r (some_read q r rs h) client n (given_so q subscription shows port group set r (some_read q r rs h) n low few) (copied_by_full subscription (read_of q r).kind c)

      pub said_34 : says 34 (read_copy_of q copy) ≡ n
      said_34 = copy_34 q r (some_read q r rs h) client n (given_so q subscription shows port group set r (some_read q r rs h) n low few) (copied_by_full subscription (read_of q r).kind c)

      pub said_17 : says 17 (read_copy_of q copy) ≡ n
      said_17 = copy_17 q r (some_read q r rs h) client n (given_so q subscription shows port group set r (some_read q r rs h) n low few) (copied_by_full subscription (read_of q r).kind c)

  -- the numbers have no gap
  pub numbered : (rs : List (List ℕ)) (n : ℕ) → 1 ≤ n → n + length rs ≤ 1000000000 → unread (map (read_of q) rs) ≡ 0 → NumberedFrom q n (copies_from q subscription shows port group n rs)
  unfolding copies_from
  numbered [] n low high h = tt
  numbered (r ∷ rs) n low high h =
      split (copied_by subscription (read_of q r).kind)
      (λ c. rw (copies_with r rs n low high h c) (said_34 r rs n low high h c, said_17 r rs n low high h c, numbered rs (n + 1) (omega arith) (omega (arith, high)) (rest_read q r rs h)))
      (λ c. rw (copies_without r rs n low high h c) (numbered rs n low (omega (arith, high)) (rest_read q r rs h)))

-- a full feed: the accounts
module _ (q : Instrument) (shows : ℕ) (port group : List ℕ) (set : is_setting q 2 shows port group ≡ true) (k : ℕ) where
  pub full_accounts : (rs : List (List ℕ)) (a : Account) (n : ℕ) → 1 ≤ n → n + length rs ≤ 1000000000 → unread (map (read_of q) rs) ≡ 0
      → account_from k a (map (read_copy_of q) (copies_from q 2 shows port group n rs)) ≡ account_from k a (map (read_of q) rs)
  unfolding account_from copies_from
  full_accounts [] a n low high h = refl
  full_accounts (r ∷ rs) a n low high h =
      split (copied_by 2 (read_of q r).kind)
      (λ c.
      ap (λ (cs : List (List ℕ)). account_from k a (map (read_copy_of q) cs)) (copies_with q 2 shows port group set r rs n low high h c)
      ∙ ap (λ (b : Account). account_from k b (map (read_copy_of q) (copies_from q 2 shows port group (n + 1) rs))) (noted_same _ _ (same_said q 2 shows port group set r rs n low high h c) k a)
      ∙ full_accounts rs (noted k a (read_of q r)) (n + 1) (omega arith) (omega (arith, high)) (rest_read q r rs h))
      (λ c.
      ap (λ (cs : List (List ℕ)). account_from k a (map (read_copy_of q) cs)) (copies_without q 2 shows port group set r rs n low high h c)
      ∙ full_accounts rs a n low (omega (arith, high)) (rest_read q r rs h)
      ∙ ap (λ (b : Account). account_from k b (map (read_of q) rs)) (sym (noted_other k a (read_of q r) c)))

-- a reconciliation feed: what is bought and what is sold
module _ (q : Instrument) (shows : ℕ) (port group : List ℕ) (set : is_setting q 1 shows port group ≡ true) (takes : ℕ → Bool) where
  pub trades_copied : (rs : List (List ℕ)) (n : ℕ) → 1 ≤ n → n + length rs ≤ 1000000000 → unread (map (read_of q) rs) ≡ 0 → traded takes (map (read_copy_of q) (copies_from q 1 shows port group n rs)) ≡ traded takes (map (read_of q) rs)
  unfolding traded copies_from
  trades_copied [] n low high h = refl
  trades_copied (r ∷ rs) n low high h =
      split (copied_by 1 (read_of q r).kind)
      (λ c.
      ap (λ (cs : List (List ℕ)). traded takes (map (read_copy_of q) cs)) (copies_with q 1 shows port group set r rs n low high h c)
      ∙ ap (λ (m : ℕ). m + traded takes (map (read_copy_of q) (copies_from q 1 shows port group (n + 1) rs))) (traded_same _ _ (same_said q 1 shows port group set r rs n low high h c) takes)
      ∙ ap (λ (m : ℕ). traded_for takes (read_of q r) + m) (trades_copied rs (n + 1) (omega arith) (omega (arith, high)) (rest_read q r rs h)))
      (λ c.
      ap (λ (cs : List (List ℕ)). traded takes (map (read_copy_of q) cs)) (copies_without q 1 shows port group set r rs n low high h c)
      ∙ trades_copied rs n low (omega (arith, high)) (rest_read q r rs h)
      ∙ (let z : traded takes (map (read_of q) rs) ≡ traded_for takes (read_of q r) + traded takes (map (read_of q) rs) = omega (arith, traded_other takes (read_of q r) c) in z))
