-- A text that was put is a good text: of its length, with its characters, and zeros behind it.
use mathlib.Core.Path.{◌≡◌}
use mathlib.Core.Bool.{Bool, true}
use mathlib.Core.List.{List}
use Prim.Native.Nat.{ℕ, ◌+◌, ◌-◌, ◌≤◌}
use lib.Dec.{leb}
use lib.ListN.{length, get_or}
use borrow.Author.Tests.{leb-true, le-leb}
use Rattle.octets.specs.Octets.{text_at, put_text}
use Rattle.octets.proofs.Bools.{both_i, both_l, both_r}
use Rattle.octets.proofs.Parts.{text_put, text_put_first, text_put_padding}
use Rattle.octets.proofs.Zeros.{zero_replicate}
use Rattle.table.specs.Market.{every, is_padded, is_text}

module _ (n : ℕ) (t : List ℕ) (p : ℕ) (xs : List ℕ) (room : p + 1 + n ≤ length t) (short : length xs ≤ n) where
  pub padded_put : is_padded n (put_text n t p xs) p ≡ true
  unfolding is_padded
  padded_put =
      let e = text_put_first n t p xs room short in
      let z = text_put_padding n t p xs room short in
      rw (e, z) (zero_replicate (n - length xs))

  pub is_text_put : (f : ℕ → Bool) (low : ℕ) → low ≤ length xs → every f xs ≡ true → is_text f low n (put_text n t p xs) p ≡ true
  unfolding is_text
  is_text_put f low l h =
      let e = text_put_first n t p xs room short in
      let x = text_put n t p xs room short in
      let a : leb low (get_or (put_text n t p xs) p 0) ≡ true = rw e (le-leb low (length xs) l) in
      let b : leb (get_or (put_text n t p xs) p 0) n ≡ true = rw e (le-leb (length xs) n short) in
      let c : every f (text_at (put_text n t p xs) p) ≡ true = rw x h in
      both_i (both_i (both_i a b) c) padded_put

-- what a good text promises
module _ (f : ℕ → Bool) (low n : ℕ) (t : List ℕ) (p : ℕ) (h : is_text f low n t p ≡ true) where
  pub text_low : low ≤ get_or t p 0
  unfolding is_text
  text_low = leb-true _ _ (search both_l)

  pub text_high : get_or t p 0 ≤ n
  unfolding is_text
  text_high = leb-true _ _ (search (both_l, both_r))

  pub text_every : every f (text_at t p) ≡ true
  unfolding is_text
  text_every = search (both_l, both_r)
