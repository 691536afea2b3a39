-- Answers that a load could give and that are ruled out: one that skips a message for which there is no room, one that counts the message
-- that Run left in work, one that takes a length of five digits; and the buffers next to them, computed by the definitions.
use mathlib.Core.Path.{◌≡◌, refl, ap}
use mathlib.Core.Bool.{false}
use mathlib.Core.List.{List, [], ◌++◌}
use Prim.Native.Nat.{ℕ, ◌≤◌}
use lib.Dec.{eqb}
use lib.ListN.{replicate}
use Rattle.octets.specs.Characters.{message}
use Rattle.octets.specs.Octets.{part_at, same_bytes}
use Rattle.decimal.specs.Reading.{is_digit, run_of, number_after, is_number}
use Rattle.decimal.specs.declared.Instrument.{Instrument}
use Rattle.table.specs.Heading.{work_of}
use Rattle.load.specs.declared.Stop.TheVariants as stop
use Rattle.load.specs.Buffer.{nine_of, says_length, length_said, starts_message, Lying, End, Unreadable, Then, lying_after, lying_in}
use Rattle.load.specs.Load.{taken, Loads, halted, loads}
use Rattle.load.proofs.Loading.{then_broken}

-- open the definitions that a buffer is read with
computes : ℕ
unfolding part_at same_bytes is_digit run_of number_after is_number nine_of says_length length_said starts_message lying_after loads
computes = 0

-- a message of 26 bytes, and the same with needless zeros before its length
abbrev plain : List ℕ
plain = message "8=FIX.4.2|9=5|35=0|10=161|"

abbrev padded : List ℕ
padded = message "8=FIX.4.2|9=0005|35=0|10=161|"

-- ---- where messages end

-- one behind another
pub two_found : lying_in (plain ++ padded) ≡ Then plain (Then padded End)
unfolding computes
two_found = refl

pub none_found : lying_in [] ≡ End
unfolding computes
none_found = refl

-- five digits are no length, though they say the same
pub five_digits : lying_in (message "8=FIX.4.2|9=00005|35=0|10=161|") ≡ Unreadable
unfolding computes
five_digits = refl

-- nor is no digit, a minus, a blank, or another version
pub no_digit : lying_in (message "8=FIX.4.2|9=|35=0|10=161|") ≡ Unreadable
unfolding computes
no_digit = refl

pub minus_digit : lying_in (message "8=FIX.4.2|9=-5|35=0|10=161|") ≡ Unreadable
unfolding computes
minus_digit = refl

pub blank_digit : lying_in (message "8=FIX.4.2|9=5 |35=0|10=161|") ≡ Unreadable
unfolding computes
blank_digit = refl

pub other_version : lying_in (message "8=FIX.4.4|9=5|35=0|10=161|") ≡ Unreadable
unfolding computes
other_version = refl

-- a body with one byte too few behind it cannot be read; with one too many, what follows cannot
pub one_short : lying_in (message "8=FIX.4.2|9=6|35=0|10=161|") ≡ Unreadable
unfolding computes
one_short = refl

pub one_long : lying_in (message "8=FIX.4.2|9=4|35=0|10=161|") ≡ Then (message "8=FIX.4.2|9=4|35=0|10=161") Unreadable
unfolding computes
one_long = refl

-- one that is longer than a message may be is found, for Submit to pass over
pub too_long_found : lying_in (message "8=FIX.4.2|9=1100|" ++ replicate 1107 0x41) ≡ Then (message "8=FIX.4.2|9=1100|" ++ replicate 1107 0x41) End
unfolding computes
too_long_found = refl

-- ---- no room: the message is not skipped, and nothing is said to be finished, whatever the table

pub not_skipped : (q : Instrument) (t : List ℕ) → loads q t (lying_in (plain ++ padded)) 1023 ≡ halted stop.Full t
unfolding computes
not_skipped q t = refl

-- at bytes that cannot be read, want of room comes first; at the end of the buffer nothing is wanting
pub room_first : (q : Instrument) (t : List ℕ) → loads q t (lying_in (message "8=FIX.4.2|9=00005|")) 1023 ≡ halted stop.Full t
unfolding computes
room_first q t = refl

pub end_first : (q : Instrument) (t : List ℕ) → loads q t (lying_in []) 0 ≡ halted stop.Done t
unfolding computes
end_first q t = refl

-- ---- a message that Run left in work is not finished, and the place is behind it

module _ (q : Instrument) (t : List ℕ) (rest : Lying) (room : ℕ) (l : 1024 ≤ room) (n : eqb (taken q t plain room).number 4 ≡ false) (w : work_of (taken q t plain room).table ≡ 0 → ⊥) where
  pub not_counted : (loads q t (Then plain rest) room).finished ≡ 0
  not_counted = ap (λ (x : Loads). x.finished) (then_broken q t plain rest room l n w)

  pub place_behind : (loads q t (Then plain rest) room).place ≡ 26
  place_behind = ap (λ (x : Loads). x.place) (then_broken q t plain rest room l n w)
