-- The numbers that the C interface gives for a level that Depth finds, for the place of a field and for the bad block of an image, each 0
-- where there is nothing to say (document 01, "The table and its calls"; document 02, T-08 and T-12). The yield is signed, in thousandths;
-- so is the price, in tenths, though it is never below zero. Assumes nothing.
use Rattle.std.specs.Prelude.{ℕ, ℤ, pos, Option, Some, None, Result, Ok, Err}
use Rattle.std.proofs.Math.IntN.{sub_ℕ}
use Rattle.decimal.specs.declared.Instrument.{Instrument}
use Rattle.decimal.specs.declared.Instrument.TheVariants.{Bonds, Equities}
use Rattle.matching.specs.declared.Level.{Level}
use Rattle.market.specs.Depth.{DepthAnswer}
use Rattle.refusals.specs.declared.Refusal.{Refusal}
use Rattle.refusals.specs.declared.Refusal.TheVariants.{BadBlock}
use Rattle.fix.specs.declared.frame.Part.{Part}

-- ---- Depth

-- the level that an answer has, or none
abbrev pub level_in : DepthAnswer → Option Level
level_in (Ok found) = found
level_in (Err refusal) = None

-- the yield in thousandths, which is the level less 1,000,000,000; the price in tenths, which is 1,000,000,000 less the level
unfoldable pub signed_of : Instrument → ℕ → ℤ
signed_of Bonds level = sub_ℕ level 1_000_000_000
signed_of Equities level = sub_ℕ 1_000_000_000 level

unfoldable pub quote_of : Instrument → Option Level → ℤ
quote_of q (Some l) = signed_of q l.level
quote_of q None = pos 0

-- ---- the place of a field

abbrev pub is_there : Option Part → ℕ
is_there (Some part) = 1
is_there None = 0

abbrev pub start_of : Option Part → ℕ
start_of (Some part) = part.start
start_of None = 0

abbrev pub len_of : Option Part → ℕ
len_of (Some part) = part.len
len_of None = 0

-- ---- the bad block of an image, which counts from 0

abbrev pub bad_block : Result (Unit {0}) Refusal → ℕ
bad_block (Err (BadBlock k)) = k
bad_block _ = 0
