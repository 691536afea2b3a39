-- `numbers::quote_of` meets its contract: a level in range has a yield or a price of 64 bits.
use Rattle.kamurjesh.proofs.Quotes.{handed}
use Rattle.kamurjesh.specs.Numbers.{quote_of}
use Rattle.kamurjesh.proofs.numbers.quote_of.Goals as goal

pub signed-requires : goal.signed-requires
signed-requires c = rw c.in-Some.is at c.requires

pub returns-in-Some : goal.returns-in-Some
unfolding quote_of
returns-in-Some c =
    handed c.args.q c.args.level c.signed.result c.requires (rw c.in-Some.is c.signed.ensures)

pub returns-in-None : goal.returns-in-None
unfolding quote_of
returns-in-None c = rw c.in-None.is
