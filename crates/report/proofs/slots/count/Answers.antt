-- `slots::count` is the entry of specs/Slots, by what is traded.
use Rattle.report.proofs.slots.count.Goals as goal

pub returns-in-Bonds : goal.returns-in-Bonds
returns-in-Bonds c = rw c.in-Bonds.is

pub returns-in-Equities : goal.returns-in-Equities
returns-in-Equities c = rw c.in-Equities.is
