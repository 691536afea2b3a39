-- What the contracts of `market` cite. A reader believes Depth and Top: what these calls answer. Ladder is the
-- way in which Depth looks.
pub mod Depth
pub mod Top
pub mod Ladder
