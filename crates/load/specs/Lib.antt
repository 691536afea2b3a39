-- What the contracts and theorems of `load` cite. A reader believes Buffer: the messages that lie in a buffer; and Load: what comes of
-- them, one after another. Singles and Resumes are what a load is compared with: the calls that a person would make, and a load that is
-- gone on with. Turn has what the inner functions ask for and leave.
pub mod Buffer
pub mod Load
pub mod Singles
pub mod Resumes
pub mod Turn
