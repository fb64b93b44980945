-- What is shown of the interleaved form: it is plan 3's code, by theorem and on samples, and the code of the test tests it.
pub mod Linear
pub mod Same
pub mod Samples
-- the code of the test
pub mod Testing
