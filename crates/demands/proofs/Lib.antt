-- Why the demands hold. The theorems stand in Second, Counts, Encoding, Third, Fewer, Refused, Blind, Silence, Reading, Kept, Leaving, Stopping, Tied
-- and Room, the plans' parameters in Parameters and Distance, and samples that meet the premises in Samples (plan 1), Samples3 (plan 3) and FewerSamples.
pub mod Lists
pub mod Marked
-- what backs each plan, by its number
pub mod Square
pub mod Backed
pub mod Plan1
pub mod Plan2
pub mod Plan3
pub mod Plan4
pub mod Plan5
pub mod Few
-- a bench and a codeword that agrees with it
pub mod Alike
pub mod Codewords
pub mod Room
pub mod Held
-- the order of steps
pub mod Kept
pub mod Order
-- the rounds
pub mod Reached
pub mod Rounds
pub mod Left
-- a codeword for any data
pub mod Build
-- the demands
pub mod Second
pub mod Counts
pub mod Encoding
pub mod Third
pub mod Fewer
pub mod Refused
pub mod Bytes
pub mod Blind
pub mod Silence
pub mod Reading
pub mod Leaving
pub mod Stopping
pub mod Tied
pub mod Samples
pub mod Samples3
pub mod FewerSamples
-- the parameters
pub mod Parameters
pub mod Distance
