pub mod Laws
mod Words
mod Listing
mod GrammarLaws
mod Depth
mod Faults
mod Skimming
mod Alike
mod Calm
mod Verdict
