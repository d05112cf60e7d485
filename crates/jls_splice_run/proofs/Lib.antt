-- Lemmas of this crate.
mod BesideFiles
mod PrintedLineExamples
pub mod Eois
mod NewFiles
mod MendedNumbers
mod CarriedCopies
mod Offsets
mod KeptCeilings
mod Told
mod LineBegins
mod BadListExamples
mod ListedCopies
mod FaultLineExamples
mod Done
mod Handed
mod MakingLemmas
mod Members
mod Named
mod ReadAlike
mod Running
mod Seen
mod ReportedExamples
mod CarryingExamples
