-- Lemmas of this crate.
mod ErrorKinds
mod FaultLineExamples
mod FaultlessWords
mod NumbersRead
pub mod OutputSteps
pub mod SalvageWordsRead
mod SalvageWordsTakenExamples
mod SimpleCommands
mod SpliceWordsTakenExamples
mod AnswerExamples
mod StatusExamples
mod RefusedWords
