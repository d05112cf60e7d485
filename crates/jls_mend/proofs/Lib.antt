-- Lemmas of this crate.
mod AskingExamples
mod Numbers
mod NamesOn
mod ListNames
mod ListFiles
mod CopiesRead
mod HandedOut
mod TaskOf
mod MendedFiles
