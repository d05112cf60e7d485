mod CellMade
mod Runs
mod Disks
mod Makes
mod Takes
mod Steps
mod MomentExamples
