pub mod SegmentSets
pub mod SegmentLaws
pub mod CopyScans
pub mod Gives
pub mod CopyLaws
