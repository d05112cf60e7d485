-- The scans and the readings of a copy are those of its course, which the reader of copies follows.
use Rattle.std.specs.Prelude.{◌≡◌, ℕ, List, Some, ◌↔◌}
use Rattle.std.specs.List.{flat_map}
use Rattle.jls_values.specs.Shape.{PictureShape}
use Rattle.jls_partial.specs.Reading.{Reading}
use Rattle.jls_marker.specs.SegmentLaws.{AreBytes}
use Rattle.jls_copy.specs.Course.{Course, IsCourse}
use Rattle.jls_copy.specs.Prefixes.{CourseHasReading}
use Rattle.jls_copy_laws.specs.CopyScans.{ScanWithData, scans_of_unit, HasScans}
use Rattle.jls_copy_laws.specs.Gives.{GivesReading}

-- the course takes a frame of this shape, and its scans are these
pub record HasCourseWith (copy : List ℕ) (shape : PictureShape) (scans : List ScanWithData) : Type 0 where
  pub course : Course
  pub is_course : IsCourse copy course
  pub framed : course.headers.frame ≡ Some shape
  pub scans_are : scans ≡ flat_map scans_of_unit course.units

-- bytes have a frame of a shape and scans if and only if their course does
abbrev pub ScansAreOfTheCourse : Type 0
ScansAreOfTheCourse = (copy : List ℕ) (shape : PictureShape) (scans : List ScanWithData) → AreBytes copy
    → HasScans copy shape scans ↔ HasCourseWith copy shape scans

-- a copy has one frame and one list of scans at most
abbrev pub OneListOfScans : Type 0
OneListOfScans = (copy : List ℕ) (shape shape' : PictureShape) (scans scans' : List ScanWithData)
    → HasScans copy shape scans → HasScans copy shape' scans' → (shape ≡ shape') × (scans ≡ scans')

-- if the course of bytes takes a frame, they give exactly the readings that the course has
abbrev pub ReadingsAreOfTheCourse : Type 0
ReadingsAreOfTheCourse = (copy : List ℕ) (c : Course) (shape : PictureShape) (r : Reading) → AreBytes copy → IsCourse copy c
    → c.headers.frame ≡ Some shape → GivesReading copy r ↔ CourseHasReading c r
