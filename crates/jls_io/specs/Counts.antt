-- What a device keeps of its history as it runs.
use Rattle.std.specs.Prelude.{◌≡◌, ℕ, Bool}
use Rattle.jls_io.specs.Event.{History, count_of, has_input, has_output, is_read, is_failed_read, is_failed_write, is_failed_opening}

-- what a device keeps of its history: how many reads, failures of each kind, and whether an input and an output are open
pub record AreOf (h : History) (reads read_failures write_failures open_failures : ℕ) (input_is_open output_is_open : Bool) : Type 0 where
  pub reads_are : reads ≡ count_of is_read h
  pub read_failures_are : read_failures ≡ count_of is_failed_read h
  pub write_failures_are : write_failures ≡ count_of is_failed_write h
  pub open_failures_are : open_failures ≡ count_of is_failed_opening h
  pub input_is : input_is_open ≡ has_input h
  pub output_is : output_is_open ≡ has_output h
