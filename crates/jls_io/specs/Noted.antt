-- The event that a device notes.
use Rattle.jls_io.specs.Event.{Event, opened, not_opened, gave, read_failed, created, not_created, took, write_failed}
use Rattle.jls_io.specs.declared.history.Noted.{Noted}
use Rattle.jls_io.specs.declared.history.Noted.TheVariants as noted

-- what a device noted, as an event
abbrev pub event_of : Noted → Event
event_of (noted.Opened name) = opened name.now
event_of (noted.NotOpened name) = not_opened name.now
event_of (noted.Gave room bytes) = gave room bytes.now
event_of noted.ReadFailed = read_failed
event_of (noted.Created name) = created name.now
event_of (noted.NotCreated name) = not_created name.now
event_of (noted.Took bytes) = took bytes.now
event_of noted.WriteFailed = write_failed
