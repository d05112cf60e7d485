-- What stands above a line.
use Rattle.jls_interval.specs.Events.{Above}
use Rattle.jls_interval.specs.declared.place.Place.{Place}

-- the lines above that a place has
abbrev pub above_of : Place → Above
above_of place =
    record { line_above = place.line_above.now; line_two_above = place.line_two_above.now }
