mod Answered
mod StationFaults
mod Stops
mod WholeBytes
