-- Where the invariant holds each thread goes on or waits, and none race.
pub mod Racing
pub mod Building
pub mod Progress
