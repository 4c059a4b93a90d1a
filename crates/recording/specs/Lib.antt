-- `Recording`: what is known of a tape, and what an echo of its input leaves.
pub mod Recording
pub mod Echo
