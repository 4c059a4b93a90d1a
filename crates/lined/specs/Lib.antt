-- What a reader must believe of this layer: `Lines`, which lines an input has; `Machine`, how a machine that answers lines goes on, and what
-- its run prints. `Waiting` is a notion of the functions.
pub mod Lines
pub mod Machine
pub mod Waiting
