-- What a reader must believe of this layer, in this order: `Greedy` and `Yield`, the first mode; `Reduction`, the second; then `Pdl`,
-- the definitions of Chomicki, Lobo and Naqvi in their own terms; `Best`, how sets of actions are compared; and `Answer`, what is told
-- of an epoch. `Examples` are tables of both modes.
pub mod Greedy
pub mod Yield
pub mod Reduction
pub mod Pdl
pub mod Best
pub mod Answer
pub mod Examples
