-- What a reader must believe of this layer, in this order: `Part`, where a line of a text stands and what is shown of it; `Why`, what is
-- answered. `Examples` are rows of what is said of an action. `Steps` need not be read.
pub mod Part
pub mod Why
pub mod Examples
pub mod Steps
