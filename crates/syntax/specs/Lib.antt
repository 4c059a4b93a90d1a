-- What a reader must believe of this layer, in this order: `Grammar`, the shapes of a line; `Judge`, what a line is refused for; `Lines`,
-- the lines of a text; `Answer` and `Walk`, what the functions answer. `Steps` need not be read.
pub mod Grammar
pub mod Judge
pub mod Lines
pub mod Answer
pub mod Walk
pub mod Steps
