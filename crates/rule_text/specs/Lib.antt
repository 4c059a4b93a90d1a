-- What a reader must believe of this layer, in this order: `Text`, what a text is refused for and its policy; `Answer`, what the function
-- answers. `Steps` need not be read.
pub mod Text
pub mod Answer
pub mod Steps
