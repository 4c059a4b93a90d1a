-- What a reader must believe of this layer, in this order: `Check`, the checks of size, form, counts and sum; `Lines`, the lines of an
-- image; `Load`, the loader's answer, and `Taken`, of an image that the code holds; `Held`, the policy that an image holds; `Walk`, going over its lines. `Steps` need not be read.
pub mod Check
pub mod Lines
pub mod Load
pub mod Taken
pub mod Held
pub mod Walk
pub mod Steps
