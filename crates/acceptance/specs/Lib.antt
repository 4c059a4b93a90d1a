-- What a reader must believe of this layer, in this order: `Written`, the grammar of a line; `OneLine`, what a line is refused for;
-- `FirstFault`, what a text and an epoch line are refused for; `Texts` and `Named`, what accepted ones have; `Refusals` and `Patterns`. `Examples`
-- are worked texts and lines, and such as are easily read wrong.
pub mod Written
pub mod OneLine
pub mod FirstFault
pub mod Texts
pub mod Named
pub mod Refusals
pub mod Patterns
pub mod Examples
