-- What a reader must believe of this layer. `Machine` first: what a run leaves, if all went well (`AnswersAll`) and if a call failed
-- (`EndsBy`, `ListingEndsBy`), in the words of `Event`, the calls of a run in their order. `Inputs` is of runs that read more than one
-- input; `Lines` of machines that answer line by line: what is due before the end.
pub mod Event
pub mod Inputs
pub mod Lines
pub mod Machine
