pub mod FieldLaws
pub mod HoldsLaws
pub mod OperationLaws
pub mod PartsLaws
pub mod SaidLaws
pub mod WholeLaws
pub mod RelationLaws
