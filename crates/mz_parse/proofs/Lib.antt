pub mod Forms
pub mod BodyProductions
pub mod ExpressionProductions
pub mod TwoLayers
pub mod ExpressionLayers
pub mod DeclarationProductions
pub mod WholeSources
