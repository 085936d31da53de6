pub mod AttributeCauses
pub mod AttributeTableMet
pub mod AttributesOnce
pub mod Copies
pub mod Issuing
pub mod RepeatedTypes
pub mod SignedKinds
