pub mod Characters
pub mod Names
pub mod DirectoryStrings
pub mod X520
pub mod GeneralNames
pub mod Lending
