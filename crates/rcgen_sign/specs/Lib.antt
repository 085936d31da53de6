pub mod Algorithms
pub mod DigestKeys
pub mod KeyIds
pub mod KeyInfos
pub mod KeyReading
pub mod Keys
pub mod Listed
