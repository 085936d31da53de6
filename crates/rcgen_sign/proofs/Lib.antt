pub mod Infos
pub mod InfoOctets
pub mod ElementCounts
pub mod Methods
pub mod AlgorithmLemmas
pub mod DigestKeys
