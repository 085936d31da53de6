pub mod AttributeCauses
pub mod AttributeCertificateView
pub mod AttributeCertificates
pub mod AttributeTable
