pub mod Cases
pub mod MoveCases
pub mod CertificateLines
pub mod Demands
