pub mod WrittenCertificates
pub mod CertificateLimits
pub mod View
