-- The profile of a certificate.
use Rattle.std.specs.Prelude.{ℕ, List, Result}
use Rattle.certify_profile.specs.Certificate.{certificate}
use Rattle.toml_format.specs.Document.{document_of}
use Rattle.certify_profile.specs.declared.certificate.CertificateProfile.{CertificateProfile}
use Rattle.toml_format.specs.declared.reason.Reason.{Reason}

-- the profile that the bytes are, or the least reason why they are none
abbrev pub profile_of : List ℕ → Result CertificateProfile Reason
profile_of = document_of certificate.read
