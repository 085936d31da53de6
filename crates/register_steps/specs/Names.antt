-- Whom a message names as its issuer.
use Rattle.std.specs.Prelude.{Bool, false, List, [], ◌∷◌, ℕ, Option, Some, None}
use Rattle.asn1_core.specs.Binds.{◌>>=◌}
use Rattle.der_tree.specs.Form.{value_of}
use Rattle.path_names.specs.NameMatching.{names_match}
use Rattle.pkix_attr.specs.declared.certificate.AttributeCertificateInfo.{AttributeCertificateInfo}
use Rattle.pkix_attr.specs.declared.holder.Issuer.{Issuer}
use Rattle.pkix_attr.specs.declared.holder.Issuer.TheVariants.{V1, V2}
use Rattle.pkix_cert.specs.Views.{CertificateParts}
use Rattle.pkix_name.specs.Names.{name}
use Rattle.pkix_name.specs.declared.general_name.GeneralName.{GeneralName}
use Rattle.pkix_name.specs.declared.general_name.GeneralName.TheVariants.{DirectoryName}
use Rattle.pkix_name.specs.declared.name.Name.{Name}

-- the subject of a certificate
abbrev pub subject_in : Option CertificateParts → Option Name
subject_in parts = parts >>= λ p. value_of name p.subject

-- the certificate is one of an issuer with this name (RFC 5280, 7.1)
abbrev pub matches_subject : Option Name → Name → Bool
matches_subject None it = false
matches_subject (Some subject) it = names_match subject it

-- the one name that an attribute certificate has of its issuer (RFC 5755, 4.2.3)
abbrev pub only_name : Option (List GeneralName) → Option Name
only_name (Some (DirectoryName n ∷ [])) = Some n
only_name _ = None

abbrev pub issuer_named : Issuer → Option Name
issuer_named (V1 names) = None
issuer_named (V2 form) = only_name form.issuer_name

abbrev pub is_named_in : Option Name → Option Name → Bool
is_named_in subject None = false
is_named_in subject (Some it) = matches_subject subject it

abbrev pub is_attribute_named : Option CertificateParts → Option AttributeCertificateInfo → Bool
is_attribute_named issuer None = false
is_attribute_named issuer (Some info) = is_named_in (subject_in issuer) (issuer_named info.issuer)
