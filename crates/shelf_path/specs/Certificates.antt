-- The certificates of a question.
use Rattle.std.specs.Prelude.{ℕ, Bool, suc, ◌==◌, cond, List, [], ◌∷◌, length, codes, Option, Some, None, Result, Ok}
use Rattle.std.specs.Str.{bytes_eq}
use Rattle.asn1_core.specs.Binds.{◌>>=◌}
use Rattle.pem.specs.Encoding.{Encoding}
use Rattle.pkix_cert.specs.Views.{CertificateParts, certificate_parts}
use Rattle.shelf_fault.specs.Faults.{and_then, some_or}
use Rattle.shelf_fault.specs.declared.fault.Fault.{Fault}
use Rattle.shelf_fault.specs.declared.fault.Fault.TheVariants.{NotCertificate}

-- the certificate whose form the octets are, by its parts, with nothing after it (RFC 5280, 4.1)
unfoldable pub whole_certificate : List ℕ → Option CertificateParts
whole_certificate octets = certificate_parts octets >>= λ p. cond (length p.after == 0) (Some p) None

-- a block is a certificate's by its label (RFC 7468, 5)
abbrev pub is_certificate : Encoding → Bool
is_certificate e = bytes_eq e.label (codes "CERTIFICATE")

-- the certificate of a block by its label
abbrev pub labelled_certificate : Encoding → Option CertificateParts
labelled_certificate e = cond (is_certificate e) (whole_certificate e.octets) None

-- the same of the block of this number, from 1
unfoldable pub certificate_in : ℕ → Encoding → Result CertificateParts Fault
certificate_in number e = some_or (labelled_certificate e) (NotCertificate number)

-- ---- of blocks in their order

-- what each of these blocks is read as by its number, after so many others, or the first fault
abbrev pub each_behind : {A : Type 0} → (ℕ → Encoding → Result A Fault) → ℕ → List Encoding → Result (List A) Fault
each_behind read count [] = Ok []
each_behind read count (e ∷ es) = and_then (read (suc count) e) (λ x. and_then (each_behind read (suc count) es) (λ xs. Ok (x ∷ xs)))

abbrev pub certificates_behind : ℕ → List Encoding → Result (List CertificateParts) Fault
certificates_behind = each_behind certificate_in
