-- What is wrong with blocks.
use Rattle.std.specs.Prelude.{Bool, List, None, Option, Some, [], cond, false, map, suc, true, ℕ, ◌++◌, ◌∷◌}
use Rattle.std.specs.List.{list_any}
use Rattle.asn1_core.specs.Binds.{◌>>=◌}
use Rattle.pem.specs.Encoding.{Encoding}
use Rattle.pkix_rules.specs.Attributes.{attribute_certificate_rules}
use Rattle.pkix_rules.specs.Certificates.{certificate_rules}
use Rattle.pkix_rules.specs.Lists.{list_rules}
use Rattle.pkix_rules.specs.PublicKeys.{public_key_rules}
use Rattle.pkix_rules.specs.Requests.{request_rules}
use Rattle.rule_table.specs.declared.rule.Rule.{Rule}
use Rattle.rule_texts.specs.Errors.{is_error as is_error_rule}
use Rattle.lint_files.specs.Artefacts.{artefact_of}
use Rattle.lint_files.specs.Issuers.{candidates_in, is_large, issuer_among}
use Rattle.lint_files.specs.Kinds.{kind_of}
use Rattle.lint_files.specs.Locations.{LocatedView}
use Rattle.lint_files.specs.Namings.{ArtefactView, NamingView}
use Rattle.lint_files.specs.declared.finding.Finding.{Finding}
use Rattle.lint_files.specs.declared.finding.Finding.TheVariants.{AlgorithmsDiffer, Broken, LargeCertificate, NotAttributeCertificate, NotCertificate, NotList, NotPublicKey, NotRequest, OtherLabel}
use Rattle.lint_files.specs.declared.kind.Kind.{Kind}
use Rattle.lint_files.specs.declared.kind.Kind.TheVariants as kind

-- the rules that what is signed breaks, beside its issuer's certificate
unfoldable pub broken_rules : Kind → List ℕ → Option (List ℕ) → List Rule
broken_rules kind.Certificate signed issuer = certificate_rules signed issuer
broken_rules kind.Request signed issuer = request_rules signed
broken_rules kind.List signed issuer = list_rules signed issuer
broken_rules kind.AttributeCertificate signed issuer = attribute_certificate_rules signed issuer
broken_rules kind.PublicKey signed issuer = public_key_rules signed
broken_rules kind.Other signed issuer = []

-- the octets aren't what the label says
abbrev pub not_read : Kind → Finding
not_read kind.Certificate = NotCertificate
not_read kind.Request = NotRequest
not_read kind.List = NotList
not_read kind.AttributeCertificate = NotAttributeCertificate
not_read kind.PublicKey = NotPublicKey
not_read kind.Other = OtherLabel

abbrev pub broken : Rule → Finding
broken r = Broken r

abbrev pub differing : Bool → List Finding
differing differs = cond differs (AlgorithmsDiffer ∷ []) []

abbrev pub issuer_of : (NamingView → Option (List ℕ)) → Option NamingView → Option (List ℕ)
issuer_of issuer None = None
issuer_of issuer (Some n) = issuer n

unfoldable pub of_artefact : (NamingView → Option (List ℕ)) → Kind → ArtefactView → List Finding
of_artefact issuer k a = differing a.differs ++ map broken (broken_rules k a.signed (issuer_of issuer a.issuer))

-- it is too large for an issuer's certificate
abbrev pub passed_over : Bool → List Finding
passed_over large = cond large (LargeCertificate ∷ []) []

abbrev pub if_read : (NamingView → Option (List ℕ)) → Kind → List ℕ → Option ArtefactView → List Finding
if_read issuer k octets None = not_read k ∷ []
if_read issuer k octets (Some a) = of_artefact issuer k a ++ passed_over (is_large k octets)

-- of octets that are to be of a kind
unfoldable pub findings_of : (NamingView → Option (List ℕ)) → Kind → List ℕ → List Finding
findings_of issuer k octets = if_read issuer k octets (artefact_of k octets)

-- of a block
unfoldable pub block_findings : (NamingView → Option (List ℕ)) → Encoding → List Finding
block_findings issuer e = findings_of issuer (kind_of e.label) e.octets

-- the same with where it is
abbrev pub located : ℕ → List ℕ → List Finding → List LocatedView
located number label findings = map (λ f. record { number = number; label = label; finding = f }) findings

-- of blocks in their order, after so many others
abbrev pub located_from : (NamingView → Option (List ℕ)) → ℕ → List Encoding → List LocatedView
located_from issuer count [] = []
located_from issuer count (e ∷ es) = located (suc count) e.label (block_findings issuer e) ++ located_from issuer (suc count) es

-- of all blocks, beside the certificates of issuers among them
abbrev pub findings_in : List Encoding → List LocatedView
findings_in es = located_from (issuer_among (candidates_in es)) 0 es

-- ---- errors

-- a rule may be a warning, and that a certificate isn't looked at as an issuer's is one
abbrev pub is_error : Finding → Bool
is_error (Broken r) = is_error_rule r
is_error OtherLabel = true
is_error NotCertificate = true
is_error NotRequest = true
is_error NotList = true
is_error NotAttributeCertificate = true
is_error NotPublicKey = true
is_error AlgorithmsDiffer = true
is_error LargeCertificate = false

unfoldable pub has_error : List LocatedView → Bool
has_error found = list_any (λ l. is_error l.finding) found
