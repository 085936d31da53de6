-- What is asked about a certification path (RFC 5280, 6.1.1).
use Rattle.std.specs.Prelude.{ℕ, not, is_none, List, [], ◌∷◌, length, reverse, Option, Some, None, Result, Ok, Err}
use Rattle.jiff.specs.Types.{DateTime}
use Rattle.asn1_core.specs.OidFaults.{wide_arcs_fault}
use Rattle.der_tree.specs.Form.{value_of}
use Rattle.pem.specs.Encoding.{Encoding}
use Rattle.pkix_cert.specs.Algorithms.{subject_public_key_info}
use Rattle.pkix_cert.specs.Views.{CertificateParts}
use Rattle.pkix_cert.specs.declared.certificate.Certificate.{Certificate}
use Rattle.pkix_cert.specs.declared.revocation.CertificateList.{CertificateList}
use Rattle.pkix_name.specs.Names.{name}
use Rattle.path_validation.specs.declared.inputs.PathInputs.{PathInputs}
use Rattle.path_validation.specs.declared.inputs.TrustAnchor.{TrustAnchor}
use Rattle.shelf_fault.specs.Faults.{and_then, some_or, unless}
use Rattle.shelf_fault.specs.declared.fault.Fault.{Fault}
use Rattle.shelf_fault.specs.declared.fault.Fault.TheVariants.{NoBlock, NotCertificate, Order}
use Rattle.shelf_input.specs.Files.{files_blocks}
use Rattle.shelf_path.specs.Certificates.{certificates_behind}
use Rattle.shelf_path.specs.RevocationLists.{RevocationData, certificate_blocks, certificate_count, list_blocks, lists_behind, no_data}
use Rattle.shelf_path.specs.Questions.{question_in}
use Rattle.shelf_path.specs.declared.question.PathQuestion.{PathQuestion}
use Rattle.toml_format.specs.declared.reason.Reason.TheVariants.{WrongValue}

-- ---- the policies of the user (c)

-- arcs that aren't a valid object identifier (X.660, 7.6) aren't a value of the key
abbrev pub policy_of : List ℕ → Result (List ℕ) Fault
policy_of arcs = unless (not (is_none (wide_arcs_fault arcs))) (Order WrongValue) arcs

abbrev pub identifiers : List (List ℕ) → Result (List (List ℕ)) Fault
identifiers [] = Ok []
identifiers (arcs ∷ more) = and_then (policy_of arcs) (λ id. and_then (identifiers more) (λ ids. Ok (id ∷ ids)))

-- none are any-policy
abbrev pub policy_set : Option (List (List ℕ)) → Result (Option (List (List ℕ))) Fault
policy_set None = Ok None
policy_set (Some policies) = and_then (identifiers policies) (λ ids. Ok (Some ids))

-- ---- whom the user trusts (d)

-- the subject and the key of the certificate of the block of this number, which each certificate has
unfoldable pub anchor_of : ℕ → CertificateParts → Result TrustAnchor Fault
anchor_of number p =
    and_then (some_or (value_of name p.subject) (NotCertificate number)) (λ subject.
    and_then (some_or (value_of subject_public_key_info p.key_info) (NotCertificate number)) (λ key_info.
    Ok (record { name = subject; key_info = key_info })))

-- the same of a certificate
abbrev pub anchor_in : Certificate → TrustAnchor
anchor_in c = record { name = c.tbs_certificate.subject; key_info = c.tbs_certificate.subject_public_key_info }

-- ---- all that is asked

pub record Asked : Type 0 where
  -- the time, what is inhibited or required (b), (e), (f), (g), and whether revocation is asked
  pub question : PathQuestion
  -- (c)
  pub policies : Option (List (List ℕ))
  -- (d)
  pub anchor : TrustAnchor
  -- from the certificate that the anchor issued to the one that is asked about (a)
  pub path : List CertificateParts
  -- the revocation lists, and certificates of their issuers (6.3.3 (f)), in order
  pub lists : List CertificateList
  pub issuers : List CertificateParts

-- of what comes after the path, and of the certificates from the anchor's down
abbrev pub asked_of : PathQuestion → RevocationData → List CertificateParts → Result Asked Fault
asked_of q b [] = Err NoBlock
asked_of q b (anchor ∷ path) =
    and_then (anchor_of (length (anchor ∷ path)) anchor) (λ trusted.
    and_then (policy_set q.policies) (λ policies.
    Ok (record { question = q; policies = policies; anchor = trusted; path = path; lists = b.lists; issuers = b.issuers })))

-- of the blocks: the certificate that is asked about comes first, then those above it up to the anchor's; from the first list on the others
unfoldable pub asked_behind : PathQuestion → List Encoding → Result Asked Fault
asked_behind q blocks =
    and_then (certificates_behind 0 (certificate_blocks q.revocation blocks)) (λ ps.
    and_then (lists_behind (certificate_count q.revocation blocks) no_data (list_blocks q.revocation blocks)) (λ b.
    asked_of q b (reverse ps)))

-- by a question and the files that it is about
unfoldable pub asked_in : List ℕ → List (List ℕ) → Result Asked Fault
asked_in question files = and_then (question_in question) (λ q. and_then (files_blocks 0 [] files) (asked_behind q))

-- at a time in UTC: there are no subtrees (h), (i), and revocation is checked of a path that is valid without it
abbrev pub inputs_at : DateTime → Asked → PathInputs
inputs_at at a = record {
  at = at;
  user_initial_policy_set = a.policies;
  anchor = a.anchor;
  initial_policy_mapping_inhibit = a.question.inhibit_policy_mapping;
  initial_explicit_policy = a.question.explicit_policy;
  initial_any_policy_inhibit = a.question.inhibit_any_policy;
  initial_permitted_subtrees = [];
  initial_excluded_subtrees = [];
  statuses = None;
}
