-- What is signed for a revocation list, with each entry as its octets (RFC 5280, 5.1.2).
use Rattle.std.specs.Prelude.{◌≡◌, Bool, List, None, Option, false, refl, true, ℕ, [], ◌∷◌}
use Rattle.std.specs.List.{AllZip}
use Rattle.der_tree.specs.AnyElement.{is_one}
use Rattle.der_tree.specs.Codec.{Codec, Struct}
use Rattle.der_tree.specs.Form.{IsDerOf}
use Rattle.der_tree.specs.Grammar.{any, as_struct, explicitly, optional, required, sequence, sequence_of, unwritten_if_empty, ◌&◌, ◌⊗◌}
use Rattle.der_tree.specs.Tags.{context, universal}
use Rattle.der_tree.specs.Tree.{PlainTree, leaf, node, raw}
use Rattle.pkix_cert.specs.Algorithms.{algorithm_identifier}
use Rattle.pkix_cert.specs.Extensions.{extensions}
use Rattle.pkix_cert.specs.Revocations.{revoked_certificate}
use Rattle.pkix_cert.specs.Times.{time}
use Rattle.pkix_cert.specs.Versions.{version}
use Rattle.pkix_cert.specs.declared.algorithm.AlgorithmIdentifier.{AlgorithmIdentifier}
use Rattle.pkix_cert.specs.declared.extension.Extensions.{Extensions}
use Rattle.pkix_cert.specs.declared.revocation.RevokedCertificate.{RevokedCertificate}
use Rattle.pkix_cert.specs.declared.revocation.TbsCertList.{TbsCertList}
use Rattle.pkix_cert.specs.declared.time.Time.{Time}
use Rattle.pkix_cert.specs.declared.certificate.Version.{Version}
use Rattle.pkix_name.specs.Names.{name}
use Rattle.pkix_name.specs.declared.name.Name.{Name}
use Rattle.rcgen_issue.specs.CrlView.{RevokedView}
use Rattle.rcgen_issue.specs.Entries.{IsEntry}

pub record FramedList : Type 0 where
  pub version : Option Version
  pub signature : AlgorithmIdentifier
  pub issuer : Name
  pub this_update : Time
  pub next_update : Option Time
  pub entries : List (List ℕ)
  pub crl_extensions : Option Extensions

unfoldable pub framed_fields : Struct FramedList
framed_fields = as_struct (
    optional version
    & required algorithm_identifier
    & required name
    & required time
    & optional time
    & unwritten_if_empty (sequence_of any 0 None refl)
    & optional (explicitly (context 0) extensions)
    ) refl
    (λ v. v.version ⊗ v.signature ⊗ v.issuer ⊗ v.this_update ⊗ v.next_update ⊗ v.entries ⊗ v.crl_extensions)
    (λ version signature issuer this_update next_update entries crl_extensions. record {
      version = version;
      signature = signature;
      issuer = issuer;
      this_update = this_update;
      next_update = next_update;
      entries = entries;
      crl_extensions = crl_extensions;
    }) (λ v. refl) (λ f. refl)

abbrev pub framed : Codec FramedList
framed = sequence (universal 16) framed_fields

-- the list with these octets in place of its entries
abbrev pub framed_value : TbsCertList → List (List ℕ) → FramedList
framed_value t entries = record {
  version = t.version;
  signature = t.signature;
  issuer = t.issuer;
  this_update = t.this_update;
  next_update = t.next_update;
  entries = entries;
  crl_extensions = t.crl_extensions;
}

-- ---- trees of octets

abbrev pub is_raw_element : PlainTree → Bool
is_raw_element (leaf t b) = false
is_raw_element (node t k) = false
is_raw_element (raw b) = is_one b

abbrev pub has_none : List PlainTree → Bool
has_none [] = true
has_none (t ∷ ts) = false

abbrev pub octets_in : PlainTree → List ℕ
octets_in (leaf t b) = []
octets_in (node t k) = []
octets_in (raw b) = b

-- the tree is the octets of the entry
abbrev pub IsWritten : RevokedCertificate → PlainTree → Type 0
IsWritten e t = (b : List ℕ) × (t ≡ raw b) × IsDerOf revoked_certificate e b

-- the trees are the entries for these revoked certificates, in order
pub record AreEntries (revoked : List RevokedView) (trees : List PlainTree) : Type 0 where
  pub entries : List RevokedCertificate
  pub each : AllZip IsEntry revoked entries
  pub written : AllZip IsWritten entries trees
