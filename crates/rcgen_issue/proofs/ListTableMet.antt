-- The table of lists can be met.
use Rattle.std.specs.Prelude.{ℕ, List, [], ◌∷◌, length, Option, Some, refl}
use Rattle.std.specs.List.{AllByRecursion}
use Rattle.std.specs.Option.{IfSome}
use Rattle.std.proofs.Common.{arith, subst}
use Rattle.std.proofs.lemmas.Bool.{le-leb}
use Rattle.jiff.specs.Types.{DateTime}
use Rattle.asn1_core.specs.Bits.{bit_string_contents}
use Rattle.asn1_core.specs.Unsigned.{unsigned_64_contents}
use Rattle.der_tree.specs.Default.{unless_empty}
use Rattle.der_tree.specs.HasTree.{HasTree}
use Rattle.der_tree.specs.Tags.{context, universal}
use Rattle.der_tree.specs.Tree.{leaf, node, row}
use Rattle.der_tree.specs.laws.Results.{some_there}
use Rattle.pkix_name.specs.Names.{name as name_codec}
use Rattle.pkix_name.specs.declared.name.Name.{Name}
use Rattle.pkix_cert.specs.Extensions.{extensions}
use Rattle.pkix_cert.specs.Revocations.{certificate_list, certificate_list_fields, revoked_certificate, tbs_cert_list, tbs_cert_list_fields}
use Rattle.pkix_cert.specs.Times.{time}
use Rattle.pkix_cert.specs.declared.extension.Extensions.{Extensions}
use Rattle.pkix_cert.specs.declared.revocation.RevokedCertificate.{RevokedCertificate}
use Rattle.pkix_cert.specs.declared.revocation.TbsCertList.{TbsCertList}
use Rattle.pkix_cert.specs.declared.time.Time.{Time}
use Rattle.rcgen_sign.specs.declared.sign_algo.SignatureAlgorithm.{SignatureAlgorithm}
use Rattle.rcgen_sign.proofs.AlgorithmLemmas.{no_unused}
use Rattle.rcgen_certificate.specs.Issuers.{IssuerView}
use Rattle.rcgen_certificate.specs.KeyValues.{signature_identifier}
use Rattle.rcgen_certificate.proofs.ListTrees.{TreesOf}
use Rattle.rcgen_certificate.proofs.NamesAsRead.{name_as_read_tree}
use Rattle.rcgen_certificate.proofs.OptionalTrees.{explicit_trees}
use Rattle.rcgen_certificate.proofs.TableParts.{written_there}
use Rattle.rcgen_certificate.proofs.TableTrees.{signature_identifier_tree, time_tree}
use Rattle.rcgen_certificate.proofs.Trees.{HasWhole, TreeOf, whole_there}
use Rattle.rcgen_certificate.specs.WrittenTimes.{IsUtcOf}
use Rattle.rcgen_issue.specs.CrlView.{CrlView}
use Rattle.rcgen_issue.specs.ListTable.{HasCivilTimes, CrlExists}
use Rattle.rcgen_issue.specs.Lists.{HasNoCrlCause, v2}
use Rattle.rcgen_issue.proofs.EntryTrees.{entries_there}
use Rattle.rcgen_issue.proofs.ListExtensions.{list_extensions_there}
use Rattle.rcgen_issue.proofs.Lists.{list_of}

abbrev tbs_of : SignatureAlgorithm → Name → Time → Time → List RevokedCertificate → Option Extensions → TbsCertList
tbs_of a issuer this next entries field = record {
  version = Some v2;
  signature = signature_identifier a;
  issuer = issuer;
  this_update = this;
  next_update = Some next;
  revoked_certificates = entries;
  crl_extensions = field;
}

tbs_tree : (a : SignatureAlgorithm) (issuer : Name) (this next : Time) (es : List RevokedCertificate) (x : Option Extensions)
    → TreeOf name_codec issuer → TreeOf time this → TreeOf time next → TreesOf revoked_certificate es → IfSome x (TreeOf extensions)
    → TreeOf tbs_cert_list (tbs_of a issuer this next es x)
unfolding tbs_cert_list_fields unsigned_64_contents unless_empty
tbs_tree a issuer this next [] x i t u h f =
    let algorithm = signature_identifier_tree a in
    let field = explicit_trees (context 0) extensions x refl f in
    record {
      tree = node (universal 16) (row (leaf (universal 2) (1 ∷ []) ∷ algorithm.tree ∷ i.tree ∷ t.tree ∷ u.tree ∷ field.trees));
      is_tree = rw (algorithm.is_tree, i.is_tree, t.is_tree, u.is_tree, field.are_trees) refl;
      tags = rw (algorithm.tags, i.tags, t.tags, u.tags, field.tags) refl;
    }
tbs_tree a issuer this next (e ∷ es) x i t u h f =
    let algorithm = signature_identifier_tree a in
    let field = explicit_trees (context 0) extensions x refl f in
    record {
      tree = node (universal 16) (row (leaf (universal 2) (1 ∷ []) ∷ algorithm.tree ∷ i.tree ∷ t.tree ∷ u.tree
          ∷ node (universal 16) (row h.trees) ∷ field.trees));
      is_tree = rw (
        algorithm.is_tree,
        i.is_tree,
        t.is_tree,
        u.is_tree,
        le-leb 0 (length (e ∷ es)) (omega arith),
        h.are_trees,
        field.are_trees,
      ) refl;
      tags = rw (algorithm.tags, i.tags, t.tags, u.tags, h.tags, field.tags) refl;
    }

list_there : (t : TbsCertList) (a : SignatureAlgorithm) (g : List ℕ) → TreeOf tbs_cert_list t
    → HasWhole certificate_list (list_of t a g) tbs_cert_list t
unfolding certificate_list_fields bit_string_contents
list_there t a g h =
    let algorithm = signature_identifier_tree a in
    whole_there certificate_list (list_of t a g) tbs_cert_list t h (algorithm.tree ∷ leaf (universal 3) (0 ∷ g) ∷ [])
    (rw (h.is_tree, algorithm.is_tree, no_unused g) refl) (rw algorithm.tags refl)

pub met : (params : CrlView) (issuer : IssuerView) (this next : DateTime) → IsUtcOf params.this_update this → IsUtcOf params.next_update next
    → AllByRecursion HasCivilTimes params.revoked_certs → HasNoCrlCause params issuer → CrlExists params issuer
met params issuer this next u w times none short signature =
    let name = some_there issuer.name none.issuer_types in
    let encodable = subst (λ (o : Option Name). IfSome o (HasTree name_codec)) name.1 short.issuer_name in
    let f = written_there params.this_update this u in
    let t = written_there params.next_update next w in
    let entries = entries_there params.revoked_certs none.entry_times times in
    let x = list_extensions_there params issuer none.uris short in
    let tbs = tbs_of issuer.algorithm name.0 f.time_value t.time_value entries.entries x.field in
    let whole = list_there tbs issuer.algorithm signature (tbs_tree issuer.algorithm name.0 f.time_value t.time_value entries.entries x.field
    (name_as_read_tree name.0 encodable) (time_tree this f.time_value u.1.0 f.in_utc) (time_tree next t.time_value w.1.0 t.in_utc)
    entries.trees x.tree) in (
      list_of tbs issuer.algorithm signature,
      record {
        issued = record {
          to_be_signed = record {
            version = refl;
            signature = refl;
            issuer_name = name.1;
            this_update = f.is_written;
            next_update = t.is_written;
            entries = entries.are_entries;
            extensions = x.is_field;
          };
          signature_algorithm = refl;
          no_unused_bits = refl;
        };
        signature_value = refl;
        has_tree = whole.has_tree;
      },
      whole.forms,
    )
