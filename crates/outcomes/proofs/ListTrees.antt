-- What is signed in a list: its tree, with the extensions of a complete list or with those of a delta list.
use Rattle.std.specs.Prelude.{◌≡◌, ◌==◌, ℕ, Bool, true, false, cond, List, [], ◌∷◌, length, map, Option, Some, None, Ok, refl}
use Rattle.std.specs.Option.{IfSome}
use Rattle.std.proofs.Common.{arith, subst, sym}
use Rattle.std.proofs.lemmas.Bool.{le-leb, ne_eqb}
use Rattle.asn1_core.specs.Twos.{unsigned}
use Rattle.asn1_core.specs.Unsigned.{unsigned_64_contents}
use Rattle.der_tree.specs.Default.{unless_empty}
use Rattle.der_tree.specs.Grammar.{list_of}
use Rattle.der_tree.specs.HasTree.{HasShortTree, HasTree}
use Rattle.der_tree.specs.PrimitiveTypes.{integer}
use Rattle.der_tree.specs.Sequence.{node_of}
use Rattle.der_tree.specs.SequenceOf.{each_put, is_within}
use Rattle.der_tree.specs.Tags.{context, universal}
use Rattle.der_tree.specs.Tree.{PlainTree, leaf, node, row}
use Rattle.der_tree.specs.declared.error.EncodeError.TheVariants.{SizeOutOfRange}
use Rattle.der_tree.specs.laws.Results.{ok_is, ok_kept, ok_then_ok, some_there}
use Rattle.der_tree.proofs.ShortTrees.{tags_fit}
use Rattle.pkix_cert.specs.ExtensionIds.{ce_delta_crl_indicator, id_ce}
use Rattle.pkix_cert.specs.Extensions.{extension, extensions}
use Rattle.pkix_cert.specs.Revocations.{revoked_certificate, tbs_cert_list, tbs_cert_list_fields}
use Rattle.pkix_cert.specs.Times.{time}
use Rattle.pkix_cert.specs.declared.extension.Extension.{Extension}
use Rattle.pkix_cert.specs.declared.extension.Extensions.{Extensions}
use Rattle.pkix_cert.specs.declared.revocation.RevokedCertificate.{RevokedCertificate}
use Rattle.pkix_cert.specs.declared.revocation.TbsCertList.{TbsCertList}
use Rattle.pkix_cert.specs.declared.time.Time.{Time}
use Rattle.pkix_name.specs.Names.{name as name_codec}
use Rattle.pkix_name.specs.declared.name.Name.{Name}
use Rattle.rcgen_certificate.specs.ExtensionRows.{ExtensionRow, IsField, row_of_extension}
use Rattle.rcgen_certificate.specs.Issuers.{IssuerView}
use Rattle.rcgen_certificate.specs.KeyValues.{signature_identifier}
use Rattle.rcgen_certificate.proofs.KindTrees.{number_tree}
use Rattle.rcgen_certificate.proofs.ListTrees.{TreesOf, no_trees}
use Rattle.rcgen_certificate.proofs.NamesAsRead.{name_as_read_tree}
use Rattle.rcgen_certificate.proofs.OptionalTrees.{explicit_trees}
use Rattle.rcgen_certificate.proofs.RowTrees.{HasField, HasRows, field_there, rows_then, tree_row}
use Rattle.rcgen_certificate.proofs.TableParts.{written_there}
use Rattle.rcgen_certificate.proofs.TableTrees.{signature_identifier_tree, time_tree}
use Rattle.rcgen_certificate.proofs.Trees.{TreeOf}
use Rattle.rcgen_issue.specs.CrlView.{CrlView}
use Rattle.rcgen_issue.specs.ListTable.{CrlFitsIn64Bits}
use Rattle.rcgen_issue.specs.Lists.{HasNoCrlCause, IsCrlToBeSigned, crl_extension_rows, v2}
use Rattle.rcgen_issue.proofs.EntryTrees.{entries_there}
use Rattle.rcgen_issue.proofs.ListExtensions.{list_extensions_there}
use Rattle.rcgen_sign.specs.declared.sign_algo.SignatureAlgorithm.{SignatureAlgorithm}
use Rattle.rcgen_tbs.specs.Deltas.{delta_extension_rows, with_extensions}
use Rattle.outcomes.proofs.Civil.{each_is}
use Rattle.outcomes.proofs.Rows.{some_rows}
use Rattle.outcomes.proofs.Views.{civil_each}

-- ---- the value

abbrev tbs_of : SignatureAlgorithm → Name → Time → Time → List RevokedCertificate → Option Extensions → TbsCertList
tbs_of a issuer this next entries field = record {
  version = Some v2;
  signature = signature_identifier a;
  issuer = issuer;
  this_update = this;
  next_update = Some next;
  revoked_certificates = entries;
  crl_extensions = field;
}

tbs_tree : (a : SignatureAlgorithm) (issuer : Name) (this next : Time) (es : List RevokedCertificate) (x : Option Extensions)
    → TreeOf name_codec issuer → TreeOf time this → TreeOf time next → TreesOf revoked_certificate es → IfSome x (TreeOf extensions)
    → TreeOf tbs_cert_list (tbs_of a issuer this next es x)
unfolding tbs_cert_list_fields unsigned_64_contents unless_empty
tbs_tree a issuer this next [] x i t u h f =
    let algorithm = signature_identifier_tree a in
    let field = explicit_trees (context 0) extensions x refl f in
    record {
      tree = node (universal 16) (row (leaf (universal 2) (1 ∷ []) ∷ algorithm.tree ∷ i.tree ∷ t.tree ∷ u.tree ∷ field.trees));
      is_tree = rw (algorithm.is_tree, i.is_tree, t.is_tree, u.is_tree, field.are_trees) refl;
      tags = rw (algorithm.tags, i.tags, t.tags, u.tags, field.tags) refl;
    }
tbs_tree a issuer this next (e ∷ es) x i t u h f =
    let algorithm = signature_identifier_tree a in
    let field = explicit_trees (context 0) extensions x refl f in
    record {
      tree = node (universal 16) (row (leaf (universal 2) (1 ∷ []) ∷ algorithm.tree ∷ i.tree ∷ t.tree ∷ u.tree
          ∷ node (universal 16) (row h.trees) ∷ field.trees));
      is_tree = rw (
        algorithm.is_tree,
        i.is_tree,
        t.is_tree,
        u.is_tree,
        le-leb 0 (length (e ∷ es)) (omega arith),
        h.are_trees,
        field.are_trees,
      ) refl;
      tags = rw (algorithm.tags, i.tags, t.tags, u.tags, h.tags, field.tags) refl;
    }

-- what is signed for a complete list, and the same with another field of extensions
pub record HasList (p : CrlView) (i : IssuerView) (field : Option Extensions) : Type 0 where
  pub complete : TbsCertList
  pub is_complete : IsCrlToBeSigned p i complete
  pub tree : TreeOf tbs_cert_list complete
  pub other_tree : TreeOf tbs_cert_list (with_extensions field complete)

pub list_there : (p : CrlView) (i : IssuerView) (field : Option Extensions) → HasNoCrlCause p i → CrlFitsIn64Bits p i → IfSome field (TreeOf extensions)
    → HasList p i field
list_there p i field none short h =
    let name = some_there i.name none.issuer_types in
    let issuer = name_as_read_tree name.0 (subst (λ (o : Option Name). IfSome o (HasTree name_codec)) name.1 short.issuer_name) in
    let from = each_is p.this_update none.this_update in
    let to = each_is p.next_update none.next_update in
    let f = written_there p.this_update from.0 from.1 in
    let t = written_there p.next_update to.0 to.1 in
    let this = time_tree from.0 f.time_value from.1.1.0 f.in_utc in
    let next = time_tree to.0 t.time_value to.1.1.0 t.in_utc in
    let entries = entries_there p.revoked_certs none.entry_times (civil_each p.revoked_certs) in
    let x = list_extensions_there p i none.uris short in
    record {
      complete = tbs_of i.algorithm name.0 f.time_value t.time_value entries.entries x.field;
      is_complete = record {
        version = refl;
        signature = refl;
        issuer_name = name.1;
        this_update = f.is_written;
        next_update = t.is_written;
        entries = entries.are_entries;
        extensions = x.is_field;
      };
      tree = tbs_tree i.algorithm name.0 f.time_value t.time_value entries.entries x.field issuer this next entries.trees x.tree;
      other_tree = tbs_tree i.algorithm name.0 f.time_value t.time_value entries.entries field issuer this next entries.trees h;
    }

-- ---- the extensions of a delta list

listed : (es : List Extension) (t : PlainTree) → node_of (universal 16) ((list_of extension 1 None refl).put es) ≡ Ok t → tags_fit t ≡ true
    → TreesOf extension es
listed es t e tags =
    let x = ok_then_ok ((list_of extension 1 None refl).put es) (λ ts. Ok (node (universal 16) (row ts))) t e in
    record {
      trees = x.0;
      are_trees = (ok_kept (is_within 1 None (length es)) (each_put extension es) x.0 SizeOutOfRange x.1).1;
      tags = subst (λ (y : PlainTree). tags_fit y ≡ true) (sym (ok_is (node (universal 16) (row x.0)) t x.2)) tags;
    }

no_field : (b : Bool) (o : Option (List ExtensionRow)) (rows : List ExtensionRow) → b ≡ false → o ≡ None → o ≡ cond b None (Some rows) → ⊥
no_field true o rows f n e = cc
no_field false o rows f n e = cc

rows_of_field : (rows : List ExtensionRow) (field : Option Extensions) → IsField rows field → IfSome field (TreeOf extensions) → HasRows rows
rows_of_field [] None e h = record { list = []; are_rows = refl; trees = no_trees extension }
rows_of_field (r ∷ rs) None e h = absurd (no_field (length (r ∷ rs) == 0) None (r ∷ rs) (ne_eqb (length (r ∷ rs)) 0 (λ q. omega arith)) refl e)
rows_of_field rows (Some x) e h = record {
  list = x.0;
  are_rows = some_rows (length rows == 0) (map row_of_extension x.0) rows e;
  trees = listed x.0 h.tree h.is_tree h.tags;
}

pub delta_extensions_there : (base : List ℕ) (p : CrlView) (i : IssuerView) → HasNoCrlCause p i → CrlFitsIn64Bits p i
    → HasShortTree integer (unsigned base) → HasField (delta_extension_rows base p i)
delta_extensions_there base p i none short small =
    let x = list_extensions_there p i none.uris short in
    let indicator = tree_row (id_ce ce_delta_crl_indicator) true integer (Some (unsigned base)) refl (number_tree base) small in
    field_there (delta_extension_rows base p i) (rows_then (rows_of_field (crl_extension_rows p i) x.field x.is_field x.tree) indicator)
