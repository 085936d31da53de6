-- The issue table can be met.
use Rattle.std.specs.Prelude.{◌≡◌, true, Option, refl}
use Rattle.std.specs.List.{list_all}
use Rattle.std.specs.Option.{IfSome}
use Rattle.std.proofs.Common.{subst}
use Rattle.der_tree.specs.HasTree.{HasTree}
use Rattle.der_tree.specs.laws.Results.{some_there}
use Rattle.pkix_name.specs.Names.{name as name_codec}
use Rattle.pkix_name.specs.declared.name.Name.{Name}
use Rattle.rcgen_certificate.specs.SubjectAltNames.{is_ascii_name}
use Rattle.jiff.specs.Types.{DateTime}
use Rattle.rcgen_certificate.specs.Issue.{HasNoCause, CertificateExists}
use Rattle.rcgen_certificate.specs.Issuers.{IssuerView}
use Rattle.rcgen_certificate.specs.ParamsView.{ParamsView}
use Rattle.rcgen_certificate.specs.WrittenTimes.{IsUtcOf}
use Rattle.rcgen_certificate.proofs.NamesAsRead.{name_as_read_tree}
use Rattle.rcgen_certificate.proofs.RelativeNames.{name_tree}
use Rattle.rcgen_certificate.proofs.TableExtensions.{extensions_there}
use Rattle.rcgen_certificate.proofs.TableParts.{certificate_of, tbs_value, written_there}
use Rattle.rcgen_certificate.proofs.TableTrees.{certificate_there, tbs_tree, time_tree}

pub met : (params : ParamsView) (issuer : IssuerView) (from to : DateTime) → IsUtcOf params.not_before from → IsUtcOf params.not_after to
    → list_all is_ascii_name params.subject_alt_names ≡ true → HasNoCause params issuer.name → CertificateExists params issuer
met params issuer from to u w ascii none subject signature short =
    let name = some_there issuer.name none.issuer_types in
    let encodable = subst (λ (o : Option Name). IfSome o (HasTree name_codec)) name.1 short.issuer_name in
    let f = written_there params.not_before from u in
    let t = written_there params.not_after to w in
    let x = extensions_there params subject issuer none ascii short in
    let tbs = tbs_value params subject name.0 issuer.algorithm f.time_value t.time_value x.field in
    let whole = certificate_there tbs issuer.algorithm signature (tbs_tree params subject name.0 issuer.algorithm f.time_value t.time_value x.field
    x.tree (time_tree from f.time_value u.1.0 f.in_utc) (time_tree to t.time_value w.1.0 t.in_utc)
    (name_tree params.distinguished_name none.subject_types short.subject_name) (name_as_read_tree name.0 encodable)) in (
      certificate_of tbs issuer.algorithm signature,
      record {
        issued = record {
          to_be_signed = record {
            version = refl;
            serial_number = refl;
            signature = refl;
            issuer_name = name.1;
            not_before = f.is_written;
            not_after = t.is_written;
            subject_name = refl;
            subject_key = refl;
            issuer_unique_id = refl;
            subject_unique_id = refl;
            extensions = x.is_field;
          };
          signature_algorithm = refl;
          no_unused_bits = refl;
        };
        signature_value = refl;
        has_tree = whole.has_tree;
      },
      whole.forms,
    )
