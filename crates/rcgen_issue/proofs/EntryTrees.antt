-- An entry for each certificate that is revoked, and its tree.
use Rattle.std.specs.Prelude.{◌≡◌, ℕ, ℤ, true, false, List, [], ◌∷◌, Option, Some, None, Ok, refl, option_and_then}
use Rattle.std.specs.List.{AllByRecursion, AllZip, list_all}
use Rattle.std.specs.Option.{IfSome}
use Rattle.std.proofs.Common.{arith}
use Rattle.jiff.specs.Types.{DateTime}
use Rattle.asn1_core.specs.Binds.{and_true}
use Rattle.asn1_core.specs.Twos.{unsigned}
use Rattle.asn1_core.specs.Unsigned.{unsigned_64_contents}
use Rattle.asn1_core.specs.declared.time.generalized_time.GeneralizedTime.{GeneralizedTime}
use Rattle.der_tree.specs.PrimitiveTypes.{generalized_time}
use Rattle.der_tree.specs.Tags.{universal}
use Rattle.der_tree.specs.Tree.{leaf, node, row}
use Rattle.pkix_cert.specs.Extensions.{extensions}
use Rattle.pkix_cert.specs.Revocations.{crl_reason, revoked_certificate, revoked_certificate_fields}
use Rattle.pkix_cert.specs.declared.revocation.CrlReason.{CrlReason}
use Rattle.pkix_cert.specs.declared.revocation.RevokedCertificate.{RevokedCertificate}
use Rattle.pkix_cert.specs.ExtensionIds.{ce_crl_reason, ce_invalidity_date, id_ce}
use Rattle.rcgen_certificate.proofs.KindTrees.{number_tree}
use Rattle.rcgen_certificate.proofs.ListTrees.{TreesOf, more_trees, no_trees}
use Rattle.rcgen_certificate.proofs.OptionalTrees.{field_trees}
use Rattle.rcgen_certificate.proofs.RowTrees.{HasField, field_there, row_of_value, rows_then}
use Rattle.rcgen_certificate.proofs.TableParts.{whole_second, written_there}
use Rattle.rcgen_certificate.proofs.TableTrees.{general_tree, time_tree}
use Rattle.rcgen_certificate.proofs.Trees.{ShortTreeOf, TreeOf, short_leaf}
use Rattle.rcgen_issue.specs.Entries.{entry_extension_rows, written_reason, IsEntry, IsInvalidityDate}
use Rattle.rcgen_issue.specs.ListTable.{HasCivilTime, HasCivilTimes}
use Rattle.rcgen_certificate.specs.WrittenTimes.{IsUtcOf, is_utc}
use Rattle.rcgen_issue.specs.CrlView.{RevokedView}
use Rattle.rcgen_issue.specs.Lists.{has_entry_times, is_utc_if}
use Rattle.rcgen_text.specs.declared.revocation_reason.RevocationReason.{RevocationReason}
use Rattle.rcgen_text.specs.declared.revocation_reason.RevocationReason.TheVariants as reason

-- ---- the reason

reason_of : (n : ℕ) (v : CrlReason) → crl_reason.tree_of v ≡ Ok (leaf (universal 10) (n ∷ [])) → ShortTreeOf crl_reason v
reason_of n v e = short_leaf crl_reason v (universal 10) (n ∷ []) e refl (omega arith)

reason_tree : (r : Option RevocationReason) → IfSome (option_and_then written_reason r) (ShortTreeOf crl_reason)
unfolding unsigned_64_contents
reason_tree None = tt
reason_tree (Some reason.Unspecified) = tt
reason_tree (Some reason.KeyCompromise) = reason_of 1 _ refl
reason_tree (Some reason.CaCompromise) = reason_of 2 _ refl
reason_tree (Some reason.AffiliationChanged) = reason_of 3 _ refl
reason_tree (Some reason.Superseded) = reason_of 4 _ refl
reason_tree (Some reason.CessationOfOperation) = reason_of 5 _ refl
reason_tree (Some reason.CertificateHold) = reason_of 6 _ refl
reason_tree (Some reason.RemoveFromCrl) = reason_of 8 _ refl
reason_tree (Some reason.PrivilegeWithdrawn) = reason_of 9 _ refl
reason_tree (Some reason.AaCompromise) = reason_of 10 _ refl

-- ---- the invalidity date

record HasDate (given : Option ℤ) : Type 0 where
  date : Option GeneralizedTime
  is_date : IsInvalidityDate given date
  tree : IfSome date (ShortTreeOf generalized_time)

date_at : (z : ℤ) (at : DateTime) → IsUtcOf z at → HasDate (Some z)
date_at z at u =
    let whole = whole_second at in
    record {
      date = Some (record { at = whole.0 });
      is_date = (at, u, whole.1);
      tree = general_tree at whole.0 u.1.0 whole.1;
    }

date_there : (given : Option ℤ) → is_utc_if given ≡ true → IfSome given HasCivilTime → HasDate given
date_there None h c = record { date = None; is_date = refl; tree = tt }
date_there (Some z) h c = let at = c h in date_at z at.0 at.1

-- ---- an entry

entry_extensions_there : (r : Option RevocationReason) (date : Option GeneralizedTime) → IfSome date (ShortTreeOf generalized_time)
    → HasField (entry_extension_rows r date)
entry_extensions_there r date h =
    let reasons = row_of_value (id_ce ce_crl_reason) false crl_reason (option_and_then written_reason r) refl (reason_tree r) in
    field_there (entry_extension_rows r date) (rows_then reasons (row_of_value (id_ce ce_invalidity_date) false generalized_time date refl h))

-- what is written for an entry
record HasEntry (e : RevokedView) : Type 0 where
  entry : RevokedCertificate
  is_entry : IsEntry e entry
  tree : TreeOf revoked_certificate entry

entry_there : (e : RevokedView) → has_entry_times e ≡ true → HasCivilTimes e → HasEntry e
unfolding revoked_certificate_fields
entry_there e h c =
    let hs = and_true (is_utc e.revocation_time) (is_utc_if e.invalidity_date) h in
    let at = c.0 hs.0 in
    let w = written_there e.revocation_time at.0 at.1 in
    let date = date_there e.invalidity_date hs.1 c.1 in
    let x = entry_extensions_there e.reason_code date.date date.tree in
    let serial = number_tree e.serial_number in
    let time = time_tree at.0 w.time_value at.1.1.0 w.in_utc in
    let field = field_trees extensions x.field x.tree in
    record {
      entry = record { user_certificate = unsigned e.serial_number; revocation_date = w.time_value; crl_entry_extensions = x.field };
      is_entry = record {
        date = date.date;
        user_certificate = refl;
        revocation_date = w.is_written;
        invalidity_date = date.is_date;
        extensions = x.is_field;
      };
      tree = record {
        tree = node (universal 16) (row (serial.tree ∷ time.tree ∷ field.trees));
        is_tree = rw (serial.is_tree, time.is_tree, field.are_trees) refl;
        tags = rw (serial.tags, time.tags, field.tags) refl;
      };
    }

-- ---- all entries

pub record HasEntries (es : List RevokedView) : Type 0 where
  pub entries : List RevokedCertificate
  pub are_entries : AllZip IsEntry es entries
  pub trees : TreesOf revoked_certificate entries

pub entries_there : (es : List RevokedView) → list_all has_entry_times es ≡ true → AllByRecursion HasCivilTimes es → HasEntries es
entries_there [] h c = record { entries = []; are_entries = tt; trees = no_trees revoked_certificate }
entries_there (e ∷ es) h c =
    let hs = and_true (has_entry_times e) (list_all has_entry_times es) h in
    let first = entry_there e hs.0 c.0 in
    let others = entries_there es hs.1 c.1 in
    record {
      entries = first.entry ∷ others.entries;
      are_entries = (first.is_entry, others.are_entries);
      trees = more_trees revoked_certificate first.entry others.entries first.tree others.trees;
    }
