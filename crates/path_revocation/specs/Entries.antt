-- The entries of a list (RFC 5280, 5.3), and the search for a certificate among them (6.3.3 (i) to (k)).
use Rattle.std.specs.Prelude.{Bool, List, None, Option, Some, cond, false, not, refl, true, unwrap_or, ℕ, ◌&&◌, [], ◌∷◌}
use Rattle.std.specs.List.{list_all, list_any}
use Rattle.asn1_core.specs.IntegerOrder.{same_integer}
use Rattle.der_tree.specs.Codec.{Codec}
use Rattle.der_tree.specs.Grammar.{sequence_of}
use Rattle.pkix_cert.specs.ExtensionIds.{ce_certificate_issuer, ce_crl_reason, ce_invalidity_date, id_ce}
use Rattle.pkix_cert.specs.Held.{extensions_in}
use Rattle.pkix_cert.specs.Revocations.{crl_reason}
use Rattle.pkix_cert.specs.declared.revocation.CrlReason.{CrlReason}
use Rattle.pkix_cert.specs.declared.revocation.CrlReason.TheVariants.{RemoveFromCRL, Unspecified}
use Rattle.pkix_cert.specs.declared.revocation.RevokedCertificate.{RevokedCertificate}
use Rattle.pkix_name.specs.GeneralNames.{general_name}
use Rattle.pkix_name.specs.declared.general_name.GeneralName.{GeneralName}
use Rattle.pkix_name.specs.declared.name.Name.{Name}
use Rattle.path_revocation.specs.Extensions.{are_once, can_be_read, contents_at, is_unprocessed, said}
use Rattle.path_revocation.specs.Points.{is_among}
use Rattle.pkix_cert.specs.Times.{moment_of}
use Rattle.path_revocation.specs.declared.entry.Revocation.{Revocation}

abbrev pub general_names : Codec (List GeneralName)
general_names = sequence_of general_name 0 None refl

-- ---- what an entry says

unfoldable pub reason_contents : RevokedCertificate → Option (List ℕ)
reason_contents e = contents_at (id_ce ce_crl_reason) e.crl_entry_extensions

unfoldable pub issuer_contents : RevokedCertificate → Option (List ℕ)
issuer_contents e = contents_at (id_ce ce_certificate_issuer) e.crl_entry_extensions

-- 5.3: with a critical extension that isn't processed a list isn't used; nor with one that occurs twice in an entry
abbrev pub processed_of_entries : List (List ℕ)
processed_of_entries = id_ce ce_crl_reason ∷ id_ce ce_invalidity_date ∷ id_ce ce_certificate_issuer ∷ []

unfoldable pub is_readable_entry : RevokedCertificate → Bool
is_readable_entry e =
    not (list_any (is_unprocessed processed_of_entries) (extensions_in e.crl_entry_extensions))
    && are_once (extensions_in e.crl_entry_extensions) && can_be_read crl_reason (reason_contents e) && can_be_read general_names (issuer_contents e)

unfoldable pub are_readable_entries : List RevokedCertificate → Bool
are_readable_entries es = list_all is_readable_entry es

-- 5.3.3: the certificate's issuer is one of the names, or where none are given it is what it was at the entry before
abbrev pub carried : Name → Bool → Option (List GeneralName) → Bool
carried issuer before None = before
carried issuer before (Some names) = is_among issuer names

unfoldable pub is_of_issuer : Name → Bool → RevokedCertificate → Bool
is_of_issuer issuer before e = carried issuer before (said general_names (issuer_contents e))

-- 6.3.3 (i): the reason, or unspecified where there is none
unfoldable pub revocation_by : RevokedCertificate → Revocation
revocation_by e = record { at = moment_of e.revocation_date; reason = unwrap_or (said crl_reason (reason_contents e)) Unspecified }

-- ---- 6.3.3 (i), (j): the first entry with the issuer and the serial number; before the first entry the issuer is or isn't that of the list

unfoldable pub found : Name → List ℕ → Bool → List RevokedCertificate → Option Revocation
found issuer serial before [] = None
found issuer serial before (e ∷ es) =
    cond (is_of_issuer issuer before e && same_integer e.user_certificate serial) (Some (revocation_by e))
    (found issuer serial (is_of_issuer issuer before e) es)

-- (k)
abbrev pub is_removal : CrlReason → Bool
is_removal RemoveFromCRL = true
is_removal reason = false

abbrev pub unless_removed : Option Revocation → Option Revocation
unless_removed None = None
unless_removed (Some r) = cond (is_removal r.reason) None (Some r)
