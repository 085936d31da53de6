-- What is written of serial numbers that are looked up in a list.
use Rattle.std.proofs.Common.{◌≡◌, ℕ, List, Result, Ok, sym, subst}
use Rattle.pkix_cert.specs.declared.revocation.CertificateList.{CertificateList}
use Rattle.certify_core.specs.LookingUp.{looking_up_in, revocation_lines}
use Rattle.certify_core.specs.CommandSpec.{IsMade, of_document}
use Rattle.certify_core.proofs.Made.{always_made}
use Rattle.toml_format.specs.declared.reason.Reason.{Reason}

-- the lines of the list that was found
pub looked_up : (serials : List (List ℕ)) (found : Result CertificateList Reason) (list : CertificateList) (text : List ℕ) → found ≡ Ok list
    → text ≡ revocation_lines list.tbs_cert_list.revoked_certificates serials → IsMade (of_document (looking_up_in serials) found) text
looked_up serials found list text is_found written =
    subst (λ (f : Result CertificateList Reason). IsMade (of_document (looking_up_in serials) f) text) (sym is_found)
    (always_made (revocation_lines list.tbs_cert_list.revoked_certificates serials) text written)
