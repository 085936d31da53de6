use Rattle.std.proofs.Common.{◌≡◌}
use Rattle.pkix_cert.specs.ExtensionIds.{ce_subject_key_identifier, id_ce_der}
use Rattle.rcgen_read.specs.IssuerParts.{contents_by, key_ids_in}
use Rattle.rcgen_read.proofs.issuer.stated_method.Given as goal

-- none of those before is one
abbrev pub invariant-loop-extension : goal.invariant-loop-extension
invariant-loop-extension l =
    key_ids_in (contents_by (id_ce_der ce_subject_key_identifier) l.certificate.extensions) ≡ key_ids_in (contents_by (id_ce_der ce_subject_key_identifier) l.extension-iterator)
