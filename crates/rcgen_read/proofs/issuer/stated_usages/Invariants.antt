use Rattle.std.proofs.Common.{◌≡◌, ◌++◌, option_to_list}
use Rattle.std.specs.Option.{option_map}
use Rattle.pkix_cert.specs.ExtensionIds.{ce_key_usage, id_ce_der}
use Rattle.rcgen_read.specs.IssuerParts.{contents_by}
use Rattle.rcgen_read.proofs.issuer.stated_usages.Given as goal

-- the one that was found, and those in what is left
abbrev pub invariant-loop-extension : goal.invariant-loop-extension
invariant-loop-extension l =
    contents_by (id_ce_der ce_key_usage) l.certificate.extensions
    ≡ option_to_list (option_map (λ contents. contents.now) l.found) ++ contents_by (id_ce_der ce_key_usage) l.extension-iterator
