use Rattle.std.proofs.Common.{[]}
use Rattle.rcgen_sign.specs.Keys.{key_of_parts}
use Rattle.shelf_job.proofs.Once.{is_once, one_der}
use Rattle.shelf_job.proofs.laws.der_once.Goals as goal

pub returns : goal.returns
returns c =
    one_der
    (λ s params subject name issuer. c.certificate_as_once.ensures (record { key = key_of_parts issuer.algorithm issuer.info; signature = s }) (is_once s) params subject name issuer)
    (λ s base params issuer. c.list_over_once.ensures (record { key = key_of_parts issuer.algorithm issuer.info; signature = s }) (is_once s) base params issuer)
    c.request_info_once.ensures
    (λ s params subject. c.requested_once.ensures (record { key = subject; signature = s }) (is_once s) params subject [])
    (λ s params issuer. c.attribute_issued_once.ensures (record { key = key_of_parts issuer.algorithm issuer.info; signature = s }) (is_once s) params issuer)
