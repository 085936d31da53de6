-- At the last field, where it isn't read: all before it were.
use Rattle.der_tree.proofs.Reading.{then_reads, unread}
use Rattle.pkix_trust.specs.Anchors.{cert_path_controls_fields}
use Rattle.pkix_trust.proofs.anchor.CertPathControlsSequence.read_fields.Goals as goal

pub returns-in_err-implicit-5 : goal.returns-in_err-implicit-5
unfolding cert_path_controls_fields
returns-in_err-implicit-5 c =
    then_reads _ _ _ _ _ c.in_ok-required.ensures.reads (
    then_reads _ _ _ _ _ c.in_ok-implicit.ensures.reads (
    then_reads _ _ _ _ _ c.in_ok-implicit-2.ensures.reads (
    then_reads _ _ _ _ _ c.in_ok-implicit-3.ensures.reads (
    then_reads _ _ _ _ _ c.in_ok-implicit-4.ensures.reads (
    unread _ _ _ _ _ _ c.in_err-implicit-5.ensures.reads c.from_residual-in_err-implicit-5.ensures.1)))))
