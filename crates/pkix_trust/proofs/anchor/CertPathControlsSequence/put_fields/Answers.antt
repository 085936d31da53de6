-- Where all was put.
use Rattle.der_tree.proofs.Putting.{put_more, put_as}
use Rattle.pkix_trust.specs.Anchors.{cert_path_controls_fields}
use Rattle.pkix_trust.proofs.anchor.CertPathControlsSequence.put_fields.Goals as goal

pub returns : goal.returns
unfolding cert_path_controls_fields
returns c =
    put_more _ _ _ _ _ (c.in_ok-put.ensures.puts) (
    put_more _ _ _ _ _ (put_as _ _ _ _ _ c.as_ref.ensures.value c.in_ok-put_implicit.ensures.puts) (
    put_more _ _ _ _ _ (put_as _ _ _ _ _ c.as_ref-2.ensures.value c.in_ok-put_implicit-2.ensures.puts) (
    put_more _ _ _ _ _ (put_as _ _ _ _ _ c.as_ref-3.ensures.value c.in_ok-put_implicit-3.ensures.puts) (
    put_more _ _ _ _ _ (put_as _ _ _ _ _ c.as_ref-4.ensures.value c.in_ok-put_implicit-4.ensures.puts) (
    put_as _ _ _ _ _ c.as_ref-5.ensures.value c.in_ok-put_implicit-5.ensures.puts)))))
