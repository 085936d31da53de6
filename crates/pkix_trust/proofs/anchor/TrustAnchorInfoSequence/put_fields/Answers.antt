-- Where all was put.
use Rattle.der_tree.proofs.Putting.{put_more, put_as}
use Rattle.pkix_trust.specs.Anchors.{trust_anchor_info_fields}
use Rattle.pkix_trust.proofs.anchor.TrustAnchorInfoSequence.put_fields.Goals as goal

pub returns : goal.returns
unfolding trust_anchor_info_fields
returns c =
    put_more _ _ _ _ _ (put_as _ _ _ _ _ c.unless_default.ensures c.in_ok-put_explicit.ensures.puts) (
    put_more _ _ _ _ _ (c.in_ok-put.ensures.puts) (
    put_more _ _ _ _ _ (c.in_ok-put-2.ensures.puts) (
    put_more _ _ _ _ _ (put_as _ _ _ _ _ c.as_ref.ensures.value c.in_ok-put_optional.ensures.puts) (
    put_more _ _ _ _ _ (put_as _ _ _ _ _ c.as_ref-2.ensures.value c.in_ok-put_optional-2.ensures.puts) (
    put_more _ _ _ _ _ (put_as _ _ _ _ _ c.as_ref-3.ensures.value c.in_ok-put_explicit-2.ensures.puts) (
    put_as _ _ _ _ _ c.as_ref-4.ensures.value c.in_ok-put_implicit.ensures.puts))))))
