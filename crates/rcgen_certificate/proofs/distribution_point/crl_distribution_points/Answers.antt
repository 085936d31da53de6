use Rattle.std.specs.List.{list_all}
use Rattle.std.proofs.Common.{arith}
use Rattle.rcgen_certificate.specs.AsciiTexts.{is_ascii}
use Rattle.rcgen_certificate.specs.DistributionPoints.{uris_of, point_value}
use Rattle.rcgen_certificate.proofs.NameTrees.{item_passes}
use Rattle.rcgen_certificate.proofs.Points.{each_point}
use Rattle.rcgen_certificate.proofs.Rows.{map_more}
use Rattle.rcgen_certificate.proofs.Views.{seen_all}
use Rattle.rcgen_certificate.proofs.distribution_point.crl_distribution_points.Goals as goal

pub point_value-requires : goal.point_value-requires
point_value-requires c =
    item_passes (λ p. list_all is_ascii (uris_of p)) c.args.points.now c.loop-point.point-index c.point-item.result c.loop-point-test.true
    c.point-item.is (each_point c.args.points.now c.requires)

pub loop-point-preserved : goal.loop-point-preserved
loop-point-preserved c =
    map_more (λ p. point_value (uris_of p)) c.args.points.now c.loop-point.point-index c.point-item.result c.loop-point.list c.push.new.self
    c.in_ok-point_value.field-0 c.loop-point-test.true c.point-item.is c.loop-point.invariant c.in_ok-point_value.ensures.value
    c.in_ok-push.ensures.ok

pub returns-clause-value : goal.returns-clause-value
returns-clause-value c =
    seen_all uris_of point_value c.args.points.now c.loop-point.point-index c.loop-point.list c.is_empty.result
    (omega (arith, c.loop-point-test.false)) c.is_empty.ensures c.if-is_empty.false c.loop-point.invariant
