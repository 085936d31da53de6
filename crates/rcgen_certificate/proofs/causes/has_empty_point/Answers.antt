use Rattle.std.proofs.Common.{◌∙◌}
use Rattle.rcgen_certificate.proofs.Points.{empties}
use Rattle.rcgen_certificate.proofs.causes.has_empty_point.Goals as goal

pub returns : goal.returns
returns c = c.have_no_uri.ensures ∙ empties c.args.points.now
