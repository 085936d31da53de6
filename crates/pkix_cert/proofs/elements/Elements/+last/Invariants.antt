use Rattle.std.proofs.Common.{length}
use Rattle.pkix_cert.proofs.elements.Elements.+last.Given as goal

abbrev pub decreases-last : goal.decreases-last
decreases-last l = length l.self.now.elements
