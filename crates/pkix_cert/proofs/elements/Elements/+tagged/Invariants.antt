use Rattle.std.proofs.Common.{length}
use Rattle.pkix_cert.proofs.elements.Elements.+tagged.Given as goal

abbrev pub decreases-tagged : goal.decreases-tagged
decreases-tagged l = length l.self.now.elements
