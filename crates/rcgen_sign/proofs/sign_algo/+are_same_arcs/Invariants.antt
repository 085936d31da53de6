use Rattle.std.proofs.Common.{length}
use Rattle.rcgen_sign.proofs.sign_algo.+are_same_arcs.Given as goal

abbrev pub decreases-are_same_arcs : goal.decreases-are_same_arcs
decreases-are_same_arcs l = length l.arcs.now
