use Rattle.asn1_core.proofs.time.generalized_time.+fraction_of.Given as goal

abbrev pub decreases-fraction_of : goal.decreases-fraction_of
decreases-fraction_of l = l.places
