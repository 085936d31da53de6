use Rattle.der_tree.proofs.measure.+octets_len.Given as goal

abbrev pub decreases-octets_len : goal.decreases-octets_len
decreases-octets_len l = l.number
