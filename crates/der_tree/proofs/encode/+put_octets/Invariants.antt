use Rattle.der_tree.proofs.encode.+put_octets.Given as goal

abbrev pub decreases-put_octets : goal.decreases-put_octets
decreases-put_octets g l = l.number
