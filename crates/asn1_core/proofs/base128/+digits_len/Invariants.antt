use Rattle.asn1_core.proofs.base128.+digits_len.Given as goal

abbrev pub decreases-digits_len : goal.decreases-digits_len
decreases-digits_len l = l.number
