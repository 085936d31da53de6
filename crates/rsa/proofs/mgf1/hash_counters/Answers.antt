use Rattle.std.proofs.Common.{length}
use Rattle.rsa.specs.Pss.{h_len}
use Rattle.rsa.proofs.Masks.{counters_start, counters_fit, counters_more}
use Rattle.rsa.proofs.mgf1.hash_counters.Goals as goal

pub loop-counter-init : goal.loop-counter-init
loop-counter-init c = counters_start c.args.hash c.args.octets.now c.args.seed.now c.digest_length-size.result

pub loop-counter-preserved : goal.loop-counter-preserved
loop-counter-preserved c =
    counters_more c.args.hash c.args.seed.now c.loop-counter.octets c.to_be_bytes-number.result c.hash_parts.new.digest _ c.loop-counter.counter
    c.digest_length-size.result c.digest_length-size.ensures c.to_be_bytes-number.ensures c.hash_parts.ensures
    (counters_fit c.loop-counter.counter c.args.count c.digest_length-size.result (h_len c.args.hash) (length c.loop-counter.octets) (length c.args.octets.now)
    c.loop-counter-test.true c.digest_length-size.ensures c.requires.room c.loop-counter.auto.octets)
    c.loop-counter.invariant
