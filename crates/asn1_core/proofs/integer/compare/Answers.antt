use Rattle.std.proofs.Common.{◌≡◌, true, false}
use Rattle.asn1_core.specs.Arcs.{are_below}
use Rattle.asn1_core.specs.Binds.{true_and}
use Rattle.asn1_core.specs.Twos.{is_shortest, is_negative}
use Rattle.asn1_core.proofs.SignedOrder.{both_low, both_high, low_high, high_low}
use Rattle.asn1_core.proofs.integer.compare.Goals as goal

pub returns-in-true-true-clause-order : goal.returns-in-true-true-clause-order
returns-in-true-true-clause-order c =
    let s : is_negative c.args.a.now ≡ true = cc in
    let t : is_negative c.args.b.now ≡ true = cc in
    let both = (both_high c.args.a.now c.args.b.now (true_and (is_shortest c.args.a.now) (are_below 256 c.args.a.now) c.requires.first c.are_bytes.ensures) (true_and (is_shortest c.args.b.now) (are_below 256 c.args.b.now) c.requires.second c.are_bytes-2.ensures) s t).1 in
    let lengths = c.cmp.ensures in
    let bytes = c.cmp-in-true-true.ensures in
    let then = c.then.ensures in
    cc

pub returns-in-true-true-clause-number : goal.returns-in-true-true-clause-number
returns-in-true-true-clause-number c =
    let s : is_negative c.args.a.now ≡ true = cc in
    let t : is_negative c.args.b.now ≡ true = cc in
    let both = (both_high c.args.a.now c.args.b.now (true_and (is_shortest c.args.a.now) (are_below 256 c.args.a.now) c.requires.first c.are_bytes.ensures) (true_and (is_shortest c.args.b.now) (are_below 256 c.args.b.now) c.requires.second c.are_bytes-2.ensures) s t).0 in
    let lengths = c.cmp.ensures in
    let bytes = c.cmp-in-true-true.ensures in
    let then = c.then.ensures in
    cc

pub returns-in-true-false-clause-order : goal.returns-in-true-false-clause-order
returns-in-true-false-clause-order c =
    let s : is_negative c.args.a.now ≡ true = cc in
    let t : is_negative c.args.b.now ≡ false = cc in
    (high_low c.args.a.now c.args.b.now (true_and (is_shortest c.args.a.now) (are_below 256 c.args.a.now) c.requires.first c.are_bytes.ensures) s t).1

pub returns-in-true-false-clause-number : goal.returns-in-true-false-clause-number
returns-in-true-false-clause-number c =
    let s : is_negative c.args.a.now ≡ true = cc in
    let t : is_negative c.args.b.now ≡ false = cc in
    (high_low c.args.a.now c.args.b.now (true_and (is_shortest c.args.a.now) (are_below 256 c.args.a.now) c.requires.first c.are_bytes.ensures) s t).0

pub returns-in-false-true-clause-order : goal.returns-in-false-true-clause-order
returns-in-false-true-clause-order c =
    let s : is_negative c.args.a.now ≡ false = cc in
    let t : is_negative c.args.b.now ≡ true = cc in
    (low_high c.args.a.now c.args.b.now (true_and (is_shortest c.args.b.now) (are_below 256 c.args.b.now) c.requires.second c.are_bytes-2.ensures) s t).1

pub returns-in-false-true-clause-number : goal.returns-in-false-true-clause-number
returns-in-false-true-clause-number c =
    let s : is_negative c.args.a.now ≡ false = cc in
    let t : is_negative c.args.b.now ≡ true = cc in
    (low_high c.args.a.now c.args.b.now (true_and (is_shortest c.args.b.now) (are_below 256 c.args.b.now) c.requires.second c.are_bytes-2.ensures) s t).0

pub returns-in-false-false-clause-order : goal.returns-in-false-false-clause-order
returns-in-false-false-clause-order c =
    let s : is_negative c.args.a.now ≡ false = cc in
    let t : is_negative c.args.b.now ≡ false = cc in
    let both = (both_low c.args.a.now c.args.b.now (true_and (is_shortest c.args.a.now) (are_below 256 c.args.a.now) c.requires.first c.are_bytes.ensures) (true_and (is_shortest c.args.b.now) (are_below 256 c.args.b.now) c.requires.second c.are_bytes-2.ensures) s t).1 in
    let lengths = c.cmp-in-false-false.ensures in
    let bytes = c.cmp-in-false-false-2.ensures in
    let then = c.then-in-false-false.ensures in
    cc

pub returns-in-false-false-clause-number : goal.returns-in-false-false-clause-number
returns-in-false-false-clause-number c =
    let s : is_negative c.args.a.now ≡ false = cc in
    let t : is_negative c.args.b.now ≡ false = cc in
    let both = (both_low c.args.a.now c.args.b.now (true_and (is_shortest c.args.a.now) (are_below 256 c.args.a.now) c.requires.first c.are_bytes.ensures) (true_and (is_shortest c.args.b.now) (are_below 256 c.args.b.now) c.requires.second c.are_bytes-2.ensures) s t).0 in
    let lengths = c.cmp-in-false-false.ensures in
    let bytes = c.cmp-in-false-false-2.ensures in
    let then = c.then-in-false-false.ensures in
    cc
