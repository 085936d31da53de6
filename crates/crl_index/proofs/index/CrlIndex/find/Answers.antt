use Rattle.std.proofs.Common.{◌≡◌, ◌≤◌, ◌<◌, ◌+◌, ◌-◌, ◌*◌, ◌/◌, ◌^◌, ℕ, get_or, arith, sym, refl, ap, ◌∙◌, length}
use Rattle.std.specs.Prelude.{Some}
use Rattle.std.proofs.lemmas.Grind.{get_or_default_zero}
use Rattle.crl_index.specs.Index.{place_beside}
use Rattle.crl_index.proofs.Halving.{found, missed, cost_once_more, upper_half, lower_half}
use Rattle.crl_index.proofs.index.CrlIndex.find.Goals as goal

pub loop-low-preserved-in-Less : goal.loop-low-preserved-in-Less
loop-low-preserved-in-Less g c =
    let before = c.loop-low.invariant.1 in
    (upper_half c.self.inside.serials c.args.serial.now c.loop-low.low c.loop-low.high (c.loop-low.steps - c.args.steps.now) (c.probe.new.steps - c.args.steps.now) (c.loop-low.low + (c.loop-low.high - c.loop-low.low) / 2) c.self.invariant.ascending c.loop-low.invariant.0 c.loop-low-test.true refl (sym c.in-Less.ensures.number) (omega arith), omega arith)

pub loop-low-preserved : goal.loop-low-preserved
loop-low-preserved g c =
    let before = c.loop-low.invariant.1 in
    (lower_half c.self.inside.serials c.args.serial.now c.loop-low.low c.loop-low.high (c.loop-low.steps - c.args.steps.now) (c.probe.new.steps - c.args.steps.now) (c.loop-low.low + (c.loop-low.high - c.loop-low.low) / 2) c.self.invariant.ascending c.loop-low.invariant.0 c.loop-low-test.true refl (sym c.in-Greater.ensures.number) (omega arith), omega arith)

pub returns-in-Equal-clause-place : goal.returns-in-Equal-clause-place
returns-in-Equal-clause-place g c =
    let within = c.loop-low.invariant.0.inside in
    let inside : c.loop-low.low + (c.loop-low.high - c.loop-low.low) / 2 < length c.self.inside.serials = omega arith in
    let beside = c.self.invariant.beside in
    let there : place_beside c.args.serial.now c.self.inside.serials c.self.inside.places.items ≡ Some (get_or c.self.inside.places.items (c.loop-low.low + (c.loop-low.high - c.loop-low.low) / 2) 0) = found c.self.inside.serials c.self.inside.places.items c.args.serial.now (c.loop-low.low + (c.loop-low.high - c.loop-low.low) / 2) c.self.invariant.ascending beside inside (sym c.in-Equal.ensures.number) in
    let value : c.index.result.now ≡ get_or c.self.inside.places.items (c.loop-low.low + (c.loop-low.high - c.loop-low.low) / 2) 0 = c.index.ensures ∙ get_or_default_zero c.self.inside.places.items (c.loop-low.low + (c.loop-low.high - c.loop-low.low) / 2) c.index.result.now (omega arith) in
    rw (← c.self.view_is) (ap (λ (x : ℕ). Some x) value ∙ sym there)

pub returns-in-Equal-clause-cost : goal.returns-in-Equal-clause-cost
returns-in-Equal-clause-cost g c =
    let before = c.loop-low.invariant.1 in
    let fewer = c.self.invariant.fewer in
    let cost : 2 ^ (c.probe.new.steps - c.args.steps.now) ≤ 2 * length c.self.inside.serials + 1 = cost_once_more c.self.inside.serials c.args.serial.now c.loop-low.low c.loop-low.high (c.loop-low.steps - c.args.steps.now) (c.probe.new.steps - c.args.steps.now) c.loop-low.invariant.0 c.loop-low-test.true (omega arith) in
    rw (← c.self.view_is) (omega arith)

pub returns-clause-place : goal.returns-clause-place
returns-clause-place g c = rw (← c.self.view_is) (sym (missed c.self.inside.serials c.self.inside.places.items c.args.serial.now c.loop-low.low c.loop-low.high (c.loop-low.steps - c.args.steps.now) c.loop-low.invariant.0 c.loop-low-test.false))
