use Rattle.std.proofs.Common.{Vec, Global, ap, sym, ◌∙◌}
use Rattle.rcgen_text.specs.declared.key_usage.KeyUsagePurpose.{KeyUsagePurpose}
use Rattle.rcgen_text.specs.declared.key_usage.KeyUsagePurpose.TheVariants as usage
use Rattle.rcgen_read.proofs.Picked.{next_set, next_unset}
use Rattle.rcgen_read.proofs.key_usage.usages_of_bits.Goals as goal
use Rattle.rcgen_read.proofs.key_usage.usages_of_bits.Goals.{then-bit+in_ok-push, else-bit}

pub loop-place-preserved : goal.loop-place-preserved
loop-place-preserved c =
    elim c.if-bit.branch [
      | then-bit+in_ok-push w ↦
          ap (λ (v : Vec KeyUsagePurpose Global). v.items) w.usages-is
          ∙ (w.in_ok-push.ensures.items
          ∙ next_set c.args.bits.now c.loop-place.place _ c.loop-place.usages.items c.loop-place-test.true (sym c.bit.ensures ∙ w.if-bit.true)
          c.loop-place.invariant)
      | else-bit w ↦
          ap (λ (v : Vec KeyUsagePurpose Global). v.items) w.usages-is
          ∙ next_unset c.args.bits.now c.loop-place.place usage.DigitalSignature c.loop-place.usages.items c.loop-place-test.true
          (sym c.bit.ensures ∙ w.if-bit.false) c.loop-place.invariant
    ]
