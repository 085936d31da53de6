use Rattle.std.proofs.Common.{FitsSigned, subst, to_z-of_z, w64, ℤ}
use Rattle.rcgen_certificate.specs.WrittenTimes.{IsWrittenInstant}
use Rattle.register_steps.proofs.renewal.time_at.Goals as goal

pub returns-clause-value : goal.returns-clause-value
returns-clause-value c =
    let f : FitsSigned w64 c.args.seconds = c.ranges.seconds in
    let n = simp to_z-of_z at c.moment_at-moment.ensures.moment in
    subst (λ (z : ℤ). IsWrittenInstant z c.written_moment.result) n c.written_moment.ensures.value
