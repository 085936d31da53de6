use Rattle.std.proofs.Common.{◌∙◌, sym, ap, subst, ℤ, ◌+ℤ◌, to_z-of_z}
use Rattle.std.proofs.lemmas.Bool.{false≢true}
use Rattle.jiff.specs.Words.{IsCivilNanos, civil_nanos}
use Rattle.jiff.specs.Types.{DateTime}
use Rattle.asn1_core.proofs.time.offset_date_time.moved.Goals as goal

pub returns-in-Err : goal.returns-in-Err
returns-in-Err c = λ h.
    let same = ap (λ (d : DateTime). civil_nanos d +ℤ c.args.nanoseconds) (sym c.to_plain.ensures) in
    let fits = ap (λ (x : ℤ). civil_nanos c.to_plain.result +ℤ x) (sym (to_z-of_z c.ranges.nanoseconds)) in
    false≢true (c.in-Err.ensures.succeeds.1 (subst IsCivilNanos (same ∙ fits) h))
