use Rattle.std.proofs.Common.{refl}
use Rattle.rcgen_certificate.specs.Params.{default_start, default_end}
use Rattle.profile_params.proofs.Midnights.{midnight_is}
use Rattle.profile_params.proofs.certificate.subject_params.Goals as goal

pub returns-clause-not_before : goal.returns-clause-not_before
returns-clause-not_before c =
    let start = midnight_is default_start c.in_ok-default.default.not_before c.in_ok-default.ensures.value.not_before in
    rw (c.moment_or.ensures, start) refl

pub returns-clause-not_after : goal.returns-clause-not_after
returns-clause-not_after c =
    let end = midnight_is default_end c.in_ok-default.default.not_after c.in_ok-default.ensures.value.not_after in
    rw (c.moment_or-2.ensures, end) refl
