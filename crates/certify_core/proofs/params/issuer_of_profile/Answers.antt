use Rattle.std.proofs.Common.{◌∙◌, refl}
use Rattle.certify_core.proofs.params.issuer_of_profile.Goals as goal

pub returns-clause-view : goal.returns-clause-view
returns-clause-view c =
    let secret = c.in_ok-key.ensures.secret ∙ c.as_bytes.ensures in
    rw (
      c.from_parts.ensures.field,
      c.from_parts.ensures.method,
      c.from_parts.ensures.usages,
      c.from_parts.ensures.key,
      secret,
      c.in_ok-name.ensures.value,
      c.into_vec-usages.ensures,
      c.method_of_profile-method.ensures,
    ) refl
