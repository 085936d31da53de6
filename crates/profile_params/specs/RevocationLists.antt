-- What a revocation list of a profile says (RFC 5280, 5).
use Rattle.std.specs.Prelude.{ℕ, List, map, Option}
use Rattle.std.specs.Option.{option_map}
use Rattle.rcgen_issue.specs.CrlView.{CrlView, RevokedView}
use Rattle.rcgen_text.specs.declared.crl_scope.CrlScope.{CrlScope}
use Rattle.toml_format.specs.declared.revocation_list.IssuingPoint.{IssuingPoint}
use Rattle.toml_format.specs.declared.revocation_list.ListContent.{ListContent}
use Rattle.toml_format.specs.declared.revocation_list.Revoked.{Revoked}
use Rattle.toml_format.specs.UtcInstant.{instant_of}
use Rattle.profile_params.specs.Keys.{method_of_profile}

-- the issuing point's URIs, in order, and its scope
abbrev pub point_of_profile : IssuingPoint → List (List ℕ) × Option CrlScope
point_of_profile p = (p.points, p.scope)

-- what an entry says of a certificate that was revoked (RFC 5280, 5.1.2.6 and 5.3)
abbrev pub revoked_of_profile : Revoked → RevokedView
revoked_of_profile r = record {
  serial_number = r.serial;
  revocation_time = instant_of r.time;
  reason_code = r.reason;
  invalidity_date = option_map instant_of r.invalid;
}

-- what the profile says, with the entries in its order
abbrev pub list_of_profile : ListContent → CrlView
list_of_profile c = record {
  this_update = instant_of c.this_update;
  next_update = instant_of c.next_update;
  crl_number = c.number;
  issuing_distribution_point = option_map point_of_profile c.point;
  revoked_certs = map revoked_of_profile c.revoked;
  key_identifier_method = option_map method_of_profile c.key_id;
}
