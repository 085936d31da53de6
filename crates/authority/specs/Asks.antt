-- What an authority asks the issuer for, as values: the parameters of a certificate, an entry, the parameters of a list. Times are instants.
use Rattle.std.specs.Prelude.{ℕ, ℤ, true, List, Option, Some, None}
use Rattle.std.specs.Int.{w64, to_be_bytes}
use Rattle.rcgen_text.specs.Names.{Entry}
use Rattle.rcgen_text.specs.declared.basic_constraints.IsCa.TheVariants.{ExplicitNoCa}
use Rattle.rcgen_text.specs.declared.revocation_reason.RevocationReason.{RevocationReason}
use Rattle.rcgen_certificate.specs.ParamsView.{ParamsView, default_params}
use Rattle.rcgen_issue.specs.CrlView.{CrlView, RevokedView}

-- the defaults, with this serial number, name and times, that say that the subject is no authority (RFC 5280, 4.2.1.9) and identify the issuer's
-- key (4.2.1.1)
abbrev pub asked_params : ℕ → List Entry → ℤ → ℤ → ParamsView
asked_params serial name not_before not_after = record (default_params not_before not_after name) {
  serial_number = Some (to_be_bytes w64 serial);
  is_ca = ExplicitNoCa;
  use_authority_key_identifier_extension = true;
}

-- the entry of a serial number (RFC 5280, 5.1.2.6), without invalidity date
abbrev pub revocation : ℕ → ℤ → Option RevocationReason → RevokedView
revocation serial time reason = record {
  serial_number = to_be_bytes w64 serial;
  revocation_time = time;
  reason_code = reason;
  invalidity_date = None;
}

-- the parameters of the list with this number (RFC 5280, 5.2.3), times and entries, without issuing point; it identifies the issuer's key as the
-- issuer does (5.2.1)
abbrev pub asked_crl : ℕ → ℤ → ℤ → List RevokedView → CrlView
asked_crl number this_update next_update entries = record {
  this_update = this_update;
  next_update = next_update;
  crl_number = to_be_bytes w64 number;
  issuing_distribution_point = None;
  revoked_certs = entries;
  key_identifier_method = None;
}
