-- A value for each row of the issue table, with a tree.
use Rattle.std.specs.Prelude.{◌≡◌, ℕ, ℤ, true, false, List}
use Rattle.std.specs.Prelude.{Option, Some, None, refl}
use Rattle.std.proofs.Common.{arith}
use Rattle.jiff.specs.Types.{DateTime}
use Rattle.asn1_core.specs.Bits.{bits}
use Rattle.asn1_core.specs.Twos.{is_shortest}
use Rattle.asn1_core.specs.UtcTime.{is_utc_time_year}
use Rattle.asn1_core.specs.Written.{IsWritten, IsWholeSecond}
use Rattle.pkix_name.specs.declared.name.Name.{Name}
use Rattle.pkix_cert.specs.Times.{time_parts}
use Rattle.pkix_cert.specs.Versions.{v3}
use Rattle.pkix_cert.specs.declared.certificate.Certificate.{Certificate}
use Rattle.pkix_cert.specs.declared.certificate.TbsCertificate.{TbsCertificate}
use Rattle.pkix_cert.specs.declared.extension.Extensions.{Extensions}
use Rattle.pkix_cert.specs.declared.time.Time.{Time}
use Rattle.pkix_cert.specs.declared.time.Time.TheVariants.{Utc, General}
use Rattle.rcgen_sign.specs.Keys.{Key}
use Rattle.rcgen_sign.specs.declared.sign_algo.SignatureAlgorithm.{SignatureAlgorithm}
use Rattle.rcgen_certificate.specs.KeyValues.{signature_identifier, key_value}
use Rattle.rcgen_certificate.specs.NameValues.{name_value}
use Rattle.rcgen_certificate.specs.ParamsView.{ParamsView}
use Rattle.rcgen_certificate.specs.Serials.{serial_of, default_serial}
use Rattle.rcgen_certificate.specs.WrittenTimes.{IsUtcOf, IsWrittenInstant}
use Rattle.rcgen_certificate.proofs.Shortest.{unsigned_shortest}

-- ---- times

-- a time without its fraction
pub whole_second : (at : DateTime) → (whole : DateTime) × IsWholeSecond at whole
whole_second at = (
  record {
    date = at.date;
    time = record {
      hour = at.time.hour;
      minute = at.time.minute;
      second = at.time.second;
      subsec_nanosecond = 0;
      hour_in = at.time.hour_in;
      minute_in = at.time.minute_in;
      second_in = at.time.second_in;
      subsec_in = omega arith;
    };
  },
  (refl, refl, refl, refl, refl),
)

pub record WrittenTime (z : ℤ) (at : DateTime) : Type 0 where
  pub time_value : Time
  pub in_utc : IsWritten at (time_parts time_value)
  pub is_written : IsWrittenInstant z time_value

pub written_there : (z : ℤ) (at : DateTime) → IsUtcOf z at → WrittenTime z at
written_there z at u =
    let whole = whole_second at in
    elim (is_utc_time_year at) as (λ b. is_utc_time_year at ≡ b → WrittenTime z at) [
      | true ↦ λ y. record {
        time_value = Utc (record { at = whole.0 });
        in_utc = (y, whole.1);
        is_written = (at, u, (y, whole.1));
      }
      | false ↦ λ y. record {
        time_value = General (record { at = whole.0 });
        in_utc = (y, whole.1);
        is_written = (at, u, (y, whole.1));
      }
    ] refl

-- ---- serial numbers

pub serial_shortest : (given : Option (List ℕ)) (key : List ℕ) → is_shortest (serial_of given key) ≡ true
serial_shortest (Some serial) key = unsigned_shortest serial
serial_shortest None key = unsigned_shortest (default_serial key)

-- ---- the certificate

abbrev pub tbs_value : ParamsView → Key → Name → SignatureAlgorithm → Time → Time → Option Extensions → TbsCertificate
tbs_value p s issuer a from to field = record {
  version = v3;
  serial_number = serial_of p.serial_number s.octets;
  signature = signature_identifier a;
  issuer = issuer;
  validity = record { not_before = from; not_after = to };
  subject = name_value p.distinguished_name;
  subject_public_key_info = key_value s.algorithm s.octets;
  issuer_unique_id = None;
  subject_unique_id = None;
  extensions = field;
}

-- the certificate of what was signed, and its signature
abbrev pub certificate_of : TbsCertificate → SignatureAlgorithm → List ℕ → Certificate
certificate_of t a s = record { tbs_certificate = t; signature_algorithm = signature_identifier a; signature_value = bits 0 s }
