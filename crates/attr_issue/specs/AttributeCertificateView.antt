-- What parameters of an attribute certificate say, as values: two that say the same have one view.
use Rattle.std.specs.Prelude.{ℕ, ℤ, Bool, List, map}
use Rattle.asn1_core.specs.Moment.{instant}
use Rattle.rcgen_text.specs.Names.{Entry}
use Rattle.rcgen_certificate.specs.Requests.{Given, given_of}
use Rattle.attr_issue.specs.declared.attribute_certificate.AttributeCertificateParams.{AttributeCertificateParams}

pub record AttributeCertificateView : Type 0 where
  pub holder_issuer : List Entry
  pub holder_serial : List ℕ
  pub serial_number : List ℕ
  -- the instants of the times, whatever their clocks show
  pub not_before : ℤ
  pub not_after : ℤ
  -- the type of each and the octets of its values
  pub attributes : List Given
  pub use_authority_key_identifier_extension : Bool

abbrev pub attribute_certificate_view : AttributeCertificateParams → AttributeCertificateView
attribute_certificate_view params = record {
  holder_issuer = params.holder_issuer;
  holder_serial = params.holder_serial;
  serial_number = params.serial_number;
  not_before = instant params.not_before;
  not_after = instant params.not_after;
  attributes = map given_of params.attributes.items;
  use_authority_key_identifier_extension = params.use_authority_key_identifier_extension;
}
