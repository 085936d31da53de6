-- Alternative names (RFC 5280, 4.2.1.6).
use Rattle.std.specs.Prelude.{ℕ, List, string_bytes}
use Rattle.rcgen_text.specs.declared.ip.IpAddr.{IpAddr}
use Rattle.rcgen_text.specs.declared.san.OtherNameValue.{OtherNameValue}
use Rattle.rcgen_text.specs.declared.san.OtherNameValue.TheVariants as other
use Rattle.rcgen_text.specs.declared.san.SanType.{SanType}
use Rattle.rcgen_text.specs.declared.san.SanType.TheVariants as san

-- an alternative name with its text, address, or arcs and text in UTF-8
pub data AlternativeName : Type 0 where
  rfc822_name : List ℕ → AlternativeName
  dns_name : List ℕ → AlternativeName
  uri : List ℕ → AlternativeName
  ip_address : IpAddr → AlternativeName
  other_name : List ℕ → List ℕ → AlternativeName

abbrev pub other_text : OtherNameValue → List ℕ
other_text (other.Utf8String s) = string_bytes s

abbrev pub alternative_name : SanType → AlternativeName
alternative_name (san.Rfc822Name s) = rfc822_name s
alternative_name (san.DnsName s) = dns_name s
alternative_name (san.URI s) = uri s
alternative_name (san.IpAddress a) = ip_address a
alternative_name (san.OtherName p) = other_name p.0.items (other_text p.1)
