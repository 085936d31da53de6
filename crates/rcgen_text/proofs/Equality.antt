-- Equality of types and values of attributes, of alternative names and of errors, as derives write it.
use Rattle.std.specs.Prelude.{◌≡◌, Bool, true, nat_eq, refl, string_bytes}
use Rattle.std.specs.Cmp.{IsEquivalence}
use Rattle.std.specs.Cmp.Lexicographic.{pointwise}
use Rattle.std.proofs.Common.{ap, ◌∙◌}
use Rattle.std.proofs.Math.Bool.{and-true}
use Rattle.std.proofs.lemmas.Cmp.{nat_eq_equiv, nat_list_eq_equiv}
use Rattle.rcgen_text.specs.contracts.dn_type.DnTypePartialEq.TheImpl.{ghosts as types}
use Rattle.rcgen_text.specs.contracts.dn_value.DnValuePartialEq.TheImpl.{ghosts as values}
use Rattle.rcgen_text.specs.contracts.error.ErrorPartialEq.TheImpl.{ghosts as errors}
use Rattle.rcgen_text.specs.contracts.error.InvalidAsn1StringPartialEq.TheImpl.{ghosts as invalids}
use Rattle.rcgen_text.specs.contracts.ip.IpAddrPartialEq.TheImpl.{ghosts as addresses}
use Rattle.rcgen_text.specs.contracts.san.OtherNameValuePartialEq.TheImpl.{ghosts as others}
use Rattle.rcgen_text.specs.contracts.san.SanTypePartialEq.TheImpl.{ghosts as names}
use Rattle.rcgen_text.specs.declared.dn_type.DnType.{DnType}
use Rattle.rcgen_text.specs.declared.dn_type.DnType.TheVariants.{CountryName, LocalityName, StateOrProvinceName, OrganizationName}
use Rattle.rcgen_text.specs.declared.dn_type.DnType.TheVariants.{OrganizationalUnitName, CommonName, CustomDnType}
use Rattle.rcgen_text.specs.declared.dn_value.DnValue.{DnValue}
use Rattle.rcgen_text.specs.declared.dn_value.DnValue.TheVariants.{BmpString, Ia5String, PrintableString, TeletexString, UniversalString, Utf8String}
use Rattle.rcgen_text.specs.declared.error.Error.{Error}
use Rattle.rcgen_text.specs.declared.error.Error.TheVariants as error
use Rattle.rcgen_text.specs.declared.error.InvalidAsn1String.{InvalidAsn1String}
use Rattle.rcgen_text.specs.declared.error.InvalidAsn1String.TheVariants as invalid
use Rattle.rcgen_text.specs.declared.ip.IpAddr.{IpAddr}
use Rattle.rcgen_text.specs.declared.ip.IpAddr.TheVariants as ip
use Rattle.rcgen_text.specs.declared.san.OtherNameValue.{OtherNameValue}
use Rattle.rcgen_text.specs.declared.san.OtherNameValue.TheVariants as other
use Rattle.rcgen_text.specs.declared.san.SanType.{SanType}
use Rattle.rcgen_text.specs.declared.san.SanType.TheVariants as san
use Rattle.rcgen_text.specs.AlternativeNames.{other_text, alternative_name}
use Rattle.rcgen_text.specs.Causes.{origin_of, text_cause}
use Rattle.rcgen_text.specs.DnTypes.{kind_of, same_type, same_type_equiv}
use Rattle.rcgen_text.specs.DnValues.{text_of, same_text, same_text_equiv}

pub types_same : (t u : DnType) → types.eq t u ≡ same_type (kind_of t) (kind_of u)
types_same CountryName CountryName = refl
types_same CountryName LocalityName = refl
types_same CountryName StateOrProvinceName = refl
types_same CountryName OrganizationName = refl
types_same CountryName OrganizationalUnitName = refl
types_same CountryName CommonName = refl
types_same CountryName (CustomDnType b) = refl
types_same LocalityName CountryName = refl
types_same LocalityName LocalityName = refl
types_same LocalityName StateOrProvinceName = refl
types_same LocalityName OrganizationName = refl
types_same LocalityName OrganizationalUnitName = refl
types_same LocalityName CommonName = refl
types_same LocalityName (CustomDnType b) = refl
types_same StateOrProvinceName CountryName = refl
types_same StateOrProvinceName LocalityName = refl
types_same StateOrProvinceName StateOrProvinceName = refl
types_same StateOrProvinceName OrganizationName = refl
types_same StateOrProvinceName OrganizationalUnitName = refl
types_same StateOrProvinceName CommonName = refl
types_same StateOrProvinceName (CustomDnType b) = refl
types_same OrganizationName CountryName = refl
types_same OrganizationName LocalityName = refl
types_same OrganizationName StateOrProvinceName = refl
types_same OrganizationName OrganizationName = refl
types_same OrganizationName OrganizationalUnitName = refl
types_same OrganizationName CommonName = refl
types_same OrganizationName (CustomDnType b) = refl
types_same OrganizationalUnitName CountryName = refl
types_same OrganizationalUnitName LocalityName = refl
types_same OrganizationalUnitName StateOrProvinceName = refl
types_same OrganizationalUnitName OrganizationName = refl
types_same OrganizationalUnitName OrganizationalUnitName = refl
types_same OrganizationalUnitName CommonName = refl
types_same OrganizationalUnitName (CustomDnType b) = refl
types_same CommonName CountryName = refl
types_same CommonName LocalityName = refl
types_same CommonName StateOrProvinceName = refl
types_same CommonName OrganizationName = refl
types_same CommonName OrganizationalUnitName = refl
types_same CommonName CommonName = refl
types_same CommonName (CustomDnType b) = refl
types_same (CustomDnType a) CountryName = refl
types_same (CustomDnType a) LocalityName = refl
types_same (CustomDnType a) StateOrProvinceName = refl
types_same (CustomDnType a) OrganizationName = refl
types_same (CustomDnType a) OrganizationalUnitName = refl
types_same (CustomDnType a) CommonName = refl
types_same (CustomDnType a) (CustomDnType b) = refl

pub values_same : (v w : DnValue) → values.eq v w ≡ same_text (text_of v) (text_of w)
values_same (BmpString s) (BmpString t) = refl
values_same (BmpString s) (Ia5String t) = refl
values_same (BmpString s) (PrintableString t) = refl
values_same (BmpString s) (TeletexString t) = refl
values_same (BmpString s) (UniversalString t) = refl
values_same (BmpString s) (Utf8String t) = refl
values_same (Ia5String s) (BmpString t) = refl
values_same (Ia5String s) (Ia5String t) = and-true (pointwise nat_eq s t)
values_same (Ia5String s) (PrintableString t) = refl
values_same (Ia5String s) (TeletexString t) = refl
values_same (Ia5String s) (UniversalString t) = refl
values_same (Ia5String s) (Utf8String t) = refl
values_same (PrintableString s) (BmpString t) = refl
values_same (PrintableString s) (Ia5String t) = refl
values_same (PrintableString s) (PrintableString t) = and-true (pointwise nat_eq s t)
values_same (PrintableString s) (TeletexString t) = refl
values_same (PrintableString s) (UniversalString t) = refl
values_same (PrintableString s) (Utf8String t) = refl
values_same (TeletexString s) (BmpString t) = refl
values_same (TeletexString s) (Ia5String t) = refl
values_same (TeletexString s) (PrintableString t) = refl
values_same (TeletexString s) (TeletexString t) = and-true (pointwise nat_eq s t)
values_same (TeletexString s) (UniversalString t) = refl
values_same (TeletexString s) (Utf8String t) = refl
values_same (UniversalString s) (BmpString t) = refl
values_same (UniversalString s) (Ia5String t) = refl
values_same (UniversalString s) (PrintableString t) = refl
values_same (UniversalString s) (TeletexString t) = refl
values_same (UniversalString s) (UniversalString t) = refl
values_same (UniversalString s) (Utf8String t) = refl
values_same (Utf8String s) (BmpString t) = refl
values_same (Utf8String s) (Ia5String t) = refl
values_same (Utf8String s) (PrintableString t) = refl
values_same (Utf8String s) (TeletexString t) = refl
values_same (Utf8String s) (UniversalString t) = refl
values_same (Utf8String s) (Utf8String t) = refl

-- ---- what has the same view is equal

pub same_is_equal : {K : Type 0} {E : K → K → Bool} → IsEquivalence E → (a b : K) → a ≡ b → E a b ≡ true
same_is_equal {K} {E} q a b e = ap (λ x. E x b) e ∙ q.refl b

pub types_equal : (t u : DnType) → kind_of t ≡ kind_of u → types.eq t u ≡ true
types_equal t u e = types_same t u ∙ same_is_equal same_type_equiv (kind_of t) (kind_of u) e

pub values_equal : (v w : DnValue) → text_of v ≡ text_of w → values.eq v w ≡ true
values_equal v w e = values_same v w ∙ same_is_equal same_text_equiv (text_of v) (text_of w) e

pub others_equal : (v w : OtherNameValue) → other_text v ≡ other_text w → others.eq v w ≡ true
others_equal (other.Utf8String s) (other.Utf8String t) e = same_is_equal nat_list_eq_equiv (string_bytes s) (string_bytes t) e

addresses_equal : (a b : IpAddr) → a ≡ b → addresses.eq a b ≡ true
addresses_equal (ip.V4 a) (ip.V4 b) e = same_is_equal nat_list_eq_equiv a b cc
addresses_equal (ip.V6 a) (ip.V6 b) e = same_is_equal nat_list_eq_equiv a b cc
addresses_equal _ _ e = absurd cc

pub names_equal : (v w : SanType) → alternative_name v ≡ alternative_name w → names.eq v w ≡ true
names_equal (san.Rfc822Name s) (san.Rfc822Name t) e = and-true (pointwise nat_eq s t) ∙ same_is_equal nat_list_eq_equiv s t cc
names_equal (san.DnsName s) (san.DnsName t) e = and-true (pointwise nat_eq s t) ∙ same_is_equal nat_list_eq_equiv s t cc
names_equal (san.URI s) (san.URI t) e = and-true (pointwise nat_eq s t) ∙ same_is_equal nat_list_eq_equiv s t cc
names_equal (san.IpAddress a) (san.IpAddress b) e = addresses_equal a b cc
names_equal (san.OtherName p) (san.OtherName q) e = rw (same_is_equal nat_list_eq_equiv p.0.items q.0.items cc, others_equal p.1 q.1 cc) refl
names_equal _ _ e = absurd cc

pub invalid_equal : (v w : InvalidAsn1String) → text_cause v ≡ text_cause w → invalids.eq v w ≡ true
invalid_equal (invalid.PrintableString s) (invalid.PrintableString t) e = same_is_equal nat_list_eq_equiv (string_bytes s) (string_bytes t) cc
invalid_equal (invalid.UniversalString s) (invalid.UniversalString t) e = same_is_equal nat_list_eq_equiv (string_bytes s) (string_bytes t) cc
invalid_equal (invalid.Ia5String s) (invalid.Ia5String t) e = same_is_equal nat_list_eq_equiv (string_bytes s) (string_bytes t) cc
invalid_equal (invalid.TeletexString s) (invalid.TeletexString t) e = same_is_equal nat_list_eq_equiv (string_bytes s) (string_bytes t) cc
invalid_equal (invalid.BmpString s) (invalid.BmpString t) e = same_is_equal nat_list_eq_equiv (string_bytes s) (string_bytes t) cc
invalid_equal _ _ e = absurd cc

pub errors_equal : (v w : Error) → origin_of v ≡ origin_of w → errors.eq v w ≡ true
errors_equal error.CouldNotParseCertificate error.CouldNotParseCertificate e = refl
errors_equal error.CouldNotParseCertificationRequest error.CouldNotParseCertificationRequest e = refl
errors_equal error.InvalidCertificationRequestSignature error.InvalidCertificationRequestSignature e = refl
errors_equal error.InvalidNameType error.InvalidNameType e = refl
errors_equal (error.InvalidAsn1String v) (error.InvalidAsn1String w) e = invalid_equal v w cc
errors_equal (error.InvalidIpAddressOctetLength m) (error.InvalidIpAddressOctetLength n) e = same_is_equal nat_eq_equiv m n cc
errors_equal error.UnsupportedExtension error.UnsupportedExtension e = refl
errors_equal error.UnsupportedSignatureAlgorithm error.UnsupportedSignatureAlgorithm e = refl
errors_equal error.Time error.Time e = refl
errors_equal error.RemoteKeyError error.RemoteKeyError e = refl
errors_equal error.UnsupportedInCsr error.UnsupportedInCsr e = refl
errors_equal error.InvalidCrlNextUpdate error.InvalidCrlNextUpdate e = refl
errors_equal error.IssuerNotCrlSigner error.IssuerNotCrlSigner e = refl
errors_equal error.EmptyCrlDistributionPointUris error.EmptyCrlDistributionPointUris e = refl
errors_equal (error.X509 s) (error.X509 t) e = same_is_equal nat_list_eq_equiv (string_bytes s) (string_bytes t) cc
errors_equal error.InvalidObjectIdentifier error.InvalidObjectIdentifier e = refl
errors_equal error.InvalidAttributeValues error.InvalidAttributeValues e = refl
errors_equal error.OutOfMemory error.OutOfMemory e = refl
-- where one is about a text and the other isn't, each case of the text computes
errors_equal (error.InvalidAsn1String (invalid.PrintableString s)) _ e = absurd cc
errors_equal _ (error.InvalidAsn1String (invalid.PrintableString s)) e = absurd cc
errors_equal _ _ e = absurd cc
