-- What an issuer is, and what is read of it.
use Rattle.std.specs.Prelude.{ℕ, Bool, cond, List, Option, Some, None}
use Rattle.std.specs.Cow.{cow_slice_items, cow_value}
use Rattle.pkix_name.specs.Names.{name as name_codec}
use Rattle.pkix_name.specs.declared.name.Name.{Name}
use Rattle.rcgen_text.specs.Names.{Entry}
use Rattle.rcgen_sign.specs.KeyIds.{Method, key_id, method_of}
use Rattle.rcgen_sign.specs.Keys.{Key, key_info_octets}
use Rattle.rcgen_sign.specs.declared.sign_algo.SignatureAlgorithm.{SignatureAlgorithm}
use Rattle.rcgen_certificate.specs.KeyUsages.{signs_lists as sign_lists}
use Rattle.rcgen_certificate.specs.NameValues.{issuer_name}
use Rattle.rcgen_certificate.specs.ParamsView.{ParamsView}
use Rattle.rcgen_certificate.specs.declared.issuer.Issuer.{Issuer}
use Rattle.rcgen_text.specs.declared.key_usage.KeyUsagePurpose.{KeyUsagePurpose}

-- what is read of an issuer, to issue
pub record IssuerView : Type 0 where
  -- the value of its issuer field; none where its name can't be written there
  pub name : Option Name
  -- the identifier of its key, by its own method
  pub key_identifier : List ℕ
  -- the algorithm of its signatures
  pub algorithm : SignatureAlgorithm
  -- the DER of its key's SubjectPublicKeyInfo
  pub info : List ℕ
  -- it may sign revocation lists
  pub signs_lists : Bool

-- of the value of the issuer field, the method, the key usages and the key
abbrev pub issuer_view : Option Name → Method → List KeyUsagePurpose → Key → IssuerView
issuer_view name method usages key = record {
  name = name;
  key_identifier = key_id method (key_info_octets key);
  algorithm = key.algorithm;
  info = key_info_octets key;
  signs_lists = sign_lists usages;
}

-- of the parameters, as the issuer that they make of the key
abbrev pub own_view : ParamsView → Key → IssuerView
own_view params key = issuer_view (issuer_name params.distinguished_name) params.key_identifier_method params.key_usages key

-- a name as it was read, where it has a DER encoding
abbrev pub encodable_name : Name → Option Name
encodable_name name = cond (name_codec.has_tree name) (Some name) None

-- the value of the issuer field: the name that takes the place of the distinguished name, or the value of the latter
abbrev pub issuer_field : List Entry → Option Name → Option Name
issuer_field entries None = issuer_name entries
issuer_field entries (Some name) = encodable_name name

abbrev pub name_of : {S : Type 0} → Issuer S → List Entry
name_of i = cow_value i.distinguished_name

-- the value of its issuer field (RFC 5280, 4.1.2.4 and 5.1.2.3)
abbrev pub issuer_field_of : {S : Type 0} → Issuer S → Option Name
issuer_field_of i = issuer_field (name_of i) i.name_as_read

-- how the identifier of its key is made
abbrev pub id_method_of : {S : Type 0} → Issuer S → Method
id_method_of i = method_of (cow_value i.key_identifier_method)

-- what its key is for
abbrev pub usages_of : {S : Type 0} → Issuer S → List KeyUsagePurpose
usages_of i = cow_slice_items i.key_usages

abbrev pub key_of : {S : Type 0} → Issuer S → S
key_of i = i.signing_key

-- what is read of it, where `key` is its key's public key
abbrev pub view_of : {S : Type 0} → (S → Key) → Issuer S → IssuerView
view_of key i = issuer_view (issuer_field_of i) (id_method_of i) (usages_of i) (key (key_of i))
