-- The message of a certificate exists.
use Rattle.std.specs.Prelude.{◌≡◌, ℕ, ◌+◌, ◌≤◌, ◌<◌, ◌^◌, Bool, true, false, cond, not, List, length, Option, Some, None, Ok, refl}
use Rattle.std.specs.List.{list_all}
use Rattle.std.specs.Option.{IfSome, option_map_or}
use Rattle.std.proofs.Common.{arith, subst}
use Rattle.der_tree.specs.Form.{IsDerOf}
use Rattle.der_tree.specs.HasTree.{HasTree}
use Rattle.der_tree.specs.laws.Results.{some_there}
use Rattle.pkix_cert.specs.Algorithms.{subject_public_key_info}
use Rattle.pkix_cert.specs.Certificates.{tbs_certificate}
use Rattle.pkix_cert.specs.Extensions.{extensions}
use Rattle.pkix_cert.specs.Times.{time}
use Rattle.pkix_cert.specs.declared.algorithm.SubjectPublicKeyInfo.{SubjectPublicKeyInfo}
use Rattle.pkix_cert.specs.declared.certificate.TbsCertificate.{TbsCertificate}
use Rattle.pkix_cert.specs.declared.extension.Extensions.{Extensions}
use Rattle.pkix_cert.specs.declared.time.Time.{Time}
use Rattle.pkix_name.specs.Names.{name as name_codec}
use Rattle.pkix_name.specs.declared.name.Name.{Name}
use Rattle.rcgen_certificate.specs.ExtensionRows.{IsField}
use Rattle.rcgen_certificate.specs.Issue.{HasNoCause, IsToBeSigned, first_cause}
use Rattle.rcgen_certificate.specs.IssuedExtensions.{extension_rows}
use Rattle.rcgen_certificate.specs.Issuers.{IssuerView}
use Rattle.rcgen_certificate.specs.KeyValues.{key_value}
use Rattle.rcgen_certificate.specs.NameValues.{has_types, name_value}
use Rattle.rcgen_certificate.specs.ParamsView.{ParamsView}
use Rattle.rcgen_certificate.specs.Serials.{serial_of}
use Rattle.rcgen_certificate.specs.SubjectAltNames.{is_ascii_name}
use Rattle.rcgen_certificate.specs.WrittenTimes.{IsWrittenInstant}
use Rattle.rcgen_certificate.proofs.IssuerNames.{issuer_name_tree}
use Rattle.rcgen_certificate.proofs.NamesAsRead.{name_as_read_tree}
use Rattle.rcgen_certificate.proofs.NoCause.{no_cause as no_certificate_cause}
use Rattle.rcgen_certificate.proofs.RelativeNames.{name_tree}
use Rattle.rcgen_certificate.proofs.TableExtensions.{extensions_there}
use Rattle.rcgen_certificate.proofs.TableParts.{serial_shortest, written_there}
use Rattle.rcgen_certificate.proofs.TableTrees.{key_value_tree, time_tree}
use Rattle.rcgen_certificate.proofs.Trees.{TreeOf, form_there}
use Rattle.rcgen_sign.specs.Keys.{Key, key_info_octets}
use Rattle.rcgen_tbs.specs.Named.{IsCertificateMessageAs, with_name}
use Rattle.rcgen_tbs.specs.Subjects.{IsToBeSignedFor, identified, stand_in}
use Rattle.rcgen_tbs.specs.declared.subject.Subject.{Subject}
use Rattle.rcgen_tbs.specs.declared.subject.Subject.TheVariants.{Known, Other}
use Rattle.shelf_fault.specs.declared.fault.Fault.TheVariants as fault
use Rattle.shelf_fault.specs.declared.fault.Fault.TheVariants.{Issuer, NameNotKept}
use Rattle.shelf_fault.specs.declared.fault.IssuerFault.TheVariants.{NoCertSign}
use Rattle.shelf_fault.specs.declared.fault.KeyFault.TheVariants.{NotRead}
use Rattle.shelf_fault.specs.declared.fault.Place.TheVariants as place
use Rattle.shelf_job.specs.Issuers.{certified, signs_certificates, with_key}
use Rattle.shelf_job.specs.Jobs.{certificate_issuer, has_info, has_name_octets, issuer_by, issuer_in, own_named}
use Rattle.shelf_job.proofs.Subjects.{info_has_tree, name_has_tree}
use Rattle.shelf_keys.specs.Encoded.{encoded}
use Rattle.shelf_keys.specs.Refusing.{refuse}
use Rattle.outcomes.specs.Certificates.{CertificatesHaveMessages, subject_size}
use Rattle.outcomes.specs.PartSizes.{info_size, name_size, params_size}
use Rattle.outcomes.specs.Sizes.{method_size}
use Rattle.outcomes.proofs.Civil.{each_is}
use Rattle.outcomes.proofs.Issuers.{id_size, read_there}
use Rattle.outcomes.proofs.Parts.{info_within, name_within}
use Rattle.outcomes.proofs.Rows.{key_info_small}
use Rattle.outcomes.proofs.Shorts.{short_name}
use Rattle.outcomes.proofs.Signed.{field_bound, fit_there, info_there, rows_bound, serial_count, signed_tree, signed_value, signed_within}
use Rattle.outcomes.proofs.Views.{IsSmall, causeless, ok_same, small_there, then_ok}
use Rattle.outcomes.proofs.Within.{Within, widened}

-- ---- the issuer

if_chosen : {A : Type 0} (b : Bool) (x : A) (P : A → Type 0) → (b ≡ true → P x) → IfSome (cond b (Some x) None) P
if_chosen true x P h = h refl
if_chosen false x P h = tt

widen_if : (o : Option Name) (m n : ℕ) → m ≤ n → IfSome o (λ x. Within name_codec x m) → IfSome o (λ x. Within name_codec x n)
widen_if None m n l h = tt
widen_if (Some x) m n l h = widened name_codec x m n l h

wider : (i : IssuerView) (m n : ℕ) → m ≤ n → IsSmall m i → IsSmall n i
wider i m n l s =
    let id = s.id in
    record { name_tree = s.name_tree; name_within = widen_if i.name m n l s.name_within; id = omega arith }

own_small : (name : Option Name) (p : ParamsView) (key : Key) → name_size (name_value p.distinguished_name) < 2 ^ 60
    → IsSmall (name_size (name_value p.distinguished_name) + option_map_or name_size name 0 + method_size p.key_identifier_method) (own_named name p key)
own_small None p key l =
    let id = id_size p.key_identifier_method (key_info_octets key) in
    let v = name_value p.distinguished_name in
    let n = name_size v + 0 + method_size p.key_identifier_method in
    record {
      name_tree = issuer_name_tree p.distinguished_name (short_name p.distinguished_name l);
      name_within = if_chosen (has_types p.distinguished_name) v (λ (x : Name). Within name_codec x n)
          (λ e. widened name_codec v (name_size v) n (omega arith) (name_within v));
      id = omega arith;
    }
own_small (Some name) p key l =
    let id = id_size p.key_identifier_method (key_info_octets key) in
    let n = name_size (name_value p.distinguished_name) + name_size name + method_size p.key_identifier_method in
    record {
      name_tree = if_chosen (name_codec.has_tree name) name (HasTree name_codec) (λ e. e);
      name_within = if_chosen (name_codec.has_tree name) name (λ (x : Name). Within name_codec x n)
          (λ e. widened name_codec name (name_size name) n (omega arith) (name_within name));
      id = omega arith;
    }

certified_small : (issuer : List ℕ) (key : Key) (i : IssuerView) → certificate_issuer issuer key ≡ Ok i → IsSmall (length issuer) i
unfolding certificate_issuer
certified_small issuer key i e =
    let c = then_ok (certified issuer) _ i e in
    let u = then_ok (refuse (not (signs_certificates c.0.usages)) (Issuer NoCertSign)) _ i c.2 in
    small_there issuer c.0 key i (read_there issuer c.0 c.1) (ok_same (with_key c.0 key) i _ refl u.2)

abbrev issuer_bound : Option (List ℕ) → Option Name → ParamsView → ℕ
issuer_bound issuer name p =
    name_size (name_value p.distinguished_name) + option_map_or name_size name 0 + method_size p.key_identifier_method + option_map_or length issuer 0

issuer_small : (issuer : Option (List ℕ)) (name : Option Name) (p : ParamsView) (key : Key) (i : IssuerView)
    → name_size (name_value p.distinguished_name) < 2 ^ 60 → issuer_by issuer name p key ≡ Ok i → IsSmall (issuer_bound issuer name p) i
issuer_small None name p key i l e =
    let n = name_size (name_value p.distinguished_name) + option_map_or name_size name 0 + method_size p.key_identifier_method in
    wider i n (n + 0) (omega arith) (subst (IsSmall n) (ok_same (own_named name p key) i _ refl e) (own_small name p key l))
issuer_small (Some issuer) name p key i l e =
    wider i (length issuer) (issuer_bound (Some issuer) name p) (omega arith) (certified_small issuer key i e)

-- ---- what is the same whatever the subject

record HasCommon (p : ParamsView) (k : Key) (i : IssuerView) (n : ℕ) : Type 0 where
  issuer : Name
  issuer_is : i.name ≡ Some issuer
  issuer_tree : TreeOf name_codec issuer
  issuer_within : Within name_codec issuer n
  from : Time
  from_is : IsWrittenInstant p.not_before from
  from_tree : TreeOf time from
  to : Time
  to_is : IsWrittenInstant p.not_after to
  to_tree : TreeOf time to
  field : Option Extensions
  is_field : IsField (extension_rows p k i) field
  field_tree : IfSome field (TreeOf extensions)
  field_within : IfSome field (λ x. Within extensions x (20 + rows_bound p n))

common_there : (p : ParamsView) (k : Key) (i : IssuerView) (n : ℕ) → IsSmall n i → HasNoCause p i.name
    → list_all is_ascii_name p.subject_alt_names ≡ true → params_size p + method_size p.key_identifier_method + n < 2 ^ 61 → params_size p < 2 ^ 60
    → HasCommon p k i n
common_there p k i n s none ascii l m =
    let named = some_there i.name none.issuer_types in
    let from = each_is p.not_before none.not_before in
    let to = each_is p.not_after none.not_after in
    let f = written_there p.not_before from.0 from.1 in
    let t = written_there p.not_after to.0 to.1 in
    let x = extensions_there p k i none ascii (fit_there p k i n s l m) in
    record {
      issuer = named.0;
      issuer_is = named.1;
      issuer_tree = name_as_read_tree named.0 (subst (λ (o : Option Name). IfSome o (HasTree name_codec)) named.1 s.name_tree);
      issuer_within = subst (λ (o : Option Name). IfSome o (λ y. Within name_codec y n)) named.1 s.name_within;
      from = f.time_value;
      from_is = f.is_written;
      from_tree = time_tree from.0 f.time_value from.1.1.0 f.in_utc;
      to = t.time_value;
      to_is = t.is_written;
      to_tree = time_tree to.0 t.time_value to.1.1.0 t.in_utc;
      field = x.field;
      is_field = x.is_field;
      field_tree = x.tree;
      field_within = field_bound p k i n x.field s.id x.is_field;
    }

-- what is signed for the key, with this subject and this info
abbrev value_with : (p : ParamsView) (k : Key) (i : IssuerView) (n : ℕ) → HasCommon p k i n → Name → SubjectPublicKeyInfo → TbsCertificate
value_with p k i n c subject info =
    signed_value (serial_of p.serial_number k.octets) i.algorithm c.issuer c.from c.to subject info c.field

signed_is : (p : ParamsView) (k : Key) (i : IssuerView) (n : ℕ) (c : HasCommon p k i n)
    → IsToBeSigned p k i (value_with p k i n c (name_value p.distinguished_name) (key_value k.algorithm k.octets))
signed_is p k i n c = record {
  version = refl;
  serial_number = refl;
  signature = refl;
  issuer_name = c.issuer_is;
  not_before = c.from_is;
  not_after = c.to_is;
  subject_name = refl;
  subject_key = refl;
  issuer_unique_id = refl;
  subject_unique_id = refl;
  extensions = c.is_field;
}

value_tree : (p : ParamsView) (k : Key) (i : IssuerView) (n : ℕ) (c : HasCommon p k i n) (subject : Name) (info : SubjectPublicKeyInfo)
    → TreeOf name_codec subject → TreeOf subject_public_key_info info → TreeOf tbs_certificate (value_with p k i n c subject info)
value_tree p k i n c subject info s t =
    signed_tree (serial_of p.serial_number k.octets) i.algorithm c.issuer c.from c.to subject info c.field (serial_shortest p.serial_number k.octets)
    c.issuer_tree c.from_tree c.to_tree s t c.field_tree

abbrev value_bound : ParamsView → ℕ → SubjectPublicKeyInfo → ℕ
value_bound p n info = 1100 + option_map_or length p.serial_number 0 + n + info_size info + rows_bound p n

value_within : (p : ParamsView) (k : Key) (i : IssuerView) (n : ℕ) (c : HasCommon p k i n) (subject : Name) (info : SubjectPublicKeyInfo)
    → Within tbs_certificate (value_with p k i n c subject info) (value_bound p n info + name_size subject)
value_within p k i n c subject info t e =
    let serial = serial_of p.serial_number k.octets in
    let b = signed_within serial i.algorithm c.issuer c.from c.to subject info c.field n (20 + rows_bound p n) c.issuer_within c.field_within t e in
    omega (arith, serial_count p.serial_number k.octets)

-- ---- the subject

-- what is signed for the subject, under each name that has a tree
record HasBase (p : ParamsView) (s : Subject) (i : IssuerView) (n : ℕ) : Type 0 where
  base : TbsCertificate
  base_is : IsToBeSignedFor p s i base
  own : with_name (name_value p.distinguished_name) base ≡ base
  named : (x : Name) → TreeOf name_codec x → TreeOf tbs_certificate (with_name x base)
  size : (x : Name) → Within tbs_certificate (with_name x base) (n + name_size x)

known_base : (p : ParamsView) (k : Key) (i : IssuerView) (n : ℕ) → HasCommon p k i n
    → HasBase p (Known k) i (value_bound p n (key_value k.algorithm k.octets))
known_base p k i n c =
    let info = key_value k.algorithm k.octets in
    record {
      base = value_with p k i n c (name_value p.distinguished_name) info;
      base_is = signed_is p k i n c;
      own = refl;
      named = λ x t. value_tree p k i n c x info t (key_value_tree k.algorithm k.octets);
      size = λ x. value_within p k i n c x info;
    }

other_base : (p : ParamsView) (info : SubjectPublicKeyInfo) (octets : List ℕ) (i : IssuerView) (n : ℕ) → IsDerOf subject_public_key_info info octets
    → TreeOf subject_public_key_info info → HasCommon (identified p octets) (stand_in info) i n
    → HasBase p (Other info) i (value_bound (identified p octets) n info)
other_base p info octets i n form tree c =
    let q = identified p octets in
    let k = stand_in info in
    record {
      base = value_with q k i n c (name_value p.distinguished_name) info;
      base_is = record {
        info_octets = octets;
        info_form = form;
        base = value_with q k i n c (name_value p.distinguished_name) (key_value k.algorithm k.octets);
        base_is = signed_is q k i n c;
        replaced = refl;
      };
      own = refl;
      named = λ x t. value_tree q k i n c x info t tree;
      size = λ x. value_within q k i n c x info;
    }

abbrev subject_bound : ParamsView → Subject → ℕ → ℕ
subject_bound p s n = 2000 + option_map_or length p.serial_number 0 + n + subject_size s + rows_bound p n

larger : (p : ParamsView) (s : Subject) (i : IssuerView) (m n : ℕ) → m ≤ n → HasBase p s i m → HasBase p s i n
larger p s i m n l b = record {
  base = b.base;
  base_is = b.base_is;
  own = b.own;
  named = b.named;
  size = λ x. widened tbs_certificate (with_name x b.base) (m + name_size x) (n + name_size x) (omega arith) (b.size x);
}

base_there : (p : ParamsView) (s : Subject) (i : IssuerView) (n : ℕ) → IsSmall n i → first_cause p i.name ≡ None → has_info s ≡ Ok tt
    → list_all is_ascii_name p.subject_alt_names ≡ true → params_size p + method_size p.key_identifier_method + n < 2 ^ 61 → params_size p < 2 ^ 60
    → subject_size s < 2 ^ 60 → HasBase p s i (subject_bound p s n)
base_there p (Known k) i n small free h ascii l m o =
    let c = common_there p k i n small (no_certificate_cause p i.name free) ascii l m in
    larger p (Known k) i (value_bound p n (key_value k.algorithm k.octets)) (subject_bound p (Known k) n) (omega (arith, key_info_small k.algorithm))
    (known_base p k i n c)
base_there p (Other info) i n small free h ascii l m o =
    let e = then_ok (encoded subject_public_key_info (fault.Key place.PublicKey NotRead) info) _ tt h in
    let tree = info_there info (info_has_tree info (fault.Key place.PublicKey NotRead) e.0 e.1) in
    let f = form_there subject_public_key_info info
    (record { of_value = tree; short = (let b = info_within info tree.tree tree.is_tree in omega arith) }) in
    let q = identified p f.0 in
    let id = id_size p.key_identifier_method f.0 in
    let c = common_there q (stand_in info) i n small (no_certificate_cause q i.name free) ascii (omega arith) m in
    larger p (Other info) i (value_bound q n info) (subject_bound p (Other info) n) (omega arith) (other_base p info f.0 i n f.1 tree c)

-- ---- its name

message_of : (t : TbsCertificate) (n : ℕ) → TreeOf tbs_certificate t → Within tbs_certificate t n → n < 2 ^ 64 → (m : List ℕ) × IsDerOf tbs_certificate t m
message_of t n tree w l = form_there tbs_certificate t (record { of_value = tree; short = (let b = w tree.tree tree.is_tree in omega arith) })

message_as : (p : ParamsView) (s : Subject) (name : Option Name) (i : IssuerView) (n : ℕ) → HasBase p s i n → first_cause p i.name ≡ None
    → has_name_octets name ≡ Ok tt → n < 2 ^ 62 → name_size (name_value p.distinguished_name) < 2 ^ 60 → option_map_or name_size name 0 < 2 ^ 60
    → (m : List ℕ) × IsCertificateMessageAs p s name i m
message_as p s None i n b free h l d o =
    let v = name_value p.distinguished_name in
    let none = no_certificate_cause p i.name free in
    let tree = name_tree p.distinguished_name none.subject_types (short_name p.distinguished_name d) in
    let m = message_of (with_name v b.base) (n + name_size v) (b.named v tree) (b.size v) (omega arith) in
    (m.0, (b.base, b.base_is, subst (λ (t : TbsCertificate). IsDerOf tbs_certificate t m.0) b.own m.1))
message_as p s (Some x) i n b free h l d o =
    let e = then_ok (encoded name_codec NameNotKept x) _ tt h in
    let tree = name_as_read_tree x (name_has_tree x NameNotKept e.0 e.1) in
    let m = message_of (with_name x b.base) (n + name_size x) (b.named x tree) (b.size x) (omega arith) in
    (m.0, (with_name x b.base, record { base = b.base; base_is = b.base_is; replaced = refl }, m.1))

-- ---- the law

pub certificate_messages : CertificatesHaveMessages
certificate_messages a r ascii l =
    let p : ParamsView = a.params in
    let issued = then_ok (issuer_in a) _ tt r in
    let i : IssuerView = issued.0 in
    let info = then_ok (has_info a.subject) _ tt issued.2 in
    let named = then_ok (has_name_octets a.name) _ tt info.2 in
    let free = causeless (first_cause p i.name) tt named.2 in
    let n = issuer_bound a.issuer a.name p in
    let small = issuer_small a.issuer a.name p a.key i (omega arith) issued.1 in
    let b = base_there p a.subject i n small free info.1 ascii (omega arith) (omega arith) (omega arith) in
    let m = message_as p a.subject a.name i (subject_bound p a.subject n) b free named.1 (omega arith) (omega arith) (omega arith) in
    (m.0, (i, issued.1, m.1))
