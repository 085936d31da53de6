-- Steps of what an order comes to, and the view of an issuer that was read.
use Rattle.std.specs.Prelude.{◌≡◌, ℕ, ℤ, ◌+◌, ◌≤◌, ◌<◌, ◌^◌, List, [], ◌∷◌, length, Option, Some, None, Result, Ok, Err, refl}
use Rattle.std.specs.List.{AllByRecursion}
use Rattle.std.specs.Option.{IfSome}
use Rattle.std.proofs.Common.{arith, subst, sym}
use Rattle.der_tree.specs.Codec.{Codec}
use Rattle.der_tree.specs.Grammar.{implicitly, optional, sequence_of, ◌&◌}
use Rattle.der_tree.specs.HasTree.{HasShortTree, HasTree}
use Rattle.der_tree.specs.PrimitiveTypes.{integer, octet_string}
use Rattle.der_tree.specs.Tags.{context, universal}
use Rattle.pkix_cert.specs.KeyIdentifiers.{authority_key_identifier, authority_key_identifier_fields}
use Rattle.pkix_name.specs.GeneralNames.{general_name}
use Rattle.pkix_name.specs.Names.{name as name_codec}
use Rattle.pkix_name.specs.declared.name.Name.{Name}
use Rattle.rcgen_certificate.specs.Issuers.{IssuerView}
use Rattle.rcgen_certificate.specs.KeyIdentifiers.{authority_key}
use Rattle.rcgen_issue.specs.CrlView.{RevokedView}
use Rattle.rcgen_issue.specs.ListTable.{HasCivilTime, HasCivilTimes}
use Rattle.rcgen_read.specs.IssuerReading.{CertifiedIssuer}
use Rattle.rcgen_sign.specs.Keys.{Key, key_info_octets}
use Rattle.rcgen_text.specs.Causes.{Cause}
use Rattle.shelf_fault.specs.Faults.{and_then, no_cause}
use Rattle.shelf_fault.specs.declared.fault.Fault.{Fault}
use Rattle.shelf_job.specs.Issuers.{with_key}
use Rattle.outcomes.proofs.Civil.{each_is}
use Rattle.outcomes.proofs.Issuers.{IsRead, id_size}
use Rattle.outcomes.proofs.Within.{Within, field_if, fields_both, in_implicit, in_sequence, octets_within}

-- ---- steps

pub then_ok : {A B : Type 0} (r : Result A Fault) (f : A → Result B Fault) (y : B) → and_then r f ≡ Ok y → (x : A) × (r ≡ Ok x) × (f x ≡ Ok y)
then_ok (Ok x) f y e = (x, refl, e)
then_ok (Err e) f y h = absurd cc

pub ok_same : {A : Type 0} (x y : A) (r : Result A Fault) → r ≡ Ok x → r ≡ Ok y → x ≡ y
ok_same x y r e f = cc

pub causeless : (c : Option Cause) (u : Unit {0}) → no_cause c ≡ Ok u → c ≡ None
causeless None u e = refl
causeless (Some c) u e = absurd cc

-- ---- sizes

-- fewer than 2^64 bytes
pub short_of : {A : Type 0} (c : Codec A) (v : A) (n : ℕ) → Within c v n → n < 2 ^ 64 → HasShortTree c v
short_of c v n h l t e = let k = h t e in omega arith

pub authority_key_within : (id : List ℕ) → Within authority_key_identifier (authority_key id) (60 + length id)
unfolding authority_key_identifier_fields
authority_key_within id t e =
    let own = field_if (implicitly (context 0) octet_string refl) (Some id) (20 + (20 + length id))
    (in_implicit (context 0) octet_string refl id (20 + length id) (octets_within id)) in
    let issuer = field_if (implicitly (context 1) (sequence_of general_name 0 None refl) refl) None 0 tt in
    let serial = field_if (implicitly (context 2) integer refl) None 0 tt in
    let rest = fields_both (optional (implicitly (context 1) (sequence_of general_name 0 None refl) refl)) (optional (implicitly (context 2) integer refl))
    None None 0 0 issuer serial in
    let all = fields_both (optional (implicitly (context 0) octet_string refl))
    (optional (implicitly (context 1) (sequence_of general_name 0 None refl) refl) & optional (implicitly (context 2) integer refl))
    (Some id) (None, None) (20 + (20 + length id)) 0 own rest in
    let whole = in_sequence (universal 16) authority_key_identifier_fields (authority_key id) (20 + (20 + length id) + 0) all t e in
    omega arith

-- ---- the issuer

-- its name has a tree of at most n bytes, and its identifier is not much longer
pub record IsSmall (n : ℕ) (i : IssuerView) : Type 0 where
  pub name_tree : IfSome i.name (HasTree name_codec)
  pub name_within : IfSome i.name (λ x. Within name_codec x n)
  pub id : length i.key_identifier ≤ 20 + n

pub small_there : (issuer : List ℕ) (c : CertifiedIssuer) (key : Key) (i : IssuerView) → IsRead issuer c → with_key c key ≡ i → IsSmall (length issuer) i
small_there issuer c key i r e =
    let size = r.method in
    let id = id_size c.method (key_info_octets key) in
    subst (IsSmall (length issuer)) e (record {
      name_tree = subst (λ (o : Option Name). IfSome o (HasTree name_codec)) (sym r.field) r.has_tree;
      name_within = subst (λ (o : Option Name). IfSome o (λ x. Within name_codec x (length issuer))) (sym r.field) r.within;
      id = omega arith;
    })

-- ---- times

civil_if : (o : Option ℤ) → IfSome o HasCivilTime
civil_if None = tt
civil_if (Some z) = each_is z

pub civil_each : (es : List RevokedView) → AllByRecursion HasCivilTimes es
civil_each [] = tt
civil_each (e ∷ es) = ((each_is e.revocation_time, civil_if e.invalidity_date), civil_each es)
