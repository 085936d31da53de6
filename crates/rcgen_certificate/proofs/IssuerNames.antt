-- The values of issuer fields.
use Rattle.std.specs.Prelude.{◌≡◌, ℕ, Bool, true, false, cond, List, length, Some, None, is_ok, is_some, refl}
use Rattle.std.specs.List.{list_all}
use Rattle.std.specs.Option.{IfSome}
use Rattle.std.proofs.Common.{ap, arith, ◌∙◌}
use Rattle.std.proofs.lemmas.Bool.{le-leb}
use Rattle.asn1_core.specs.Binds.{kept_is}
use Rattle.der_tree.specs.Form.{IsDerOf}
use Rattle.der_tree.specs.HasTree.{HasTree}
use Rattle.der_tree.specs.laws.Results.{is_some_chosen}
use Rattle.pkix_name.specs.Names.{name as name_codec, name_parts, relative_distinguished_name}
use Rattle.pkix_name.specs.declared.name.Name.{Name}
use Rattle.pkix_name.specs.declared.name.Name.TheVariants.{RdnSequence}
use Rattle.rcgen_text.specs.Names.{Entry}
use Rattle.rcgen_certificate.specs.Issuers.{encodable_name}
use Rattle.rcgen_certificate.specs.NameValues.{has_types, issuer_name, name_value}
use Rattle.rcgen_certificate.specs.ShortParts.{HasShortAttributes}
use Rattle.rcgen_certificate.proofs.RelativeNames.{name_tree}
use Rattle.rcgen_certificate.proofs.Trees.{has_tree_of}

-- ---- of distinguished names

pub has_issuer_value : (es : List Entry) → has_types es ≡ is_some (issuer_name es)
has_issuer_value es = is_some_chosen (has_types es) (name_value es)

pub is_named : (es : List Entry) → is_some (issuer_name es) ≡ true → has_types es ≡ true
is_named es h = has_issuer_value es ∙ h

pub name_is : (es : List Entry) → has_types es ≡ true → issuer_name es ≡ Some (name_value es)
name_is es h = rw h refl

pub ruleset named = (is_named, name_is)

if_chosen : {A : Type 0} (b : Bool) (x : A) (P : A → Type 0) → (b ≡ true → P x) → IfSome (cond b (Some x) None) P
if_chosen true x P h = h refl
if_chosen false x P h = tt

pub issuer_name_tree : (es : List Entry) → HasShortAttributes es → IfSome (issuer_name es) (HasTree name_codec)
issuer_name_tree es short =
    if_chosen (has_types es) (name_value es) (HasTree name_codec) (λ types. has_tree_of name_codec (name_value es) (name_tree es types short))

-- ---- of names as they were read

pub each_has_tree : (n : Name) → list_all relative_distinguished_name.has_tree (name_parts n) ≡ name_codec.has_tree n
each_has_tree (RdnSequence parts) = rw (le-leb 0 (length parts) (omega arith)) refl

pub ruleset parts = (each_has_tree)

pub has_encoding : (n : Name) → name_codec.has_tree n ≡ is_some (encodable_name n)
has_encoding n = is_some_chosen (name_codec.has_tree n) n

pub is_encodable : (n : Name) → is_some (encodable_name n) ≡ true → HasTree name_codec n
is_encodable n h = has_encoding n ∙ h

pub encodable_is : (n : Name) → is_some (encodable_name n) ≡ true → encodable_name n ≡ Some n
encodable_is n h = kept_is (name_codec.has_tree n) (Some n) n (is_encodable n h) refl

pub decoded : (n : Name) (der : List ℕ) → IsDerOf name_codec n der → encodable_name n ≡ Some n
decoded n der h = kept_is (name_codec.has_tree n) (Some n) n (name_codec.has_tree_is n ∙ ap is_ok h.2) refl

pub ruleset encodable = (has_encoding, is_encodable, encodable_is)
