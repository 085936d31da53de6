-- Names that are one are constrained alike.
use Rattle.std.specs.Prelude.{◌≡◌, List, is_none, not, true, ◌&&◌, ◌||◌, refl}
use Rattle.std.specs.List.{list_any}
use Rattle.std.proofs.Common.{ap}
use Rattle.pkix_cert.specs.Distances.{same_integer, zero}
use Rattle.pkix_cert.specs.declared.constraint.GeneralSubtree.{GeneralSubtree}
use Rattle.pkix_name.specs.declared.general_name.GeneralName.{GeneralName}
use Rattle.pkix_name.specs.declared.general_name.GeneralName.TheVariants.{OtherName, Rfc822Name, DnsName, X400Address, DirectoryName, EdiPartyName, Uri, IpAddress, RegisteredId}
use Rattle.pkix_name.specs.declared.name.Name.{Name}
use Rattle.path_names.specs.NameForms.{can_be_compared, is_excluded_by, is_of_form, is_permitted_by, is_processed, is_unprocessed_by, is_within, name_within}
use Rattle.path_names.specs.NameMatching.{names_match}
use Rattle.path_names.proofs.Matching.{below_alike, decided_below_alike}

module _ (m n : Name) (h : names_match m n ≡ true) where
  within_base : (base : GeneralName) → name_within (DirectoryName m) base ≡ name_within (DirectoryName n) base
  within_base (OtherName v) = refl
  within_base (Rfc822Name v) = refl
  within_base (DnsName v) = refl
  within_base (X400Address v) = refl
  within_base (DirectoryName base) = below_alike m n base h
  within_base (EdiPartyName v) = refl
  within_base (Uri v) = refl
  within_base (IpAddress v) = refl
  within_base (RegisteredId v) = refl

  compared_with : (base : GeneralName) → can_be_compared (DirectoryName m) base ≡ can_be_compared (DirectoryName n) base
  compared_with (OtherName v) = refl
  compared_with (Rfc822Name v) = refl
  compared_with (DnsName v) = refl
  compared_with (X400Address v) = refl
  compared_with (DirectoryName base) = decided_below_alike m n base h
  compared_with (EdiPartyName v) = refl
  compared_with (Uri v) = refl
  compared_with (IpAddress v) = refl
  compared_with (RegisteredId v) = refl

  pub within_alike : (t : GeneralSubtree) → is_within (DirectoryName m) t ≡ is_within (DirectoryName n) t
  within_alike t = within_base t.base

  processed_alike : (t : GeneralSubtree)
      → (is_of_form (DirectoryName m) t && not (is_processed (DirectoryName m) t)) ≡ (is_of_form (DirectoryName n) t && not (is_processed (DirectoryName n) t))
  processed_alike t =
      ap (λ b. is_of_form (DirectoryName n) t && not (b && same_integer t.minimum zero && is_none t.maximum)) (compared_with t.base)

  pub excluded_alike : (ts : List GeneralSubtree) → is_excluded_by (DirectoryName m) ts ≡ is_excluded_by (DirectoryName n) ts
  excluded_alike ts = λ i. list_any (λ t. within_alike t i) ts

  pub permitted_alike : (ts : List GeneralSubtree) → is_permitted_by (DirectoryName m) ts ≡ is_permitted_by (DirectoryName n) ts
  permitted_alike ts = ap (λ b. not (list_any (is_of_form (DirectoryName n)) ts) || b) (excluded_alike ts)

  pub unprocessed_alike : (ts : List GeneralSubtree) → is_unprocessed_by (DirectoryName m) ts ≡ is_unprocessed_by (DirectoryName n) ts
  unprocessed_alike ts = λ i. list_any (λ t. processed_alike t i) ts
