-- Copies, texts and types of name constraints.
use Rattle.std.specs.Prelude.{◌≡◌, ◌&&◌, true, List, ◌++◌, Some, map, string_bytes, flat_map, refl}
use Rattle.std.specs.Cmp.Lexicographic.{lists_equiv}
use Rattle.std.specs.List.{list_all, AllZip}
use Rattle.std.specs.Option.{option_or}
use Rattle.std.proofs.Common.{sym, ap, ◌∙◌}
use Rattle.std.proofs.lemmas.Cmp.{nat_list_eq_equiv}
use Rattle.std.proofs.lemmas.List.Concat.{flat_map-append}
use Rattle.std.proofs.lemmas.List.Folds.{flat_map-map, list_all-append, list_all-map}
use Rattle.asn1_core.specs.Binds.{and_true}
use Rattle.rcgen_text.specs.Names.{same_entry_equiv}
use Rattle.rcgen_text.specs.contracts.cidr.CidrSubnetPartialEq.TheImpl.{ghosts as subnet_equality}
use Rattle.rcgen_text.specs.declared.cidr.CidrSubnet.{CidrSubnet}
use Rattle.rcgen_text.specs.declared.cidr.CidrSubnet.TheVariants as cidr
use Rattle.rcgen_text.proofs.Equality.{same_is_equal}
use Rattle.rcgen_certificate.specs.AsciiTexts.{is_ascii, first_not_ascii}
use Rattle.rcgen_certificate.specs.NameConstraints.{Bases, base_of, bases_of, base_texts, constraint_texts}
use Rattle.rcgen_certificate.specs.NameConstraints.{has_base_types, has_subtree_types}
use Rattle.rcgen_certificate.specs.contracts.name_constraints.GeneralSubtreePartialEq.TheImpl.{ghosts as subtree_equality}
use Rattle.rcgen_certificate.specs.contracts.name_constraints.NameConstraintsPartialEq.TheImpl.{ghosts as equality}
use Rattle.rcgen_certificate.specs.declared.name_constraints.GeneralSubtree.{GeneralSubtree}
use Rattle.rcgen_certificate.specs.declared.name_constraints.GeneralSubtree.TheVariants as subtree
use Rattle.rcgen_certificate.specs.declared.name_constraints.NameConstraints.{NameConstraints}
use Rattle.rcgen_certificate.proofs.Views.{lists_equal, views_same}
use Rattle.rcgen_certificate.proofs.AsciiTexts.{first_of_both, each_ascii}

-- ---- copies

pub bases_of_copies : (xs ys : List GeneralSubtree) → AllZip (λ x y. base_of y ≡ base_of x) xs ys → map base_of ys ≡ map base_of xs
bases_of_copies xs ys h = views_same base_of xs ys h

pub ruleset copies = (bases_of_copies)

subnets_equal : (s t : CidrSubnet) → s ≡ t → subnet_equality.eq s t ≡ true
subnets_equal (cidr.V4 a m) (cidr.V4 b n) e = rw (same_is_equal nat_list_eq_equiv a b cc, same_is_equal nat_list_eq_equiv m n cc) refl
subnets_equal (cidr.V6 a m) (cidr.V6 b n) e = rw (same_is_equal nat_list_eq_equiv a b cc, same_is_equal nat_list_eq_equiv m n cc) refl
subnets_equal _ _ e = absurd cc

pub subtrees_equal : (s t : GeneralSubtree) → base_of s ≡ base_of t → subtree_equality.eq s t ≡ true
subtrees_equal (subtree.Rfc822Name s) (subtree.Rfc822Name t) e = same_is_equal nat_list_eq_equiv (string_bytes s) (string_bytes t) cc
subtrees_equal (subtree.DnsName s) (subtree.DnsName t) e = same_is_equal nat_list_eq_equiv (string_bytes s) (string_bytes t) cc
subtrees_equal (subtree.DirectoryName s) (subtree.DirectoryName t) e = same_is_equal (lists_equiv same_entry_equiv) s t cc
subtrees_equal (subtree.IpAddress s) (subtree.IpAddress t) e = subnets_equal s t cc
subtrees_equal _ _ e = absurd cc

pub constraints_equal : (c d : NameConstraints) → bases_of c ≡ bases_of d → equality.eq c d ≡ true
constraints_equal c d e =
    let permitted = lists_equal base_of subtree_equality.eq subtrees_equal c.permitted_subtrees.items d.permitted_subtrees.items
    (ap (λ (b : Bases). b.permitted) e) in
    let excluded = lists_equal base_of subtree_equality.eq subtrees_equal c.excluded_subtrees.items d.excluded_subtrees.items
    (ap (λ (b : Bases). b.excluded) e) in
    rw (permitted, excluded) refl

-- ---- texts

-- those of the permitted subtrees, then those of the excluded ones
pub texts_of_both : (c : NameConstraints) → constraint_texts (Some (bases_of c)) ≡ flat_map base_texts (bases_of c).permitted ++ flat_map base_texts (bases_of c).excluded
texts_of_both c = flat_map-append base_texts (bases_of c).permitted (bases_of c).excluded

pub first_of_lists : (c : NameConstraints) → first_not_ascii (constraint_texts (Some (bases_of c)))
    ≡ option_or (first_not_ascii (flat_map base_texts (map base_of c.permitted_subtrees.items)))
    (first_not_ascii (flat_map base_texts (map base_of c.excluded_subtrees.items)))
first_of_lists c = ap first_not_ascii (texts_of_both c) ∙ first_of_both (flat_map base_texts (bases_of c).permitted) (flat_map base_texts (bases_of c).excluded)

pub ruleset texts = (first_of_lists)

pub texts_of_lists : (c : NameConstraints) → list_all is_ascii (constraint_texts (Some (bases_of c))) ≡ true
    → (list_all is_ascii (flat_map base_texts (map base_of c.permitted_subtrees.items)) ≡ true)
    × (list_all is_ascii (flat_map base_texts (map base_of c.excluded_subtrees.items)) ≡ true)
texts_of_lists c h =
    and_true _ _ (sym (list_all-append is_ascii (flat_map base_texts (bases_of c).permitted) (flat_map base_texts (bases_of c).excluded))
    ∙ ap (list_all is_ascii) (sym (texts_of_both c)) ∙ h)

-- each subtree's
pub texts_of_each : (list : List GeneralSubtree) → list_all is_ascii (flat_map base_texts (map base_of list)) ≡ true
    → list_all (λ s. list_all is_ascii (base_texts (base_of s))) list ≡ true
texts_of_each list h =
    each_ascii (λ s. base_texts (base_of s)) list (ap (list_all is_ascii) (sym (flat_map-map base_texts base_of list)) ∙ h)

-- ---- types

pub types_of_both : (c : NameConstraints) → has_subtree_types (Some (bases_of c))
    ≡ (list_all has_base_types (map base_of c.permitted_subtrees.items) && list_all has_base_types (map base_of c.excluded_subtrees.items))
types_of_both c = list_all-append has_base_types (bases_of c).permitted (bases_of c).excluded

pub types_of_lists : (c : NameConstraints) → has_subtree_types (Some (bases_of c)) ≡ true
    → (list_all has_base_types (map base_of c.permitted_subtrees.items) ≡ true) × (list_all has_base_types (map base_of c.excluded_subtrees.items) ≡ true)
types_of_lists c h = and_true _ _ (sym (types_of_both c) ∙ h)

pub types_of_each : (list : List GeneralSubtree) → list_all has_base_types (map base_of list) ≡ true → list_all (λ s. has_base_types (base_of s)) list ≡ true
types_of_each list h = sym (list_all-map has_base_types base_of list) ∙ h

pub have_types : (list : List GeneralSubtree) → list_all (λ s. has_base_types (base_of s)) list ≡ list_all has_base_types (map base_of list)
have_types list = sym (list_all-map has_base_types base_of list)

pub ruleset types = (types_of_both, have_types)

pub ruleset parts = (texts_of_lists, types_of_lists)
