-- Policies, and where more is found (RFC 5280, 4.2.1.4, 4.2.1.5, 4.2.1.11, 4.2.2).
use Rattle.std.specs.Prelude.{ℕ, cond, List, [], ◌∷◌, ◌++◌, codes, nat_eq, Option, Some, None}
use Rattle.std.specs.Cmp.Lexicographic.{pointwise}
use Rattle.der_tree.specs.CharacterStrings.{ia5_string}
use Rattle.der_tree.specs.Form.{value_of}
use Rattle.pkix_trust.specs.Notices.{user_notice}
use Rattle.pkix_trust.specs.declared.access.AccessDescription.{AccessDescription}
use Rattle.pkix_trust.specs.declared.notice.UserNotice.{UserNotice}
use Rattle.pkix_trust.specs.declared.policy.PolicyConstraints.{PolicyConstraints}
use Rattle.pkix_trust.specs.declared.policy.PolicyMapping.{PolicyMapping}
use Rattle.pkix_trust.specs.declared.policy.PolicyInformation.{PolicyInformation}
use Rattle.pkix_trust.specs.declared.policy.PolicyQualifierInfo.{PolicyQualifierInfo}
use Rattle.shelf_explain.specs.GeneralNames.{general_name_text}
use Rattle.shelf_explain.specs.Known.{identifier_text}
use Rattle.shelf_explain.specs.Lines.{each_below, labelled}
use Rattle.shelf_explain.specs.Names.{hex_value}
use Rattle.shelf_explain.specs.Notices.{notice_text}
use Rattle.shelf_explain.specs.Numbers.{integer_text}
use Rattle.shelf_explain.specs.Values.{plain_text}

unfoldable pub plain_or_hex : Option (List ℕ) → List ℕ → List ℕ
plain_or_hex (Some text) octets = plain_text text
plain_or_hex None octets = hex_value octets

-- the address of a statement of practices
unfoldable pub address_of_practices : List ℕ → List ℕ
address_of_practices octets = plain_or_hex (value_of ia5_string octets) octets

unfoldable pub other_qualifier_text : PolicyQualifierInfo → List ℕ
other_qualifier_text q = identifier_text q.id ++ codes " " ++ hex_value q.qualifier

unfoldable pub other_notice : List ℕ → List ℕ
other_notice octets = codes " " ++ hex_value octets

unfoldable pub some_notice : Option UserNotice → List ℕ → List ℕ
some_notice (Some notice) octets = notice_text notice
some_notice None octets = other_notice octets

-- a notice to the user, or else its octets
unfoldable pub notice_or_hex : List ℕ → List ℕ
notice_or_hex octets = some_notice (value_of user_notice octets) octets

unfoldable pub qualifier_text : PolicyQualifierInfo → List ℕ
qualifier_text q =
    cond (pointwise nat_eq q.id (1 ∷ 3 ∷ 6 ∷ 1 ∷ 5 ∷ 5 ∷ 7 ∷ 2 ∷ 1 ∷ [])) (labelled (codes "CPS ") (address_of_practices q.qualifier))
    (cond (pointwise nat_eq q.id (1 ∷ 3 ∷ 6 ∷ 1 ∷ 5 ∷ 5 ∷ 7 ∷ 2 ∷ 2 ∷ [])) (labelled (codes "notice") (notice_or_hex q.qualifier)) (other_qualifier_text q))

unfoldable pub qualifiers_text : Option (List PolicyQualifierInfo) → List ℕ
qualifiers_text None = []
qualifiers_text (Some qualifiers) = each_below qualifier_text qualifiers

unfoldable pub policy_text : PolicyInformation → List ℕ
policy_text p = identifier_text p.policy_identifier ++ qualifiers_text p.policy_qualifiers

-- ---- policies (4.2.1.5, 4.2.1.11)

abbrev pub required_text : List ℕ → List ℕ
required_text n = labelled (codes "explicit policy required after ") (integer_text n)

abbrev pub inhibited_text : List ℕ → List ℕ
inhibited_text n = labelled (codes "mapping inhibited after ") (integer_text n)

unfoldable pub both_text : List ℕ → List ℕ → List ℕ
both_text n m = required_text n ++ codes ", " ++ inhibited_text m

-- each that is there
unfoldable pub constraints_text : Option (List ℕ) → Option (List ℕ) → List ℕ
constraints_text None None = codes "none"
constraints_text (Some n) None = required_text n
constraints_text None (Some m) = inhibited_text m
constraints_text (Some n) (Some m) = both_text n m

unfoldable pub policy_constraints_text : PolicyConstraints → List ℕ
policy_constraints_text c = constraints_text c.require_explicit_policy c.inhibit_policy_mapping

unfoldable pub policy_mapping_text : PolicyMapping → List ℕ
policy_mapping_text m = identifier_text m.issuer_domain_policy ++ labelled (codes " -> ") (identifier_text m.subject_domain_policy)

-- ---- where more is found (4.2.2)

-- how, and where (4.2.2.1)
unfoldable pub access_text : AccessDescription → List ℕ
access_text a = identifier_text a.access_method ++ codes " " ++ general_name_text a.access_location
