-- Extensions that bound what a certificate is for (RFC 5280, 4.2.1).
use Rattle.std.specs.Prelude.{ℕ, Bool, true, false, cond, List, [], ◌∷◌, ◌++◌, codes, nat_eq, Option, Some, None}
use Rattle.std.specs.Cmp.Lexicographic.{pointwise}
use Rattle.pkix_cert.specs.declared.constraint.BasicConstraints.{BasicConstraints}
use Rattle.pkix_cert.specs.declared.constraint.GeneralSubtree.{GeneralSubtree}
use Rattle.pkix_cert.specs.declared.constraint.NameConstraints.{NameConstraints}
use Rattle.shelf_explain.specs.GeneralNames.{general_name_text}
use Rattle.shelf_explain.specs.Lines.{each_below, labelled, next_line}
use Rattle.shelf_explain.specs.Numbers.{integer_text}

-- ---- basic constraints (4.2.1.9)

unfoldable pub path_length_text : Option (List ℕ) → List ℕ
path_length_text None = []
path_length_text (Some n) = labelled (codes ", path length ") (integer_text n)

unfoldable pub authority_word : Bool → List ℕ
authority_word true = codes "CA"
authority_word false = codes "no CA"

unfoldable pub basic_constraints_text : BasicConstraints → List ℕ
basic_constraints_text c = authority_word c.ca ++ path_length_text c.path_len_constraint

-- ---- name constraints (4.2.1.10)

-- nothing for the 0 that it has to be
unfoldable pub minimum_text : List ℕ → List ℕ
minimum_text n = cond (pointwise nat_eq n (0 ∷ [])) [] (labelled (codes ", minimum ") (integer_text n))

unfoldable pub maximum_text : Option (List ℕ) → List ℕ
maximum_text None = []
maximum_text (Some n) = labelled (codes ", maximum ") (integer_text n)

unfoldable pub subtree_text : GeneralSubtree → List ℕ
subtree_text s = general_name_text s.base ++ minimum_text s.minimum ++ maximum_text s.maximum

unfoldable pub subtrees_text : List ℕ → Option (List GeneralSubtree) → List ℕ
subtrees_text without None = without
subtrees_text without (Some subtrees) = each_below subtree_text subtrees

unfoldable pub name_constraints_text : NameConstraints → List ℕ
name_constraints_text c =
    labelled (codes "permitted:") (subtrees_text (codes " any") c.permitted_subtrees) ++ next_line
    ++ labelled (codes "excluded:") (subtrees_text (codes " none") c.excluded_subtrees)
