-- One element, whichever.
use Rattle.std.specs.Prelude.{Bool, Err, List, Ok, Option, Result, Some, cond, is_some, ℕ}
use Rattle.der_tree.specs.declared.error.EncodeError.{EncodeError}
use Rattle.der_tree.specs.declared.error.EncodeError.TheVariants.{NotOneElement}
use Rattle.der_tree.specs.Element.{Element, element_octets, one_element}
use Rattle.der_tree.specs.Tree.{PlainTree, raw}

-- octets of exactly one element
abbrev pub is_one : List ℕ → Bool
is_one b = is_some (one_element b)

abbrev pub any_tree_of : List ℕ → Result PlainTree EncodeError
any_tree_of b = cond (is_one b) (Ok (raw b)) (Err NotOneElement)

abbrev pub any_read_of : Element → Option (List ℕ)
any_read_of s = Some (element_octets s)
