-- SET OF (X.690, 8.12 and 11.6): values of one type, whose elements are in the order of their octets.
use Rattle.std.specs.Prelude.{Bool, Err, List, None, Ok, Option, Result, Some, cond, false, is_some, length, map, not, replicate, true, ℕ, [], ◌&&◌, ◌++◌}
use Rattle.std.specs.Prelude.{◌+◌, ◌-◌, ◌∷◌}
use Rattle.std.specs.Cmp.Lexicographic.{slice_cmp}
use Rattle.std.specs.List.{list_all}
use Rattle.std.specs.Ordering.{is_gt, nat_cmp}
use Rattle.std.specs.declared.cmp.Ordering.{Ordering}
use Rattle.asn1_core.specs.Binds.{◌>>=◌}
use Rattle.asn1_core.specs.Tags.{universal}
use Rattle.der_tree.specs.declared.error.EncodeError.{EncodeError}
use Rattle.der_tree.specs.declared.error.EncodeError.TheVariants.{SizeOutOfRange}
use Rattle.der_tree.specs.Codec.{Codec, with_fields}
use Rattle.der_tree.specs.Element.{Element, element_octets}
use Rattle.der_tree.specs.Results.{ok_then}
use Rattle.der_tree.specs.Sequence.{children, ended, node_of}
use Rattle.der_tree.specs.SequenceOf.{is_within, list_get, list_put}
use Rattle.der_tree.specs.Tree.{PlainTree}
use Rattle.der_tree.specs.TreeElement.{element_of, elements_of}

-- the octets are not greater than the first of those after them
abbrev pub may_precede : List ℕ → List (List ℕ) → Bool
may_precede x [] = true
may_precede x (y ∷ ys) = not (is_gt (slice_cmp nat_cmp x y))

-- ascending, with equal ones allowed; the zero octets that 11.6 puts after the shorter are left out, since they
-- change nothing (`padded_cmp`)
abbrev pub is_ascending : List (List ℕ) → Bool
is_ascending [] = true
is_ascending (x ∷ xs) = may_precede x xs && is_ascending xs

-- elements in the order of a SET OF
abbrev pub in_order : List Element → Bool
in_order ss = is_ascending (map element_octets ss)

-- whether there are elements, in order
abbrev pub ascend : Option (List Element) → Bool
ascend None = false
ascend (Some ss) = in_order ss

-- trees that are elements in order
abbrev pub kept_order : List PlainTree → Result (List PlainTree) EncodeError
kept_order ts = cond (ascend (elements_of ts)) (Ok ts) (Err SizeOutOfRange)

module _ {A : Type 0} (c : Codec A) (low : ℕ) (high : Option ℕ) where
  abbrev pub set_put : List A → Result (List PlainTree) EncodeError
  set_put vs = ok_then (list_put c low high vs) kept_order

  abbrev pub set_get : List Element → Option (List A × List Element)
  set_get ss = cond (in_order ss) (list_get c low high ss) None

-- the element that a tree is, where there is one
abbrev pub element_if : Result PlainTree EncodeError → Option Element
element_if (Ok t) = element_of t
element_if (Err e) = None

abbrev pub octets_in : Option Element → List ℕ
octets_in None = []
octets_in (Some s) = element_octets s

module _ {A : Type 0} (c : Codec A) where
  abbrev pub has_form : A → Bool
  has_form v = is_some (element_if (c.tree_of v))

  -- the octets of a value that has a form
  abbrev pub octets_of_form : A → List ℕ
  octets_of_form v = octets_in (element_if (c.tree_of v))

  -- each value has a form, and the forms ascend
  unfoldable pub is_set : List A → Bool
  is_set vs = list_all has_form vs && is_ascending (map octets_of_form vs)

-- the elements that trees are, where each is one
abbrev pub row_if : Result (List PlainTree) EncodeError → Option (List Element)
row_if (Ok ts) = elements_of ts
row_if (Err e) = None

module _ {A : Type 0} (c : Codec A) where
  abbrev pub set_has_trees : ℕ → Option ℕ → List A → Bool
  set_has_trees low high vs = is_within low high (length vs) && is_set c vs

-- all that is left, as a set of values of one type, so many
unfoldable pub next_set : {A : Type 0} → Codec A → ℕ → Option ℕ → List Element → Option (List A × List Element)
next_set c low high ss = set_get c low high ss

-- x after each item whose octets are not greater, before those whose octets are
abbrev pub inserted_by : {A : Type 0} → (A → List ℕ) → List A → A → List A
inserted_by octets [] x = x ∷ []
inserted_by octets (y ∷ ys) x = cond (is_gt (slice_cmp nat_cmp (octets y) (octets x))) (x ∷ y ∷ ys) (y ∷ inserted_by octets ys x)

-- where one more item of these octets goes
abbrev pub place_of : {A : Type 0} → (A → List ℕ) → List ℕ → List A → ℕ
place_of octets b [] = 0
place_of octets b (y ∷ ys) = cond (is_gt (slice_cmp nat_cmp (octets y) b)) 0 (place_of octets b ys + 1)

module _ {A : Type 0} (c : Codec A) where
  unfoldable pub inserted : List A → A → List A
  inserted vs v = inserted_by (octets_of_form c) vs v

module _ {A : Type 0} (c : Codec A) (low : ℕ) (high : Option ℕ) where
  abbrev pub set_tree_of : List A → Result PlainTree EncodeError
  set_tree_of vs = node_of (universal 17) (set_put c low high vs)

  abbrev pub set_read_of : Element → Option (List A)
  set_read_of s = children (universal 17) s >>= λ ss. with_fields ended (next_set c low high ss)

-- the order of X.690, 11.6, in its own words: the shorter octet string has zero octets after it
abbrev pub padded : List ℕ → List ℕ → List ℕ
padded xs ys = xs ++ replicate (length ys - length xs) 0

abbrev pub padded_cmp : List ℕ → List ℕ → Ordering
padded_cmp xs ys = slice_cmp nat_cmp (padded xs ys) (padded ys xs)
