-- The attributes of a request that was written without others, and the extensions that are found in them.
use Rattle.std.specs.Prelude.{◌≡◌, ℕ, Bool, true, false, ◌==◌, cond, ◌<◌, List, [], ◌∷◌, length, map, Option, Some, None, Ok, find, refl}
use Rattle.std.specs.List.{swap}
use Rattle.std.specs.List.Sorted.{IsPermutation, SwapsInRange, apply_swaps}
use Rattle.std.proofs.Common.{ap, arith, subst, sym, ◌∙◌}
use Rattle.std.proofs.lemmas.Bool.{eqb-true}
use Rattle.std.proofs.lemmas.List.{nil_from_length}
use Rattle.asn1_core.specs.Binds.{some_is}
use Rattle.asn1_core.specs.declared.tag.Tag.{Tag}
use Rattle.der_tree.specs.Codec.{Codec}
use Rattle.der_tree.specs.Form.{IsDerOf}
use Rattle.der_tree.specs.Grammar.{sequence_of}
use Rattle.der_tree.specs.Sequence.{node_of}
use Rattle.der_tree.specs.SequenceOf.{each_put, is_within, list_put}
use Rattle.der_tree.specs.Tree.{PlainTree, node, row}
use Rattle.der_tree.specs.declared.error.EncodeError.TheVariants.{SizeOutOfRange}
use Rattle.der_tree.specs.laws.Results.{ok_kept, ok_then_is, ok_then_ok}
use Rattle.pkix_cert.specs.Extensions.{extension, extensions}
use Rattle.pkix_cert.specs.declared.extension.Extension.{Extension}
use Rattle.pkix_cert.specs.declared.extension.Extensions.{Extensions}
use Rattle.pkix_name.specs.declared.name.Attribute.{Attribute}
use Rattle.rcgen_certificate.specs.ExtensionRows.{ExtensionRow, IsField, row_of_extension}
use Rattle.rcgen_certificate.specs.Requests.{AreAsked, AreAttributes, IsExtensionRequest, id_extension_request}
use Rattle.rcgen_read.specs.ReceivedRequests.{extensions_of, is_extension_request, requested_extensions}
use Rattle.der_tree.proofs.FormLaws.{value_again}

-- ---- a permutation of one item, and of none

none_moved : {X : Type 0} (ms : List (ℕ × ℕ)) → SwapsInRange 0 ms → apply_swaps {X = X} [] ms ≡ []
none_moved [] h = refl
none_moved (m ∷ ms) h = absurd (omega (arith, h.0))

first_is_zero : (n : ℕ) → n < 1 → n ≡ 0
first_is_zero n l = omega arith

one_moved : {X : Type 0} (x : X) (ms : List (ℕ × ℕ)) → SwapsInRange 1 ms → apply_swaps (x ∷ []) ms ≡ x ∷ []
one_moved x [] h = refl
one_moved {X} x (m ∷ ms) h =
    ap (λ (ys : List X). swap ys m.0 m.1) (one_moved x ms h.2)
    ∙ ap (λ (i : ℕ). swap (x ∷ []) i m.1) (first_is_zero m.0 h.0) ∙ ap (λ (j : ℕ). swap (x ∷ []) 0 j) (first_is_zero m.1 h.1)

-- ---- the value of extensionRequest

any_number : (n : ℕ) → is_within 0 None n ≡ true
any_number n = grind arith

unbounded : {A : Type 0} (g : Tag) (c : Codec A) (vs : List A) (t : PlainTree) → node_of g (list_put c 1 None vs) ≡ Ok t
    → node_of g (list_put c 0 None vs) ≡ Ok t
unbounded g c vs t e =
    let x = ok_then_ok (list_put c 1 None vs) (λ ts. Ok (node g (row ts))) t e in
    let k = ok_kept (is_within 1 None (length vs)) (each_put c vs) x.0 SizeOutOfRange x.1 in
    ok_then_is (list_put c 0 None vs) (λ ts. Ok (node g (row ts))) x.0 (Ok t) (rw (any_number (length vs)) k.1) x.2

any_list : (asked : Extensions) (b : List ℕ) → IsDerOf extensions asked b → IsDerOf (sequence_of extension 0 None refl) asked.0 b
any_list asked b f = (f.0, f.1, unbounded _ extension asked.0 f.0 f.2, f.3, f.4)

values_found : (asked : Extensions) (a : Attribute) (h : IsExtensionRequest asked a) (vs : List (List ℕ)) → vs ≡ h.value ∷ [] → extensions_of vs ≡ Some asked.0
values_found asked a h vs e =
    ap extensions_of e ∙ value_again (sequence_of extension 0 None refl) h.value asked.0 (any_list asked h.value h.form)

found_by : (a : Attribute) (arcs : List ℕ) → a.attr_type ≡ arcs → arcs ≡ id_extension_request → find is_extension_request (a ∷ []) ≡ Some a
found_by a arcs e h = let k : a.attr_type ≡ id_extension_request = e ∙ h in rw k refl

found : (asked : Extensions) (a : Attribute) → IsExtensionRequest asked a → requested_extensions (a ∷ []) ≡ Some asked.0
unfolding requested_extensions
found asked a h = rw (found_by a a.attr_type refl h.attr_type) (values_found asked a h a.values h.values)

nothing_found : requested_extensions [] ≡ Some []
unfolding requested_extensions
nothing_found = refl

-- ---- the rows that are asked for

-- the extensions that are found are those of the rows
pub record AreFound (attributes : List Attribute) (rows : List ExtensionRow) : Type 0 where
  pub list : List Extension
  pub are_found : requested_extensions attributes ≡ Some list
  pub rows_are : map row_of_extension list ≡ rows

pub no_rows : (rows : List ExtensionRow) (empty : Bool) → (length rows == 0) ≡ empty → None ≡ cond empty None (Some rows) → [] ≡ rows
no_rows rows true e h = sym (nil_from_length rows (eqb-true (length rows) 0 e))
no_rows rows false e h = absurd cc

pub some_rows : (rows xs : List ExtensionRow) (empty : Bool) → Some xs ≡ cond empty None (Some rows) → xs ≡ rows
some_rows rows xs true h = absurd cc
some_rows rows xs false h = some_is xs rows h

-- whatever is exchanged, it becomes ys
abbrev Stays : List Attribute → List Attribute → Type 0
Stays ys xs = (ms : List (ℕ × ℕ)) → SwapsInRange (length xs) ms → apply_swaps xs ms ≡ ys

by_field : (attributes asked : List Attribute) (rows : List ExtensionRow) (field : Option Extensions) → IsField rows field → AreAsked field asked
    → IsPermutation asked attributes → AreFound attributes rows
by_field attributes asked rows None is are moved =
    let still : attributes ≡ [] = moved.is ∙ subst (Stays []) (sym are) none_moved moved.moves moved.below in
    record {
      list = [];
      are_found = ap requested_extensions still ∙ nothing_found;
      rows_are = no_rows rows (length rows == 0) refl is;
    }
by_field attributes asked rows (Some e) is are moved =
    let still : attributes ≡ are.0 ∷ [] = moved.is ∙ subst (Stays (are.0 ∷ [])) (sym are.2) (one_moved are.0) moved.moves moved.below in
    record {
      list = e.0;
      are_found = ap requested_extensions still ∙ found e are.0 are.1;
      rows_are = some_rows rows (map row_of_extension e.0) (length rows == 0) is;
    }

pub attributes_found : (attributes : List Attribute) (rows : List ExtensionRow) → AreAttributes rows [] attributes → AreFound attributes rows
attributes_found attributes rows h = by_field attributes h.asked rows h.field h.is_field h.are_asked h.each
