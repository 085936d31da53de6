-- The extensions that rows of a table are.
use Rattle.std.specs.Prelude.{◌≡◌, ℕ, Bool, true, false, List, [], ◌∷◌, ◌++◌, length, map, Option, Some, None}
use Rattle.std.specs.Prelude.{refl}
use Rattle.std.specs.List.{list_all}
use Rattle.std.specs.Option.{IfSome}
use Rattle.std.proofs.Common.{sym, ap, ◌∙◌, arith}
use Rattle.std.proofs.lemmas.Bool.{le-leb, ne_eqb}
use Rattle.std.proofs.lemmas.List.{map-append}
use Rattle.asn1_core.specs.Arcs.{is_oid}
use Rattle.asn1_core.specs.Binds.{and_true}
use Rattle.asn1_core.specs.Octets.{boolean_contents, octet_contents}
use Rattle.der_tree.specs.Codec.{Codec}
use Rattle.der_tree.specs.Default.{unless_default}
use Rattle.der_tree.specs.Tags.{universal}
use Rattle.der_tree.specs.Tree.{leaf, node, row}
use Rattle.pkix_cert.specs.Extensions.{extension, extension_fields, extensions}
use Rattle.pkix_cert.specs.declared.extension.Extension.{Extension}
use Rattle.pkix_cert.specs.declared.extension.Extensions.{Extensions}
use Rattle.rcgen_certificate.specs.CustomExtensions.{Custom, custom_row, has_custom_oid}
use Rattle.rcgen_certificate.specs.ExtensionRows.{ExtensionRow, are_named, extension_row, form_of, row_of_extension, unless_empty, IsField}
use Rattle.der_tree.specs.HasTree.{HasShortTree}
use Rattle.rcgen_certificate.proofs.ListTrees.{TreesOf, both_trees, more_trees, no_trees}
use Rattle.rcgen_certificate.proofs.RelativeNames.{contents_there}
use Rattle.rcgen_certificate.proofs.Rows.{form_of_is}
use Rattle.rcgen_certificate.proofs.Trees.{ShortTreeOf, TreeOf, form_there, has_tree_of, short_tree_if}

abbrev extension_value : List ℕ → Bool → List ℕ → Extension
extension_value oid critical b = record { extn_id = oid; critical = critical; extn_value = b }

extension_tree : (oid : List ℕ) (critical : Bool) (b : List ℕ) → is_oid oid ≡ true → TreeOf extension (extension_value oid critical b)
unfolding extension_fields unless_default boolean_contents octet_contents
extension_tree oid true b h =
    let o = contents_there oid h in
    record {
      tree = node (universal 16) (row (leaf (universal 6) o.0 ∷ leaf (universal 1) (255 ∷ []) ∷ leaf (universal 4) b ∷ []));
      is_tree = rw o.1 refl;
      tags = refl;
    }
extension_tree oid false b h =
    let o = contents_there oid h in
    record { tree = node (universal 16) (row (leaf (universal 6) o.0 ∷ leaf (universal 4) b ∷ [])); is_tree = rw o.1 refl; tags = refl }

-- those whose rows are of object identifiers have trees
pub have_trees : (es : List Extension) → are_named (map row_of_extension es) ≡ true → list_all extension.has_tree es ≡ true
have_trees [] h = refl
have_trees (e ∷ es) h =
    let hs = and_true (is_oid e.extn_id) (are_named (map row_of_extension es)) h in
    rw (has_tree_of extension e (extension_tree e.extn_id e.critical e.extn_value hs.0), have_trees es hs.1) refl

pub ruleset formed = (have_trees)

-- ---- rows

-- an extension for each row
pub record HasRows (rows : List ExtensionRow) : Type 0 where
  pub list : List Extension
  pub are_rows : map row_of_extension list ≡ rows
  pub trees : TreesOf extension list

no_rows : HasRows []
no_rows = record { list = []; are_rows = refl; trees = no_trees extension }

-- some rows after others
pub rows_then : {a b : List ExtensionRow} → HasRows a → HasRows b → HasRows (a ++ b)
rows_then {a} {b} r s = record {
  list = r.list ++ s.list;
  are_rows = map-append row_of_extension r.list s.list ∙ ap (λ (l : List ExtensionRow). l ++ map row_of_extension s.list) r.are_rows
      ∙ ap (λ (l : List ExtensionRow). a ++ l) s.are_rows;
  trees = both_trees extension r.list s.list r.trees s.trees;
}

abbrev one_row : List ℕ → Bool → Option (List ℕ) → List ExtensionRow
one_row oid critical contents = record { oid = oid; critical = critical; contents = contents } ∷ []

row_there : (oid : List ℕ) (critical : Bool) (b : List ℕ) (contents : Option (List ℕ)) → is_oid oid ≡ true → contents ≡ Some b
    → HasRows (one_row oid critical contents)
row_there oid critical b contents h e = record {
  list = extension_value oid critical b ∷ [];
  are_rows = ap (λ (o : Option (List ℕ)). one_row oid critical o) (sym e);
  trees = more_trees extension (extension_value oid critical b) [] (extension_tree oid critical b h) (no_trees extension);
}

-- the row of a value, where there is one
pub row_of_value : {A : Type 0} (oid : List ℕ) (critical : Bool) (c : Codec A) (value : Option A) → is_oid oid ≡ true
    → IfSome value (ShortTreeOf c) → HasRows (extension_row oid critical c value)
row_of_value oid critical c None a h = no_rows
row_of_value oid critical c (Some v) a h =
    let f = form_there c v h in
    row_there oid critical f.0 (form_of c v) a (form_of_is c v f.0 f.1)

-- that of a value that has a tree, and a short one
pub tree_row : {A : Type 0} (oid : List ℕ) (critical : Bool) (c : Codec A) (value : Option A) → is_oid oid ≡ true → IfSome value (TreeOf c)
    → IfSome value (HasShortTree c) → HasRows (extension_row oid critical c value)
tree_row oid critical c value a h s = row_of_value oid critical c value a (short_tree_if c value h s)

-- the rows of the extensions that are given
pub customs_there : (cs : List Custom) → list_all has_custom_oid cs ≡ true → HasRows (map custom_row cs)
customs_there [] h = no_rows
customs_there (c ∷ cs) h =
    let hs = and_true (has_custom_oid c) (list_all has_custom_oid cs) h in
    rows_then (row_there c.oid c.critical c.content (Some c.content) hs.0 refl) (customs_there cs hs.1)

-- ---- their field

-- the field, where there are some
pub record HasField (rows : List ExtensionRow) : Type 0 where
  pub field : Option Extensions
  pub is_field : IsField rows field
  pub tree : IfSome field (TreeOf extensions)

extensions_tree : (e : Extension) (es : List Extension) → TreesOf extension (e ∷ es) → TreeOf extensions (record { 0 = e ∷ es })
extensions_tree e es h = record {
  tree = node (universal 16) (row h.trees);
  is_tree = rw (le-leb 1 (length (e ∷ es)) (omega arith), h.are_trees) refl;
  tags = h.tags;
}

some_rows : (r : ExtensionRow) (rs : List ExtensionRow) → Some (r ∷ rs) ≡ unless_empty (r ∷ rs)
some_rows r rs = rw (ne_eqb (length (r ∷ rs)) 0 (λ e. omega arith)) refl

field_of : (es : List Extension) (rows : List ExtensionRow) → map row_of_extension es ≡ rows → TreesOf extension es → HasField rows
field_of [] rows e h = record { field = None; is_field = ap unless_empty e; tree = tt }
field_of (x ∷ es) rows e h = record {
  field = Some (record { 0 = x ∷ es });
  is_field = some_rows (row_of_extension x) (map row_of_extension es) ∙ ap unless_empty e;
  tree = extensions_tree x es h;
}

pub field_there : (rows : List ExtensionRow) → HasRows rows → HasField rows
field_there rows h = field_of h.list rows h.are_rows h.trees
