-- The trees of values, and the forms of those that are short.
use Rattle.std.specs.Prelude.{◌≡◌, ℕ, ◌^◌, ◌<◌, true, false, nat_lt, List, ◌∷◌, ◌++◌, length, Option, Some, None}
use Rattle.std.specs.Prelude.{Ok, is_ok, refl}
use Rattle.std.specs.Option.{IfSome}
use Rattle.std.proofs.Common.{ap, ◌∙◌, arith}
use Rattle.std.proofs.lemmas.List.{length-append}
use Rattle.asn1_core.specs.declared.tag.Tag.{Tag}
use Rattle.der_tree.specs.Codec.{Codec}
use Rattle.der_tree.specs.Element.{element_octets}
use Rattle.der_tree.specs.Form.{IsDerOf}
use Rattle.der_tree.specs.HasTree.{HasShortTree, HasTree}
use Rattle.der_tree.specs.Tags.{universal}
use Rattle.der_tree.specs.Tree.{PlainTree, PlainTrees, leaf, more, node, row}
use Rattle.der_tree.specs.TreeBytes.{bytes, made, row_bytes}
use Rattle.der_tree.proofs.ShortTrees.{contents_within, element_there, row_tags_fit, tags_fit}
use Rattle.rcgen_sign.proofs.ElementCounts.{element_octets_count}
use Rattle.rcgen_certificate.specs.Signed.{HaveForms}

-- a value's tree
pub record TreeOf {A : Type 0} (c : Codec A) (v : A) : Type 0 where
  pub tree : PlainTree
  pub is_tree : c.tree_of v ≡ Ok tree
  pub tags : tags_fit tree ≡ true

pub has_tree_of : {A : Type 0} (c : Codec A) (v : A) → TreeOf c v → HasTree c v
has_tree_of c v h = c.has_tree_is v ∙ ap is_ok h.is_tree

pub has_tree_if : {A : Type 0} (c : Codec A) (o : Option A) → IfSome o (TreeOf c) → IfSome o (HasTree c)
has_tree_if c None h = tt
has_tree_if c (Some v) h = has_tree_of c v h

-- a value's tree of fewer than 2^64 bytes
pub record ShortTreeOf {A : Type 0} (c : Codec A) (v : A) : Type 0 where
  pub of_value : TreeOf c v
  pub short : length (bytes of_value.tree) < 2 ^ 64

pub short_tree : {A : Type 0} (c : Codec A) (v : A) → TreeOf c v → HasShortTree c v → ShortTreeOf c v
short_tree c v h s = record { of_value = h; short = s h.tree h.is_tree }

pub of_short_if : {A : Type 0} (c : Codec A) (o : Option A) → IfSome o (ShortTreeOf c) → IfSome o (TreeOf c)
of_short_if c None h = tt
of_short_if c (Some v) h = h.of_value

pub short_tree_if : {A : Type 0} (c : Codec A) (o : Option A) → IfSome o (TreeOf c) → IfSome o (HasShortTree c) → IfSome o (ShortTreeOf c)
short_tree_if c None h s = tt
short_tree_if c (Some v) h s = short_tree c v h s

-- of a leaf with few octets
pub short_leaf : {A : Type 0} (c : Codec A) (v : A) (g : Tag) (b : List ℕ) → c.tree_of v ≡ Ok (leaf g b) → nat_lt g.number (2 ^ 32) ≡ true
    → length b < 100 → ShortTreeOf c v
short_leaf c v g b e h l = record {
  of_value = record { tree = leaf g b; is_tree = e; tags = h };
  short = omega (arith, element_octets_count (made g false b));
}

pub form_there : {A : Type 0} (c : Codec A) (v : A) → ShortTreeOf c v → (b : List ℕ) × IsDerOf c v b
form_there c v h =
    let t = h.of_value in
    let x = element_there t.tree (c.sound v t.tree t.is_tree) t.tags h.short in
    (element_octets x.0, (t.tree, x.0, t.is_tree, x.1, refl))

-- ---- a whole and the part of it that is signed

-- the first part isn't longer
first_short : (g : Tag) (t : PlainTree) (k : PlainTrees) → length (bytes (node g (more t k))) < 2 ^ 64 → length (bytes t) < 2 ^ 64
first_short g t k l = omega (arith, contents_within (made g true (bytes t ++ row_bytes k)), length-append (bytes t) (row_bytes k))

-- the whole's tree, and the forms where it is short
pub record HasWhole {A B : Type 0} (c : Codec A) (whole : A) (d : Codec B) (part : B) : Type 0 where
  pub has_tree : HasTree c whole
  pub forms : HasShortTree c whole → HaveForms c whole d part

pub whole_there : {A B : Type 0} (c : Codec A) (whole : A) (d : Codec B) (part : B) (h : TreeOf d part) (others : List PlainTree)
    → c.tree_of whole ≡ Ok (node (universal 16) (row (h.tree ∷ others))) → row_tags_fit (row others) ≡ true → HasWhole c whole d part
whole_there c whole d part h others e f =
    let tree : TreeOf c whole = record { tree = node (universal 16) (row (h.tree ∷ others)); is_tree = e; tags = rw (h.tags, f) refl } in
    record {
      has_tree = has_tree_of c whole tree;
      forms = λ s.
          let l = s tree.tree e in
          let one = form_there c whole (record { of_value = tree; short = l }) in
          let front = form_there d part (record { of_value = h; short = first_short (universal 16) h.tree (row others) l }) in
          record { der = one.0; form = one.1; message = front.0; message_form = front.1 };
    }
