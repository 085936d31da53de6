-- A codec that is a sequence's.
use Rattle.std.specs.Prelude.{◌≡◌, [], ◌∷◌, Result}
use Rattle.std.proofs.Common.{sym, ap, subst}
use Rattle.asn1_core.specs.declared.tag.Tag.{Tag}
use Rattle.der_tree.specs.declared.error.DecodeError.{DecodeError}
use Rattle.der_tree.specs.declared.error.EncodeError.{EncodeError}
use Rattle.der_tree.specs.declared.tree.Tree.{Tree}
use Rattle.der_tree.specs.Answers.{Encodes}
use Rattle.der_tree.specs.Codec.{Codec, Struct}
use Rattle.der_tree.specs.Element.{Element}
use Rattle.der_tree.specs.Grammar.{sequence}
use Rattle.der_tree.specs.Sequence.{node_read_of, node_tree_of}
use Rattle.der_tree.specs.Tags.{has, these, universal}
use Rattle.der_tree.specs.Windows.{Decodes}

module _ {A : Type 0} (c : Codec A) (x : Struct A) (e : c ≡ sequence (universal 16) x) where
  pub starts_as : (g : Tag) → has c.starts g ≡ has (these (universal 16 ∷ [])) g
  starts_as g = ap (λ (d : Codec A). has d.starts g) e

  pub encodes_as : (r : Result Tree EncodeError) (v : A) → Encodes r (node_tree_of (universal 16) x.fields v) → Encodes r (c.tree_of v)
  encodes_as r v h = subst (λ (d : Codec A). Encodes r (d.tree_of v)) (sym e) h

  pub decodes_as : (r : Result A DecodeError) (s : Element) → Decodes r (node_read_of (universal 16) x.fields s) → Decodes r (c.read_of s)
  decodes_as r s h = subst (λ (d : Codec A). Decodes r (d.read_of s)) (sym e) h
