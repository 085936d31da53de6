-- The laws of SEQUENCE.
use Rattle.std.specs.Prelude.{List, None, Ok, Option, Some, is_ok, refl, true, [], ◌&&◌, ◌∷◌, ◌≡◌}
use Rattle.std.specs.List.{flat_map}
use Rattle.std.proofs.Common.{ap, subst, sym, ◌∙◌}
use Rattle.std.proofs.lemmas.List.{append-nil}
use Rattle.asn1_core.specs.Binds.{and_true, bind_is, bind_some, kept, kept_is, some_is}
use Rattle.asn1_core.specs.declared.tag.Tag.{Tag}
use Rattle.der_tree.specs.Codec.{Clear, FieldsOf, HasTag, Struct, with_fields}
use Rattle.der_tree.specs.Element.{Element, all_encodable, element_octets, is_encodable, split}
use Rattle.der_tree.specs.Sequence.{at_end, children, ended, fields_read, node_read_of, node_tree_of, nothing_left, opened_at}
use Rattle.der_tree.specs.Tags.{Tags, same_tag}
use Rattle.der_tree.specs.Tree.{PlainTree, node, row}
use Rattle.der_tree.specs.TreeElement.{checked, element_of, elements_of, raws_are_elements}
use Rattle.der_tree.specs.laws.Element.{split_again, split_takes}
use Rattle.der_tree.specs.laws.Results.{is_ok_then, ok_is, ok_then_is, ok_then_ok}
use Rattle.der_tree.specs.laws.Tags.{same_tag-self, same_tag_is}
use Rattle.der_tree.specs.laws.TreeElement.{checked_encodable, checked_some, element_is, elements_of_encodable}

nothing_left_is : (ss : List Element) → nothing_left ss ≡ true → ss ≡ []
nothing_left_is [] e = refl
nothing_left_is (s ∷ ss) e = absurd cc

nothing_clear : (tags : Tags) → Clear tags []
nothing_clear tags = tt

ended_is : {A : Type 0} (v : A) (rest : List Element) (y : A) → ended v rest ≡ Some y → (nothing_left rest ≡ true) × ◌≡◌ {A = Option A} (Some v) (Some y)
unfolding at_end
ended_is v [] y e = (refl, e)
ended_is v (s ∷ ss) y e = absurd cc

ended_nil : {A : Type 0} (v : A) → ended v [] ≡ Some v
unfolding at_end
ended_nil v = refl

module _ {A : Type 0} (g : Tag) (f : FieldsOf A) where
  node_takes_at : (s : Element) (v : A) (ss : List Element) → is_encodable s ≡ true → s.tag ≡ g → s.constructed ≡ true
      → s.content ≡ flat_map element_octets ss → all_encodable ss ≡ true → f.get ss ≡ Some (v, [])
      → (t : PlainTree) × (node_tree_of g f v ≡ Ok t) × (element_of t ≡ Some s)
  node_takes_at s v ss h e1 e2 e3 e4 e5 =
      let r = f.takes ss v [] e4 e5 in
      let same : r.1 ≡ ss = sym (append-nil r.1) ∙ sym r.4 in
      let is = element_is s g true (flat_map element_octets ss) e1 e2 e3 in (
        node g (row r.0),
        ok_then_is (f.put v) (λ ts. Ok (node g (row ts))) r.0 (Ok (node g (row r.0))) r.2 refl,
        bind_is (elements_of r.0) (λ ss. checked (record { tag = g; constructed = true; content = flat_map element_octets ss })) r.1 (Some s) r.3
            (ap (λ (w : List Element). checked (record { tag = g; constructed = true; content = flat_map element_octets w })) same ∙ ap checked (sym is)
            ∙ checked_encodable s h),
      )

  node_again_at : f.fine ≡ true → (v : A) (ts : List PlainTree) (ss : List Element) (s : Element) → f.put v ≡ Ok ts → elements_of ts ≡ Some ss
      → checked (record { tag = g; constructed = true; content = flat_map element_octets ss }) ≡ Some s → node_read_of g f s ≡ Some v
  unfolding children
  node_again_at ok v ts ss s e1 e2 e3 =
      let z : Element = record { tag = g; constructed = true; content = flat_map element_octets ss } in
      let got : f.get ss ≡ Some (v, []) = ap f.get (sym (append-nil ss)) ∙ f.again ok v ts ss [] e1 e2 (nothing_clear f.blocks) in
      subst (λ (s : Element). node_read_of g f s ≡ Some v) (checked_some z s e3)
      (bind_is (opened_at g z) (λ ss. f.read ss ended) ss (Some v)
      (kept_is (same_tag g g && true) (split (flat_map element_octets ss)) ss (rw same_tag-self refl) (split_again ss (elements_of_encodable ts ss e2)))
      (f.reads ss ended ∙ bind_is (f.get ss) (λ x. ended x.0 x.1) (v, []) (Some v) got (ended_nil v)))

  node_parts : (v : A) (t : PlainTree) (s : Element) → node_tree_of g f v ≡ Ok t → element_of t ≡ Some s
      → (ts : List PlainTree) × (ss : List Element) × (f.put v ≡ Ok ts) × (elements_of ts ≡ Some ss)
      × (checked (record { tag = g; constructed = true; content = flat_map element_octets ss }) ≡ Some s)
  node_parts v t s e h =
      let x = ok_then_ok (f.put v) (λ ts. Ok (node g (row ts))) t e in
      let y = bind_some (elements_of x.0) (λ ss. checked (record { tag = g; constructed = true; content = flat_map element_octets ss })) s
      (ap element_of (ok_is (node g (row x.0)) t x.2) ∙ h) in
      (x.0, y.0, x.1, y.1, y.2)

  pub node_again : f.fine ≡ true → (v : A) (t : PlainTree) (s : Element) → node_tree_of g f v ≡ Ok t → element_of t ≡ Some s → node_read_of g f s ≡ Some v
  node_again ok v t s e h = let p = node_parts v t s e h in node_again_at ok v p.0 p.1 s p.2 p.3 p.4

  pub node_tagged : (v : A) (t : PlainTree) → node_tree_of g f v ≡ Ok t → HasTag g t
  node_tagged v t e =
      let x = ok_then_ok (f.put v) (λ ts. Ok (node g (row ts))) t e in
      subst (λ (t : PlainTree). HasTag g t) (ok_is (node g (row x.0)) t x.2) refl

  pub node_sound : (v : A) (t : PlainTree) → node_tree_of g f v ≡ Ok t → raws_are_elements t ≡ true
  node_sound v t e =
      let x = ok_then_ok (f.put v) (λ ts. Ok (node g (row ts))) t e in
      subst (λ (t : PlainTree). raws_are_elements t ≡ true) (ok_is (node g (row x.0)) t x.2) (f.sound v x.0 x.1)

  pub node_sample : (v : A) × (t : PlainTree) × (node_tree_of g f v ≡ Ok t)
  node_sample = let x = f.sample in (x.0, node g (row x.1), ok_then_is (f.put x.0) (λ ts. Ok (node g (row ts))) x.1 (Ok (node g (row x.1))) x.2 refl)

  pub node_takes : (s : Element) (v : A) → is_encodable s ≡ true → node_read_of g f s ≡ Some v
      → (t : PlainTree) × (node_tree_of g f v ≡ Ok t) × (element_of t ≡ Some s)
  unfolding children
  node_takes s v h e =
      let x = bind_some (opened_at g s) (λ ss. f.read ss ended) v e in
      let k = kept (same_tag s.tag g && s.constructed) (split s.content) x.0 x.1 in
      let p = and_true (same_tag s.tag g) s.constructed k.0 in
      let y = bind_some (f.get x.0) (λ x. ended x.0 x.1) v (sym (f.reads x.0 ended) ∙ x.2) in
      let z = ended_is y.0.0 y.0.1 v y.2 in
      let parts = split_takes s.content x.0 k.1 in
      let nothing = nothing_left_is y.0.1 z.0 in
      let got : f.get x.0 ≡ Some (v, []) = y.1 ∙ ap (λ (w : List Element). Some (y.0.0, w)) nothing
      ∙ ap (λ (w : A). let r : A × List Element = (w, []) in Some r) (some_is y.0.0 v z.1) in
      node_takes_at s v x.0 h (same_tag_is s.tag g p.0) p.1 parts.0 parts.1 got

  pub node_has : (v : A) → f.has_trees v ≡ is_ok (node_tree_of g f v)
  node_has v = f.has_trees_is v ∙ is_ok_then (f.put v) (λ ts. node g (row ts))

kept_fields : {A B : Type 0} (k : A → List Element → Option B) (o : Option (A × List Element))
    → with_fields k o ≡ with_fields k (with_fields (λ v rest. Some (v, rest)) o)
kept_fields k None = refl
kept_fields k (Some x) = refl

pub read_then_end : {A : Type 0} (x : Struct A) (ss : List Element) → x.fields.read ss ended ≡ with_fields ended (fields_read x ss)
read_then_end {A} x ss =
    x.fields.reads ss ended ∙ kept_fields ended (x.fields.get ss)
    ∙ ap (λ (o : Option (A × List Element)). with_fields ended o) (sym (x.fields.reads ss (λ v rest. Some (v, rest))))
