-- The laws of IMPLICIT tags.
use Rattle.std.specs.Prelude.{IfSome, IsSome, None, Ok, Option, Some, false, is_ok, is_some, length, nat_lt, refl, true, unwrap_or, ◌^◌, ◌≡◌}
use Rattle.std.specs.List.{flat_map}
use Rattle.std.proofs.Common.{ap, subst, sym, ◌∙◌}
use Rattle.asn1_core.specs.Binds.{and_true, bind_is, bind_some, chosen, kept, kept_is}
use Rattle.asn1_core.specs.Tags.{universal}
use Rattle.asn1_core.specs.declared.tag.Tag.{Tag}
use Rattle.der_tree.specs.Codec.{Codec, HasTag}
use Rattle.der_tree.specs.Element.{Element, element_octets, is_encodable}
use Rattle.der_tree.specs.Tagging.{is_tagged, own_tag, shown_as, tagged_read_of, tagged_tree_of}
use Rattle.der_tree.specs.Tags.{same_tag}
use Rattle.der_tree.specs.Tree.{PlainTree, is_raw, leaf, node, raw, retagged}
use Rattle.der_tree.specs.TreeElement.{checked, element_of, raws_are_elements, row_elements}
use Rattle.der_tree.specs.laws.Codec.{each_has_tag}
use Rattle.der_tree.specs.laws.Results.{is_ok_then, ok_is, ok_then_is, ok_then_ok}
use Rattle.der_tree.specs.laws.Tags.{same_tag-self, same_tag_is}
use Rattle.der_tree.specs.laws.TreeElement.{checked_encodable, checked_some, element_is, raws-retagged}

own_is : (o : Option Tag) → is_some o ≡ true → o ≡ Some (unwrap_or o (universal 0))
own_is None e = absurd cc
own_is (Some x) e = refl

module _ {A : Type 0} (g : Tag) (c : Codec A) (may : is_tagged c ≡ true) where
  abbrev own : Tag
  own = own_tag c

  is_own : c.tag ≡ Some own
  is_own = own_is c.tag (and_true (is_some c.tag) (nat_lt (own_tag c).number (2 ^ 32)) may).0

  own_is_small : nat_lt own.number (2 ^ 32) ≡ true
  own_is_small = (and_true (is_some c.tag) (nat_lt (own_tag c).number (2 ^ 32)) may).1

  has_own_tag : (v : A) (t : PlainTree) → c.tree_of v ≡ Ok t → HasTag own t
  has_own_tag = subst (λ (o : Option Tag). IfSome o (λ g. (v : A) (t : PlainTree) → c.tree_of v ≡ Ok t → HasTag g t)) is_own c.tagged

  encodable_as : (s : Element) → is_encodable s ≡ true → is_encodable (shown_as own s) ≡ true
  encodable_as s h = let p = and_true (nat_lt s.tag.number (2 ^ 32)) (nat_lt (length s.content) (2 ^ 64)) h in rw (own_is_small, p.1) refl

  form_there : (t : PlainTree) (s : Element) → HasTag own t → s.tag ≡ g → is_encodable s ≡ true → element_of t ≡ Some (shown_as own s)
      → element_of (retagged g t) ≡ Some s
  form_there (leaf t b) s k e h f =
      let z : Element = record { tag = t; constructed = false; content = b } in
      let same = checked_some z (shown_as own s) f in
      let is : shown_as g z ≡ s = ap (shown_as g) same ∙ sym (element_is s g s.constructed s.content e refl refl) in
      ap checked is ∙ checked_encodable s h
  form_there (node t r) s k e h f =
      let x = bind_some (row_elements r) (λ ss. checked (record { tag = t; constructed = true; content = flat_map element_octets ss })) (shown_as own s)
      f in
      let z : Element = record { tag = t; constructed = true; content = flat_map element_octets x.0 } in
      let is : shown_as g z ≡ s = ap (shown_as g) (checked_some z (shown_as own s) x.2) ∙ sym (element_is s g s.constructed s.content e refl refl) in
      bind_is (row_elements r) (λ ss. checked (record { tag = g; constructed = true; content = flat_map element_octets ss })) x.0 (Some s) x.1
      (ap checked is ∙ checked_encodable s h)
  form_there (raw b) s k e h f = absurd k

  form_back_at : (s z : Element) → z.tag ≡ own → checked (shown_as g z) ≡ Some s → (s.tag ≡ g) × (checked z ≡ Some (shown_as own s))
  form_back_at s z k f =
      let same = checked_some (shown_as g z) s f in
      let h : is_encodable s ≡ true = subst (λ (w : Element). is_encodable w ≡ true) same (chosen (is_encodable (shown_as g z)) (shown_as g z) s f).0 in
      let is : z ≡ shown_as own s = element_is z own z.constructed z.content k refl refl ∙ ap (shown_as own) same in
      (ap (λ (w : Element). w.tag) (sym same), ap checked is ∙ checked_encodable (shown_as own s) (encodable_as s h))

  form_back : (t : PlainTree) (s : Element) → HasTag own t → element_of (retagged g t) ≡ Some s → (s.tag ≡ g) × (element_of t ≡ Some (shown_as own s))
  form_back (leaf t b) s k f = form_back_at s (record { tag = t; constructed = false; content = b }) k f
  form_back (node t r) s k f =
      let x = bind_some (row_elements r) (λ ss. checked (record { tag = g; constructed = true; content = flat_map element_octets ss })) s f in
      let q = form_back_at s (record { tag = t; constructed = true; content = flat_map element_octets x.0 }) k x.2 in (
        q.0,
        bind_is (row_elements r) (λ ss. checked (record { tag = t; constructed = true; content = flat_map element_octets ss })) x.0
            (Some (shown_as own s)) x.1 q.1,
      )
  form_back (raw b) s k f = absurd k

  pub tagged_takes : (s : Element) (v : A) → is_encodable s ≡ true → tagged_read_of g c s ≡ Some v
      → (t : PlainTree) × (tagged_tree_of g c v ≡ Ok t) × (element_of t ≡ Some s)
  tagged_takes s v h e =
      let k = kept (same_tag s.tag g) (c.read_of (shown_as own s)) v e in
      let r = c.takes (shown_as own s) v (encodable_as s h) k.1 in (
        retagged g r.0,
        ok_then_is (c.tree_of v) (λ t. Ok (retagged g t)) r.0 (Ok (retagged g r.0)) r.1 refl,
        form_there r.0 s (has_own_tag v r.0 r.1) (same_tag_is s.tag g k.0) h r.2,
      )

  tagged_parts : (v : A) (t : PlainTree) (s : Element) → tagged_tree_of g c v ≡ Ok t → element_of t ≡ Some s
      → (u : PlainTree) × (c.tree_of v ≡ Ok u) × (retagged g u ≡ t) × (s.tag ≡ g) × (element_of u ≡ Some (shown_as own s))
  tagged_parts v t s e f =
      let x = ok_then_ok (c.tree_of v) (λ t. Ok (retagged g t)) t e in
      let same = ok_is (retagged g x.0) t x.2 in
      let q = form_back x.0 s (has_own_tag v x.0 x.1) (ap element_of same ∙ f) in
      (x.0, x.1, same, q.0, q.1)

  pub tagged_again : (v : A) (t : PlainTree) (s : Element) → tagged_tree_of g c v ≡ Ok t → element_of t ≡ Some s → tagged_read_of g c s ≡ Some v
  tagged_again v t s e f =
      let p = tagged_parts v t s e f in
      kept_is (same_tag s.tag g) (c.read_of (shown_as own s)) v (ap (λ (w : Tag). same_tag w g) p.3 ∙ same_tag-self g)
      (c.again v p.0 (shown_as own s) p.1 p.4)

  tagged_tagged_at : (t : PlainTree) → HasTag own t → HasTag g (retagged g t)
  tagged_tagged_at (leaf t b) k = refl
  tagged_tagged_at (node t r) k = refl
  tagged_tagged_at (raw b) k = absurd k

  pub tagged_tagged : (v : A) (t : PlainTree) → tagged_tree_of g c v ≡ Ok t → HasTag g t
  tagged_tagged v t e =
      let x = ok_then_ok (c.tree_of v) (λ t. Ok (retagged g t)) t e in
      subst (λ (t : PlainTree). HasTag g t) (ok_is (retagged g x.0) t x.2) (tagged_tagged_at x.0 (has_own_tag v x.0 x.1))

  pub tagged_sample : (v : A) × (t : PlainTree) × (tagged_tree_of g c v ≡ Ok t)
  tagged_sample = let x = c.sample in (x.0, retagged g x.1, ok_then_is (c.tree_of x.0) (λ t. Ok (retagged g t)) x.1 (Ok (retagged g x.1)) x.2 refl)

  pub tagged_sound : (v : A) (t : PlainTree) → tagged_tree_of g c v ≡ Ok t → raws_are_elements t ≡ true
  tagged_sound v t e =
      let x = ok_then_ok (c.tree_of v) (λ t. Ok (retagged g t)) t e in
      subst (λ (t : PlainTree). raws_are_elements t ≡ true) (ok_is (retagged g x.0) t x.2) (raws-retagged g x.0 (c.sound v x.0 x.1))

  pub tagged_has : (v : A) → c.has_tree v ≡ is_ok (tagged_tree_of g c v)
  tagged_has v = c.has_tree_is v ∙ is_ok_then (c.tree_of v) (λ t. retagged g t)

pub not_raw_at : (g : Tag) (t : PlainTree) → HasTag g t → is_raw t ≡ false
not_raw_at g (leaf t b) k = refl
not_raw_at g (node t r) k = refl
not_raw_at g (raw b) k = absurd k

-- a tree of a type with a tag may be given another
not_raw_as : {A : Type 0} (c : Codec A) (o : Option Tag) → IsSome o → IfSome o (λ g. (v : A) (t : PlainTree) → c.tree_of v ≡ Ok t → HasTag g t)
    → (v : A) (t : PlainTree) → c.tree_of v ≡ Ok t → is_raw t ≡ false
not_raw_as c (Some g) there laws v t e = not_raw_at g t (laws v t e)
not_raw_as c None there laws v t e = absurd cc

pub not_raw : {A : Type 0} (c : Codec A) (o : Option Tag) → c.tag ≡ o → IsSome o → (v : A) (t : PlainTree) → c.tree_of v ≡ Ok t → is_raw t ≡ false
not_raw {A} c o is there = not_raw_as c o there (each_has_tag c o is)
