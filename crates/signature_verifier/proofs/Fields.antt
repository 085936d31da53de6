-- A SEQUENCE of two required fields, read as a pair of elements.
use Rattle.std.specs.Prelude.{◌≡◌, ℕ, true, ◌&&◌, List, [], ◌∷◌, Option, Some, None, refl}
use Rattle.std.proofs.Common.{subst}
use Rattle.asn1_core.specs.Binds.{◌>>=◌, and_true, bind_some, kept, some_is}
use Rattle.der_tree.specs.Codec.{with_fields}
use Rattle.der_tree.specs.Element.{Element, all_encodable, is_encodable, one_element, split}
use Rattle.der_tree.specs.Fields.{next_required}
use Rattle.der_tree.specs.Sequence.{at_end, children, ended}
use Rattle.der_tree.specs.Tags.{same_tag, universal}
use Rattle.der_tree.specs.laws.Element.{split_takes}
use Rattle.signature_verifier.specs.Pairs.{pair_in, two}

module _ {A B C : Type 0} (read_first : Element → Option A) (read_second : Element → Option B) (make : A → B → C) where
  -- the second field after the first, and nothing after it
  abbrev second : A → List Element → Option C
  second a mid = with_fields (λ b rest. ended (make a b) rest) (next_required read_second mid)

  -- both fields, and nothing after them
  abbrev pub both : List Element → Option C
  both ss = with_fields second (next_required read_first ss)

  -- what the two elements show
  abbrev pub shown_by : Element × Element → Option C
  shown_by p = read_first p.0 >>= λ a. read_second p.1 >>= λ b. Some (make a b)

  alone : (o : Option A) → with_fields second (o >>= λ v. Some (v, [])) ≡ None
  unfolding next_required
  alone None = refl
  alone (Some a) = refl

  last : (a : A) (p : Option B) → with_fields (λ b rest. ended (make a b) rest) (p >>= λ v. Some (v, [])) ≡ (p >>= λ b. Some (make a b))
  unfolding at_end
  last a None = refl
  last a (Some b) = refl

  pair : (t : Element) (o : Option A) → with_fields second (o >>= λ v. Some (v, t ∷ [])) ≡ (o >>= λ a. read_second t >>= λ b. Some (make a b))
  unfolding next_required
  pair t None = refl
  pair t (Some a) = last a (read_second t)

  more_left : (a : A) (u : Element) (ss : List Element) (p : Option B)
      → with_fields (λ b rest. ended (make a b) rest) (p >>= λ v. Some (v, u ∷ ss)) ≡ None
  unfolding at_end
  more_left a u ss None = refl
  more_left a u ss (Some b) = refl

  more : (t u : Element) (ss : List Element) (o : Option A) → with_fields second (o >>= λ v. Some (v, t ∷ u ∷ ss)) ≡ None
  unfolding next_required
  more t u ss None = refl
  more t u ss (Some a) = more_left a u ss (read_second t)

  both_are : (ss : List Element) → both ss ≡ (two ss >>= shown_by)
  unfolding next_required
  both_are [] = refl
  both_are (s ∷ []) = alone (read_first s)
  both_are (s ∷ t ∷ []) = pair t (read_first s)
  both_are (s ∷ t ∷ u ∷ ss) = more t u ss (read_first s)

  within : (o : Option (List Element)) → (o >>= both) ≡ ((o >>= two) >>= shown_by)
  within None = refl
  within (Some ss) = both_are ss

  of_element : (o : Option Element) → (o >>= λ s. children (universal 16) s >>= both) ≡ ((o >>= λ s. children (universal 16) s >>= two) >>= shown_by)
  of_element None = refl
  of_element (Some s) = within (children (universal 16) s)

  pub pair_shows : (octets : List ℕ) → (one_element octets >>= λ s. children (universal 16) s >>= both) ≡ (pair_in octets >>= shown_by)
  unfolding pair_in
  pair_shows octets = of_element (one_element octets)

-- ---- the first of two elements has octets

first_encodable : (ss : List Element) (p : Element × Element) → two ss ≡ Some p → all_encodable ss ≡ true → is_encodable p.0 ≡ true
first_encodable [] p e h = absurd cc
first_encodable (s ∷ []) p e h = absurd cc
first_encodable (s ∷ t ∷ []) p e h =
    subst (λ (x : Element × Element). is_encodable x.0 ≡ true) (some_is (s, t) p e) (and_true (is_encodable s) (all_encodable (t ∷ [])) h).0
first_encodable (s ∷ t ∷ u ∷ ss) p e h = absurd cc

pub pair_encodable : (octets : List ℕ) (p : Element × Element) → pair_in octets ≡ Some p → is_encodable p.0 ≡ true
unfolding pair_in children
pair_encodable octets p e =
    let s = bind_some (one_element octets) (λ s. children (universal 16) s >>= two) p e in
    let ss = bind_some (children (universal 16) s.0) two p s.2 in
    let k = kept (same_tag s.0.tag (universal 16) && s.0.constructed) (split s.0.content) ss.0 ss.1 in
    first_encodable ss.0 p ss.2 (split_takes s.0.content ss.0 k.1).1
