-- Elements at the front of octets, one at a time.
use Rattle.std.specs.Prelude.{◌≡◌, ℕ, zero, suc, ◌<◌, ◌≤◌, Bool, true, false, cond, List, [], ◌∷◌, length, drop, Option, Some, None, is_some, ◌&&◌, refl}
use Rattle.std.specs.List.{slice_get}
use Rattle.std.proofs.Common.{sym, ap, ◌∙◌, arith}
use Rattle.asn1_core.specs.Binds.{bind_some, some_is}
use Rattle.asn1_core.specs.declared.tag.Tag.{Tag}
use Rattle.der_tree.specs.Element.{Element, element_at, split}
use Rattle.der_tree.specs.Sequence.{at_end, children}
use Rattle.der_tree.specs.Tags.{same_tag}
use Rattle.der_tree.proofs.SplitLaws.{is_some_nil, is_some_step, is_some_stop, shorter, split_nil, split_step, split_stop}
use Rattle.pkix_cert.specs.Unread.{all_of, front, front_in, front_then, unread}

-- ---- one element

front_some : (k : ℕ) (octets : List ℕ) (s : Element) (rest : List ℕ) → element_at octets ≡ Some (s, rest) → front_in (suc k) octets ≡ s ∷ front_in k rest
unfolding front_in
front_some k octets s rest e = ap (front_then (front_in k)) e

front_none : (k : ℕ) (octets : List ℕ) → element_at octets ≡ None → front_in (suc k) octets ≡ []
unfolding front_in
front_none k octets e = ap (front_then (front_in k)) e

nothing_in : (k : ℕ) (octets : List ℕ) → length octets ≤ 0 → front_in k octets ≡ []
unfolding front_in
nothing_in zero octets l = refl
nothing_in (suc k) octets l =
    elim (element_at octets) as (λ o. element_at octets ≡ o → front_in (suc k) octets ≡ []) [
      | None ↦ λ e. front_none k octets e
      | Some x ↦ λ e. absurd (let m : length x.1 < length octets = shorter octets x.0 x.1 e in omega arith)
    ] refl

-- more fuel changes nothing
front_in_more : (k j : ℕ) (octets : List ℕ) → length octets ≤ k → length octets ≤ j → front_in k octets ≡ front_in j octets
front_in_more zero j octets p q = nothing_in zero octets p ∙ sym (nothing_in j octets p)
front_in_more (suc k) zero octets p q = nothing_in (suc k) octets q ∙ sym (nothing_in zero octets q)
front_in_more (suc k) (suc j) octets p q =
    elim (element_at octets) as (λ o. element_at octets ≡ o → front_in (suc k) octets ≡ front_in (suc j) octets) [
      | None ↦ λ e. front_none k octets e ∙ sym (front_none j octets e)
      | Some x ↦ λ e. let l : length x.1 < length octets = shorter octets x.0 x.1 e in
          front_some k octets x.0 x.1 e ∙ ap (λ (ss : List Element). x.0 ∷ ss) (front_in_more k j x.1 (omega arith) (omega arith)) ∙ sym (front_some j octets x.0 x.1 e)
    ] refl

front_is : (octets : List ℕ) → front octets ≡ front_in (suc (length octets)) octets
unfolding front
front_is octets = front_in_more (length octets) (suc (length octets)) octets (omega arith) (omega arith)

none_first : (octets : List ℕ) → element_at octets ≡ None → front octets ≡ []
none_first octets e = front_is octets ∙ front_none (length octets) octets e

some_first : (octets : List ℕ) (s : Element) (rest : List ℕ) → element_at octets ≡ Some (s, rest) → front octets ≡ s ∷ front rest
unfolding front
some_first octets s rest e =
    let l : length rest < length octets = shorter octets s rest e in
    front_is octets ∙ front_some (length octets) octets s rest e
    ∙ ap (λ (ss : List Element). s ∷ ss) (front_in_more (length octets) (length rest) rest (omega arith) (omega arith))

front_nil : front [] ≡ []
unfolding front
front_nil = nothing_in (length {A = ℕ} []) [] (omega arith)

pub in_front : (octets : List ℕ) (s : Element) (rest : List ℕ) → Some (s, rest) ≡ element_at octets → front octets ≡ s ∷ front rest
in_front octets s rest e = some_first octets s rest (sym e)

pub none_in_front : (octets : List ℕ) → None ≡ element_at octets → front octets ≡ []
none_in_front octets e = none_first octets (sym e)

pub still_complete : (octets : List ℕ) (s : Element) (rest : List ℕ) → Some (s, rest) ≡ element_at octets → is_some (split rest) ≡ is_some (split octets)
still_complete octets s rest e = sym (is_some_step octets s rest (sym e))

pub none_inside : (octets : List ℕ) → octets ≡ [] → front octets ≡ []
none_inside octets e = ap front e ∙ front_nil

pub ruleset firsts = (in_front, none_in_front, still_complete)

pub ruleset nothing = (none_inside)

-- ---- the end

and_off : (b : Bool) → (b && false) ≡ false
and_off true = refl
and_off false = refl

pub nothing_left : (octets : List ℕ) → length octets ≡ 0 → (is_some (at_end (front octets)) && is_some (split octets)) ≡ true
unfolding at_end
nothing_left [] l = ap (λ (ss : List Element). is_some (at_end ss) && is_some (split [])) front_nil ∙ is_some_nil [] l
nothing_left (b ∷ octets) l = absurd (omega arith)

pub something_left : (octets : List ℕ) → 0 < length octets → (is_some (at_end (front octets)) && is_some (split octets)) ≡ false
unfolding at_end
something_left octets l =
    elim (element_at octets) as (λ o. element_at octets ≡ o → (is_some (at_end (front octets)) && is_some (split octets)) ≡ false) [
      | None ↦ λ e. ap (λ (b : Bool). is_some (at_end (front octets)) && b) (is_some_stop octets l e) ∙ and_off (is_some (at_end (front octets)))
      | Some x ↦ λ e. ap (λ (ss : List Element). is_some (at_end ss) && is_some (split octets)) (some_first octets x.0 x.1 e)
    ] refl

pub ruleset ends = (nothing_left, something_left)

-- ---- octets that are elements

none_some : (ss : List Element) → None ≡ Some ss → ⊥
none_some ss e = cc

split_front_in : (k : ℕ) (octets : List ℕ) (ss : List Element) → length octets ≤ k → split octets ≡ Some ss → front octets ≡ ss
split_front_in k [] ss l e = front_nil ∙ some_is [] ss (sym split_nil ∙ e)
split_front_in zero (b ∷ octets) ss l e = absurd (omega arith)
split_front_in (suc k) (b ∷ octets) ss l e =
    elim (element_at (b ∷ octets)) as (λ o. element_at (b ∷ octets) ≡ o → front (b ∷ octets) ≡ ss) [
      | None ↦ λ h. absurd (none_some ss (sym (split_stop b octets h) ∙ e))
      | Some x ↦ λ h.
          let m : length x.1 < length (b ∷ octets) = shorter (b ∷ octets) x.0 x.1 h in
          let y = bind_some (split x.1) (λ ts. Some (x.0 ∷ ts)) ss (sym (split_step b octets x.0 x.1 h) ∙ e) in
          some_first (b ∷ octets) x.0 x.1 h ∙ ap (λ (ts : List Element). x.0 ∷ ts) (split_front_in k x.1 y.0 (omega arith) y.1) ∙ some_is (x.0 ∷ y.0) ss y.2
    ] refl

pub split_front : (octets : List ℕ) (ss : List Element) → split octets ≡ Some ss → front octets ≡ ss
split_front octets ss e = split_front_in (length octets) octets ss (omega arith) e

kept_at : (o : Option (List Element)) (ss : List Element) → ((ts : List Element) → o ≡ Some ts → ss ≡ ts) → o ≡ cond (is_some o) (Some ss) None
kept_at None ss h = refl
kept_at (Some ts) ss h = ap (λ (x : List Element). Some x) (sym (h ts refl))

pub split_is : (octets : List ℕ) → split octets ≡ all_of (unread octets)
split_is octets = kept_at (split octets) (front octets) (λ ts e. split_front octets ts e)

pub children_are : (g : Tag) (s : Element) (b : Bool) → (same_tag s.tag g && s.constructed) ≡ b → children g s ≡ cond b (all_of (unread s.content)) None
unfolding children
children_are g s b e = ap (λ (t : Bool). cond t (split s.content) None) e ∙ ap (λ (o : Option (List Element)). cond b o None) (split_is s.content)

pub ruleset nodes = (children_are)

-- ---- places

pub place_behind : (j : ℕ) (all : List Element) → slice_get (drop j all) 0 ≡ slice_get all j
place_behind zero all = refl
place_behind (suc j) [] = refl
place_behind (suc j) (s ∷ all) = place_behind j all
