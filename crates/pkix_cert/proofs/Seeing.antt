-- What a test finds, and what the definitions give.
use Rattle.std.specs.Prelude.{◌≡◌, ℕ, suc, ◌-◌, ◌<◌, ◌&&◌, Bool, true, false, cond, List, [], ◌∷◌, length, map, nat_eq, nat_le, Option, Some, None, is_some, unwrap_or, refl}
use Rattle.std.specs.Cmp.Lexicographic.{slice_cmp}
use Rattle.std.specs.Ordering.{is_gt, nat_cmp}
use Rattle.std.proofs.Common.{sym, ap, ◌∙◌, arith}
use Rattle.asn1_core.specs.Binds.{and_true, some_is, ◌>>=◌}
use Rattle.asn1_core.specs.declared.tag.Tag.{Tag}
use Rattle.der_tree.specs.Codec.{Codec, Struct, with_fields}
use Rattle.der_tree.specs.Element.{Element, element_octets}
use Rattle.der_tree.specs.Fields.{next_required}
use Rattle.der_tree.specs.Grammar.{explicitly, required}
use Rattle.der_tree.specs.Sequence.{at_end, ended, fields_read, node_read_of}
use Rattle.der_tree.specs.SequenceOf.{each_of, list_get, within}
use Rattle.der_tree.specs.SetOf.{in_order}
use Rattle.der_tree.specs.laws.Sequence.{read_then_end}
use Rattle.der_tree.proofs.SetLaws.{ascends_done, ascends_fail, ascends_from, ascends_more, ascends_none}
use Rattle.pkix_cert.specs.Shown.{past, value_in}

-- ---- a value that is there

seen_at : {A : Type 0} (o : Option A) (d : A) → is_some o ≡ true → o ≡ Some (unwrap_or o d)
seen_at None d e = absurd cc
seen_at (Some v) d e = refl

pub seen_is : {A : Type 0} (c : Codec A) (s : Element) → is_some (c.read_of s) ≡ true → c.read_of s ≡ Some (value_in c s)
unfolding value_in
seen_is c s e = seen_at (c.read_of s) c.sample.0 e

pub unseen_is : {A : Type 0} (o : Option A) → is_some o ≡ false → o ≡ None
unseen_is None e = refl
unseen_is (Some v) e = absurd cc

pub unseen : {A : Type 0} (c : Codec A) (s : Element) → is_some (c.read_of s) ≡ false → c.read_of s ≡ None
unseen c s e = unseen_is (c.read_of s) e

-- around one value
pub within_is : {A : Type 0} (g : Tag) (c : Codec A) (s : Element) → is_some (node_read_of g (required c) s) ≡ true
    → node_read_of g (required c) s ≡ Some (value_in (explicitly g c) s)
within_is g c s e = seen_is (explicitly g c) s e

pub ruleset tests = (seen_is, unseen, within_is)

-- ---- the fields of a SEQUENCE

pub kept_some : {A B : Type 0} (o : Option A) (f : A → B) → is_some (o >>= λ x. Some (f x)) ≡ is_some o
kept_some None f = refl
kept_some (Some x) f = refl

pub ended_at : {A : Type 0} (o : Option (A × List Element)) (rest : List Element) → past o ≡ Some rest
    → is_some (with_fields ended o) ≡ is_some (at_end rest)
ended_at None rest e = absurd cc
ended_at {A} (Some x) rest e =
    kept_some (at_end x.1) (λ u. x.0) ∙ ap (λ (ss : List Element). is_some (at_end ss)) (some_is x.1 rest e)

and_on : (b : Bool) → b ≡ (b && true)
and_on true = refl
and_on false = refl

and_off : (b : Bool) → false ≡ (b && false)
and_off true = refl
and_off false = refl

pub none_of_both : (a b : Bool) → a ≡ false → (a && b) ≡ false
none_of_both a b e = ap (λ (x : Bool). x && b) e

pub not_the_second : (a b : Bool) → b ≡ false → (a && b) ≡ false
not_the_second a b e = ap (λ (x : Bool). a && x) e ∙ sym (and_off a)

-- what is read of all the elements
whole_at : {B : Type 0} (b : Bool) (ss : List Element) (f : List Element → Option B) → is_some (cond b (Some ss) None >>= f) ≡ (is_some (f ss) && b)
whole_at true ss f = and_on (is_some (f ss))
whole_at false ss f = and_off (is_some (f ss))

whole_is : {B : Type 0} (o : Option (List Element)) (b : Bool) (ss : List Element) (f : List Element → Option B) → o ≡ cond b (Some ss) None
    → is_some (o >>= f) ≡ (is_some (f ss) && b)
whole_is o b ss f e = ap (λ (p : Option (List Element)). is_some (p >>= f)) e ∙ whole_at b ss f

pub node_shown : {A : Type 0} (x : Struct A) (o : Option (List Element)) (b : Bool) (ss rest : List Element) → o ≡ cond b (Some ss) None
    → past (fields_read x ss) ≡ Some rest → is_some (o >>= λ ss. x.fields.read ss ended) ≡ (is_some (at_end rest) && b)
node_shown x o b ss rest e h =
    whole_is o b ss (λ ss. x.fields.read ss ended) e
    ∙ ap (λ (d : Bool). d && b) (ap is_some (read_then_end x ss) ∙ ended_at (fields_read x ss) rest h)

pub node_hidden : {A : Type 0} (x : Struct A) (o : Option (List Element)) (b : Bool) (ss : List Element) → o ≡ cond b (Some ss) None
    → fields_read x ss ≡ None → is_some (o >>= λ ss. x.fields.read ss ended) ≡ false
node_hidden {A} x o b ss e h =
    whole_is o b ss (λ ss. x.fields.read ss ended) e
    ∙ ap (λ (d : Bool). d && b) (ap is_some (read_then_end x ss) ∙ ap (λ (p : Option (A × List Element)). is_some (with_fields ended p)) h)

pub ruleset nodes = (node_shown, node_hidden)

module _ {A : Type 0} (c : Codec A) (o : Option (List Element)) (b : Bool) (ss : List Element) (e : o ≡ cond b (Some ss) None) where
  pub within_shown : (v : A) (rest : List Element) → next_required c.read_of ss ≡ Some (v, rest)
      → is_some (o >>= λ ss. with_fields ended (next_required c.read_of ss)) ≡ (is_some (at_end rest) && b)
  within_shown v rest h =
      whole_is o b ss (λ ss. with_fields ended (next_required c.read_of ss)) e
      ∙ ap (λ (d : Bool). d && b) (ap (λ (p : Option (A × List Element)). is_some (with_fields ended p)) h ∙ kept_some (at_end rest) (λ x. v))

  pub within_hidden : next_required c.read_of ss ≡ None → is_some (o >>= λ ss. with_fields ended (next_required c.read_of ss)) ≡ false
  within_hidden h =
      whole_is o b ss (λ ss. with_fields ended (next_required c.read_of ss)) e
      ∙ ap (λ (d : Bool). d && b) (ap (λ (p : Option (A × List Element)). is_some (with_fields ended p)) h)

-- ---- the one value within

none_at : {B : Type 0} (b : Bool) (ss : List Element) (f : List Element → Option B) → f ss ≡ None → (cond b (Some ss) None >>= f) ≡ None
none_at true ss f h = h
none_at false ss f h = refl

some_at : {B : Type 0} (b : Bool) (ss : List Element) (f : List Element → Option B) (v : B) → b ≡ true → f ss ≡ Some v → (cond b (Some ss) None >>= f) ≡ Some v
some_at true ss f v t h = h
some_at false ss f v t h = absurd cc

ended_some : {A : Type 0} (p : Option (Unit {0})) (v : A) → is_some p ≡ true → (p >>= λ u. Some v) ≡ Some v
ended_some None v e = absurd cc
ended_some (Some u) v e = refl

ended_none : {A : Type 0} (p : Option (Unit {0})) (v : A) → is_some p ≡ false → (p >>= λ u. Some v) ≡ None
ended_none None v e = refl
ended_none (Some u) v e = absurd cc

module _ {A : Type 0} (c : Codec A) where
  abbrev pub only : List Element → Option A
  only ss = with_fields ended (next_required c.read_of ss)

  required_is : (s : Element) (rest : List Element) (v : A) → c.read_of s ≡ Some v → next_required c.read_of (s ∷ rest) ≡ Some (v, rest)
  unfolding next_required
  required_is s rest v e = ap (λ (p : Option A). p >>= λ v. Some (v, rest)) e

  required_none : (s : Element) (rest : List Element) → c.read_of s ≡ None → next_required c.read_of (s ∷ rest) ≡ None
  unfolding next_required
  required_none s rest e = ap (λ (p : Option A). p >>= λ v. Some (v, rest)) e

  nothing_required : next_required c.read_of [] ≡ None
  unfolding next_required
  nothing_required = refl

  unended_at : (b : Bool) (ss rest : List Element) (v : A) → only ss ≡ ended v rest → (is_some (at_end rest) && b) ≡ false → (cond b (Some ss) None >>= only) ≡ None
  unended_at true ss rest v h t = h ∙ ended_none (at_end rest) v (and_on (is_some (at_end rest)) ∙ t)
  unended_at false ss rest v h t = refl

  module _ (o : Option (List Element)) (b : Bool) (ss : List Element) (e : o ≡ cond b (Some ss) None) where
    pub only_none : ss ≡ [] → None ≡ (o >>= only)
    only_none h = sym (ap (λ (p : Option (List Element)). p >>= only) e ∙ none_at b ss only (ap only h ∙ ap (with_fields ended) nothing_required))

    pub only_unread : (s : Element) (rest : List Element) → ss ≡ s ∷ rest → c.read_of s ≡ None → None ≡ (o >>= only)
    only_unread s rest h r =
        sym (ap (λ (p : Option (List Element)). p >>= only) e ∙ none_at b ss only (ap only h ∙ ap (with_fields ended) (required_none s rest r)))

    pub only_more : (s : Element) (rest : List Element) (v : A) (d : Bool) → ss ≡ s ∷ rest → c.read_of s ≡ Some v → d ≡ b
        → (is_some (at_end rest) && d) ≡ false → None ≡ (o >>= only)
    only_more s rest v d h r k t =
        sym (ap (λ (p : Option (List Element)). p >>= only) e
        ∙ unended_at b ss rest v (ap only h ∙ ap (with_fields ended) (required_is s rest v r)) (ap (λ (x : Bool). is_some (at_end rest) && x) (sym k) ∙ t))

    pub only_read : (s : Element) (rest : List Element) (v : A) (d : Bool) → ss ≡ s ∷ rest → c.read_of s ≡ Some v → d ≡ b
        → (is_some (at_end rest) && d) ≡ true → Some v ≡ (o >>= only)
    only_read s rest v d h r k t =
        let p = and_true (is_some (at_end rest)) d t in
        sym (ap (λ (p : Option (List Element)). p >>= only) e
        ∙ some_at b ss only v (sym k ∙ p.1) (ap only h ∙ ap (with_fields ended) (required_is s rest v r) ∙ ended_some (at_end rest) v p.0))

pub ruleset explicits = (within_shown, within_hidden)

-- ---- lists

module _ {A : Type 0} (c : Codec A) where
  -- so many, where there are any
  abbrev listed : ℕ → Option (List A) → Option (List A × List Element)
  listed low o = o >>= λ vs. within c low None vs >>= λ vs. Some (vs, [])

  less_one : (low n : ℕ) → nat_le (low - 1) n ≡ nat_le low (suc n)
  less_one low n = grind arith

  within_more : (low : ℕ) (v : A) (vs : List A) (b d : Bool) → b ≡ d
      → is_some (cond b (Some vs) None >>= λ vs. let x : List A × List Element = (vs, []) in Some x)
      ≡ is_some (cond d (Some (v ∷ vs)) None >>= λ vs. let x : List A × List Element = (vs, []) in Some x)
  within_more low v vs true d e = rw (sym e) refl
  within_more low v vs false d e = rw (sym e) refl

  more_at : (low : ℕ) (v : A) (o : Option (List A)) → is_some (listed (low - 1) o) ≡ is_some (listed low (o >>= λ vs. Some (v ∷ vs)))
  more_at low v None = refl
  more_at low v (Some vs) = within_more low v vs (nat_le (low - 1) (length vs)) (nat_le low (suc (length vs))) (less_one low (length vs))

  pub list_more : (low : ℕ) (s : Element) (all rest : List Element) → all ≡ s ∷ rest → is_some (c.read_of s) ≡ true
      → is_some (list_get c (low - 1) None rest) ≡ is_some (list_get c low None all)
  list_more low s all rest h e =
      more_at low (value_in c s) (each_of c rest)
      ∙ sym (ap (λ (x : List Element). is_some (list_get c low None x)) h
      ∙ ap (λ (o : Option A). is_some (listed low (o >>= λ v. each_of c rest >>= λ vs. Some (v ∷ vs)))) (seen_is c s e))

  pub list_fail : (low : ℕ) (s : Element) (all rest : List Element) → all ≡ s ∷ rest → is_some (c.read_of s) ≡ false
      → is_some (list_get c low None all) ≡ false
  list_fail low s all rest h e =
      ap (λ (x : List Element). is_some (list_get c low None x)) h
      ∙ ap (λ (o : Option A). is_some (listed low (o >>= λ v. each_of c rest >>= λ vs. Some (v ∷ vs)))) (unseen c s e)

  none_left : (low : ℕ) → is_some (listed low (Some [])) ≡ nat_eq low 0
  none_left low = grind arith

  pub list_done : (low : ℕ) (all : List Element) → all ≡ [] → is_some (list_get c low None all) ≡ nat_eq low 0
  list_done low all h = ap (λ (x : List Element). is_some (list_get c low None x)) h ∙ none_left low

  ended_list : (low : ℕ) (vs : List A) (b : Bool)
      → is_some (with_fields ended (cond b (Some vs) None >>= λ vs. let x : List A × List Element = (vs, []) in Some x))
      ≡ is_some (cond b (Some vs) None >>= λ vs. let x : List A × List Element = (vs, []) in Some x)
  unfolding at_end
  ended_list low vs true = refl
  ended_list low vs false = refl

  all_listed_at : (low : ℕ) (o : Option (List A)) → is_some (with_fields ended (listed low o)) ≡ is_some (listed low o)
  all_listed_at low None = refl
  all_listed_at low (Some vs) = ended_list low vs (nat_le low (length vs))

  pub all_listed : (low : ℕ) (ss : List Element) → is_some (with_fields ended (list_get c low None ss)) ≡ is_some (list_get c low None ss)
  all_listed low ss = all_listed_at low (each_of c ss)

module _ {A : Type 0} (c : Codec A) where
  pub list_whole : (low : ℕ) (o : Option (List Element)) (b : Bool) (ss : List Element) → o ≡ cond b (Some ss) None
      → is_some (o >>= λ ss. with_fields ended (list_get c low None ss)) ≡ (is_some (list_get c low None ss) && b)
  list_whole low o b ss e =
      whole_is o b ss (λ ss. with_fields ended (list_get c low None ss)) e ∙ ap (λ (d : Bool). d && b) (all_listed c low ss)

  set_whole_at : (t b : Bool) (low : ℕ) (ss : List Element)
      → (is_some (with_fields ended (cond t (list_get c low None ss) None)) && b) ≡ (t && (is_some (list_get c low None ss) && b))
  set_whole_at true b low ss = ap (λ (d : Bool). d && b) (all_listed c low ss)
  set_whole_at false b low ss = refl

  pub set_whole : (low : ℕ) (o : Option (List Element)) (b : Bool) (ss : List Element) → o ≡ cond b (Some ss) None
      → is_some (o >>= λ ss. with_fields ended (cond (in_order ss) (list_get c low None ss) None))
      ≡ (in_order ss && (is_some (list_get c low None ss) && b))
  set_whole low o b ss e =
      whole_is o b ss (λ ss. with_fields ended (cond (in_order ss) (list_get c low None ss) None)) e ∙ set_whole_at (in_order ss) b low ss

  pub list_enough : (low : ℕ) (all : List Element) → all ≡ [] → low ≡ 0 → is_some (list_get c low None all) ≡ true
  list_enough low all h e = list_done c low all h ∙ ap (λ (n : ℕ). nat_eq n 0) e

  pub list_short : (low : ℕ) (all : List Element) → all ≡ [] → 0 < low → is_some (list_get c low None all) ≡ false
  list_short low all h l = list_done c low all h ∙ grind arith

pub end_of_none : (ss : List Element) → ss ≡ [] → is_some (at_end ss) ≡ true
unfolding at_end
end_of_none ss e = ap (λ (x : List Element). is_some (at_end x)) e

module _ {A : Type 0} (c : Codec A) where
  -- one more element, in order after those before it
  pub set_more : (low less : ℕ) (x y : List ℕ) (s : Element) (all rest : List Element) (b d : Bool) → less ≡ low - 1 → y ≡ element_octets s → all ≡ s ∷ rest
      → is_gt (slice_cmp nat_cmp x y) ≡ false → is_some (c.read_of s) ≡ true → d ≡ b
      → (ascends_from y (map element_octets rest) && (is_some (list_get c less None rest) && d))
      ≡ (ascends_from x (map element_octets all) && (is_some (list_get c low None all) && b))
  set_more low less x y s all rest b d n o h t e k =
      let octets : map element_octets all ≡ y ∷ map element_octets rest =
      ap (λ (ss : List Element). map element_octets ss) h ∙ ap (λ (z : List ℕ). z ∷ map element_octets rest) (sym o) in
      let first = ascends_more x y (map element_octets all) (map element_octets rest) octets t in
      let listed : is_some (list_get c less None rest) ≡ is_some (list_get c low None all) =
      ap (λ (m : ℕ). is_some (list_get c m None rest)) n ∙ list_more c low s all rest h e in
      ap (λ (z : Bool). z && (is_some (list_get c less None rest) && d)) first
      ∙ ap (λ (z : Bool). ascends_from x (map element_octets all) && (z && d)) listed
      ∙ ap (λ (z : Bool). ascends_from x (map element_octets all) && (is_some (list_get c low None all) && z)) k

pub ruleset lists = (list_more, list_fail, list_done, list_enough, list_short, end_of_none, none_of_both)

pub ruleset sets = (list_more, list_fail, list_done, list_enough, list_short, end_of_none, none_of_both, not_the_second, ascends_none, ascends_more, ascends_fail, ascends_done)

pub ruleset named = (kept_some)
