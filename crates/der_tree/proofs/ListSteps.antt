-- Lists, an element at a time.
use Rattle.std.specs.Prelude.{◌≡◌, ℕ, ◌+◌, ◌<◌, ◌≤◌, List, [], ◌∷◌, ◌++◌, length, drop, Option, Some, None, Result, Ok, Err, refl}
use Rattle.std.proofs.Common.{sym, ap, ◌∙◌, append_assoc, get_or}
use Rattle.std.proofs.lemmas.List.{append-nil, drop_more, drop_all}
use Rattle.der_tree.specs.declared.error.EncodeError.{EncodeError}
use Rattle.der_tree.specs.Codec.{Codec}
use Rattle.der_tree.specs.Element.{Element}
use Rattle.der_tree.specs.Fields.{required_put}
use Rattle.der_tree.specs.Results.{ok_then}
use Rattle.der_tree.specs.SequenceOf.{each_of, each_put}
use Rattle.der_tree.specs.Tree.{PlainTree}
use Rattle.der_tree.specs.laws.Results.{ok_is}
use Rattle.asn1_core.specs.Binds.{◌>>=◌}

-- what is put after others
abbrev pub behind : List PlainTree → Result (List PlainTree) EncodeError → Result (List PlainTree) EncodeError
behind front r = ok_then r (λ ts. Ok (front ++ ts))

module _ {A : Type 0} (c : Codec A) where
  put_more_at : (front mid : List PlainTree) (r : Result PlainTree EncodeError) (q : Result (List PlainTree) EncodeError) → behind front (ok_then r (λ t. Ok (t ∷ []))) ≡ Ok mid → behind front (ok_then r (λ t. ok_then q (λ ts. Ok (t ∷ ts)))) ≡ behind mid q
  put_more_at front mid (Err d) q e = absurd cc
  put_more_at front mid (Ok t) (Err d) e = refl
  put_more_at front mid (Ok t) (Ok ts) e = ap (λ (x : List PlainTree). let r : Result (List PlainTree) EncodeError = Ok x in r) (sym (append_assoc front (t ∷ []) ts) ∙ ap (λ (x : List PlainTree). x ++ ts) (ok_is (front ++ t ∷ []) mid e))

  pub put_more : (front mid : List PlainTree) (vs : List A) (i : ℕ) (v : A) → i < length vs → v ≡ get_or vs i v → behind front (required_put c v) ≡ Ok mid → behind mid (each_put c (drop (i + 1) vs)) ≡ behind front (each_put c (drop i vs))
  put_more front mid vs i v l h e =
      let d : drop i vs ≡ v ∷ drop (i + 1) vs = drop_more vs i v l ∙ ap (λ (x : A). x ∷ drop (i + 1) vs) (sym h) in
      sym (ap (λ (x : List A). behind front (each_put c x)) d ∙ put_more_at front mid (c.tree_of v) (each_put c (drop (i + 1) vs)) e)

  pub put_done : (front : List PlainTree) (vs : List A) (i : ℕ) → length vs ≤ i → behind front (each_put c (drop i vs)) ≡ Ok front
  put_done front vs i l = ap (λ (x : List A). behind front (each_put c x)) (drop_all i vs l) ∙ ap (λ (x : List PlainTree). let r : Result (List PlainTree) EncodeError = Ok x in r) (append-nil front)

  -- with some values before
  abbrev pub with_values : List A → Option (List A) → Option (List A)
  with_values front o = o >>= λ vs. Some (front ++ vs)

  read_more_at : (front : List A) (v : A) (o : Option (List A)) → with_values front (o >>= λ vs. Some (v ∷ vs)) ≡ with_values (front ++ v ∷ []) o
  read_more_at front v None = refl
  read_more_at front v (Some vs) = ap (λ (x : List A). Some x) (sym (append_assoc front (v ∷ []) vs))

  pub read_more : (front : List A) (v : A) (s : Element) (all rest : List Element) → all ≡ s ∷ rest → c.read_of s ≡ Some v → with_values (front ++ v ∷ []) (each_of c rest) ≡ with_values front (each_of c all)
  read_more front v s all rest h e =
      sym (ap (λ (x : List Element). with_values front (each_of c x)) h ∙ ap (λ (o : Option A). with_values front (o >>= λ v. each_of c rest >>= λ vs. Some (v ∷ vs))) e ∙ read_more_at front v (each_of c rest))

  pub read_fail : (front : List A) (s : Element) (all rest : List Element) → all ≡ s ∷ rest → c.read_of s ≡ None → with_values front (each_of c all) ≡ None
  read_fail front s all rest h e = ap (λ (x : List Element). with_values front (each_of c x)) h ∙ ap (λ (o : Option A). with_values front (o >>= λ v. each_of c rest >>= λ vs. Some (v ∷ vs))) e

  pub read_done : (front : List A) (all : List Element) → all ≡ [] → with_values front (each_of c all) ≡ Some front
  read_done front all h = ap (λ (x : List Element). with_values front (each_of c x)) h ∙ ap (λ (x : List A). Some x) (append-nil front)

  pub with_nothing : (o : Option (List A)) → with_values [] o ≡ o
  with_nothing None = refl
  with_nothing (Some x) = refl

pub ruleset putting = (put_more, put_done)

pub ruleset reading = (read_more, read_fail, read_done, with_nothing)
