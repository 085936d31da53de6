-- Alternative names that come from texts.
use Rattle.std.specs.Prelude.{◌≡◌, ℕ, true, List, [], ◌∷◌, ◌++◌, map, Some, refl}
use Rattle.std.specs.Iterator.{Yields}
use Rattle.std.specs.List.{AllByRecursion, list_all}
use Rattle.std.specs.Vec.Iter.{into_iter_items, into_iter_steps}
use Rattle.std.specs.declared.vec.IntoIter.{IntoIter}
use Rattle.std.proofs.Common.{sym, subst, ap, ◌∙◌, inl, inr}
use Rattle.std.proofs.lemmas.List.{map-append}
use Rattle.std.proofs.lemmas.Slice.Zip.{all_zipped_more}
use Rattle.rcgen_certificate.specs.SubjectAltNames.{has_type_id}
use Rattle.rcgen_text.specs.AlternativeNames.{AlternativeName, rfc822_name, dns_name, uri, ip_address, other_name, alternative_name}
use Rattle.rcgen_text.specs.Causes.{cause, ia5_text, origin_of}
use Rattle.rcgen_text.specs.declared.error.Error.{Error}
use Rattle.rcgen_text.specs.declared.san.SanType.{SanType}
use Rattle.rcgen_certificate.specs.Params.{IsNameOfText, HasName, AreNamesOfTexts, IsFirstNameless}

-- one text and its name more
pub names_more : {X : Type 0} (view : X → List ℕ) (xs : List X) (x : X) (names more : List SanType) (name : SanType)
    → AreNamesOfTexts (map view xs) names → IsNameOfText (view x) (alternative_name name) → more ≡ names ++ name ∷ []
    → AreNamesOfTexts (map view (xs ++ x ∷ [])) more
names_more view xs x names more name h k e =
    subst (λ (ns : List SanType). AreNamesOfTexts (map view (xs ++ x ∷ [])) ns) (sym e)
    (subst (λ (ts : List (List ℕ)). AreNamesOfTexts ts (names ++ name ∷ [])) (sym (map-append view xs (x ∷ [])))
    (all_zipped_more (λ text name. IsNameOfText text (alternative_name name)) (map view xs) names (view x) name h k))

has_name : (text : List ℕ) (name : AlternativeName) → IsNameOfText text name → HasName text × (has_type_id name ≡ true)
has_name text (ip_address address) h = (inl (address, h), refl)
has_name text (dns_name name) h = (inr h.1, refl)
has_name text (rfc822_name name) h = absurd h
has_name text (uri name) h = absurd h
has_name text (other_name arcs value) h = absurd h

-- each text has a name, and no name has a type that is no object identifier
pub have_names : (texts : List (List ℕ)) (names : List SanType) → AreNamesOfTexts texts names
    → AllByRecursion HasName texts × (list_all has_type_id (map alternative_name names) ≡ true)
have_names [] [] h = (tt, refl)
have_names [] (name ∷ names) h = absurd h
have_names (text ∷ texts) [] h = absurd h
have_names (text ∷ texts) (name ∷ names) h =
    let first = has_name text (alternative_name name) h.0 in
    let rest = have_names texts names h.1 in
    ((first.0, rest.0), rw (first.1, rest.1) refl)

-- what the iterator of a vector has given is a front of its items
taken_front : {X Z : Type 0} (s : IntoIter X Z) (xs : List X) (t : IntoIter X Z) → Yields into_iter_steps s xs t
    → into_iter_items s ≡ xs ++ into_iter_items t
taken_front s [] t y = ap into_iter_items y
taken_front {X} s (x ∷ xs) t y = y.1.0 ∙ ap (λ (ys : List X). x ∷ ys) (taken_front y.0 xs t y.2)

-- the text that has no name is the first, where those that were given have names
pub first_nameless : {X Z : Type 0} (view : X → List ℕ) (all taken : List X) (s t u : IntoIter X Z) (x : X) (names : List SanType) (e : Error)
    → into_iter_items s ≡ all → Yields into_iter_steps s taken t → into_iter_steps t (Some x) u
    → AreNamesOfTexts (map view taken) names → ¬ (HasName (view x)) → origin_of e ≡ cause (ia5_text (view x)) → IsFirstNameless (map view all) e
first_nameless {X} view all taken s t u x names e whole given next h none told = record {
  before = map view taken;
  text = view x;
  after = map view (into_iter_items u);
  place = ap (map view) (sym whole ∙ taken_front s taken t given ∙ ap (λ (xs : List X). taken ++ xs) next.0)
      ∙ map-append view taken (x ∷ into_iter_items u);
  named = (have_names (map view taken) names h).0;
  nameless = none;
  error = told;
}
