-- An extension's name tells its identifier.
use Rattle.std.proofs.Common.{◌≡◌, ℕ, ◌^◌, ◌<◌, ◌==◌, Bool, true, false, not, cond, ◌&&◌, ◌||◌, List, [], ◌∷◌, ◌++◌, codes, decimal, nat_eq, nat_le, nat_lt, flat_map, Option, Some, None, refl, ap, sym, ◌∙◌, arith}
use Rattle.std.specs.Cmp.Lexicographic.{pointwise}
use Rattle.std.specs.List.{list_all}
use Rattle.std.proofs.lemmas.Bool.{both_ways, eqb-true, ltb-true, not-true}
use Rattle.std.proofs.lemmas.Fmt.{decimal_injective}
use Rattle.asn1_core.specs.Arcs.{are_below, has_root, is_oid}
use Rattle.asn1_core.specs.Binds.{and_true, some_is}
use Rattle.shelf_explain.specs.Known.{extension_name_text, extension_names, name_in, named}
use Rattle.shelf_explain.specs.Lines.{dotted}
use Rattle.explained_whole.proofs.Breaks.{dotted_passes, either_passes, row_of}
use Rattle.explained_whole.proofs.Texts.{Ends, cons_is, decimal_passes, never_nil, splits, tail_is}

pub list_is : (x y : List ℕ) → pointwise nat_eq x y ≡ true → x ≡ y
list_is [] [] h = refl
list_is [] (d ∷ y) h = absurd cc
list_is (c ∷ x) [] h = absurd cc
list_is (c ∷ x) (d ∷ y) h =
    let q = and_true (nat_eq c d) (pointwise nat_eq x y) h in
    cons_is c d x y (eqb-true c d q.0) (list_is x y q.1)

-- ---- dotted decimals

abbrev no_point : ℕ → Bool
no_point c = not (c == 46)

abbrev pointed : List ℕ → List ℕ
pointed arcs = flat_map (λ (n : ℕ). codes "." ++ decimal n) arcs

decimal_pointless : (n : ℕ) → list_all no_point (decimal n) ≡ true
decimal_pointless n = decimal_passes no_point refl n

pointed_ends : (arcs : List ℕ) → Ends no_point (pointed arcs)
pointed_ends [] = tt
pointed_ends (n ∷ arcs) = refl

pointed_same : (a b : List ℕ) → are_below (2 ^ 32) a ≡ true → are_below (2 ^ 32) b ≡ true → pointed a ≡ pointed b → a ≡ b
pointed_same [] [] h k e = refl
pointed_same [] (m ∷ b) h k e = absurd (never_nil 46 (decimal m ++ pointed b) e)
pointed_same (n ∷ a) [] h k e = absurd (never_nil 46 (decimal n ++ pointed a) (sym e))
pointed_same (n ∷ a) (m ∷ b) h k e =
    let p = and_true (nat_lt n (2 ^ 32)) (are_below (2 ^ 32) a) h in
    let q = and_true (nat_lt m (2 ^ 32)) (are_below (2 ^ 32) b) k in
    let s = splits no_point (decimal n) (decimal m) (pointed a) (pointed b) (decimal_pointless n) (decimal_pointless m) (pointed_ends a) (pointed_ends b)
    (tail_is 46 46 (decimal n ++ pointed a) (decimal m ++ pointed b) e) in
    let n_is : n < 2 ^ 32 = ltb-true n (2 ^ 32) p.0 in
    let m_is : m < 2 ^ 32 = ltb-true m (2 ^ 32) q.0 in
    cons_is n m a b (decimal_injective n m (omega arith) (omega arith) s.0) (pointed_same a b p.1 q.1 s.1)

dotted_same : (a b : List ℕ) → is_oid a ≡ true → is_oid b ≡ true → dotted a ≡ dotted b → a ≡ b
unfolding dotted
dotted_same [] b h k e = absurd cc
dotted_same (n ∷ a) [] h k e = absurd cc
dotted_same (n ∷ a) (m ∷ b) h k e =
    pointed_same (n ∷ a) (m ∷ b) (and_true (has_root (n ∷ a)) (are_below (2 ^ 32) (n ∷ a)) h).1 (and_true (has_root (m ∷ b)) (are_below (2 ^ 32) (m ∷ b)) k).1
    (ap (λ (t : List ℕ). 46 ∷ t) e)

-- ---- names

-- a digit or a point
abbrev is_numeric : ℕ → Bool
is_numeric c = (nat_le 48 c && nat_lt c 58) || (c == 46)

-- the identifier that has the name
abbrev arcs_of : List (List ℕ × List ℕ) → List ℕ → Option (List ℕ)
arcs_of [] name = None
arcs_of (row ∷ rows) name = cond (pointwise nat_eq row.1 name) (Some row.0) (arcs_of rows name)

abbrev is_same : Option (List ℕ) → List ℕ → Bool
is_same None arcs = false
is_same (Some found) arcs = pointwise nat_eq found arcs

-- the name leads back to the identifier, and isn't one in decimals
abbrev leads_back : List ℕ × List ℕ → Bool
leads_back row = is_same (arcs_of extension_names row.1) row.0 && not (list_all is_numeric row.1)

names_lead_back : list_all leads_back extension_names ≡ true
unfolding extension_names
names_lead_back = refl

is_same_is : (o : Option (List ℕ)) (arcs : List ℕ) → is_same o arcs ≡ true → o ≡ Some arcs
is_same_is None arcs h = absurd cc
is_same_is (Some found) arcs h = ap (λ (x : List ℕ). Some x) (list_is found arcs h)

record IsNamed (arcs name : List ℕ) : Type 0 where
  back : arcs_of extension_names name ≡ Some arcs
  other : list_all is_numeric name ≡ false

named_is : (arcs name : List ℕ) → name_in extension_names arcs ≡ Some name → IsNamed arcs name
named_is arcs name e =
    let r = row_of leads_back extension_names names_lead_back arcs name e in
    let q = and_true (is_same (arcs_of extension_names r.0.1) r.0.0) (not (list_all is_numeric r.0.1)) r.1 in
    record {
      back = ap (arcs_of extension_names) (sym r.3) ∙ is_same_is (arcs_of extension_names r.0.1) r.0.0 q.0 ∙ ap (λ (x : List ℕ). Some x) (list_is r.0.0 arcs r.2);
      other = ap (list_all is_numeric) (sym r.3) ∙ not-true (list_all is_numeric r.0.1) q.1;
    }

dotted_numeric : (arcs : List ℕ) → list_all is_numeric (dotted arcs) ≡ true
dotted_numeric arcs = dotted_passes is_numeric refl refl arcs

by_names : (a b : List ℕ) (o p : Option (List ℕ)) → is_oid a ≡ true → is_oid b ≡ true → ((name : List ℕ) → o ≡ Some name → IsNamed a name)
    → ((name : List ℕ) → p ≡ Some name → IsNamed b name) → named o a ≡ named p b → a ≡ b
unfolding named
by_names a b (Some n) (Some m) h k f g e = some_is a b (sym (f n refl).back ∙ ap (arcs_of extension_names) e ∙ (g m refl).back)
by_names a b (Some n) None h k f g e = absurd (both_ways (list_all is_numeric n) (f n refl).other (ap (list_all is_numeric) e ∙ dotted_numeric b))
by_names a b None (Some m) h k f g e = absurd (both_ways (list_all is_numeric m) (g m refl).other (ap (list_all is_numeric) (sym e) ∙ dotted_numeric a))
by_names a b None None h k f g e = dotted_same a b h k e

pub identifier_same : (a b : List ℕ) → is_oid a ≡ true → is_oid b ≡ true → extension_name_text a ≡ extension_name_text b → a ≡ b
unfolding extension_name_text
identifier_same a b h k e =
    by_names a b (name_in extension_names a) (name_in extension_names b) h k (λ (name : List ℕ). named_is a name) (λ (name : List ℕ). named_is b name) e

-- ---- what the text of a name has

-- it is empty, or begins with another character than a space
abbrev pub starts_plainly : List ℕ → Bool
starts_plainly [] = true
starts_plainly (c ∷ x) = not (c == 32)

abbrev no_space : ℕ → Bool
no_space c = not (c == 32)

unspaced_starts : (x : List ℕ) → list_all no_space x ≡ true → starts_plainly x ≡ true
unspaced_starts [] h = refl
unspaced_starts (c ∷ x) h = (and_true (no_space c) (list_all no_space x) h).0

names_start : list_all (λ (row : List ℕ × List ℕ). starts_plainly row.1) extension_names ≡ true
unfolding extension_names
names_start = refl

named_starts : (arcs : List ℕ) (o : Option (List ℕ)) → ((name : List ℕ) → o ≡ Some name → starts_plainly name ≡ true) → starts_plainly (named o arcs) ≡ true
unfolding named
named_starts arcs (Some name) f = f name refl
named_starts arcs None f = unspaced_starts (dotted arcs) (dotted_passes no_space refl refl arcs)

pub name_starts : (arcs : List ℕ) → starts_plainly (extension_name_text arcs) ≡ true
unfolding extension_name_text
name_starts arcs =
    named_starts arcs (name_in extension_names arcs) (λ (name : List ℕ) (e : name_in extension_names arcs ≡ Some name).
    let r = row_of (λ (row : List ℕ × List ℕ). starts_plainly row.1) extension_names names_start arcs name e in
    ap starts_plainly (sym r.3) ∙ r.1)

abbrev pub no_colon : ℕ → Bool
no_colon c = not (c == 58)

abbrev pub no_bracket : ℕ → Bool
no_bracket c = not (c == 40)

names_colonless : list_all (λ (row : List ℕ × List ℕ). list_all no_colon row.1) extension_names ≡ true
unfolding extension_names
names_colonless = refl

names_bracketless : list_all (λ (row : List ℕ × List ℕ). list_all no_bracket row.1) extension_names ≡ true
unfolding extension_names
names_bracketless = refl

pub name_colonless : (arcs : List ℕ) → list_all no_colon (extension_name_text arcs) ≡ true
unfolding extension_name_text
name_colonless arcs = either_passes no_colon refl refl extension_names names_colonless arcs

pub name_bracketless : (arcs : List ℕ) → list_all no_bracket (extension_name_text arcs) ≡ true
unfolding extension_name_text
name_bracketless arcs = either_passes no_bracket refl refl extension_names names_bracketless arcs
