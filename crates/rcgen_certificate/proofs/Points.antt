-- Copies, names and texts of distribution points.
use Rattle.std.specs.Prelude.{◌≡◌, ℕ, ◌≤◌, ◌-◌, ◌==◌, true, List, [], ◌∷◌, length, take, drop, map, nat_eq, string_bytes, Option, None, refl}
use Rattle.std.specs.Cmp.Lexicographic.{pointwise}
use Rattle.std.specs.List.{AllZip, list_all, list_any}
use Rattle.std.specs.Option.{option_or}
use Rattle.std.proofs.Common.{sym, ap, ◌∙◌, arith, get_or}
use Rattle.std.proofs.lemmas.Cmp.{nat_list_eq_equiv}
use Rattle.std.proofs.lemmas.List.{length-map, take_all}
use Rattle.std.proofs.lemmas.List.Folds.{list_all-map}
use Rattle.std.proofs.lemmas.Simd.{map-map}
use Rattle.pkix_name.specs.declared.general_name.GeneralName.TheVariants.{Uri}
use Rattle.rcgen_text.proofs.Equality.{same_is_equal}
use Rattle.rcgen_certificate.specs.AsciiTexts.{first_not_ascii, is_ascii}
use Rattle.rcgen_certificate.specs.DistributionPoints.{has_empty_point, uris_of, uri_texts}
use Rattle.rcgen_certificate.specs.contracts.distribution_point.CrlDistributionPointPartialEq.TheImpl.{ghosts as points}
use Rattle.rcgen_certificate.specs.declared.distribution_point.CrlDistributionPoint.{CrlDistributionPoint}
use Rattle.rcgen_certificate.proofs.Views.{lists_equal, views_same}
use Rattle.rcgen_certificate.proofs.AsciiTexts.{each_ascii, first_of_both}

pub uris_of_copies : (p q : CrlDistributionPoint) → AllZip (λ x y. string_bytes y ≡ string_bytes x) p.uris.items q.uris.items → uris_of q ≡ uris_of p
uris_of_copies p q h = views_same string_bytes p.uris.items q.uris.items h

pub points_equal : (p q : CrlDistributionPoint) → uris_of p ≡ uris_of q → points.eq p q ≡ true
points_equal p q e =
    lists_equal string_bytes (λ s t. pointwise nat_eq (string_bytes s) (string_bytes t))
    (λ s t h. same_is_equal nat_list_eq_equiv (string_bytes s) (string_bytes t) h) p.uris.items q.uris.items e

pub ruleset copies = (uris_of_copies)

pub uris_are : (p : CrlDistributionPoint) → map (λ s. Uri (string_bytes s)) p.uris.items ≡ map Uri (uris_of p)
uris_are p = sym (map-map Uri string_bytes p.uris.items)

pub first_of_more : (p : CrlDistributionPoint) (ps : List CrlDistributionPoint)
    → first_not_ascii (uri_texts (map uris_of (p ∷ ps))) ≡ option_or (first_not_ascii (uris_of p)) (first_not_ascii (uri_texts (map uris_of ps)))
first_of_more p ps = first_of_both (uris_of p) (uri_texts (map uris_of ps))

-- a point whose URIs are ASCII is passed over
pub points_step : (ps : List CrlDistributionPoint) (p : CrlDistributionPoint) (whole : Option (List ℕ)) → 1 ≤ length ps → p ≡ get_or ps 0 p
    → first_not_ascii (uris_of p) ≡ None → first_not_ascii (uri_texts (map uris_of ps)) ≡ whole
    → first_not_ascii (uri_texts (map uris_of (take (length ps - 1) (drop 1 ps)))) ≡ whole
points_step [] p whole l g h k = absurd (omega (arith, l))
points_step (x ∷ xs) p whole l g h k =
    let all : take (length (x ∷ xs) - 1) xs ≡ xs = take_all (length (x ∷ xs) - 1) xs (omega arith) in
    let none : first_not_ascii (uris_of x) ≡ None = ap (λ (q : CrlDistributionPoint). first_not_ascii (uris_of q)) (sym g) ∙ h in
    ap (λ (qs : List CrlDistributionPoint). first_not_ascii (uri_texts (map uris_of qs))) all
    ∙ ap (λ (o : Option (List ℕ)). option_or o (first_not_ascii (uri_texts (map uris_of xs)))) (sym none) ∙ sym (first_of_more x xs) ∙ k

pub ruleset texts = (first_of_more)

-- a point without URIs is one whose view is empty
pub empties : (ps : List CrlDistributionPoint) → list_any (λ p. length p.uris.items == 0) ps ≡ has_empty_point (map uris_of ps)
empties [] = refl
empties (p ∷ ps) = rw (length-map p.uris.items string_bytes, empties ps) refl

-- the URIs of each are ASCII where all are
pub each_point : (ps : List CrlDistributionPoint) → list_all is_ascii (uri_texts (map uris_of ps)) ≡ true
    → list_all (λ p. list_all is_ascii (uris_of p)) ps ≡ true
each_point ps h = sym (list_all-map (λ (uris : List (List ℕ)). list_all is_ascii uris) uris_of ps) ∙ each_ascii (λ uris. uris) (map uris_of ps) h
