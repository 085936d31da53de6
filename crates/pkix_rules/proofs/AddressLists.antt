-- Addresses of a part, one more.
use Rattle.std.proofs.Common.{◌≡◌, List, None, Option, Some, ap, get_or, length, refl, sym, take, ℕ, [], ◌++◌, ◌+◌, ◌<◌, ◌∙◌, ◌∷◌}
use Rattle.std.specs.List.{filter_map}
use Rattle.std.specs.Option.{option_to_list}
use Rattle.std.proofs.lemmas.List.{take_more}
use Rattle.std.proofs.lemmas.List.Elements.{filter_map-append}
use Rattle.pkix_name.specs.declared.general_name.GeneralName.{GeneralName}
use Rattle.pkix_name.specs.declared.name.AttributeTypeAndValue.{AttributeTypeAndValue}
use Rattle.pkix_rules.specs.Addresses.{address_in}

one : (o : Option GeneralName) (a : AttributeTypeAndValue) → o ≡ address_in a → filter_map address_in (a ∷ []) ≡ option_to_list o
one None a e = rw (sym e) refl
one (Some name) a e = rw (sym e) refl

pub address_more : (list : List AttributeTypeAndValue) (i : ℕ) (a : AttributeTypeAndValue) → i < length list → a ≡ get_or list i a
    → filter_map address_in (take (i + 1) list) ≡ filter_map address_in (take i list) ++ option_to_list (address_in a)
address_more list i a within is =
    ap (filter_map address_in) (take_more list i a within)
    ∙ ap (λ (b : AttributeTypeAndValue). filter_map address_in (take i list ++ b ∷ [])) (sym is)
    ∙ filter_map-append address_in (take i list) (a ∷ [])
    ∙ ap (λ (names : List GeneralName). filter_map address_in (take i list) ++ names) (one (address_in a) a refl)
