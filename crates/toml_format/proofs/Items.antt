-- Values of an array, one after another, and the least reason against them.
use Rattle.std.proofs.Common.{◌≡◌, ◌≤◌, ℕ, List, [], ◌∷◌, length, drop, Result, Ok, Err, refl, ap, sym, ◌∙◌, append_assoc}
use Rattle.std.proofs.lemmas.List.{append-nil, drop_all}
use Rattle.toml.specs.Data.{Data}
use Rattle.toml.specs.View.{items_view}
use Rattle.toml.specs.declared.value.Value.{Value}
use Rattle.toml.proofs.Views.{items_view-drop}
use Rattle.toml_format.specs.ValueReading.{read_items}
use Rattle.toml_format.specs.Lists.{with_more}
use Rattle.toml_format.specs.Outcome.{both, mapped}
use Rattle.toml_format.specs.declared.reason.Reason.{Reason}
use Rattle.toml_format.specs.laws.LeastReasons.{least-least}

pub with_more-one : {A : Type 0} (list : Result (List A) Reason) (found : Result A Reason) (rest : Result (List A) Reason)
    → with_more (with_more list (mapped found (λ x. x ∷ []))) rest ≡ with_more list (mapped (both found rest) (λ x. x.0 ∷ x.1))
unfolding both
with_more-one (Ok xs) (Ok x) (Ok ys) = ap Ok (append_assoc xs (x ∷ []) ys)
with_more-one (Ok xs) (Ok x) (Err e) = refl
with_more-one (Ok xs) (Err d) (Ok ys) = refl
with_more-one (Ok xs) (Err d) (Err e) = refl
with_more-one (Err c) (Ok x) (Ok ys) = refl
with_more-one (Err c) (Ok x) (Err e) = refl
with_more-one (Err c) (Err d) (Ok ys) = refl
with_more-one (Err c) (Err d) (Err e) = ap Err (least-least c d e)

pub with_more-none : {A : Type 0} (list : Result (List A) Reason) → with_more list (Ok []) ≡ list
unfolding both
with_more-none (Ok xs) = ap Ok (append-nil xs)
with_more-none (Err e) = refl

pub with_more-first : {A : Type 0} (rest : Result (List A) Reason) → with_more (Ok []) rest ≡ rest
unfolding both
with_more-first (Ok ys) = refl
with_more-first (Err e) = refl

pub ruleset reading = (with_more-one, with_more-none, with_more-first, items_view-drop)

-- where no value is left, the whole was read
pub items_whole : {A : Type 0} (read : Data → Result A Reason) (list whole : Result (List A) Reason) (values : List Value) (i : ℕ)
    → length values ≤ i → with_more list (read_items read (items_view (drop i values))) ≡ whole → list ≡ whole
items_whole {A} read list whole values i done reads =
    sym (with_more-none list)
    ∙ ap (λ (vs : List Value). with_more list (read_items read (items_view vs))) (sym (drop_all i values done))
    ∙ reads
