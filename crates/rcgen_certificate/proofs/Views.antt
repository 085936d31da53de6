-- Lists that say the same.
use Rattle.std.specs.Prelude.{◌≡◌, ℕ, ◌≤◌, ◌==◌, Bool, true, false, List, [], ◌∷◌, length, map, take, Option, Some, None, refl}
use Rattle.std.specs.Cmp.Lexicographic.{pointwise}
use Rattle.std.specs.List.{AllZip}
use Rattle.std.specs.Option.{option_eq, option_map}
use Rattle.std.proofs.Common.{sym, ap, ◌∙◌}
use Rattle.std.proofs.lemmas.List.{length-map, take_all}
use Rattle.std.proofs.lemmas.Simd.{map-map}
use Rattle.asn1_core.specs.Binds.{true_and}
use Rattle.rcgen_certificate.specs.ExtensionRows.{unless_empty}

pub views_same : {X Y : Type 0} (f : X → Y) (xs ys : List X) → AllZip (λ x y. f y ≡ f x) xs ys → map f ys ≡ map f xs
views_same f [] [] h = refl
views_same f [] (y ∷ ys) h = absurd h
views_same f (x ∷ xs) [] h = absurd h
views_same f (x ∷ xs) (y ∷ ys) h = rw (h.0, views_same f xs ys h.1) refl

-- the loop over a list that isn't empty went over all of it
pub seen_all : {X V W : Type 0} (view : X → V) (value : V → W) (list : List X) (i : ℕ) (values : List W) (b : Bool) → length list ≤ i
    → b ≡ (length list == 0) → b ≡ false → values ≡ map (λ x. value (view x)) (take i list)
    → Some values ≡ option_map (map value) (unless_empty (map view list))
seen_all {X} {V} {W} view value list i values b l e f h =
    let all : values ≡ map value (map view list) =
    h ∙ ap (map (λ x. value (view x))) (take_all i list l) ∙ sym (map-map value view list) in
    rw (length-map list view, sym e ∙ f) (ap (λ (x : List W). Some x) all)

-- ---- what has the same view is equal

pub lists_equal : {X V : Type 0} (view : X → V) (E : X → X → Bool) → ((x y : X) → view x ≡ view y → E x y ≡ true)
    → (xs ys : List X) → map view xs ≡ map view ys → pointwise E xs ys ≡ true
lists_equal view E equal [] [] e = refl
lists_equal view E equal [] (y ∷ ys) e = absurd cc
lists_equal view E equal (x ∷ xs) [] e = absurd cc
lists_equal view E equal (x ∷ xs) (y ∷ ys) e = true_and (E x y) (pointwise E xs ys) (equal x y cc) (lists_equal view E equal xs ys cc)

pub options_equal : {X V : Type 0} (view : X → V) (E : X → X → Bool) → ((x y : X) → view x ≡ view y → E x y ≡ true)
    → (o p : Option X) → option_map view o ≡ option_map view p → option_eq E o p ≡ true
options_equal view E equal None None e = refl
options_equal view E equal None (Some y) e = absurd cc
options_equal view E equal (Some x) None e = absurd cc
options_equal view E equal (Some x) (Some y) e = equal x y cc

-- ---- where each is equal to itself

module _ {X : Type 0} (E : X → X → Bool) (itself : (x : X) → E x x ≡ true) where
  pub one_is_equal : (x y : X) → x ≡ y → E x y ≡ true
  one_is_equal x y e = ap (λ z. E z y) e ∙ itself y

  list_itself : (xs : List X) → pointwise E xs xs ≡ true
  list_itself [] = refl
  list_itself (x ∷ xs) = true_and (E x x) (pointwise E xs xs) (itself x) (list_itself xs)

  pub list_is_equal : (xs ys : List X) → xs ≡ ys → pointwise E xs ys ≡ true
  list_is_equal xs ys e = ap (λ zs. pointwise E zs ys) e ∙ list_itself ys

  option_itself : (o : Option X) → option_eq E o o ≡ true
  option_itself None = refl
  option_itself (Some x) = itself x

  pub option_is_equal : (o p : Option X) → o ≡ p → option_eq E o p ≡ true
  option_is_equal o p e = ap (λ q. option_eq E q p) e ∙ option_itself p
