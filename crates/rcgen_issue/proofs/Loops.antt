-- What holds of the views of the elements that a loop has seen, and of one more.
use Rattle.std.specs.Prelude.{◌≡◌, ℕ, ◌+◌, ◌<◌, List, [], ◌∷◌, ◌++◌, length, map, take}
use Rattle.std.specs.List.{AllByRecursion, AllZip}
use Rattle.std.proofs.Common.{sym, ap, ◌∙◌, subst, get_or}
use Rattle.std.proofs.lemmas.List.{map-append, take_more, take_all}
use Rattle.std.proofs.lemmas.Slice.Zip.{all_zipped_more}

views_more : {X V : Type 0} (view : X → V) (xs : List X) (i : ℕ) (x : X) → i < length xs → x ≡ get_or xs i x
    → map view (take (i + 1) xs) ≡ map view (take i xs) ++ view x ∷ []
views_more {X} view xs i x l g =
    ap (map view) (take_more xs i x l)
    ∙ map-append view (take i xs) (get_or xs i x ∷ [])
    ∙ ap (λ (z : X). map view (take i xs) ++ view z ∷ []) (sym g)

one_behind : {V : Type 0} (P : V → Type 0) (vs : List V) (v : V) → AllByRecursion P vs → P v → AllByRecursion P (vs ++ v ∷ [])
one_behind P [] v h k = (k, tt)
one_behind P (w ∷ vs) v h k = (h.0, one_behind P vs v h.1 k)

-- one more of which it holds
pub holds_of_more : {X V : Type 0} (view : X → V) (P : V → Type 0) (xs : List X) (i : ℕ) (x : X) → i < length xs → x ≡ get_or xs i x
    → AllByRecursion P (map view (take i xs)) → P (view x) → AllByRecursion P (map view (take (i + 1) xs))
holds_of_more view P xs i x l g h k =
    subst (AllByRecursion P) (sym (views_more view xs i x l g)) (one_behind P (map view (take i xs)) (view x) h k)

-- one more with what is made of it
pub zip_more : {X V Y : Type 0} (view : X → V) (R : V → Y → Type 0) (xs : List X) (i : ℕ) (x : X) (ys zs : List Y) (y : Y) → i < length xs
    → x ≡ get_or xs i x → AllZip R (map view (take i xs)) ys → R (view x) y → zs ≡ ys ++ y ∷ [] → AllZip R (map view (take (i + 1) xs)) zs
zip_more {X} {V} {Y} view R xs i x ys zs y l g h r e =
    subst (λ (us : List V). AllZip R us zs) (sym (views_more view xs i x l g))
    (subst (λ (vs : List Y). AllZip R (map view (take i xs) ++ view x ∷ []) vs) (sym e) (all_zipped_more R (map view (take i xs)) ys (view x) y h r))

pub ruleset taken = (take_all)
