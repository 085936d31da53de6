-- What the first row gives that is found.
use Rattle.std.proofs.Common.{◌≡◌, ℕ, Bool, true, false, List, [], ◌∷◌, ◌↔◌, Option, Some, cond, find, map, nat_eq, refl, sym}
use Rattle.std.proofs.lemmas.Bool.{false_from_ne_true}
use Rattle.std.specs.Cmp.Lexicographic.{bytes_decides, pointwise}
use Rattle.std.specs.Option.{option_map, option_map_or}
use Rattle.std.specs.Prelude.{IsTrue}
use Rattle.std.specs.Str.{bytes_eq}
use Rattle.name_parts.specs.Types.{KnownType, as_known, arcs_in, kind_in, same_name}
use Rattle.name_parts.specs.declared.types.Kind.{Kind}
use Rattle.name_parts.specs.declared.types.Kind.TheVariants.{Utf8}
use Rattle.name_parts.specs.declared.types.Row.{Row}

pub decided : (r : Bool) (xs ys : List ℕ) → (IsTrue r ↔ (xs ≡ ys)) → r ≡ bytes_eq xs ys
decided true xs ys e = sym ((bytes_decides xs ys).1 (e.0 refl))
decided false xs ys e = sym (false_from_ne_true (bytes_eq xs ys) (λ h. let k : false ≡ true = e.1 ((bytes_decides xs ys).0 h) in cc))

abbrev pub its_arcs : Option Row → Option (List ℕ)
its_arcs o = option_map (λ (row : Row). row.arcs.now) o

abbrev pub known_arcs : Option KnownType → Option (List ℕ)
known_arcs o = option_map (λ (row : KnownType). row.arcs) o

arcs_at_head : (b : Bool) (r : Row) (o : Option Row) (p : Option KnownType) → its_arcs o ≡ known_arcs p
    → its_arcs (cond b (Some r) o) ≡ known_arcs (cond b (Some (as_known r)) p)
arcs_at_head true r o p e = refl
arcs_at_head false r o p e = e

pub arcs_of_first : (rows : List Row) (name : List ℕ)
    → its_arcs (find (λ (row : Row). same_name row.name.now name) rows) ≡ arcs_in (map as_known rows) name
unfolding arcs_in
arcs_of_first [] name = refl
arcs_of_first (r ∷ rows) name = arcs_at_head (same_name r.name.now name) r _ _ (arcs_of_first rows name)

abbrev pub its_kind : Option Row → Kind
its_kind o = option_map_or (λ (row : Row). row.kind) o Utf8

abbrev pub known_kind : Option KnownType → Kind
known_kind o = option_map_or (λ (row : KnownType). row.kind) o Utf8

kind_at_head : (b : Bool) (r : Row) (o : Option Row) (p : Option KnownType) → its_kind o ≡ known_kind p
    → its_kind (cond b (Some r) o) ≡ known_kind (cond b (Some (as_known r)) p)
kind_at_head true r o p e = refl
kind_at_head false r o p e = e

pub kind_of_first : (rows : List Row) (arcs : List ℕ)
    → its_kind (find (λ (row : Row). pointwise nat_eq row.arcs.now arcs) rows) ≡ kind_in (map as_known rows) arcs
unfolding kind_in
kind_of_first [] arcs = refl
kind_of_first (r ∷ rows) arcs = kind_at_head (pointwise nat_eq r.arcs.now arcs) r _ _ (kind_of_first rows arcs)
