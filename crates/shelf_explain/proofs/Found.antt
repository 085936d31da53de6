use Rattle.std.specs.Prelude.{◌≡◌, ℕ, Bool, true, false, List, [], ◌∷◌, cond, Option, Some, nat_eq, find, map, refl}
use Rattle.std.specs.Option.{option_map}
use Rattle.std.specs.Cmp.Lexicographic.{pointwise}
use Rattle.shelf_explain.specs.Known.{as_pair, name_in}
use Rattle.shelf_explain.specs.declared.known.Row.{Row}

abbrev pub named : Option Row → Option (List ℕ)
named o = option_map (λ (row : Row). row.name.now) o

abbrev pub second : Option (List ℕ × List ℕ) → Option (List ℕ)
second o = option_map (λ (row : List ℕ × List ℕ). row.1) o

at_head : (b : Bool) (r : Row) (o : Option Row) (p : Option (List ℕ × List ℕ)) → named o ≡ second p
    → named (cond b (Some r) o) ≡ second (cond b (Some (as_pair r)) p)
at_head true r o p e = refl
at_head false r o p e = e

pub name_of_first : (rows : List Row) (arcs : List ℕ)
    → named (find (λ (row : Row). pointwise nat_eq row.arcs.now arcs) rows) ≡ name_in (map as_pair rows) arcs
unfolding name_in
name_of_first [] arcs = refl
name_of_first (r ∷ rows) arcs = at_head (pointwise nat_eq r.arcs.now arcs) r _ _ (name_of_first rows arcs)
