-- The first two arcs of an object identifier, and those after them.
use Rattle.std.proofs.Common.{◌≡◌, ℕ, ◌+◌, ◌-◌, ◌*◌, ◌^◌, ◌<◌, ◌≤◌, Bool, true, false, cond, List, [], ◌∷◌, Option, Some, None, refl, sym, ap, ◌∙◌, arith}
use Rattle.std.proofs.lemmas.Bool.{le-ltb, lt-ltb, ltb-true}
use Rattle.std.specs.Prelude.{nat_lt, ◌&&◌, ◌||◌}
use Rattle.asn1_core.specs.Binds.{◌>>=◌, bind_some, chosen, and_true, true_and}
use Rattle.asn1_core.specs.Arcs.{is_root, are_below, is_oid}
use Rattle.asn1_core.specs.Base128.{base128_at}
use Rattle.asn1_core.specs.ObjectIdentifiers.{behind, root_in, identifier_from, subidentifiers, subidentifiers_below, object_identifier_of}

never : (a b : Bool) → (a && (b && false)) ≡ false
never true true = refl
never true false = refl
never false b = refl

root_is : (x : ℕ) → is_root (root_in x) (x - 40 * root_in x) ≡ true
root_is x =
    elim (nat_lt x 40) as (λ t. nat_lt x 40 ≡ t → is_root (cond t 0 (cond (nat_lt x 80) 1 2)) (x - 40 * cond t 0 (cond (nat_lt x 80) 1 2)) ≡ true) [
      | true ↦ λ t. let l : x < 40 = ltb-true x 40 t in lt-ltb (x - 40 * 0) 40 (omega arith)
      | false ↦ λ t. elim (nat_lt x 80) as (λ u. nat_lt x 80 ≡ u → is_root (cond u 1 2) (x - 40 * cond u 1 2) ≡ true) [
        | true ↦ λ u. let l : x < 80 = ltb-true x 80 u in lt-ltb (x - 40 * 1) 40 (omega arith)
        | false ↦ λ u. refl
      ] refl
    ] refl

all_arcs : (x : ℕ) (ns : List ℕ) → x - 40 * root_in x < 2 ^ 32 → are_below (2 ^ 32) ns ≡ true → is_oid (root_in x ∷ (x - 40 * root_in x) ∷ ns) ≡ true
all_arcs x ns l h =
    let first = root_is x in
    let low : root_in x < 2 ^ 32 = let t = ltb-true (root_in x) 3 (and_true (nat_lt (root_in x) 3) (nat_lt 1 (root_in x) || nat_lt (x - 40 * root_in x) 40) first).0 in omega arith in
    true_and (is_root (root_in x) (x - 40 * root_in x)) (are_below (2 ^ 32) (root_in x ∷ (x - 40 * root_in x) ∷ ns)) first
    (true_and (nat_lt (root_in x) (2 ^ 32)) (nat_lt (x - 40 * root_in x) (2 ^ 32) && are_below (2 ^ 32) ns) (lt-ltb (root_in x) (2 ^ 32) low)
    (true_and (nat_lt (x - 40 * root_in x) (2 ^ 32)) (are_below (2 ^ 32) ns) (lt-ltb (x - 40 * root_in x) (2 ^ 32) l) h))

-- a second arc of 2 ^ 32 and more is none
no_arcs : (x : ℕ) (ns : List ℕ) → 2 ^ 32 ≤ x - 40 * root_in x → is_oid (root_in x ∷ (x - 40 * root_in x) ∷ ns) ≡ false
no_arcs x ns l =
    ap (λ (b : Bool). is_root (root_in x) (x - 40 * root_in x) && (nat_lt (root_in x) (2 ^ 32) && (b && are_below (2 ^ 32) ns))) (le-ltb (x - 40 * root_in x) (2 ^ 32) l)
    ∙ never (is_root (root_in x) (x - 40 * root_in x)) (nat_lt (root_in x) (2 ^ 32))

each_goes_on : (x : ℕ) (o : Option (List ℕ)) → x - 40 * root_in x < 2 ^ 32 → ((ns : List ℕ) → o ≡ Some ns → are_below (2 ^ 32) ns ≡ true)
    → (o >>= λ ns. identifier_from x ns) ≡ behind (root_in x ∷ (x - 40 * root_in x) ∷ []) o
each_goes_on x None l h = refl
each_goes_on x (Some ns) l h =
    ap (λ (t : Bool). cond t (Some (root_in x ∷ (x - 40 * root_in x) ∷ ns)) None) (all_arcs x ns l (h ns refl))

none_goes_on : (x : ℕ) (o : Option (List ℕ)) → 2 ^ 32 ≤ x - 40 * root_in x → (o >>= λ ns. identifier_from x ns) ≡ None
none_goes_on x None l = refl
none_goes_on x (Some ns) l = ap (λ (t : Bool). cond t (Some (root_in x ∷ (x - 40 * root_in x) ∷ ns)) None) (no_arcs x ns l)

-- what follows the number of the first two arcs
after_root : (bytes rest : List ℕ) (x : ℕ) → base128_at (2 ^ 25 + 1) bytes ≡ Some (x, rest)
    → object_identifier_of bytes ≡ (subidentifiers rest >>= λ ns. identifier_from x ns)
after_root bytes rest x e = ap (λ (o : Option (ℕ × List ℕ)). o >>= λ x. subidentifiers x.1 >>= λ ns. identifier_from x.0 ns) e

pub root_there : (bytes rest : List ℕ) (x root second : ℕ) → base128_at (2 ^ 25 + 1) bytes ≡ Some (x, rest) → root ≡ root_in x → second ≡ x - 40 * root → second < 2 ^ 32
    → object_identifier_of bytes ≡ behind (root ∷ second ∷ []) (subidentifiers rest)
root_there bytes rest x root second e r s l =
    let same : second ≡ x - 40 * root_in x = s ∙ ap (λ (n : ℕ). x - 40 * n) r in
    after_root bytes rest x e ∙ each_goes_on x (subidentifiers rest) (omega arith) (subidentifiers_below rest)
    ∙ ap (λ (n : ℕ). behind (n ∷ (x - 40 * root_in x) ∷ []) (subidentifiers rest)) (sym r)
    ∙ ap (λ (n : ℕ). behind (root ∷ n ∷ []) (subidentifiers rest)) (sym same)

pub root_too_large : (bytes rest : List ℕ) (x root : ℕ) → base128_at (2 ^ 25 + 1) bytes ≡ Some (x, rest) → root ≡ root_in x → 2 ^ 32 ≤ x - 40 * root
    → object_identifier_of bytes ≡ None
root_too_large bytes rest x root e r l =
    let same : x - 40 * root ≡ x - 40 * root_in x = ap (λ (n : ℕ). x - 40 * n) r in
    after_root bytes rest x e ∙ none_goes_on x (subidentifiers rest) (omega arith)

pub no_root : (bytes : List ℕ) → base128_at (2 ^ 25 + 1) bytes ≡ None → object_identifier_of bytes ≡ None
no_root bytes e = ap (λ (o : Option (ℕ × List ℕ)). o >>= λ x. subidentifiers x.1 >>= λ ns. identifier_from x.0 ns) e

pub ruleset roots = (root_there, root_too_large, no_root)

pub arcs_of_identifier : (bytes items : List ℕ) → object_identifier_of bytes ≡ Some items → is_oid items ≡ true
arcs_of_identifier bytes items e =
    let x = bind_some (base128_at (2 ^ 25 + 1) bytes) (λ x. subidentifiers x.1 >>= λ ns. identifier_from x.0 ns) items e in
    let y = bind_some (subidentifiers x.0.1) (λ ns. identifier_from x.0.0 ns) items x.2 in
    let arcs = root_in x.0.0 ∷ (x.0.0 - 40 * root_in x.0.0) ∷ y.0 in
    let k = chosen (is_oid arcs) arcs items y.2 in
    ap is_oid (sym k.1) ∙ k.0
