-- The contents octets of an OCTET STRING, of a NULL and of a BOOLEAN (X.690, 8.7, 8.8, 8.2, 11.1).
use Rattle.std.specs.Prelude.{◌≡◌, ℕ, Bool, true, false, cond, List, [], ◌∷◌, Option, Some, None, refl, ◌==◌}
use Rattle.std.proofs.Common.{sym, ap, ◌∙◌}
use Rattle.std.proofs.lemmas.Bool.{eqb-true}
use Rattle.asn1_core.specs.Binds.{some_is}
use Rattle.asn1_core.specs.Contents.{Contents}

abbrev pub octets_to : List ℕ → Option (List ℕ)
octets_to b = Some b

abbrev pub octets_of : List ℕ → Option (List ℕ)
octets_of b = Some b

pub octets_there : (b v : List ℕ) → octets_of b ≡ Some v → octets_to v ≡ Some b
octets_there b v e = ap octets_to (sym (some_is b v e))

pub octets_back : (v b : List ℕ) → octets_to v ≡ Some b → octets_of b ≡ Some v
octets_back v b e = ap octets_of (sym (some_is v b e))

unfoldable pub octet_contents : Contents (List ℕ)
octet_contents = record { to = octets_to; of = octets_of; there = octets_there; back = octets_back }

-- none
abbrev pub null_to : Unit {0} → Option (List ℕ)
null_to v = Some []

abbrev pub null_of : List ℕ → Option (Unit {0})
null_of [] = Some tt
null_of (b ∷ rest) = None

pub null_there : (b : List ℕ) (v : Unit {0}) → null_of b ≡ Some v → null_to v ≡ Some b
null_there [] v e = refl
null_there (b ∷ rest) v e = absurd cc

pub null_back : (v : Unit {0}) (b : List ℕ) → null_to v ≡ Some b → null_of b ≡ Some v
null_back v b e = ap null_of (sym (some_is [] b e))

unfoldable pub null_contents : Contents (Unit {0})
null_contents = record { to = null_to; of = null_of; there = null_there; back = null_back }

-- FF for TRUE, and 00 for FALSE
abbrev pub bool_to : Bool → Option (List ℕ)
bool_to b = Some (cond b (255 ∷ []) (0 ∷ []))

abbrev pub bool_of : List ℕ → Option Bool
bool_of [] = None
bool_of (b ∷ []) = cond (b == 255) (Some true) (cond (b == 0) (Some false) None)
bool_of (b ∷ c ∷ rest) = None

bool_at : (b : ℕ) (v : Bool) (p q : Bool) → (b == 255) ≡ p → (b == 0) ≡ q → cond p (Some true) (cond q (Some false) None) ≡ Some v → bool_to v ≡ Some (b ∷ [])
bool_at b v true q e f h = ap bool_to (sym (some_is true v h)) ∙ ap (λ (x : ℕ). let l : List ℕ = x ∷ [] in Some l) (sym (eqb-true b 255 e))
bool_at b v false true e f h = ap bool_to (sym (some_is false v h)) ∙ ap (λ (x : ℕ). let l : List ℕ = x ∷ [] in Some l) (sym (eqb-true b 0 f))
bool_at b v false false e f h = absurd cc

pub bool_there : (b : List ℕ) (v : Bool) → bool_of b ≡ Some v → bool_to v ≡ Some b
bool_there [] v e = absurd cc
bool_there (b ∷ []) v e = bool_at b v (b == 255) (b == 0) refl refl e
bool_there (b ∷ c ∷ rest) v e = absurd cc

pub bool_back : (v : Bool) (b : List ℕ) → bool_to v ≡ Some b → bool_of b ≡ Some v
bool_back true b e = ap bool_of (sym (some_is (255 ∷ []) b e))
bool_back false b e = ap bool_of (sym (some_is (0 ∷ []) b e))

unfoldable pub boolean_contents : Contents Bool
boolean_contents = record { to = bool_to; of = bool_of; there = bool_there; back = bool_back }
