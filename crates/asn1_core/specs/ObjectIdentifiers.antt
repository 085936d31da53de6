-- The contents octets of an OBJECT IDENTIFIER (X.690, 8.19).
use Rattle.std.specs.Prelude.{◌≡◌, ℕ, zero, suc, ◌+◌, ◌-◌, ◌*◌, ◌/◌, ◌%◌, ◌^◌, ◌<◌, ◌≤◌, Bool, true, false, ◌&&◌, ◌||◌, cond, nat_lt, List, [], ◌∷◌, ◌++◌, length, Option, Some, None, refl}
use Rattle.std.specs.List.{flat_map}
use Rattle.std.proofs.Common.{sym, ap, ◌∙◌, subst, arith}
use Rattle.std.proofs.lemmas.List.{length-append}
use Rattle.std.proofs.lemmas.Bool.{lt-ltb, le-ltb, ltb-true, ltb-false}
use Rattle.asn1_core.specs.Binds.{◌>>=◌, bind_some, bind_is, some_is, and_true, true_and, chosen}
use Rattle.asn1_core.specs.Arcs.{is_root, are_below, is_oid}
use Rattle.asn1_core.specs.Base128.{base128, base128_at, base128_again, base128_takes, digits}
use Rattle.asn1_core.specs.Contents.{Contents}

-- the bytes as subidentifiers, each below 2 ^ 32, and at most so many
unfoldable pub subidentifiers_in : ℕ → List ℕ → Option (List ℕ)
subidentifiers_in k [] = Some []
subidentifiers_in zero (b ∷ bytes) = None
subidentifiers_in (suc k) (b ∷ bytes) = do
  x ← base128_at (2 ^ 25) (b ∷ bytes)
  ns ← subidentifiers_in k x.1
  Some (x.0 ∷ ns)

-- however many
unfoldable pub subidentifiers : List ℕ → Option (List ℕ)
subidentifiers bytes = subidentifiers_in (length bytes) bytes

-- arcs, and those after them, if any
abbrev pub behind : List ℕ → Option (List ℕ) → Option (List ℕ)
behind arcs o = o >>= λ ns. Some (arcs ++ ns)

-- the first arc, from a first subidentifier, which is 40 of it and the second arc (8.19.4)
abbrev pub root_in : ℕ → ℕ
root_in x = cond (nat_lt x 40) 0 (cond (nat_lt x 80) 1 2)

abbrev pub object_identifier_to : List ℕ → Option (List ℕ)
object_identifier_to [] = None
object_identifier_to (a ∷ []) = None
object_identifier_to (a ∷ b ∷ rest) = cond (is_oid (a ∷ b ∷ rest)) (Some (base128 (40 * a + b) ++ flat_map base128 rest)) None

abbrev pub identifier_from : ℕ → List ℕ → Option (List ℕ)
identifier_from x rest = let arcs = root_in x ∷ (x - 40 * root_in x) ∷ rest in cond (is_oid arcs) (Some arcs) None

abbrev pub object_identifier_of : List ℕ → Option (List ℕ)
object_identifier_of bytes = do
  x ← base128_at (2 ^ 25 + 1) bytes
  rest ← subidentifiers x.1
  identifier_from x.0 rest

pub base128_shorter : (limit : ℕ) (bytes : List ℕ) (n : ℕ) (rest : List ℕ) → limit ≤ 128 ^ 8 → base128_at limit bytes ≡ Some (n, rest) → length rest < length bytes
base128_shorter limit bytes n rest l e =
    let h : length bytes ≡ length (base128 n ++ rest) = ap length (base128_takes limit bytes n rest l e).0 in
    omega (arith, h, length-append (base128 n) rest, length-append (digits 128 128 9 (n / 128)) ((n % 128) ∷ []))

subidentifiers_in_some : (k b : ℕ) (bytes : List ℕ) (n : ℕ) (rest : List ℕ) → base128_at (2 ^ 25) (b ∷ bytes) ≡ Some (n, rest) → subidentifiers_in (suc k) (b ∷ bytes) ≡ (subidentifiers_in k rest >>= λ ns. Some (n ∷ ns))
unfolding subidentifiers_in
subidentifiers_in_some k b bytes n rest e = bind_is (base128_at (2 ^ 25) (b ∷ bytes)) (λ x. subidentifiers_in k x.1 >>= λ ns. Some (x.0 ∷ ns)) (n, rest) (subidentifiers_in k rest >>= λ ns. Some (n ∷ ns)) e refl

subidentifiers_in_none : (k b : ℕ) (bytes : List ℕ) → base128_at (2 ^ 25) (b ∷ bytes) ≡ None → subidentifiers_in (suc k) (b ∷ bytes) ≡ None
unfolding subidentifiers_in
subidentifiers_in_none k b bytes e = ap (λ (o : Option (ℕ × List ℕ)). o >>= λ x. subidentifiers_in k x.1 >>= λ ns. Some (x.0 ∷ ns)) e

-- more turns change nothing
subidentifiers_in_more : (k j : ℕ) (bytes : List ℕ) → length bytes ≤ k → length bytes ≤ j → subidentifiers_in k bytes ≡ subidentifiers_in j bytes
unfolding subidentifiers_in
subidentifiers_in_more zero zero [] p q = refl
subidentifiers_in_more zero (suc j) [] p q = refl
subidentifiers_in_more (suc k) zero [] p q = refl
subidentifiers_in_more (suc k) (suc j) [] p q = refl
subidentifiers_in_more zero j (b ∷ bytes) p q = absurd (omega arith)
subidentifiers_in_more (suc k) zero (b ∷ bytes) p q = absurd (omega arith)
subidentifiers_in_more (suc k) (suc j) (b ∷ bytes) p q =
    elim (base128_at (2 ^ 25) (b ∷ bytes)) as (λ o. base128_at (2 ^ 25) (b ∷ bytes) ≡ o → subidentifiers_in (suc k) (b ∷ bytes) ≡ subidentifiers_in (suc j) (b ∷ bytes)) [
      | None ↦ λ e. subidentifiers_in_none k b bytes e ∙ sym (subidentifiers_in_none j b bytes e)
      | Some x ↦ λ e. let l : length x.1 < length (b ∷ bytes) = base128_shorter (2 ^ 25) (b ∷ bytes) x.0 x.1 (omega arith) e in
          subidentifiers_in_some k b bytes x.0 x.1 e ∙ ap (λ (o : Option (List ℕ)). o >>= λ ns. Some (x.0 ∷ ns)) (subidentifiers_in_more k j x.1 (omega arith) (omega arith)) ∙ sym (subidentifiers_in_some j b bytes x.0 x.1 e)
    ] refl

pub subidentifiers_nil : subidentifiers [] ≡ Some []
unfolding subidentifiers subidentifiers_in
subidentifiers_nil = refl

pub subidentifiers_stop : (b : ℕ) (bytes : List ℕ) → base128_at (2 ^ 25) (b ∷ bytes) ≡ None → subidentifiers (b ∷ bytes) ≡ None
unfolding subidentifiers
subidentifiers_stop b bytes e = subidentifiers_in_none (length bytes) b bytes e

pub subidentifiers_step : (b : ℕ) (bytes : List ℕ) (n : ℕ) (rest : List ℕ) → base128_at (2 ^ 25) (b ∷ bytes) ≡ Some (n, rest) → subidentifiers (b ∷ bytes) ≡ (subidentifiers rest >>= λ ns. Some (n ∷ ns))
unfolding subidentifiers
subidentifiers_step b bytes n rest e =
    subidentifiers_in_some (length bytes) b bytes n rest e ∙ ap (λ (o : Option (List ℕ)). o >>= λ ns. Some (n ∷ ns)) (subidentifiers_in_more (length bytes) (length rest) rest (let l : length rest < length (b ∷ bytes) = base128_shorter (2 ^ 25) (b ∷ bytes) n rest (omega arith) e in omega arith) (omega arith))

-- what is read is what is written
subidentifiers_in_takes : (k : ℕ) (bytes ns : List ℕ) → subidentifiers_in k bytes ≡ Some ns → bytes ≡ flat_map base128 ns
unfolding subidentifiers_in
subidentifiers_in_takes zero [] ns e = ap (flat_map base128) (some_is [] ns e)
subidentifiers_in_takes (suc k) [] ns e = ap (flat_map base128) (some_is [] ns e)
subidentifiers_in_takes zero (b ∷ bytes) ns e = absurd cc
subidentifiers_in_takes (suc k) (b ∷ bytes) ns e =
    let x = bind_some (base128_at (2 ^ 25) (b ∷ bytes)) (λ x. subidentifiers_in k x.1 >>= λ ns. Some (x.0 ∷ ns)) ns e in
    let y = bind_some (subidentifiers_in k x.0.1) (λ ns. Some (x.0.0 ∷ ns)) ns x.2 in
    (base128_takes (2 ^ 25) (b ∷ bytes) x.0.0 x.0.1 (omega arith) x.1).0
    ∙ ap (λ (t : List ℕ). base128 x.0.0 ++ t) (subidentifiers_in_takes k x.0.1 y.0 y.1)
    ∙ ap (flat_map base128) (some_is (x.0.0 ∷ y.0) ns y.2)

pub subidentifiers_takes : (bytes ns : List ℕ) → subidentifiers bytes ≡ Some ns → bytes ≡ flat_map base128 ns
unfolding subidentifiers
subidentifiers_takes bytes ns e = subidentifiers_in_takes (length bytes) bytes ns e

subidentifiers_in_below : (k : ℕ) (bytes ns : List ℕ) → subidentifiers_in k bytes ≡ Some ns → are_below (2 ^ 32) ns ≡ true
unfolding subidentifiers_in
subidentifiers_in_below zero [] ns e = subst (λ (x : List ℕ). are_below (2 ^ 32) x ≡ true) (some_is [] ns e) refl
subidentifiers_in_below (suc k) [] ns e = subst (λ (x : List ℕ). are_below (2 ^ 32) x ≡ true) (some_is [] ns e) refl
subidentifiers_in_below zero (b ∷ bytes) ns e = absurd cc
subidentifiers_in_below (suc k) (b ∷ bytes) ns e =
    let x = bind_some (base128_at (2 ^ 25) (b ∷ bytes)) (λ x. subidentifiers_in k x.1 >>= λ ns. Some (x.0 ∷ ns)) ns e in
    let y = bind_some (subidentifiers_in k x.0.1) (λ ns. Some (x.0.0 ∷ ns)) ns x.2 in
    let l : x.0.0 < 2 ^ 25 * 128 = (base128_takes (2 ^ 25) (b ∷ bytes) x.0.0 x.0.1 (omega arith) x.1).1 in
    subst (λ (z : List ℕ). are_below (2 ^ 32) z ≡ true) (some_is (x.0.0 ∷ y.0) ns y.2) (true_and (nat_lt x.0.0 (2 ^ 32)) (are_below (2 ^ 32) y.0) (lt-ltb x.0.0 (2 ^ 32) (omega arith)) (subidentifiers_in_below k x.0.1 y.0 y.1))

pub subidentifiers_below : (bytes ns : List ℕ) → subidentifiers bytes ≡ Some ns → are_below (2 ^ 32) ns ≡ true
unfolding subidentifiers
subidentifiers_below bytes ns e = subidentifiers_in_below (length bytes) bytes ns e

-- what is written is read again
step_again : (n : ℕ) (bytes rest ns : List ℕ) → base128_at (2 ^ 25) bytes ≡ Some (n, rest) → subidentifiers rest ≡ Some ns → subidentifiers bytes ≡ Some (n ∷ ns)
step_again n [] rest ns e f = absurd (let l : length rest < length {A = ℕ} [] = base128_shorter (2 ^ 25) [] n rest (omega arith) e in omega arith)
step_again n (b ∷ bytes) rest ns e f = subidentifiers_step b bytes n rest e ∙ ap (λ (o : Option (List ℕ)). o >>= λ ns. Some (n ∷ ns)) f

pub subidentifiers_again : (ns : List ℕ) → are_below (2 ^ 32) ns ≡ true → subidentifiers (flat_map base128 ns) ≡ Some ns
subidentifiers_again [] h = subidentifiers_nil
subidentifiers_again (n ∷ ns) h =
    let k = and_true (nat_lt n (2 ^ 32)) (are_below (2 ^ 32) ns) h in
    let l : n < 2 ^ 32 = ltb-true n (2 ^ 32) k.0 in
    step_again n (base128 n ++ flat_map base128 ns) (flat_map base128 ns) ns (base128_again (2 ^ 25) n (flat_map base128 ns) (omega arith) (omega arith)) (subidentifiers_again ns k.1)

-- the first two arcs in the first subidentifier, and back
root_whole : (x : ℕ) → 40 * root_in x + (x - 40 * root_in x) ≡ x
root_whole x =
    elim (nat_lt x 40) as (λ t. nat_lt x 40 ≡ t → 40 * cond t 0 (cond (nat_lt x 80) 1 2) + (x - 40 * cond t 0 (cond (nat_lt x 80) 1 2)) ≡ x) [
      | true ↦ λ t. omega arith
      | false ↦ λ t. elim (nat_lt x 80) as (λ u. nat_lt x 80 ≡ u → 40 * cond u 1 2 + (x - 40 * cond u 1 2) ≡ x) [
        | true ↦ λ u. let l : 40 ≤ x = ltb-false x 40 t in omega arith
        | false ↦ λ u. let l : 80 ≤ x = ltb-false x 80 u in omega arith
      ] refl
    ] refl

root_again : (a b x : ℕ) → is_root a b ≡ true → x ≡ 40 * a + b → root_in x ≡ a
root_again zero b x h e = let l : b < 40 = ltb-true b 40 h in rw (lt-ltb x 40 (omega arith)) refl
root_again (suc zero) b x h e = let l : b < 40 = ltb-true b 40 h in rw (le-ltb x 40 (omega arith), lt-ltb x 80 (omega arith)) refl
root_again (suc (suc zero)) b x h e = rw (le-ltb x 40 (omega arith), le-ltb x 80 (omega arith)) refl
root_again (suc (suc (suc a))) b x h e = absurd (let l : suc (suc (suc a)) < 3 = ltb-true (suc (suc (suc a))) 3 (and_true (nat_lt (suc (suc (suc a))) 3) (nat_lt 1 (suc (suc (suc a))) || nat_lt b 40) h).0 in omega arith)

identifier_again : (a b : ℕ) (rest : List ℕ) → is_oid (a ∷ b ∷ rest) ≡ true → identifier_from (40 * a + b) rest ≡ Some (a ∷ b ∷ rest)
identifier_again a b rest h =
    let r : root_in (40 * a + b) ≡ a = root_again a b (40 * a + b) (and_true (is_root a b) (are_below (2 ^ 32) (a ∷ b ∷ rest)) h).0 refl in
    let m : (40 * a + b) - 40 * a ≡ b = omega arith in
    ap (λ (r : ℕ). let arcs = r ∷ ((40 * a + b) - 40 * r) ∷ rest in cond (is_oid arcs) (Some arcs) None) r
    ∙ ap (λ (y : ℕ). let arcs = a ∷ y ∷ rest in cond (is_oid arcs) (Some arcs) None) m
    ∙ ap (λ (t : Bool). cond t (Some (a ∷ b ∷ rest)) None) h

pub object_identifier_there : (b v : List ℕ) → object_identifier_of b ≡ Some v → object_identifier_to v ≡ Some b
object_identifier_there b v e =
    let x = bind_some (base128_at (2 ^ 25 + 1) b) (λ x. subidentifiers x.1 >>= λ rest. identifier_from x.0 rest) v e in
    let y = bind_some (subidentifiers x.0.1) (λ rest. identifier_from x.0.0 rest) v x.2 in
    let arcs = root_in x.0.0 ∷ (x.0.0 - 40 * root_in x.0.0) ∷ y.0 in
    let k = chosen (is_oid arcs) arcs v y.2 in
    let bytes : b ≡ base128 x.0.0 ++ flat_map base128 y.0 =
    (base128_takes (2 ^ 25 + 1) b x.0.0 x.0.1 (omega arith) x.1).0 ∙ ap (λ (t : List ℕ). base128 x.0.0 ++ t) (subidentifiers_takes x.0.1 y.0 y.1) in
    subst (λ (z : List ℕ). object_identifier_to z ≡ Some b) k.1
    (ap (λ (t : Bool). cond t (Some (base128 (40 * root_in x.0.0 + (x.0.0 - 40 * root_in x.0.0)) ++ flat_map base128 y.0)) None) k.0
    ∙ ap (λ (n : ℕ). Some (base128 n ++ flat_map base128 y.0)) (root_whole x.0.0)
    ∙ ap (λ (z : List ℕ). Some z) (sym bytes))

pub object_identifier_back : (v b : List ℕ) → object_identifier_to v ≡ Some b → object_identifier_of b ≡ Some v
object_identifier_back [] b e = absurd cc
object_identifier_back (a ∷ []) b e = absurd cc
object_identifier_back (a ∷ c ∷ rest) b e =
    let k = chosen (is_oid (a ∷ c ∷ rest)) (base128 (40 * a + c) ++ flat_map base128 rest) b e in
    let p = and_true (is_root a c) (are_below (2 ^ 32) (a ∷ c ∷ rest)) k.0 in
    let q = and_true (nat_lt a (2 ^ 32)) (nat_lt c (2 ^ 32) && are_below (2 ^ 32) rest) p.1 in
    let s = and_true (nat_lt c (2 ^ 32)) (are_below (2 ^ 32) rest) q.1 in
    let root : a < 3 = ltb-true a 3 (and_true (nat_lt a 3) (nat_lt 1 a || nat_lt c 40) p.0).0 in
    let second : c < 2 ^ 32 = ltb-true c (2 ^ 32) s.0 in
    subst (λ (z : List ℕ). object_identifier_of z ≡ Some (a ∷ c ∷ rest)) k.1
    (bind_is (base128_at (2 ^ 25 + 1) (base128 (40 * a + c) ++ flat_map base128 rest)) (λ x. subidentifiers x.1 >>= λ rest. identifier_from x.0 rest) (40 * a + c, flat_map base128 rest) (Some (a ∷ c ∷ rest))
    (base128_again (2 ^ 25 + 1) (40 * a + c) (flat_map base128 rest) (omega arith) (omega arith))
    (bind_is (subidentifiers (flat_map base128 rest)) (λ rest. identifier_from (40 * a + c) rest) rest (Some (a ∷ c ∷ rest)) (subidentifiers_again rest s.1) (identifier_again a c rest k.0)))

unfoldable pub object_identifier_contents : Contents (List ℕ)
object_identifier_contents = record { to = object_identifier_to; of = object_identifier_of; there = object_identifier_there; back = object_identifier_back }
