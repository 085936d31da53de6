-- Numbers in the fewest octets.
use Rattle.std.specs.Prelude.{◌≡◌, ℕ, true, false, cond, nat_lt, ◌==◌, List, [], ◌∷◌, refl}
use Rattle.std.proofs.Common.{arith}
use Rattle.std.proofs.lemmas.Bool.{ltb-true, ne_eqb}
use Rattle.asn1_core.specs.Twos.{is_shortest, with_sign, without_zeros, unsigned}

no_sign : (a : ℕ) (rest : List ℕ) → (a == 0) ≡ false → nat_lt a 128 ≡ true → is_shortest (a ∷ rest) ≡ true
no_sign a [] e l = refl
no_sign a (b ∷ rest) e l =
    let below = ltb-true a 128 l in
    rw (e, ne_eqb a 255 (λ z. omega arith)) refl

signed_shortest : (a : ℕ) (rest : List ℕ) → (a == 0) ≡ false → is_shortest (with_sign (a ∷ rest)) ≡ true
signed_shortest a rest e =
    elim (nat_lt a 128) as (λ b. nat_lt a 128 ≡ b → is_shortest (cond b (a ∷ rest) (0 ∷ a ∷ rest)) ≡ true) [
      | true ↦ λ l. no_sign a rest e l
      | false ↦ λ l. rw l refl
    ] refl

pub unsigned_shortest : (bytes : List ℕ) → is_shortest (unsigned bytes) ≡ true
unsigned_shortest [] = refl
unsigned_shortest (a ∷ rest) =
    elim (a == 0) as (λ b. (a == 0) ≡ b → is_shortest (with_sign (cond b (without_zeros rest) (a ∷ rest))) ≡ true) [
      | true ↦ λ e. unsigned_shortest rest
      | false ↦ λ e. signed_shortest a rest e
    ] refl
