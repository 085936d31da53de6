-- Contents octets of some values of a type, as those of another.
use Rattle.std.specs.Prelude.{◌≡◌, ℕ, nat_le, cond, List, Option, Some, None}
use Rattle.std.proofs.Common.{subst, ap}
use Rattle.asn1_core.specs.Binds.{◌>>=◌, bind_some, bind_is, chosen}
use Rattle.asn1_core.specs.Contents.{Contents}
use Rattle.asn1_core.specs.Unsigned.{unsigned_64_contents}

module _ {A B : Type 0} (c : Contents A) (to : B → Option A) (from : A → Option B) (p : (a : A) (b : B) → from a ≡ Some b → to b ≡ Some a) (q : (b : B) (a : A) → to b ≡ Some a → from a ≡ Some b) where
  abbrev pub narrowed_to : B → Option (List ℕ)
  narrowed_to v = to v >>= c.to

  abbrev pub narrowed_of : List ℕ → Option B
  narrowed_of b = c.of b >>= from

  pub narrowed_there : (b : List ℕ) (v : B) → narrowed_of b ≡ Some v → narrowed_to v ≡ Some b
  narrowed_there b v e =
      let x = bind_some (c.of b) from v e in
      bind_is (to v) c.to x.0 (Some b) (p x.0 v x.2) (c.there b x.0 x.1)

  pub narrowed_back : (v : B) (b : List ℕ) → narrowed_to v ≡ Some b → narrowed_of b ≡ Some v
  narrowed_back v b e =
      let x = bind_some (to v) c.to b e in
      bind_is (c.of b) from x.0 (Some v) (c.back x.0 b x.2) (q v x.0 x.1)

abbrev pub narrowed : {A B : Type 0} (c : Contents A) (to : B → Option A) (from : A → Option B) → ((a : A) (b : B) → from a ≡ Some b → to b ≡ Some a) → ((b : B) (a : A) → to b ≡ Some a → from a ≡ Some b) → Contents B
narrowed c to from p q = record { to = narrowed_to c to from p q; of = narrowed_of c to from p q; there = narrowed_there c to from p q; back = narrowed_back c to from p q }

-- the numbers up to one
abbrev pub up_to : ℕ → ℕ → Option ℕ
up_to max n = cond (nat_le n max) (Some n) None

pub up_to_back : (max a b : ℕ) → up_to max a ≡ Some b → up_to max b ≡ Some a
up_to_back max a b e =
    let k = chosen (nat_le a max) a b e in
    subst (λ (x : ℕ). up_to max x ≡ Some a) k.1 (ap (λ t. let o : Option ℕ = cond t (Some a) None in o) k.0)

-- a number as an INTEGER (X.690, 8.3), where it is at most max
unfoldable pub unsigned_contents : ℕ → Contents ℕ
unsigned_contents max = narrowed unsigned_64_contents (up_to max) (up_to max) (up_to_back max) (up_to_back max)
