-- Key identifiers (RFC 7093, 2).
use Rattle.std.specs.Prelude.{ℕ, Bool, List, [], nat_eq, take}
use Rattle.std.specs.Ordering.{on, eq_of_both}
use Rattle.std.specs.Cmp.Lexicographic.{pointwise}
use Rattle.sha2.specs.Sha256.{sha256}
use Rattle.sha2.specs.Sha512.{sha384, sha512}
use Rattle.rcgen_sign.specs.declared.key_id.KeyIdMethod.{KeyIdMethod}
use Rattle.rcgen_sign.specs.declared.key_id.KeyIdMethod.TheVariants as method

-- how the identifier of a key is made: of a digest, or as the bytes that are given
pub data Method : Type 0 where
  by_sha256 : Method
  by_sha384 : Method
  by_sha512 : Method
  pre_specified : List ℕ → Method

abbrev pub method_of : KeyIdMethod → Method
method_of method.Sha256 = by_sha256
method_of method.Sha384 = by_sha384
method_of method.Sha512 = by_sha512
method_of (method.PreSpecified id) = pre_specified id.items

-- the first 160 bits of the digest of the key's info, or the bytes that are given
abbrev pub key_id : Method → List ℕ → List ℕ
key_id by_sha256 info = take 20 (sha256 info)
key_id by_sha384 info = take 20 (sha384 info)
key_id by_sha512 info = take 20 (sha512 info)
key_id (pre_specified id) info = id

-- ---- equality, as Rust's `==`

-- the place of a method among all
abbrev pub method_place : Method → ℕ
method_place by_sha256 = 0
method_place by_sha384 = 1
method_place by_sha512 = 2
method_place (pre_specified id) = 3

-- the bytes that are given
abbrev pub given_id : Method → List ℕ
given_id (pre_specified id) = id
given_id _ = []

abbrev pub same_method : Method → Method → Bool
same_method = eq_of_both (on method_place nat_eq) (on given_id (pointwise nat_eq))
