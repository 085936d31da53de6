-- The working public key (RFC 5280, 6.1.2 (g) to (i), 6.1.4 (d) to (f), 6.1.5 (c) to (e)).
use Rattle.std.specs.Prelude.{Bool, List, None, Option, Some, cond, not, true, ℕ, ◌&&◌, [], ◌∷◌}
use Rattle.std.specs.Str.{bytes_eq}
use Rattle.pkix_cert.specs.declared.algorithm.SubjectPublicKeyInfo.{SubjectPublicKeyInfo}
use Rattle.path_policies.specs.Policies.{same_policy}

-- NULL, 05 00, or left out
abbrev pub are_null : Option (List ℕ) → Bool
are_null None = true
are_null (Some octets) = bytes_eq octets (5 ∷ 0 ∷ [])

-- its own parameters are null, its algorithm is the working one, and that has some
abbrev pub inherits : SubjectPublicKeyInfo → SubjectPublicKeyInfo → Bool
inherits working own =
    are_null own.algorithm.parameters && same_policy own.algorithm.algorithm working.algorithm.algorithm && not (are_null working.algorithm.parameters)

unfoldable pub key_after : SubjectPublicKeyInfo → SubjectPublicKeyInfo → SubjectPublicKeyInfo
key_after working own =
    cond (inherits working own)
    (record {
      algorithm = record { algorithm = own.algorithm.algorithm; parameters = working.algorithm.parameters };
      subject_public_key = own.subject_public_key;
    }) own
