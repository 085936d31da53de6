-- The octets of the info of a secret's key.
use Rattle.std.specs.Prelude.{◌≡◌, ℕ, Bool, true, false, ◌&&◌, nat_eq, List, [], ◌∷◌, ◌++◌, length, take, drop, refl}
use Rattle.std.specs.Cmp.Lexicographic.{pointwise}
use Rattle.std.specs.Str.{bytes_eq}
use Rattle.std.proofs.Common.{sym, ap, ◌∙◌}
use Rattle.std.proofs.Math.Bool.{and_assoc}
use Rattle.sha2.specs.Sha256.{sha256}
use Rattle.sha2.proofs.Facts256.{length-sha256}
use Rattle.der_tree.specs.Element.{element_octets, identifier_octets, length_octets}
use Rattle.rcgen_sign.specs.declared.sign_algo.TheConstants.{PKCS_ED25519}
use Rattle.rcgen_sign.specs.declared.verifier.TheConstants.{ED25519_INFO}
use Rattle.rcgen_sign.specs.DigestKeys.{digest_key}
use Rattle.rcgen_sign.specs.Keys.{key_info_octets, key_of_parts}

-- what comes before a key of 32 bytes
abbrev front : List ℕ
front = ED25519_INFO.now

-- of a key of 32 bytes
ed25519_info : (key : List ℕ) → length key ≡ 32 → key_info_octets (key_of_parts PKCS_ED25519 key) ≡ front ++ key
unfolding element_octets identifier_octets length_octets
ed25519_info key l = rw (l, l) refl

split_eq : (before back key : List ℕ)
    → bytes_eq key (before ++ back) ≡ (pointwise nat_eq (take (length before) key) before && pointwise nat_eq (drop (length before) key) back)
split_eq [] back key = refl
split_eq (x ∷ before) back [] = refl
split_eq (x ∷ before) back (y ∷ key) = ap (λ (b : Bool). nat_eq y x && b) (split_eq before back key) ∙ sym (and_assoc (nat_eq y x) _ _)

info_eq : (secret key : List ℕ) → bytes_eq key (key_info_octets (digest_key secret))
    ≡ (pointwise nat_eq (take (length front) key) front && pointwise nat_eq (drop (length front) key) (sha256 secret))
info_eq secret key =
    ap (λ (x : List ℕ). bytes_eq key x) (ed25519_info (sha256 secret) (length-sha256 secret)) ∙ split_eq front (sha256 secret) key

pub unknown : (secret key : List ℕ) → pointwise nat_eq (take (length front) key) front ≡ false
    → false ≡ bytes_eq key (key_info_octets (digest_key secret))
unknown secret key e = sym (rw (info_eq secret key, e) refl)

pub known : (secret key : List ℕ) → pointwise nat_eq (take (length front) key) front ≡ true
    → pointwise nat_eq (drop (length front) key) (sha256 secret) ≡ bytes_eq key (key_info_octets (digest_key secret))
known secret key e = sym (rw (info_eq secret key, e) refl)
