-- The signature algorithms: a row for each.
use Rattle.std.specs.Prelude.{ℕ, Bool, List, [], ◌∷◌, ◌++◌, Option, Some, None, nat_eq}
use Rattle.std.specs.Cmp.Lexicographic.{pointwise}
use Rattle.std.specs.Option.{option_eq}
use Rattle.rcgen_sign.specs.declared.key_info.KeyAlgorithm.{KeyAlgorithm}
use Rattle.rcgen_sign.specs.declared.sign_algo.SignatureAlgorithm.{SignatureAlgorithm}
use Rattle.rcgen_sign.specs.declared.sign_algo.Scheme.{Scheme}
use Rattle.rcgen_sign.specs.declared.sign_algo.Scheme.TheVariants as scheme

-- how keys of a kind are named
pub record KeyRow : Type 0 where
  -- the identifier: its arcs, and the element that its parameters are
  pub arcs : List ℕ
  pub parameters : Option (List ℕ)
  -- the bytes of it, its form
  pub element : List ℕ

pub record Row : Type 0 where
  -- the arcs of the identifier of its signatures
  pub signature_arcs : List ℕ
  -- the element that its parameters are
  pub signature_parameters : Option (List ℕ)
  pub keys : KeyRow

-- ---- keys

-- rsaEncryption with NULL (RFC 3279, 2.3.1)
abbrev pub rsa_keys : KeyRow
rsa_keys = record {
  arcs = 1 ∷ 2 ∷ 840 ∷ 113549 ∷ 1 ∷ 1 ∷ 1 ∷ [];
  parameters = Some (0x05 ∷ 0x00 ∷ []);
  element = 0x30 ∷ 0x0D ∷ 0x06 ∷ 0x09 ∷ 0x2A ∷ 0x86 ∷ 0x48 ∷ 0x86 ∷ 0xF7 ∷ 0x0D ∷ 0x01 ∷ 0x01 ∷ 0x01 ∷ 0x05 ∷ 0x00 ∷ [];
}

-- id-ecPublicKey (RFC 5480, 2.1.1)
abbrev pub ec_public_key : List ℕ
ec_public_key = 1 ∷ 2 ∷ 840 ∷ 10045 ∷ 2 ∷ 1 ∷ []

-- the curves (RFC 5480, 2.1.1.1)
abbrev pub secp256r1 : List ℕ
secp256r1 = 1 ∷ 2 ∷ 840 ∷ 10045 ∷ 3 ∷ 1 ∷ 7 ∷ []

abbrev pub secp384r1 : List ℕ
secp384r1 = 1 ∷ 3 ∷ 132 ∷ 0 ∷ 34 ∷ []

abbrev pub secp521r1 : List ℕ
secp521r1 = 1 ∷ 3 ∷ 132 ∷ 0 ∷ 35 ∷ []

-- with secp256r1
abbrev pub p256_keys : KeyRow
p256_keys = record {
  arcs = ec_public_key;
  parameters = Some (0x06 ∷ 0x08 ∷ 0x2A ∷ 0x86 ∷ 0x48 ∷ 0xCE ∷ 0x3D ∷ 0x03 ∷ 0x01 ∷ 0x07 ∷ []);
  element =
      0x30 ∷ 0x13 ∷ 0x06 ∷ 0x07 ∷ 0x2A ∷ 0x86 ∷ 0x48 ∷ 0xCE ∷ 0x3D ∷ 0x02 ∷ 0x01 ∷ 0x06 ∷ 0x08 ∷ 0x2A ∷ 0x86 ∷ 0x48 ∷ 0xCE ∷ 0x3D ∷ 0x03 ∷ 0x01
      ∷ 0x07 ∷ [];
}

-- with secp384r1
abbrev pub p384_keys : KeyRow
p384_keys = record {
  arcs = ec_public_key;
  parameters = Some (0x06 ∷ 0x05 ∷ 0x2B ∷ 0x81 ∷ 0x04 ∷ 0x00 ∷ 0x22 ∷ []);
  element =
      0x30 ∷ 0x10 ∷ 0x06 ∷ 0x07 ∷ 0x2A ∷ 0x86 ∷ 0x48 ∷ 0xCE ∷ 0x3D ∷ 0x02 ∷ 0x01 ∷ 0x06 ∷ 0x05 ∷ 0x2B ∷ 0x81 ∷ 0x04 ∷ 0x00 ∷ 0x22 ∷ [];
}

-- with secp521r1
abbrev pub p521_keys : KeyRow
p521_keys = record {
  arcs = ec_public_key;
  parameters = Some (0x06 ∷ 0x05 ∷ 0x2B ∷ 0x81 ∷ 0x04 ∷ 0x00 ∷ 0x23 ∷ []);
  element =
      0x30 ∷ 0x10 ∷ 0x06 ∷ 0x07 ∷ 0x2A ∷ 0x86 ∷ 0x48 ∷ 0xCE ∷ 0x3D ∷ 0x02 ∷ 0x01 ∷ 0x06 ∷ 0x05 ∷ 0x2B ∷ 0x81 ∷ 0x04 ∷ 0x00 ∷ 0x23 ∷ [];
}

-- id-Ed25519 (RFC 8410, 3)
abbrev pub ed25519_arcs : List ℕ
ed25519_arcs = 1 ∷ 3 ∷ 101 ∷ 112 ∷ []

-- without parameters (RFC 8410, 3)
abbrev pub ed25519_keys : KeyRow
ed25519_keys = record { arcs = ed25519_arcs; parameters = None; element = 0x30 ∷ 0x05 ∷ 0x06 ∷ 0x03 ∷ 0x2B ∷ 0x65 ∷ 0x70 ∷ [] }

-- one of id-ml-dsa-44, id-ml-dsa-65 and id-ml-dsa-87 (RFC 9881, 2)
abbrev pub ml_dsa_arcs : ℕ → List ℕ
ml_dsa_arcs arc = 2 ∷ 16 ∷ 840 ∷ 1 ∷ 101 ∷ 3 ∷ 4 ∷ 3 ∷ arc ∷ []

-- without parameters (RFC 9881, 2)
abbrev pub ml_dsa_keys : ℕ → KeyRow
ml_dsa_keys arc = record {
  arcs = ml_dsa_arcs arc;
  parameters = None;
  element = 0x30 ∷ 0x0B ∷ 0x06 ∷ 0x09 ∷ 0x60 ∷ 0x86 ∷ 0x48 ∷ 0x01 ∷ 0x65 ∷ 0x03 ∷ 0x04 ∷ 0x03 ∷ arc ∷ [];
}

-- ---- RSASSA-PSS

-- { pkcs-1 10 }: id-RSASSA-PSS (RFC 4055, 3.1)
abbrev pub pss_arcs : List ℕ
pss_arcs = 1 ∷ 2 ∷ 840 ∷ 113549 ∷ 1 ∷ 1 ∷ 10 ∷ []

-- sha256Identifier, sha384Identifier or sha512Identifier, with NULL (RFC 4055, 2.1)
abbrev pub hash_identifier : ℕ → List ℕ
hash_identifier arc = 0x30 ∷ 0x0D ∷ 0x06 ∷ 0x09 ∷ 0x60 ∷ 0x86 ∷ 0x48 ∷ 0x01 ∷ 0x65 ∷ 0x03 ∷ 0x04 ∷ 0x02 ∷ arc ∷ 0x05 ∷ 0x00 ∷ []

-- RSASSA-PSS-params (RFC 4055, 3.1): hashAlgorithm [0]; maskGenAlgorithm [1], which is id-mgf1, { pkcs-1 8 }, with the same hash
-- function; saltLength [2]; the trailerField is the default, so it isn't there
abbrev pub pss_params : ℕ → ℕ → List ℕ
pss_params arc salt =
    0x30 ∷ 0x34 ∷ 0xA0 ∷ 0x0F ∷ hash_identifier arc
    ++ (0xA1 ∷ 0x1C ∷ 0x30 ∷ 0x1A ∷ 0x06 ∷ 0x09 ∷ 0x2A ∷ 0x86 ∷ 0x48 ∷ 0x86 ∷ 0xF7 ∷ 0x0D ∷ 0x01 ∷ 0x01 ∷ 0x08 ∷ hash_identifier arc)
    ++ (0xA2 ∷ 0x03 ∷ 0x02 ∷ 0x01 ∷ salt ∷ [])

-- id-RSASSA-PSS without parameters (RFC 4055, 3.1)
abbrev pub pss_keys : KeyRow
pss_keys = record {
  arcs = pss_arcs;
  parameters = None;
  element = 0x30 ∷ 0x0B ∷ 0x06 ∷ 0x09 ∷ 0x2A ∷ 0x86 ∷ 0x48 ∷ 0x86 ∷ 0xF7 ∷ 0x0D ∷ 0x01 ∷ 0x01 ∷ 0x0A ∷ [];
}

-- with these parameters (RFC 4055, 3.1)
abbrev pub pss_only_keys : List ℕ → KeyRow
pss_only_keys params = record {
  arcs = pss_arcs;
  parameters = Some params;
  element = 0x30 ∷ 0x41 ∷ 0x06 ∷ 0x09 ∷ 0x2A ∷ 0x86 ∷ 0x48 ∷ 0x86 ∷ 0xF7 ∷ 0x0D ∷ 0x01 ∷ 0x01 ∷ 0x0A ∷ params;
}

-- ---- algorithms

-- NULL
abbrev pub null_element : List ℕ
null_element = 0x05 ∷ 0x00 ∷ []

-- one of sha256WithRSAEncryption, sha384WithRSAEncryption and sha512WithRSAEncryption, with NULL (RFC 4055, 5)
abbrev pub rsa_row : ℕ → Row
rsa_row arc = record { signature_arcs = 1 ∷ 2 ∷ 840 ∷ 113549 ∷ 1 ∷ 1 ∷ arc ∷ []; signature_parameters = Some null_element; keys = rsa_keys }

-- one of ecdsa-with-SHA256, ecdsa-with-SHA384 and ecdsa-with-SHA512, without parameters (RFC 5758, 3.2)
abbrev pub ecdsa_row : ℕ → KeyRow → Row
ecdsa_row arc keys = record { signature_arcs = 1 ∷ 2 ∷ 840 ∷ 10045 ∷ 4 ∷ 3 ∷ arc ∷ []; signature_parameters = None; keys = keys }

abbrev pub rsa_sha256 : Row
rsa_sha256 = rsa_row 11

abbrev pub rsa_sha384 : Row
rsa_sha384 = rsa_row 12

abbrev pub rsa_sha512 : Row
rsa_sha512 = rsa_row 13

abbrev pub ecdsa_p256_sha256 : Row
ecdsa_p256_sha256 = ecdsa_row 2 p256_keys

abbrev pub ecdsa_p384_sha384 : Row
ecdsa_p384_sha384 = ecdsa_row 3 p384_keys

abbrev pub ecdsa_p521_sha256 : Row
ecdsa_p521_sha256 = ecdsa_row 2 p521_keys

abbrev pub ecdsa_p521_sha384 : Row
ecdsa_p521_sha384 = ecdsa_row 3 p521_keys

abbrev pub ecdsa_p521_sha512 : Row
ecdsa_p521_sha512 = ecdsa_row 4 p521_keys

-- RFC 8410, 3
abbrev pub ed25519 : Row
ed25519 = record { signature_arcs = ed25519_arcs; signature_parameters = None; keys = ed25519_keys }

-- its identifier names keys and signatures (RFC 9881, 2)
abbrev pub ml_dsa_row : ℕ → Row
ml_dsa_row arc = record { signature_arcs = ml_dsa_arcs arc; signature_parameters = None; keys = ml_dsa_keys arc }

abbrev pub ml_dsa_44 : Row
ml_dsa_44 = ml_dsa_row 17

abbrev pub ml_dsa_65 : Row
ml_dsa_65 = ml_dsa_row 18

abbrev pub ml_dsa_87 : Row
ml_dsa_87 = ml_dsa_row 19

-- id-RSASSA-PSS with these parameters (RFC 4055, 3.1)
abbrev pub pss_row : List ℕ → KeyRow → Row
pss_row params keys = record { signature_arcs = pss_arcs; signature_parameters = Some params; keys = keys }

abbrev pub sha256_params : List ℕ
sha256_params = pss_params 1 32

abbrev pub sha384_params : List ℕ
sha384_params = pss_params 2 48

abbrev pub sha512_params : List ℕ
sha512_params = pss_params 3 64

abbrev pub rsa_pss_sha256 : Row
rsa_pss_sha256 = pss_row sha256_params rsa_keys

abbrev pub rsa_pss_sha384 : Row
rsa_pss_sha384 = pss_row sha384_params rsa_keys

abbrev pub rsa_pss_sha512 : Row
rsa_pss_sha512 = pss_row sha512_params rsa_keys

abbrev pub pss_sha256 : Row
pss_sha256 = pss_row sha256_params pss_keys

abbrev pub pss_sha384 : Row
pss_sha384 = pss_row sha384_params pss_keys

abbrev pub pss_sha512 : Row
pss_sha512 = pss_row sha512_params pss_keys

abbrev pub pss_only_sha256 : Row
pss_only_sha256 = pss_row sha256_params (pss_only_keys sha256_params)

abbrev pub pss_only_sha384 : Row
pss_only_sha384 = pss_row sha384_params (pss_only_keys sha384_params)

abbrev pub pss_only_sha512 : Row
pss_only_sha512 = pss_row sha512_params (pss_only_keys sha512_params)

-- ---- the row of each

abbrev scheme_row : Scheme → Row
scheme_row scheme.RsaSha256 = rsa_sha256
scheme_row scheme.RsaSha384 = rsa_sha384
scheme_row scheme.RsaSha512 = rsa_sha512
scheme_row scheme.EcdsaP256Sha256 = ecdsa_p256_sha256
scheme_row scheme.EcdsaP384Sha384 = ecdsa_p384_sha384
scheme_row scheme.EcdsaP521Sha256 = ecdsa_p521_sha256
scheme_row scheme.EcdsaP521Sha384 = ecdsa_p521_sha384
scheme_row scheme.EcdsaP521Sha512 = ecdsa_p521_sha512
scheme_row scheme.Ed25519 = ed25519
scheme_row scheme.MlDsa44 = ml_dsa_44
scheme_row scheme.MlDsa65 = ml_dsa_65
scheme_row scheme.MlDsa87 = ml_dsa_87
scheme_row scheme.RsaPssSha256 = rsa_pss_sha256
scheme_row scheme.RsaPssSha384 = rsa_pss_sha384
scheme_row scheme.RsaPssSha512 = rsa_pss_sha512
scheme_row scheme.PssSha256 = pss_sha256
scheme_row scheme.PssSha384 = pss_sha384
scheme_row scheme.PssSha512 = pss_sha512
scheme_row scheme.PssOnlySha256 = pss_only_sha256
scheme_row scheme.PssOnlySha384 = pss_only_sha384
scheme_row scheme.PssOnlySha512 = pss_only_sha512

-- the row of an algorithm
abbrev pub row_of : SignatureAlgorithm → Row
row_of a = scheme_row a.scheme

abbrev pub signature_arcs : SignatureAlgorithm → List ℕ
signature_arcs a = (row_of a).signature_arcs

abbrev pub signature_parameters : SignatureAlgorithm → Option (List ℕ)
signature_parameters a = (row_of a).signature_parameters

-- they are NULL
abbrev pub signature_null : SignatureAlgorithm → Bool
signature_null a = option_eq (pointwise nat_eq) (signature_parameters a) (Some null_element)

abbrev pub key_arcs : SignatureAlgorithm → List ℕ
key_arcs a = (row_of a).keys.arcs

abbrev pub key_parameters : SignatureAlgorithm → Option (List ℕ)
key_parameters a = (row_of a).keys.parameters

-- how certificates name the algorithm of its keys (RFC 5280, 4.1.2.7)
abbrev pub key_algorithm_value : SignatureAlgorithm → KeyAlgorithm
key_algorithm_value a = record { algorithm = key_arcs a; parameters = key_parameters a }

-- the DER of that
abbrev pub key_element : SignatureAlgorithm → List ℕ
key_element a = (row_of a).keys.element
