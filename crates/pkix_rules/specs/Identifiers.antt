-- Tables of identifiers that rules look for, each by its arcs.
use Rattle.std.specs.Prelude.{List, [], ℕ, ◌∷◌}
use Rattle.pkix_cert.specs.ExtensionIds.{id_ce}

-- id-at (RFC 5280, A.1): the type of attributes of names with that last arc
abbrev pub id_at : ℕ → List ℕ
id_at n = 2 ∷ 5 ∷ 4 ∷ n ∷ []

-- id-pe (RFC 5280, 4.2.2)
abbrev pub id_pe : ℕ → List ℕ
id_pe n = 1 ∷ 3 ∷ 6 ∷ 1 ∷ 5 ∷ 5 ∷ 7 ∷ 1 ∷ n ∷ []

-- basic and further extensions of certificates, lists, entries and attribute certificates (RFC 5280, 4.2, 5.2, 5.3; RFC 5755, 4.3)
abbrev pub known_extensions : List (List ℕ)
known_extensions =
    id_ce 9 ∷ id_ce 14 ∷ id_ce 15 ∷ id_ce 16 ∷ id_ce 17 ∷ id_ce 18 ∷ id_ce 19 ∷ id_ce 30 ∷ id_ce 31 ∷ id_ce 32 ∷ id_ce 33
    ∷ id_ce 35 ∷ id_ce 36 ∷ id_ce 37 ∷ id_ce 46 ∷ id_ce 54 ∷ id_pe 1 ∷ id_pe 11 ∷ id_pe 24
    ∷ (1 ∷ 3 ∷ 6 ∷ 1 ∷ 5 ∷ 5 ∷ 7 ∷ 48 ∷ 1 ∷ 5 ∷ []) ∷ []

-- extensions of entries of lists (RFC 5280, 5.3)
abbrev pub known_entry_extensions : List (List ℕ)
known_entry_extensions = id_ce 21 ∷ id_ce 24 ∷ id_ce 29 ∷ []

-- extensions of lists (RFC 5280, 5.2)
abbrev pub known_list_extensions : List (List ℕ)
known_list_extensions = id_ce 18 ∷ id_ce 20 ∷ id_ce 27 ∷ id_ce 28 ∷ id_ce 35 ∷ id_ce 46 ∷ id_pe 1 ∷ []

-- the type of country names (RFC 5280, A.1)
abbrev pub country_names : List (List ℕ)
country_names = id_at 6 ∷ []

-- the types of labels of a domain name and of mailboxes (RFC 5280, A.1; RFC 4519, 2.4)
abbrev pub ia5_texts : List (List ℕ)
ia5_texts = (0 ∷ 9 ∷ 2342 ∷ 19200300 ∷ 100 ∷ 1 ∷ 25 ∷ []) ∷ (1 ∷ 2 ∷ 840 ∷ 113549 ∷ 1 ∷ 9 ∷ 1 ∷ []) ∷ []

-- the types of serial numbers and qualifiers in names (RFC 5280, A.1)
abbrev pub printable_texts : List (List ℕ)
printable_texts = id_at 5 ∷ id_at 46 ∷ []

-- the types whose values are of the CHOICE DirectoryString (RFC 5280, A.1): common name, surname, place, state, organization, unit, title, name,
-- given name, initials, generation qualifier and pseudonym
abbrev pub directory_texts : List (List ℕ)
directory_texts =
    id_at 3 ∷ id_at 4 ∷ id_at 7 ∷ id_at 8 ∷ id_at 10 ∷ id_at 11 ∷ id_at 12 ∷ id_at 41 ∷ id_at 42 ∷ id_at 43 ∷ id_at 44
    ∷ id_at 65 ∷ []

-- of these the ones of at most 64 characters: common name, organization, unit and title (RFC 5280, A.1, ub-common-name and others)
abbrev pub texts_to_64 : List (List ℕ)
texts_to_64 = id_at 3 ∷ id_at 10 ∷ id_at 11 ∷ id_at 12 ∷ []

-- of these the ones of at most 128 characters: place, state and pseudonym (RFC 5280, A.1, ub-locality-name and others)
abbrev pub texts_to_128 : List (List ℕ)
texts_to_128 = id_at 7 ∷ id_at 8 ∷ id_at 65 ∷ []

-- the names of principals: Windows' userPrincipalName, and id-pkinit-san of Kerberos (RFC 4556, 3.2.2)
abbrev pub principal_names : List (List ℕ)
principal_names = (1 ∷ 3 ∷ 6 ∷ 1 ∷ 4 ∷ 1 ∷ 311 ∷ 20 ∷ 2 ∷ 3 ∷ []) ∷ (1 ∷ 3 ∷ 6 ∷ 1 ∷ 5 ∷ 2 ∷ 2 ∷ []) ∷ []

-- RSA keys (RFC 3279, 2.3.1)
abbrev pub rsa_keys : List (List ℕ)
rsa_keys = (1 ∷ 2 ∷ 840 ∷ 113549 ∷ 1 ∷ 1 ∷ 1 ∷ []) ∷ []

-- keys of elliptic curves (RFC 5480, 2.1.1)
abbrev pub ec_keys : List (List ℕ)
ec_keys = (1 ∷ 2 ∷ 840 ∷ 10045 ∷ 2 ∷ 1 ∷ []) ∷ []

-- Ed25519 and Ed448 (RFC 8410, 3)
abbrev pub ed25519_keys : List (List ℕ)
ed25519_keys = (1 ∷ 3 ∷ 101 ∷ 112 ∷ []) ∷ []

abbrev pub ed448_keys : List (List ℕ)
ed448_keys = (1 ∷ 3 ∷ 101 ∷ 113 ∷ []) ∷ []

-- signatures of RSA whose parameters are NULL (RFC 3279, 2.2.1; RFC 4055, 5)
abbrev pub rsa_signatures : List (List ℕ)
rsa_signatures =
    (1 ∷ 2 ∷ 840 ∷ 113549 ∷ 1 ∷ 1 ∷ 2 ∷ []) ∷ (1 ∷ 2 ∷ 840 ∷ 113549 ∷ 1 ∷ 1 ∷ 4 ∷ [])
    ∷ (1 ∷ 2 ∷ 840 ∷ 113549 ∷ 1 ∷ 1 ∷ 5 ∷ []) ∷ (1 ∷ 2 ∷ 840 ∷ 113549 ∷ 1 ∷ 1 ∷ 11 ∷ [])
    ∷ (1 ∷ 2 ∷ 840 ∷ 113549 ∷ 1 ∷ 1 ∷ 12 ∷ []) ∷ (1 ∷ 2 ∷ 840 ∷ 113549 ∷ 1 ∷ 1 ∷ 13 ∷ [])
    ∷ (1 ∷ 2 ∷ 840 ∷ 113549 ∷ 1 ∷ 1 ∷ 14 ∷ []) ∷ []

-- signatures without parameters: ECDSA, Ed25519 and Ed448 (RFC 5758, 3.2; RFC 8410, 3)
abbrev pub bare_signatures : List (List ℕ)
bare_signatures =
    (1 ∷ 2 ∷ 840 ∷ 10045 ∷ 4 ∷ 1 ∷ []) ∷ (1 ∷ 2 ∷ 840 ∷ 10045 ∷ 4 ∷ 3 ∷ 1 ∷ []) ∷ (1 ∷ 2 ∷ 840 ∷ 10045 ∷ 4 ∷ 3 ∷ 2 ∷ [])
    ∷ (1 ∷ 2 ∷ 840 ∷ 10045 ∷ 4 ∷ 3 ∷ 3 ∷ []) ∷ (1 ∷ 2 ∷ 840 ∷ 10045 ∷ 4 ∷ 3 ∷ 4 ∷ []) ∷ (1 ∷ 3 ∷ 101 ∷ 112 ∷ [])
    ∷ (1 ∷ 3 ∷ 101 ∷ 113 ∷ []) ∷ []

-- extensions of attribute certificates (RFC 5755, 4.3, 7.2 and 7.4)
abbrev pub known_attribute_extensions : List (List ℕ)
known_attribute_extensions = id_ce 31 ∷ id_ce 35 ∷ id_ce 55 ∷ id_ce 56 ∷ id_pe 1 ∷ id_pe 4 ∷ id_pe 6 ∷ id_pe 10 ∷ []
