-- The object identifiers of extensions (RFC 5280, 4.2, 5.2, 5.3).
use Rattle.std.specs.Prelude.{List, [], ℕ, ◌∷◌}

-- id-ce (RFC 5280, 4.2.1): the arcs of the extension with that last one
abbrev pub id_ce : ℕ → List ℕ
id_ce n = 2 ∷ 5 ∷ 29 ∷ n ∷ []

-- its DER encoding, of an arc below 128
abbrev pub id_ce_der : ℕ → List ℕ
id_ce_der n = 6 ∷ 3 ∷ 85 ∷ 29 ∷ n ∷ []

-- the last arcs, each with its section
abbrev pub ce_subject_key_identifier : ℕ
ce_subject_key_identifier = 14  -- 4.2.1.2

abbrev pub ce_key_usage : ℕ
ce_key_usage = 15  -- 4.2.1.3

abbrev pub ce_subject_alt_name : ℕ
ce_subject_alt_name = 17  -- 4.2.1.6

abbrev pub ce_issuer_alt_name : ℕ
ce_issuer_alt_name = 18  -- 4.2.1.7

abbrev pub ce_basic_constraints : ℕ
ce_basic_constraints = 19  -- 4.2.1.9

abbrev pub ce_crl_number : ℕ
ce_crl_number = 20  -- 5.2.3

abbrev pub ce_crl_reason : ℕ
ce_crl_reason = 21  -- 5.3.1

abbrev pub ce_invalidity_date : ℕ
ce_invalidity_date = 24  -- 5.3.2

abbrev pub ce_delta_crl_indicator : ℕ
ce_delta_crl_indicator = 27  -- 5.2.4

abbrev pub ce_issuing_distribution_point : ℕ
ce_issuing_distribution_point = 28  -- 5.2.5

abbrev pub ce_certificate_issuer : ℕ
ce_certificate_issuer = 29  -- 5.3.3

abbrev pub ce_name_constraints : ℕ
ce_name_constraints = 30  -- 4.2.1.10

abbrev pub ce_crl_distribution_points : ℕ
ce_crl_distribution_points = 31  -- 4.2.1.13

abbrev pub ce_certificate_policies : ℕ
ce_certificate_policies = 32  -- 4.2.1.4

abbrev pub ce_policy_mappings : ℕ
ce_policy_mappings = 33  -- 4.2.1.5

abbrev pub ce_authority_key_identifier : ℕ
ce_authority_key_identifier = 35  -- 4.2.1.1

abbrev pub ce_policy_constraints : ℕ
ce_policy_constraints = 36  -- 4.2.1.11

abbrev pub ce_ext_key_usage : ℕ
ce_ext_key_usage = 37  -- 4.2.1.12

abbrev pub ce_freshest_crl : ℕ
ce_freshest_crl = 46  -- 4.2.1.15

abbrev pub ce_inhibit_any_policy : ℕ
ce_inhibit_any_policy = 54  -- 4.2.1.14
