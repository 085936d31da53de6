-- Which certificate is the issuer's.
use Rattle.std.specs.Prelude.{Bool, List, None, Option, Some, [], cond, false, find, is_none, length, nat_le, nat_lt, true, ℕ, ◌&&◌, ◌||◌, ◌∷◌}
use Rattle.std.specs.List.{flat_map}
use Rattle.std.specs.Str.{bytes_eq}
use Rattle.asn1_core.specs.Binds.{◌>>=◌}
use Rattle.der_tree.specs.Form.{value_of}
use Rattle.pem.specs.Encoding.{Encoding}
use Rattle.pkix_cert.specs.Certificates.{certificate}
use Rattle.pkix_cert.specs.Views.{certificate_parts}
use Rattle.lint_files.specs.Candidates.{CandidateView}
use Rattle.lint_files.specs.Extensions.{own_key}
use Rattle.lint_files.specs.Kinds.{kind_of}
use Rattle.lint_files.specs.Namings.{NamingView}
use Rattle.lint_files.specs.contracts.index_key.IndexKeyPartialEq.TheImpl.{ghosts as keys}
use Rattle.lint_files.specs.declared.index_key.IndexKey.{IndexKey}
use Rattle.lint_files.specs.declared.kind.Kind.{Kind}
use Rattle.lint_files.specs.declared.kind.Kind.TheVariants as kind

-- ---- the certificates among blocks

unfoldable pub candidate_of : List ℕ → Option CandidateView
candidate_of octets = do
  c ← value_of certificate octets
  p ← certificate_parts octets
  Some (record { subject = p.subject; key = own_key c.tbs_certificate.extensions; octets = octets })

-- of at most 64 KiB
abbrev pub is_candidate : Kind → List ℕ → Bool
is_candidate kind.Certificate octets = nat_le (length octets) 65_536
is_candidate kind.Request octets = false
is_candidate kind.List octets = false
is_candidate kind.AttributeCertificate octets = false
is_candidate kind.PublicKey octets = false
is_candidate kind.Other octets = false

-- a certificate of more
abbrev pub is_large : Kind → List ℕ → Bool
is_large kind.Certificate octets = nat_lt 65_536 (length octets)
is_large kind.Request octets = false
is_large kind.List octets = false
is_large kind.AttributeCertificate octets = false
is_large kind.PublicKey octets = false
is_large kind.Other octets = false

unfoldable pub candidate_in : Encoding → Option CandidateView
candidate_in e = cond (is_candidate (kind_of e.label) e.octets) (candidate_of e.octets) None

abbrev pub in_list : {A : Type 0} → Option A → List A
in_list None = []
in_list (Some x) = x ∷ []

-- in the order of the blocks
abbrev pub candidates_in : List Encoding → List CandidateView
candidates_in es = flat_map (λ e. in_list (candidate_in e)) es

-- ---- the issuer's

abbrev pub octets_of : Option CandidateView → Option (List ℕ)
octets_of found = found >>= λ c. Some c.octets

abbrev pub or_else : {A : Type 0} → Option A → Option A → Option A
or_else None b = b
or_else (Some a) b = Some a

abbrev pub has_key : List ℕ → Option (List ℕ) → Bool
has_key key None = false
has_key key (Some own) = bytes_eq own key

abbrev pub of_name : List CandidateView → List ℕ → Option (List ℕ)
of_name cs name = octets_of (find (λ c. bytes_eq c.subject name) cs)

-- the first whose subject has the octets of the name; where a key is named (RFC 5280, 4.2.1.1), the first that has its identifier, else
-- the first that has none, and else the first of the name, where another key is taken too
abbrev pub by_key : List CandidateView → List ℕ → Option (List ℕ) → Bool → Option (List ℕ)
by_key cs name None by_name = of_name cs name
by_key cs name (Some key) by_name =
    or_else (octets_of (find (λ c. bytes_eq c.subject name && has_key key c.key) cs))
    (or_else (octets_of (find (λ c. bytes_eq c.subject name && is_none c.key) cs)) (cond by_name (of_name cs name) None))

abbrev pub issuer_among : List CandidateView → NamingView → Option (List ℕ)
issuer_among cs n = by_key cs n.name n.key n.by_name

-- ---- under what they are looked for

abbrev pub any_key : List ℕ → IndexKey
any_key subject = record { subject = subject; is_any = true; key = None }

abbrev pub key_of : List ℕ → Option (List ℕ) → IndexKey
key_of subject key = record { subject = subject; is_any = false; key = key }

abbrev pub if_same : IndexKey → IndexKey → List ℕ → Option (List ℕ)
if_same k q octets = cond (keys.eq k q) (Some octets) None
