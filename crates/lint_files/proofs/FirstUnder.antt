-- The first certificate under a key.
use Rattle.std.proofs.Common.{◌≡◌, ◌∙◌, ◌&&◌, ◌||◌, Bool, true, false, List, [], ◌∷◌, ◌++◌, Option, Some, None, ℕ, ap, cond, find, is_none, refl, sym}
use Rattle.std.specs.Str.{bytes_eq}
use Rattle.lint_files.specs.Candidates.{CandidateView}
use Rattle.lint_files.specs.Firsts.{by_index, by_index_key, first_at, with_other_key}
use Rattle.lint_files.specs.Issuers.{any_key, by_key, has_key, if_same, issuer_among, key_of, octets_of, of_name, or_else}
use Rattle.lint_files.specs.Namings.{NamingView}
use Rattle.lint_files.specs.contracts.index_key.IndexKeyPartialEq.TheImpl.{ghosts as keys}
use Rattle.lint_files.specs.declared.index_key.IndexKey.{IndexKey}

-- it is looked for under the key
abbrev pub is_under : IndexKey → CandidateView → Bool
is_under q c = keys.eq (any_key c.subject) q || keys.eq (key_of c.subject c.key) q

abbrev pub first_under : IndexKey → List CandidateView → Option (List ℕ)
first_under q cs = octets_of (find (is_under q) cs)

one : (a b : Bool) (c : CandidateView)
    → octets_of (cond (a || b) (Some c) None) ≡ or_else (or_else None (cond a (Some c.octets) None)) (cond b (Some c.octets) None)
one true b c = refl
one false true c = refl
one false false c = refl

-- one more
pub more : (q : IndexKey) (cs : List CandidateView) (c : CandidateView)
    → first_under q (cs ++ c ∷ [])
    ≡ or_else (or_else (first_under q cs) (if_same (any_key c.subject) q c.octets)) (if_same (key_of c.subject c.key) q c.octets)
more q [] c = one (keys.eq (any_key c.subject) q) (keys.eq (key_of c.subject c.key) q) c
more q (d ∷ cs) c =
    elim (is_under q d) as (λ b. octets_of (cond b (Some d) (find (is_under q) (cs ++ c ∷ [])))
    ≡ or_else (or_else (octets_of (cond b (Some d) (find (is_under q) cs))) (if_same (any_key c.subject) q c.octets)) (if_same (key_of c.subject c.key) q c.octets)) [
      | true ↦ refl
      | false ↦ more q cs c
    ]

-- tests that agree find the same
found_alike : (p r : CandidateView → Bool) (cs : List CandidateView) → ((c : CandidateView) → p c ≡ r c) → octets_of (find p cs) ≡ octets_of (find r cs)
found_alike p r cs h = ap (λ (t : CandidateView → Bool). octets_of (find t cs)) (λ i. λ c. h c i)

any_is : (name : List ℕ) (c : CandidateView) → is_under (any_key name) c ≡ bytes_eq c.subject name
any_is name c = elim (bytes_eq c.subject name) as (λ b. ((b && true) || false) ≡ b) [
  | true ↦ refl
  | false ↦ refl
]

key_is : (name key : List ℕ) (c : CandidateView) (own : Option (List ℕ)) → keys.eq (key_of c.subject own) (key_of name (Some key)) ≡ (bytes_eq c.subject name && has_key key own)
key_is name key c None = refl
key_is name key c (Some own) = refl

keyless_is : (name : List ℕ) (c : CandidateView) (own : Option (List ℕ)) → keys.eq (key_of c.subject own) (key_of name None) ≡ (bytes_eq c.subject name && is_none own)
keyless_is name c None = refl
keyless_is name c (Some own) = refl

-- what is looked for under keys is the issuer
of_names : (cs : List CandidateView) (name : List ℕ) → first_under (any_key name) cs ≡ of_name cs name
of_names cs name = found_alike (is_under (any_key name)) (λ c. bytes_eq c.subject name) cs (any_is name)

by_keys : (cs : List CandidateView) (name : List ℕ) (key : Option (List ℕ)) (by_name : Bool)
    → by_index_key (λ q. first_under q cs) name key by_name ≡ by_key cs name key by_name
by_keys cs name None by_name = of_names cs name
by_keys cs name (Some key) by_name =
    ap (λ (o : Option (List ℕ)). or_else o (with_other_key (λ q. first_under q cs) name by_name))
    (found_alike (is_under (key_of name (Some key))) (λ c. bytes_eq c.subject name && has_key key c.key) cs (λ c. key_is name key c c.key))
    ∙ ap (λ (o : Option (List ℕ)). or_else (octets_of (find (λ c. bytes_eq c.subject name && has_key key c.key) cs)) (or_else o (cond by_name (first_under (any_key name) cs) None)))
    (found_alike (is_under (key_of name None)) (λ c. bytes_eq c.subject name && is_none c.key) cs (λ c. keyless_is name c c.key))
    ∙ ap (λ (o : Option (List ℕ)). or_else (octets_of (find (λ c. bytes_eq c.subject name && has_key key c.key) cs))
    (or_else (octets_of (find (λ c. bytes_eq c.subject name && is_none c.key) cs)) (cond by_name o None))) (of_names cs name)

pub issuers_are : (f : IndexKey → Option (List ℕ)) (cs : List CandidateView) → ((q : IndexKey) → f q ≡ first_under q cs) → by_index f ≡ issuer_among cs
issuers_are f cs h =
    ap by_index (λ i. λ q. h q i) ∙ (λ i. λ n. by_keys cs n.name n.key n.by_name i)
