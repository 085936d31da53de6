-- How many nodes a certificate adds.
use Rattle.std.proofs.Common.{◌≡◌, ◌≤◌, ◌<◌, ◌+◌, ◌&&◌, ◌||◌, Bool, List, None, Option, Some, ap, arith, cond, false, filter, length, length-append, map, not, refl, suc, sym, true, ℕ, [], ◌++◌, ◌∙◌, ◌∷◌}
use Rattle.std.specs.Cmp.Lexicographic.{nat_list_eq_equiv, same_text}
use Rattle.std.specs.List.{cons_option, flat_map}
use Rattle.std.specs.Option.{option_to_list}
use Rattle.std.proofs.lemmas.Grind.{flat_map-append}
use Rattle.std.proofs.lemmas.List.{length-map}
use Rattle.std.proofs.lemmas.List.Folds.{list_any-append}
use Rattle.pkix_trust.specs.declared.policy.PolicyMapping.{PolicyMapping}
use Rattle.path_policies.specs.Growth.{AreAtMost, PolicyStep, count_in, levels_behind, most_nodes}
use Rattle.path_policies.specs.Levels.{Level, Levels, Node, any_nodes, below_these, equivalents, expected_child, expected_policies, expecting, generated, generated_node, has_policy, is_mapped, issuer_domain_policies, mapped, mapped_level, mapped_node, named_node, named_nodes, next_level, parents_of, pruned, pruned_above, unmapped, with_children, with_mappings, with_policies}
use Rattle.path_policies.specs.Policies.{Policy, any_policy, each_once, is_among, is_any, same_policy}
use Rattle.path_policies.proofs.Once.{among_others}

-- ---- tests

first_of : (a b : Bool) → a || b ≡ false → a ≡ false
first_of true b h = h
first_of false b h = refl

second_of : (a b : Bool) → a || b ≡ false → b ≡ false
second_of true b h = cc
second_of false b h = h

both : (a b : Bool) → a ≡ false → b ≡ false → a || b ≡ false
both a b h k = rw (h, k) refl

true_or : (b : Bool) → (b ≡ false → ⊥) → b ≡ true
true_or true h = refl
true_or false h = absurd (h refl)

same_among : (p q : Policy) (ps : List Policy) → same_policy p q ≡ true → is_among p ps ≡ is_among q ps
same_among p q ps e = ap (λ (r : Policy). is_among r ps) (same_text p q (sym e))

-- ---- each policy once: no more of them than a list has that has them all

filter_step : {A : Type 0} (b : Bool) (x : A) (kept xs : List A) → length kept ≤ length xs → length (cond b (x ∷ kept) kept) ≤ suc (length xs)
filter_step true x kept xs h = omega arith
filter_step false x kept xs h = omega arith

filter_at_most : {A : Type 0} (p : A → Bool) (xs : List A) → length (filter p xs) ≤ length xs
filter_at_most p [] = omega arith
filter_at_most p (x ∷ xs) = filter_step (p x) x (filter p xs) xs (filter_at_most p xs)

abbrev others : Policy → List Policy → List Policy
others p ps = filter (λ q. not (same_policy p q)) ps

once_at_most : (ps : List Policy) → length (each_once ps) ≤ length ps
once_at_most [] = omega arith
once_at_most (p ∷ ps) =
    let a : length (others p (each_once ps)) ≤ length (each_once ps) = filter_at_most (λ q. not (same_policy p q)) (each_once ps) in
    let b = once_at_most ps in
    omega arith

fewer_step : (b : Bool) (p q : Policy) (ps : List Policy) → same_policy p q ≡ b → same_policy q p || is_among p ps ≡ true
    → (is_among p ps ≡ true → length (others p ps) < length ps) → length (others p ps) ≤ length ps
    → length (cond (not b) (q ∷ others p ps) (others p ps)) < suc (length ps)
fewer_step true p q ps e h ih most = omega arith
fewer_step false p q ps e h ih most =
    let there : is_among p ps ≡ true = ap (λ (b : Bool). b || is_among p ps) (sym (nat_list_eq_equiv.symm q p ∙ e)) ∙ h in
    let less : length (others p ps) < length ps = ih there in
    omega arith

fewer : (p : Policy) (ps : List Policy) → is_among p ps ≡ true → length (others p ps) < length ps
fewer p [] h = cc
fewer p (q ∷ ps) h = fewer_step (same_policy p q) p q ps refl h (fewer p ps) (filter_at_most (λ q. not (same_policy p q)) ps)

abbrev AreApart : List Policy → Type 0
AreApart [] = Unit {0}
AreApart (p ∷ ps) = (is_among p ps ≡ false) × AreApart ps

is_gone_step : (b : Bool) (p q : Policy) (ps : List Policy) → same_policy p q ≡ b → is_among p ps ≡ false → is_among p (cond (not b) (q ∷ ps) ps) ≡ false
is_gone_step true p q ps e h = h
is_gone_step false p q ps e h = both (same_policy q p) (is_among p ps) (nat_list_eq_equiv.symm q p ∙ e) h

is_gone : (p : Policy) (ps : List Policy) → is_among p (others p ps) ≡ false
is_gone p [] = refl
is_gone p (q ∷ ps) = is_gone_step (same_policy p q) p q (others p ps) refl (is_gone p ps)

none_step : (b : Bool) (q r : Policy) (kept ps : List Policy) → (is_among r ps ≡ false → is_among r kept ≡ false)
    → same_policy q r || is_among r ps ≡ false → is_among r (cond b (q ∷ kept) kept) ≡ false
none_step true q r kept ps ih h = both (same_policy q r) (is_among r kept) (first_of (same_policy q r) (is_among r ps) h) (ih (second_of (same_policy q r) (is_among r ps) h))
none_step false q r kept ps ih h = ih (second_of (same_policy q r) (is_among r ps) h)

none_more : (p r : Policy) (ps : List Policy) → is_among r ps ≡ false → is_among r (others p ps) ≡ false
none_more p r [] h = refl
none_more p r (q ∷ ps) h = none_step (not (same_policy p q)) q r (others p ps) ps (none_more p r ps) h

apart_step : (b : Bool) (p q : Policy) (ps : List Policy) → is_among q ps ≡ false → AreApart (others p ps) → AreApart (cond b (q ∷ others p ps) (others p ps))
apart_step true p q ps h apart = (none_more p q ps h, apart)
apart_step false p q ps h apart = apart

others_apart : (p : Policy) (ps : List Policy) → AreApart ps → AreApart (others p ps)
others_apart p [] h = tt
others_apart p (q ∷ ps) h = apart_step (not (same_policy p q)) p q ps h.0 (others_apart p ps h.1)

once_apart : (ps : List Policy) → AreApart (each_once ps)
once_apart [] = tt
once_apart (p ∷ ps) = (is_gone p (each_once ps), others_apart p (each_once ps) (once_apart ps))

once_none : (p : Policy) (ps : List Policy) → is_among p ps ≡ false → is_among p (each_once ps) ≡ false
once_none p [] h = refl
once_none p (q ∷ ps) h =
    both (same_policy q p) (is_among p (others q (each_once ps))) (first_of (same_policy q p) (is_among p ps) h)
    (none_more q p (each_once ps) (once_none p ps (second_of (same_policy q p) (is_among p ps) h)))

-- the second has each of the first
abbrev AreWithin : List Policy → List Policy → Type 0
AreWithin ps qs = (p : Policy) → is_among p qs ≡ false → is_among p ps ≡ false

within_step : (b : Bool) (p q : Policy) (ps qs : List Policy) → same_policy p q ≡ b → is_among p ps ≡ false → AreWithin (p ∷ ps) qs
    → is_among q (others p qs) ≡ false → is_among q ps ≡ false
within_step true p q ps qs e gone within h = sym (same_among p q ps e) ∙ gone
within_step false p q ps qs e gone within h =
    second_of (same_policy p q) (is_among q ps) (within q (sym (among_others p q qs e) ∙ h))

fits : (ps qs : List Policy) → AreApart ps → AreWithin ps qs → length ps ≤ length qs
fits [] qs apart within = omega arith
fits (p ∷ ps) qs apart within =
    let there : is_among p qs ≡ true = true_or (is_among p qs) (λ e.
    let none : same_policy p p ≡ false = first_of (same_policy p p) (is_among p ps) (within p e) in
    let own : same_policy p p ≡ true = nat_list_eq_equiv.refl p in
    cc) in
    let less : length (others p qs) < length qs = fewer p qs there in
    let rest : length ps ≤ length (others p qs) =
    fits ps (others p qs) apart.1 (λ q h. within_step (same_policy p q) p q ps qs refl apart.0 within h) in
    omega arith

once_within : (ps qs : List Policy) → AreWithin ps qs → length (each_once ps) ≤ length qs
once_within ps qs within = fits (each_once ps) qs (once_apart ps) (λ p h. once_none p ps (within p h))

-- ---- 6.1.3 (d)

abbrev expected_in : Level → List Policy
expected_in level = flat_map (λ v. v.expected_policy_set) level

below_expects_one : (above : Level) (p : Policy) (ps : List Policy) (b : Bool) → has_policy any_policy above ≡ b
    → length (expected_in (option_to_list (below_these above p ps))) ≤ 1
below_expects_one above p [] true e = rw e (omega arith)
below_expects_one above p [] false e = rw e (omega arith)
below_expects_one above p (q ∷ ps) b e = omega arith

named_expects_one : (above : Level) (p : Policy) (b : Bool) → is_any p ≡ b → length (expected_in (option_to_list (named_node above p))) ≤ 1
unfolding named_node
named_expects_one above p true e = rw e (omega arith)
named_expects_one above p false e = rw e (below_expects_one above p (expecting p above) (has_policy any_policy above) refl)

abbrev IsSmall : ℕ → Level → Type 0
IsSmall n level = (length level ≤ n) × (length (expected_in level) ≤ n)

named_step : (o : Option Node) (level : Level) (n : ℕ) → length (expected_in (option_to_list o)) ≤ 1 → IsSmall n level → IsSmall (suc n) (cons_option o level)
named_step None level n one small = (omega arith, omega arith)
named_step (Some v) level n one small =
    let few : length v.expected_policy_set ≤ 1 = omega (arith, one, length-append v.expected_policy_set []) in
    (omega arith, omega (arith, length-append v.expected_policy_set (expected_in level)))

named_small : (above : Level) (ps : List Policy) → IsSmall (length ps) (named_nodes above ps)
named_small above [] = (omega arith, omega arith)
named_small above (p ∷ ps) =
    named_step (named_node above p) (named_nodes above ps) (length ps) (named_expects_one above p (is_any p) refl) (named_small above ps)

children_small : (above : Level) (ps : List Policy) → IsSmall (length ps) (map (expected_child above) ps)
children_small above [] = (omega arith, omega arith)
children_small above (p ∷ ps) = let ih = children_small above ps in (omega arith, omega arith)

small_is : (n m : ℕ) (level : Level) → n ≤ m → IsSmall n level → IsSmall m level
small_is n m level h small = (omega arith, omega arith)

joined_small : (n m : ℕ) (first more : Level) → IsSmall n first → IsSmall m more → IsSmall (n + m) (first ++ more)
joined_small n m first more a b = (
  omega (arith, length-append first more),
  let e : length (expected_in (first ++ more)) ≡ length (expected_in first) + length (expected_in more) =
      ap length (flat_map-append (λ (v : Node). v.expected_policy_set) first more) ∙ length-append (expected_in first) (expected_in more) in
      omega arith,
)

any_small : (above named : Level) → IsSmall (length (expected_policies above)) (any_nodes above named)
unfolding any_nodes
any_small above named =
    small_is _ _ (map (expected_child above) (filter (λ p. not (has_policy p named)) (expected_policies above)))
    (filter_at_most (λ p. not (has_policy p named)) (expected_policies above)) (children_small above (filter (λ p. not (has_policy p named)) (expected_policies above)))

cond_small : (n : ℕ) (b : Bool) (level : Level) → IsSmall n level → IsSmall n (cond b level [])
cond_small n true level small = small
cond_small n false level small = (omega arith, omega arith)

next_small : (above : Level) (ps : List Policy) (any_counts : Bool) → IsSmall (length ps + length (expected_policies above)) (next_level above ps any_counts)
unfolding next_level
next_small above ps any_counts =
    joined_small (length ps) (length (expected_policies above)) (named_nodes above ps) (cond (any_counts && is_among any_policy ps) (any_nodes above (named_nodes above ps)) [])
    (named_small above ps) (cond_small (length (expected_policies above)) (any_counts && is_among any_policy ps) (any_nodes above (named_nodes above ps)) (any_small above (named_nodes above ps)))

-- ---- 6.1.4 (b)

-- a node that isn't mapped expects what it expected, and one that is the subject policies of mappings
abbrev subjects : List PolicyMapping → List Policy
subjects ms = map (λ m. m.subject_domain_policy) ms

abbrev of_issuer : Policy → List PolicyMapping → List Policy
of_issuer q ms = map (λ m. m.subject_domain_policy) (filter (λ m. same_policy m.issuer_domain_policy q) ms)

of_issuer_step : (b : Bool) (p : Policy) (m : PolicyMapping) (kept ms : List PolicyMapping) → (is_among p (subjects ms) ≡ false → is_among p (subjects kept) ≡ false)
    → same_policy m.subject_domain_policy p || is_among p (subjects ms) ≡ false → is_among p (subjects (cond b (m ∷ kept) kept)) ≡ false
of_issuer_step true p m kept ms ih h =
    both (same_policy m.subject_domain_policy p) (is_among p (subjects kept)) (first_of (same_policy m.subject_domain_policy p) (is_among p (subjects ms)) h)
    (ih (second_of (same_policy m.subject_domain_policy p) (is_among p (subjects ms)) h))
of_issuer_step false p m kept ms ih h = ih (second_of (same_policy m.subject_domain_policy p) (is_among p (subjects ms)) h)

of_issuer_within : (q : Policy) (ms : List PolicyMapping) → AreWithin (of_issuer q ms) (subjects ms)
of_issuer_within q [] p h = refl
of_issuer_within q (m ∷ ms) p h =
    of_issuer_step (same_policy m.issuer_domain_policy q) p m (filter (λ m. same_policy m.issuer_domain_policy q) ms) ms (of_issuer_within q ms p) h

equivalents_within : (q : Policy) (ms : List PolicyMapping) → AreWithin (equivalents ms q) (subjects ms)
unfolding equivalents
equivalents_within q ms p h = once_none p (of_issuer q ms) (of_issuer_within q ms p h)

or_none : (p : Policy) (qs rs : List Policy) → is_among p qs ≡ false → is_among p rs ≡ false → is_among p (qs ++ rs) ≡ false
or_none p qs rs h k = list_any-append (λ q. same_policy q p) qs rs ∙ both (is_among p qs) (is_among p rs) h k

none_left : (p : Policy) (qs rs : List Policy) → is_among p (qs ++ rs) ≡ false → is_among p qs ≡ false
none_left p qs rs h = first_of (is_among p qs) (is_among p rs) (sym (list_any-append (λ q. same_policy q p) qs rs) ∙ h)

none_right : (p : Policy) (qs rs : List Policy) → is_among p (qs ++ rs) ≡ false → is_among p rs ≡ false
none_right p qs rs h = second_of (is_among p qs) (is_among p rs) (sym (list_any-append (λ q. same_policy q p) qs rs) ∙ h)

mapped_node_none : (ms : List PolicyMapping) (v : Node) (p : Policy) (b : Bool) → is_mapped ms v.valid_policy ≡ b
    → is_among p v.expected_policy_set ≡ false → is_among p (subjects ms) ≡ false → is_among p (mapped_node ms v).expected_policy_set ≡ false
unfolding mapped_node
mapped_node_none ms v p true e h k = rw e (equivalents_within v.valid_policy ms p k)
mapped_node_none ms v p false e h k = rw e h

mapped_none : (ms : List PolicyMapping) (level : Level) (p : Policy) → is_among p (expected_in level) ≡ false → is_among p (subjects ms) ≡ false
    → is_among p (expected_in (map (mapped_node ms) level)) ≡ false
mapped_none ms [] p h k = refl
mapped_none ms (v ∷ level) p h k =
    or_none p (mapped_node ms v).expected_policy_set (expected_in (map (mapped_node ms) level))
    (mapped_node_none ms v p (is_mapped ms v.valid_policy) refl (none_left p v.expected_policy_set (expected_in level) h) k)
    (mapped_none ms level p (none_right p v.expected_policy_set (expected_in level) h) k)

generated_none : (ms : List PolicyMapping) (qs : List Policy) (p : Policy) → is_among p (subjects ms) ≡ false
    → is_among p (expected_in (map (generated_node ms) qs)) ≡ false
generated_none ms [] p k = refl
generated_none ms (q ∷ qs) p k =
    or_none p (equivalents ms q) (expected_in (map (generated_node ms) qs)) (equivalents_within q ms p k) (generated_none ms qs p k)

cond_none : (b : Bool) (level : Level) (p : Policy) → is_among p (expected_in level) ≡ false → is_among p (expected_in (cond b level [])) ≡ false
cond_none true level p h = h
cond_none false level p h = refl

mapped_within : (ms : List PolicyMapping) (level : Level) → AreWithin (expected_in (mapped ms level)) (expected_in level ++ subjects ms)
unfolding generated
mapped_within ms level p h =
    let old = none_left p (expected_in level) (subjects ms) h in
    let new = none_right p (expected_in level) (subjects ms) h in
    let qs = filter (λ p. not (has_policy p level)) (issuer_domain_policies ms) in
    let more = cond (has_policy any_policy level) (map (generated_node ms) qs) [] in
    ap (is_among p) (flat_map-append (λ (v : Node). v.expected_policy_set) (map (mapped_node ms) level) more)
    ∙ or_none p (expected_in (map (mapped_node ms) level)) (expected_in more) (mapped_none ms level p old new)
    (cond_none (has_policy any_policy level) (map (generated_node ms) qs) p (generated_none ms qs p new))

cond_length : {A : Type 0} (b : Bool) (xs : List A) → length (cond b xs []) ≤ length xs
cond_length true xs = omega arith
cond_length false xs = omega arith

generated_at_most : (ms : List PolicyMapping) (level : Level) → length (generated ms level) ≤ length ms
unfolding generated issuer_domain_policies
generated_at_most ms level =
    let issuers = map (λ (m : PolicyMapping). m.issuer_domain_policy) ms in
    let qs = filter (λ p. not (has_policy p level)) (each_once issuers) in
    let a = cond_length (has_policy any_policy level) (map (generated_node ms) qs) in
    let b = filter_at_most (λ p. not (has_policy p level)) (each_once issuers) in
    let c = once_at_most issuers in
    omega (arith, a, b, c, length-map qs (generated_node ms), length-map ms (λ (m : PolicyMapping). m.issuer_domain_policy))

-- so many nodes, and so many policies that are expected
abbrev IsLimited : ℕ → Level → Type 0
IsLimited n level = (length level ≤ n) × (length (expected_policies level) ≤ n)

mapped_limited : (n : ℕ) (ms : List PolicyMapping) (level : Level) → IsSmall n level → IsLimited (n + length ms) (mapped ms level)
unfolding expected_policies
mapped_limited n ms level small =
    let a = generated_at_most ms level in
    let b = once_within (expected_in (mapped ms level)) (expected_in level ++ subjects ms) (mapped_within ms level) in (
      omega (arith, length-append (map (mapped_node ms) level) (generated ms level), length-map level (mapped_node ms)),
      omega (arith, b, length-append (expected_in level) (subjects ms), length-map ms (λ (m : PolicyMapping). m.subject_domain_policy)),
    )

small_limited : (n m : ℕ) (level : Level) → n ≤ m → IsSmall n level → IsLimited m level
unfolding expected_policies
small_limited n m level h small = (omega arith, omega (arith, once_at_most (expected_in level)))

filter_small_step : (b : Bool) (v : Node) (kept level : Level) → (length kept ≤ length level) × (length (expected_in kept) ≤ length (expected_in level))
    → (length (cond b (v ∷ kept) kept) ≤ suc (length level)) × (length (expected_in (cond b (v ∷ kept) kept)) ≤ length (expected_in (v ∷ level)))
filter_small_step true v kept level ih =
    (omega arith, omega (arith, length-append v.expected_policy_set (expected_in kept), length-append v.expected_policy_set (expected_in level)))
filter_small_step false v kept level ih = (omega arith, omega (arith, length-append v.expected_policy_set (expected_in level)))

filter_small : (p : Node → Bool) (level : Level) → (length (filter p level) ≤ length level) × (length (expected_in (filter p level)) ≤ length (expected_in level))
filter_small p [] = (omega arith, omega arith)
filter_small p (v ∷ level) = filter_small_step (p v) v (filter p level) level (filter_small p level)

mapped_level_limited : (n : ℕ) (ms : List PolicyMapping) (may_map : Bool) (level : Level) → IsSmall n level → IsLimited (n + length ms) (mapped_level ms may_map level)
mapped_level_limited n ms true level small = mapped_limited n ms level small
mapped_level_limited n ms false level small =
    let less = filter_small (λ v. not (is_mapped ms v.valid_policy)) level in
    small_limited n (n + length ms) (unmapped ms level) (omega arith) (omega arith, omega arith)

-- ---- all levels

pruned_at_most : (n : ℕ) (parents : List Policy) (levels : Levels) → AreAtMost n levels → AreAtMost n (pruned_above parents levels)
pruned_at_most n parents [] h = tt
pruned_at_most n parents (level ∷ levels) h =
    (omega (arith, filter_at_most (λ (v : Node). is_among v.valid_policy parents) level, h.0), pruned_at_most n (parents_of (with_children parents level)) levels h.1)

more_at_most : (n m : ℕ) (levels : Levels) → n ≤ m → AreAtMost n levels → AreAtMost m levels
more_at_most n m [] h k = tt
more_at_most n m (level ∷ levels) h k = (omega (arith, h, k.0), more_at_most n m levels h k.1)

-- the deepest level is limited, the others have few nodes
abbrev AreLimited : ℕ → Levels → Type 0
AreLimited n [] = Unit {0}
AreLimited n (level ∷ levels) = IsLimited n level × AreAtMost n levels

-- the same, where the deepest level is a certificate's before its mappings
abbrev AreSmall : ℕ → Levels → Type 0
AreSmall n [] = Unit {0}
AreSmall n (level ∷ levels) = IsSmall n level × AreAtMost n levels

pruned_small : (n : ℕ) (level : Level) (levels : Levels) → IsSmall n level → AreAtMost n levels → AreSmall n (pruned level levels)
unfolding pruned
pruned_small n [] levels small h = tt
pruned_small n (v ∷ vs) levels small h = (small, pruned_at_most n (parents_of (v ∷ vs)) levels h)

pruned_limited : (n : ℕ) (level : Level) (levels : Levels) → IsLimited n level → AreAtMost n levels → AreLimited n (pruned level levels)
unfolding pruned
pruned_limited n [] levels small h = tt
pruned_limited n (v ∷ vs) levels small h = (small, pruned_at_most n (parents_of (v ∷ vs)) levels h)

named_levels : (n : ℕ) (levels : Levels) (ps : Option (List Policy)) (any_counts : Bool) → AreLimited n levels
    → AreSmall (n + count_in ps) (with_policies levels ps any_counts)
named_levels n [] ps any_counts h = tt
named_levels n (level ∷ levels) None any_counts h = tt
named_levels n (level ∷ levels) (Some ps) any_counts h =
    let limited : length level ≤ n = h.0.0 in
    let expects : length (expected_policies level) ≤ n = h.0.1 in
    pruned_small (n + length ps) (next_level level ps any_counts) (level ∷ levels)
    (small_is (length ps + length (expected_policies level)) (n + length ps) (next_level level ps any_counts) (omega arith) (next_small level ps any_counts))
    (omega arith, more_at_most n (n + length ps) levels (omega arith) h.1)

unmapped_levels : (n m : ℕ) (levels : Levels) → n ≤ m → AreSmall n levels → AreLimited m levels
unmapped_levels n m [] h k = tt
unmapped_levels n m (level ∷ levels) h k = (small_limited n m level h k.0, more_at_most n m levels h k.1)

mapped_levels : (n : ℕ) (levels : Levels) (ms : Option (List PolicyMapping)) (may_map : Bool) → AreSmall n levels
    → AreLimited (n + count_in ms) (with_mappings levels ms may_map)
mapped_levels n levels None may_map h = unmapped_levels n (n + 0) levels (omega arith) h
mapped_levels n [] (Some ms) may_map h = tt
mapped_levels n (level ∷ levels) (Some ms) may_map h =
    pruned_limited (n + length ms) (mapped_level ms may_map level) levels (mapped_level_limited n ms may_map level h.0)
    (more_at_most n (n + length ms) levels (omega arith) h.1)

limited_behind : (steps : List PolicyStep) → AreLimited (most_nodes steps) (levels_behind steps)
unfolding expected_policies
limited_behind [] = ((omega arith, omega arith), tt)
limited_behind (s ∷ steps) =
    mapped_levels (most_nodes steps + count_in s.policies) (with_policies (levels_behind steps) s.policies s.any_counts) s.mappings s.may_map
    (named_levels (most_nodes steps) (levels_behind steps) s.policies s.any_counts (limited_behind steps))

at_most : (n : ℕ) (levels : Levels) → AreLimited n levels → AreAtMost n levels
at_most n [] h = tt
at_most n (level ∷ levels) h = (h.0.0, h.1)

pub grows_slowly_is : (steps : List PolicyStep) → AreAtMost (most_nodes steps) (levels_behind steps)
grows_slowly_is steps = at_most (most_nodes steps) (levels_behind steps) (limited_behind steps)
