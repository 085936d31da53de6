-- A name keeps one attribute a type: it is shorter than what is pushed where a type occurs twice.
use Rattle.std.proofs.Common.{◌≡◌, ◌∙◌, ap, sym, refl, ℕ, suc, ◌+◌, ◌≤◌, Bool, true, false, cond, ◌||◌, nat_lt, List, [], ◌∷◌, length, Result, Ok, Err, IsErrAnd, arith}
use Rattle.std.specs.List.{list_any, fold}
use Rattle.std.proofs.lemmas.Bool.{lt-ltb, le-ltb}
use Rattle.rcgen_text.specs.DnTypes.{Kind, same_type, same_type_equiv}
use Rattle.rcgen_text.specs.DnValues.{Text}
use Rattle.rcgen_certificate.specs.Params.{default_name}
use Rattle.rcgen_text.specs.Names.{Entry, all_pushed, common_name_alone, entries_of, has_type, pushed}
use Rattle.rcgen_text.specs.declared.dn_type.DnType.{DnType}
use Rattle.rcgen_text.specs.declared.dn_value.DnValue.{DnValue}
use Rattle.toml_format.specs.declared.issuer.Name.{Name}
use Rattle.toml_format.specs.declared.issuer.Name.TheVariants.{CommonName, Default, Subject}
use Rattle.profile_params.specs.Names.{name_of_profile}
use Rattle.shelf_fault.specs.Faults.{Gets, MayFail, and_then}
use Rattle.shelf_fault.specs.declared.fault.Fault.{Fault}
use Rattle.shelf_fault.specs.declared.fault.Fault.TheVariants.{Obstacle}
use Rattle.shelf_fault.specs.declared.fault.Obstacle.TheVariants.{RepeatedType}
use Rattle.shelf_keys.specs.Refusing.{refuse}
use Rattle.shelf_params.specs.Parameters.{given_attributes, has_repeated_type, types_once}

abbrev push : List Entry → Entry → List Entry
push name e = pushed name e.dn_type e.text

-- ---- Bools

absorbed : (s h : Bool) → (s || h) ≡ ((s || h) || s)
absorbed true h = refl
absorbed false true = refl
absorbed false false = refl

or_assoc : (a b c : Bool) → (a || (b || c)) ≡ ((a || b) || c)
or_assoc true b c = refl
or_assoc false b c = refl

or_none : (a : Bool) → (a || false) ≡ a
or_none true = refl
or_none false = refl

crossed : (a b c d : Bool) → ((a || b) || (c || d)) ≡ ((a || c) || (b || d))
crossed true b c d = refl
crossed false true true d = refl
crossed false true false d = refl
crossed false false c d = refl

moved : (h a b r : Bool) → ((h || a) || (b || r)) ≡ (h || ((a || b) || r))
moved true a b r = refl
moved false a b r = or_assoc a b r

-- ---- one attribute more

same_for : (e t u : Kind) → same_type e t ≡ true → same_type e u ≡ same_type t u
same_for e t u h = same_type_equiv.congr e t u h

length_pushed : (n : List Entry) (t : Kind) (x : Text) → length (pushed n t x) ≡ cond (list_any (has_type t) n) (length n) (suc (length n))
length_pushed [] t x = refl
length_pushed (e ∷ n) t x =
    elim (has_type t e) as (λ b. length (cond b (record { dn_type = e.dn_type; text = x } ∷ n) (e ∷ pushed n t x))
    ≡ cond (b || list_any (has_type t) n) (suc (length n)) (suc (suc (length n)))) [
      | true ↦ refl
      | false ↦ ap suc (length_pushed n t x) ∙ under (list_any (has_type t) n) (length n)
    ]
  where
    under : (b : Bool) (m : ℕ) → suc (cond b m (suc m)) ≡ cond b (suc m) (suc (suc m))
    under true m = refl
    under false m = refl

there_pushed : (n : List Entry) (t u : Kind) (x : Text) → list_any (has_type u) (pushed n t x) ≡ (list_any (has_type u) n || same_type t u)
there_pushed [] t u x = or_none (same_type t u)
there_pushed (e ∷ n) t u x =
    elim (has_type t e) as (λ b. has_type t e ≡ b → list_any (has_type u) (cond b (record { dn_type = e.dn_type; text = x } ∷ n) (e ∷ pushed n t x))
    ≡ ((same_type e.dn_type u || list_any (has_type u) n) || same_type t u)) [
      | true ↦ λ h. absorbed (same_type e.dn_type u) (list_any (has_type u) n)
          ∙ ap (λ (b : Bool). (same_type e.dn_type u || list_any (has_type u) n) || b) (same_for e.dn_type t u h)
      | false ↦ λ h. ap (λ (b : Bool). same_type e.dn_type u || b) (there_pushed n t u x)
          ∙ or_assoc (same_type e.dn_type u) (list_any (has_type u) n) (same_type t u)
    ] refl

-- the type of some attribute is one of the name's
abbrev meets : List Entry → List Entry → Bool
meets n es = list_any (λ e. list_any (has_type e.dn_type) n) es

meets_pushed : (n : List Entry) (t : Kind) (x : Text) (es : List Entry) → meets (pushed n t x) es ≡ (meets n es || list_any (has_type t) es)
meets_pushed n t x [] = refl
meets_pushed n t x (e ∷ es) =
    ap (λ (b : Bool). b || meets (pushed n t x) es)
    (there_pushed n t e.dn_type x ∙ ap (λ (b : Bool). list_any (has_type e.dn_type) n || b) (same_type_equiv.symm t e.dn_type))
    ∙ ap (λ (b : Bool). (list_any (has_type e.dn_type) n || same_type e.dn_type t) || b) (meets_pushed n t x es)
    ∙ crossed (list_any (has_type e.dn_type) n) (same_type e.dn_type t) (meets n es) (list_any (has_type t) es)

-- ---- all of them

-- a type occurs twice in the name and what is pushed onto it
abbrev clashes : List Entry → List Entry → Bool
clashes n es = meets n es || has_repeated_type es

clashes_here : (n : List Entry) (e : Entry) (es : List Entry)
    → clashes n (e ∷ es) ≡ (list_any (has_type e.dn_type) n || clashes (push n e) es)
clashes_here n e es =
    moved (list_any (has_type e.dn_type) n) (meets n es) (list_any (has_type e.dn_type) es) (has_repeated_type es)
    ∙ ap (λ (b : Bool). list_any (has_type e.dn_type) n || (b || has_repeated_type es)) (sym (meets_pushed n e.dn_type e.text es))

no_longer : (es n : List Entry) → length (fold push n es) ≤ length n + length es
no_longer [] n = omega arith
no_longer (e ∷ es) n =
    let i = no_longer es (push n e) in
    at_most (length (push n e)) (length (fold push (push n e) es)) (length n) (length es)
    (list_any (has_type e.dn_type) n) (length_pushed n e.dn_type e.text) i
  where
    at_most : (p q m k : ℕ) (b : Bool) → p ≡ cond b m (suc m) → q ≤ p + k → q ≤ m + suc k
    at_most p q m k true h i = omega (arith, h, i)
    at_most p q m k false h i = omega (arith, h, i)

shorter : (es n : List Entry) → nat_lt (length (fold push n es)) (length n + length es) ≡ clashes n es
shorter [] n = le-ltb (length n) (length n + 0) (omega arith)
shorter (e ∷ es) n =
    by_first (length (push n e)) (length (fold push (push n e) es)) (length n) (length es) (clashes (push n e) es)
    (list_any (has_type e.dn_type) n) (length_pushed n e.dn_type e.text) (no_longer es (push n e)) (shorter es (push n e))
    ∙ sym (clashes_here n e es)
  where
    by_first : (p q m k : ℕ) (c b : Bool) → p ≡ cond b m (suc m) → q ≤ p + k → nat_lt q (p + k) ≡ c → nat_lt q (m + suc k) ≡ (b || c)
    by_first p q m k c true h i s = lt-ltb q (m + suc k) (omega (arith, h, i))
    by_first p q m k c false h i s =
        let e : m + suc k ≡ p + k = omega (arith, h) in ap (λ (j : ℕ). nat_lt q j) e ∙ s

meets_none : (es : List Entry) → meets [] es ≡ false
meets_none [] = refl
meets_none (e ∷ es) = meets_none es

-- the name of these attributes has fewer where a type occurs twice
shorter_where_repeated : (es : List Entry) → nat_lt (length (all_pushed es)) (length es) ≡ has_repeated_type es
shorter_where_repeated es =
    let e : length es ≡ 0 + length es = omega arith in ap (λ (k : ℕ). nat_lt (length (all_pushed es)) k) e ∙ shorter es []
    ∙ ap (λ (b : Bool). b || has_repeated_type es) (meets_none es)

subject_shorter : (n : Name) → nat_lt (length (name_of_profile n)) (length (given_attributes n)) ≡ has_repeated_type (given_attributes n)
subject_shorter (Subject attributes) = shorter_where_repeated attributes
subject_shorter (CommonName text) = le-ltb (length (common_name_alone text)) 0 (omega arith)
subject_shorter Default = le-ltb (length default_name) 0 (omega arith)

-- ---- what was made

-- how many the name has, and how many were given
pub shorter_refused : (n : Name) (made : List Entry) (given : ℕ) → given ≡ length (given_attributes n) → made ≡ name_of_profile n
    → refuse (nat_lt (length made) given) (Obstacle RepeatedType) ≡ types_once n
shorter_refused n made given g m =
    ap (λ (b : Bool). refuse b (Obstacle RepeatedType))
    (ap (λ (k : ℕ). nat_lt (length made) k) g ∙ ap (λ (es : List Entry). nat_lt (length es) (length (given_attributes n))) m ∙ subject_shorter n)

-- its refusal is that of the name
pub refused_by : {A X : Type 0} (view : X → A) (n : Name) (made : List Entry) (given : ℕ) (next : Unit {0} → Result A Fault) (e : Fault) (r : Result X Fault)
    → given ≡ length (given_attributes n) → made ≡ name_of_profile n → MayFail (refuse (nat_lt (length made) given) (Obstacle RepeatedType)) e
    → IsErrAnd r (λ f. f ≡ e) → Gets view (and_then (types_once n) next) r
refused_by view n made given next e (Ok x) g m h p = absurd p
refused_by view n made given next e (Err f) g m h p = λ never.
    ap (λ (q : Result (Unit {0}) Fault). and_then q next) (sym (shorter_refused n made given g m) ∙ h (λ same. never (p ∙ same)))
    ∙ ap (λ (x : Fault). Err x) (sym p)

-- where there is none, what follows is done
pub passed_by : {A : Type 0} (n : Name) (made : List Entry) (given : ℕ) (next : Unit {0} → Result A Fault) → given ≡ length (given_attributes n)
    → made ≡ name_of_profile n → refuse (nat_lt (length made) given) (Obstacle RepeatedType) ≡ Ok tt → and_then (types_once n) next ≡ next tt
passed_by n made given next g m h = ap (λ (q : Result (Unit {0}) Fault). and_then q next) (sym (shorter_refused n made given g m) ∙ h)

-- ---- the attributes of a name, one by one

pub length_seen : (es : List (DnType × DnValue)) → length (entries_of es) ≡ length es
length_seen [] = refl
length_seen (e ∷ es) = ap suc (length_seen es)
