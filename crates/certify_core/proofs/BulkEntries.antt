-- The entries of a list that is made for measures.
use Rattle.std.proofs.Common.{◌≡◌, ◌<◌, ◌-◌, ℕ, zero, suc, Bool, List, [], ◌∷◌, ◌++◌, map, refl, arith, append_assoc}
use Rattle.std.specs.Prelude.{not}
use Rattle.std.proofs.lemmas.List.{append-nil}
use Rattle.rcgen_issue.specs.CrlView.{RevokedView}
use Rattle.certify_core.specs.Bulk.{bulk_entry, entries_after, next_serial}
use Rattle.profile_params.specs.RevocationLists.{revoked_of_profile}

-- the entries so far, and those after them
abbrev pub so_far : List RevokedView → ℕ → Bool → ℕ → List RevokedView
so_far entries serial has_reason left = entries ++ map revoked_of_profile (entries_after serial has_reason left)

-- one entry more
pub one_more : (entries : List RevokedView) (entry : RevokedView) (serial next : ℕ) (has_reason : Bool) (left rest : ℕ) → 0 < left → next ≡ next_serial serial
    → entry ≡ revoked_of_profile (bulk_entry next has_reason) → rest ≡ left - 1
    → so_far (entries ++ entry ∷ []) next (not has_reason) rest ≡ so_far entries serial has_reason left
one_more entries entry serial next has_reason zero rest l n e r = absurd (omega (arith, l))
one_more entries entry serial next has_reason (suc left) rest l n e r =
    let same : rest ≡ left = omega (arith, r) in
    rw (same, e, n, append_assoc) refl

-- all of them
pub all_made : (entries : List RevokedView) (serial : ℕ) (has_reason : Bool) (left : ℕ) → (0 < left → ⊥) → so_far entries serial has_reason left ≡ entries
all_made entries serial has_reason zero n = append-nil entries
all_made entries serial has_reason (suc left) n = absurd (n (omega arith))

pub ruleset made = (one_more, all_made)
