-- Marks stay those of the entries, and the entries of different serial numbers.
use Rattle.std.specs.Prelude.{◌≡◌, ◌⊎◌, ℕ, suc, ◌<◌, ◌-◌, nat_lt, Bool, true, false, ◌==◌, nat_eq, ◌||◌, ◌^◌, List, [], ◌∷◌, ◌++◌, length, get_or, map, set, refl}
use Rattle.std.specs.List.{IsDistinct, list_any}
use Rattle.std.specs.Int.{w64, from_be_bytes, to_be_bytes}
use Rattle.std.proofs.Common.{inl, inr, sym, ap, subst, ◌∙◌, arith}
use Rattle.std.proofs.lemmas.Bool.{cases_eq}
use Rattle.std.proofs.lemmas.Cmp.{nat_eq_equiv}
use Rattle.std.proofs.lemmas.List.{get_or-set_same, get_or-set_other, map-append}
use Rattle.std.proofs.lemmas.List.Folds.{list_any-append}
use Rattle.std.proofs.lemmas.Map.Keys.{IsDistinct-push}
use Rattle.std.proofs.lemmas.Nat.{from_be_bytes-to_be_bytes_8}
use Rattle.rcgen_issue.specs.CrlView.{RevokedView, revoked_view}
use Rattle.rcgen_issue.specs.declared.crl.RevokedCertParams.{RevokedCertParams}
use Rattle.authority.specs.Marks.{AreMarksOf, AreOfDistinctSerials, is_revoked, serial_of, serials_of}

at_place : (es : List RevokedView) (e : RevokedView) (ms : List Bool) (i n : ℕ) → get_or ms n false ≡ is_revoked (suc n) es → i < length ms → serial_of e ≡ suc i
    → (n ≡ i) ⊎ (n ≡ i → ⊥) → get_or (set ms i true) n false ≡ (is_revoked (suc n) es || (serial_of e == suc n || false))
at_place es e ms i n before within number (inl same) = grind (arith, get_or-set_same ms i true false within)
at_place es e ms i n before within number (inr other) = grind (arith, get_or-set_other ms i n true false other)

pub marked : (es : List RevokedView) (e : RevokedView) (ms : List Bool) (i : ℕ) → AreMarksOf es ms → i < length ms → serial_of e ≡ suc i
    → AreMarksOf (es ++ e ∷ []) (set ms i true)
marked es e ms i before within number n =
    at_place es e ms i n (before n) within number (cases_eq n i) ∙ sym (list_any-append (λ x. serial_of x == suc n) es (e ∷ []))

-- a serial that was issued has a place
pub known : (serial issued : ℕ) → (serial == 0 || nat_lt issued serial) ≡ false → (suc (serial - 1) ≡ serial) × (serial - 1 < issued)
known serial issued h = (grind arith, grind arith)

-- the view of an entry comes after those of the entries before it
pub views_more : (es : List RevokedCertParams) (e : RevokedCertParams) → map revoked_view (es ++ e ∷ []) ≡ map revoked_view es ++ revoked_view e ∷ []
views_more es e = map-append revoked_view es (e ∷ [])

pub ruleset views = (views_more)

-- ---- different serial numbers

pub none_named : AreOfDistinctSerials []
unfolding IsDistinct
none_named = record { written = refl; distinct = tt }

-- a test on either side, and those after it
turned : (m n : ℕ) (b c : Bool) → (n == m || b) ≡ false → (b ≡ false → c ≡ false) → (nat_eq m n || c) ≡ false
turned m n true c h k = grind arith
turned m n false true h k = let bad = k refl in cc
turned m n false false h k = grind arith

absent : (serial : ℕ) (es : List RevokedView) → is_revoked serial es ≡ false → list_any (nat_eq serial) (serials_of es) ≡ false
absent serial [] h = refl
absent serial (e ∷ es) h = turned serial (serial_of e) (is_revoked serial es) (list_any (nat_eq serial) (serials_of es)) h (absent serial es)

-- an entry that has the eight octets of a number is of it
pub number_of : (e : RevokedView) (serial : ℕ) → e.serial_number ≡ to_be_bytes w64 serial → serial < 2 ^ 64 → serial_of e ≡ serial
number_of e serial octets short = ap (from_be_bytes w64) octets ∙ from_be_bytes-to_be_bytes_8 serial short

pub serials_more : (es : List RevokedView) (e : RevokedView) (serial : ℕ) → serial_of e ≡ serial
    → serials_of (es ++ e ∷ []) ≡ serials_of es ++ serial ∷ []
serials_more es e serial number = map-append serial_of es (e ∷ []) ∙ ap (λ n. serials_of es ++ n ∷ []) number

-- one more entry, of a serial number that no entry was of
pub named_more : (es : List RevokedView) (e : RevokedView) (serial : ℕ) → AreOfDistinctSerials es → e.serial_number ≡ to_be_bytes w64 serial
    → serial < 2 ^ 64 → is_revoked serial es ≡ false → AreOfDistinctSerials (es ++ e ∷ [])
named_more es e serial before octets short new =
    let more = serials_more es e serial (number_of e serial octets short) in
    record {
      written = map-append (λ (p : RevokedView). p.serial_number) es (e ∷ [])
          ∙ ap (λ bs. bs ++ e.serial_number ∷ []) before.written
          ∙ ap (λ b. map (to_be_bytes w64) (serials_of es) ++ b ∷ []) octets
          ∙ sym (map-append (to_be_bytes w64) (serials_of es) (serial ∷ []))
          ∙ ap (map (to_be_bytes w64)) (sym more);
      distinct = subst (λ ns. IsDistinct nat_eq ns) (sym more)
          (IsDistinct-push nat_eq_equiv (serials_of es) serial before.distinct (absent serial es new));
    }
