-- The texts of attributes of X.520 (RFC 5280, A.1).
use Rattle.std.specs.Prelude.{◌≡◌, ℕ, Bool, true, false, ◌||◌, cond, ◌==◌, Some, refl}
use Rattle.std.proofs.Common.{inl, inr}
use Rattle.asn1_core.specs.StringTypes.{printable}
use Rattle.der_tree.specs.Codec.{Codec}
use Rattle.der_tree.specs.Grammar.{as_choice, as_type, sized}
use Rattle.der_tree.specs.SequenceOf.{is_within}
use Rattle.pkix_name.specs.DirectoryStrings.{Five, directory_text, directory_string_of}
use Rattle.pkix_name.specs.declared.directory_string.DirectoryString.{DirectoryString}
use Rattle.pkix_name.specs.declared.x520.X520CountryName.{X520CountryName}
use Rattle.pkix_name.specs.declared.x520.X520SerialNumber.{X520SerialNumber}
use Rattle.pkix_name.specs.declared.x520.X520Text.{X520Text}
use Rattle.pkix_name.specs.declared.x520.X520Text.TheVariants.{Teletex, Printable, Universal, Utf8, Bmp}

abbrev pub country_name : Codec X520CountryName
country_name = as_type (sized printable 2 (Some 2) refl) (λ v. v.0) (λ l. record { 0 = l }) (λ v. refl) (λ l. refl)

abbrev pub serial_number : Codec X520SerialNumber
serial_number = as_type (sized printable 1 (Some 64) refl) (λ v. v.0) (λ l. record { 0 = l }) (λ v. refl) (λ l. refl)

-- ---- texts that are a DirectoryString with an upper bound

-- the upper bound of the attribute 2.5.4.arc, where the arc is 3, 7, 8, 10, 11, 12, 41 or 65; of another arc it says nothing
abbrev pub upper_bound : ℕ → ℕ
upper_bound arc = cond (arc == 41) 32768 (cond (arc == 7 || (arc == 8 || arc == 65)) 128 64)

pub upper_bound_room : (arc : ℕ) → is_within 1 (Some (upper_bound arc)) 1 ≡ true
upper_bound_room arc =
    elim (arc == 41) as (λ (a : Bool). is_within 1 (Some (cond a 32768 (cond (arc == 7 || (arc == 8 || arc == 65)) 128 64))) 1 ≡ true) [
      | true ↦ refl
      | false ↦ elim (arc == 7 || (arc == 8 || arc == 65)) as (λ (b : Bool). is_within 1 (Some (cond b 128 64)) 1 ≡ true) [ true ↦ refl | false ↦ refl ]
    ]

abbrev pub x520_parts : {arc : ℕ} → X520Text arc → Five
x520_parts (Teletex v) = inl v
x520_parts (Printable v) = inr (inl v)
x520_parts (Universal v) = inr (inr (inl v))
x520_parts (Utf8 v) = inr (inr (inr (inl v)))
x520_parts (Bmp v) = inr (inr (inr (inr v)))

abbrev pub x520_of : {arc : ℕ} → Five → X520Text arc
x520_of (inl v) = Teletex v
x520_of (inr (inl v)) = Printable v
x520_of (inr (inr (inl v))) = Universal v
x520_of (inr (inr (inr (inl v)))) = Utf8 v
x520_of (inr (inr (inr (inr v)))) = Bmp v

pub x520_there : {arc : ℕ} (v : X520Text arc) → x520_of (x520_parts v) ≡ v
x520_there (Teletex v) = refl
x520_there (Printable v) = refl
x520_there (Universal v) = refl
x520_there (Utf8 v) = refl
x520_there (Bmp v) = refl

pub x520_back : (arc : ℕ) (p : Five) → x520_parts (x520_of {arc = arc} p) ≡ p
x520_back arc (inl v) = refl
x520_back arc (inr (inl v)) = refl
x520_back arc (inr (inr (inl v))) = refl
x520_back arc (inr (inr (inr (inl v)))) = refl
x520_back arc (inr (inr (inr (inr v)))) = refl

abbrev pub x520_text : (arc : ℕ) → Codec (X520Text arc)
x520_text arc = as_choice (directory_text (Some (upper_bound arc)) (upper_bound_room arc)) x520_parts x520_of x520_there (x520_back arc)

-- the same kind and text
abbrev pub as_directory_string : {arc : ℕ} → X520Text arc → DirectoryString
as_directory_string v = directory_string_of (x520_parts v)
