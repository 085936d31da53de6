-- Path lengths from 0 to 255.
use Rattle.std.specs.Prelude.{◌≡◌, ℕ, ◌^◌, ◌<◌, ◌≤◌, Bool, true, false, cond, nat_lt, List, Option, Some, None, Ok, Err, refl}
use Rattle.std.proofs.Common.{arith}
use Rattle.std.proofs.lemmas.Bool.{lt-ltb, le-ltb, ltb-false}
use Rattle.asn1_core.specs.Binds.{chosen, kept_unless}
use Rattle.asn1_core.specs.Twos.{is_negative, number}
use Rattle.asn1_core.specs.Unsigned.{number_64}
use Rattle.rcgen_text.specs.Causes.{not_certificate}
use Rattle.rcgen_text.specs.declared.basic_constraints.BasicConstraints.TheVariants.{Constrained}
use Rattle.rcgen_text.specs.declared.basic_constraints.IsCa.TheVariants.{Ca}
use Rattle.rcgen_read.specs.ExtensionReading.{authority}

-- the number that is read
abbrev read_number : List ℕ → Option ℕ
read_number n = cond (is_negative n) None (number_64 n)

is_number : (n : List ℕ) (m : ℕ) → read_number n ≡ Some m → (is_negative n ≡ false) × (number n ≡ m)
is_number n m e =
    let k = kept_unless (is_negative n) (number_64 n) m e in
    (k.0, (chosen (nat_lt (number n) (2 ^ 64)) (number n) m k.1).1)

pub short : (n : List ℕ) (m : ℕ) → cond (is_negative n) None (number_64 n) ≡ Some m → m < 256 → authority (Some n) ≡ Ok (Ca (Constrained m))
short n m e l = let k = is_number n m e in rw (k.0, k.1, lt-ltb m 256 l) refl

pub long : (n : List ℕ) (m : ℕ) → cond (is_negative n) None (number_64 n) ≡ Some m → 256 ≤ m → authority (Some n) ≡ Err not_certificate
long n m e l = let k = is_number n m e in rw (k.0, k.1, le-ltb m 256 l) refl

none_over : (negative held : Bool) (m : ℕ) → cond negative None (cond held (Some m) None) ≡ None → (negative ≡ false → held ≡ false)
none_over true held m e = λ f. absurd cc
none_over false true m e = absurd cc
none_over false false m e = λ f. refl

over : (n : List ℕ) (negative : Bool) → is_negative n ≡ negative → (negative ≡ false → nat_lt (number n) (2 ^ 64) ≡ false)
    → authority (Some n) ≡ Err not_certificate
over n true e h = rw e refl
over n false e h =
    let l : 2 ^ 64 ≤ number n = ltb-false (number n) (2 ^ 64) (h refl) in
    rw (e, le-ltb (number n) 256 (omega arith)) refl

pub unread : (n : List ℕ) → cond (is_negative n) None (number_64 n) ≡ None → authority (Some n) ≡ Err not_certificate
unread n e = over n (is_negative n) refl (none_over (is_negative n) (nat_lt (number n) (2 ^ 64)) (number n) e)

pub ruleset lengths = (short, long, unread)
