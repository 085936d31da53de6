-- A date that jiff takes is one that the calendar has.
use Rattle.std.proofs.Common.{◌≡◌, ℕ, ◌<◌, ◌↔◌, pos, Bool, true, false, Some, None, Result, Ok, Err, IsOk, IfOk, cond, refl, ap, arith}
use Rattle.std.specs.Option.{option_map}
use Rattle.std.specs.Result.{result_ok}
use Rattle.std.proofs.lemmas.Bool.{false≢true}
use Rattle.std.proofs.lemmas.Grind.{common_steps}
use Rattle.jiff_core.specs.Calendar.{IsDate}
use Rattle.jiff_core.specs.Date.{IsYmd}
use Rattle.jiff_core.specs.declared.civil.date.Date.{Date}
use Rattle.toml_format.specs.TimeText.{is_date, date_of}
use Rattle.toml_format.specs.TimeView.{date_view}

pub IsDate-from_is_date : (y m d : ℕ) → y < 10_000 → is_date y m d ≡ true → IsDate (pos y) (pos m) (pos d)
IsDate-from_is_date y m d h e = grind (arith, common_steps)

pub is_date-from_IsDate : (y m d : ℕ) → IsDate (pos y) (pos m) (pos d) → is_date y m d ≡ true
is_date-from_IsDate y m d h = grind (arith, common_steps)

pub view_is : (x : Date) (y m d : ℕ) → IsYmd (pos y) (pos m) (pos d) x → date_view x ≡ record { year = pos y; month = m; day = d }
view_is x y m d h = grind (arith, common_steps)

none_is : {A : Type 0} (b : Bool) (x : A) → (b ≡ true → ⊥) → None ≡ cond b (Some x) None
none_is true x h = absurd (h refl)
none_is false x h = refl

pub date_is : {E : Type 0} (r : Result Date E) (y m d : ℕ) → y < 10_000 → (IsOk r ↔ IsDate (pos y) (pos m) (pos d))
    → IfOk r (IsYmd (pos y) (pos m) (pos d)) → option_map date_view (result_ok r) ≡ date_of y m d
unfolding date_of
date_is (Ok x) y m d h s v = rw (is_date-from_IsDate y m d (s.0 refl)) (ap Some (view_is x y m d v))
date_is (Err e) y m d h s v = none_is (is_date y m d) _ (λ t. false≢true (s.1 (IsDate-from_is_date y m d h t)))
