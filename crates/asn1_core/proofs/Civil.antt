-- What makes a date and a time of day answers by its parts.
use Rattle.std.proofs.Common.{◌≡◌, ℕ, ◌<◌, ◌≤◌, ◌↔◌, pos, Result, Ok, Err, sym, ap, arith, to_z}
use Rattle.std.specs.Prelude.{IsOk, IfOk, unsigned_abs}
use Rattle.std.specs.Result.{result_ok}
use Rattle.std.specs.Int.{w8, w16, w32}
use Rattle.std.proofs.lemmas.Int.{to_z_pos}
use Rattle.std.proofs.lemmas.Bool.{false≢true}
use Rattle.jiff.specs.Words.{IsDate, IsYmd, IsTime, IsHms, Error}
use Rattle.jiff.specs.Types.{DateTime}
use Rattle.jiff.proofs.SpanFacts.{signed_arith}
use Rattle.asn1_core.specs.Civil.{civil, civil_again, civil_none, year_is, HasParts, IsCivil, IsShort}
use Rattle.asn1_core.specs.declared.time.MonthToSecond.{MonthToSecond}

pos_is : (a b : ℕ) → pos a ≡ pos b → a ≡ b
pos_is a b e = ap unsigned_abs e

made : (y : ℕ) (p : MonthToSecond) (n : ℕ) (at : DateTime) → IsYmd (pos y) (pos p.month) (pos p.day) at.date → IsHms (pos p.hour) (pos p.minute) (pos p.second) (pos n) at.time → HasParts y p n at
made y p n at d t = record {
  year = d.0;
  parts = λ i. record {
    month = pos_is at.date.month p.month d.1 i;
    day = pos_is at.date.day p.day d.2 i;
    hour = pos_is at.time.hour p.hour t.0 i;
    minute = pos_is at.time.minute p.minute t.1 i;
    second = pos_is at.time.second p.second t.2 i;
  };
  nanosecond = pos_is at.time.subsec_nanosecond n t.3;
}

date_there : (y : ℕ) (p : MonthToSecond) (n : ℕ) → IsCivil y p n → IsDate (pos y) (pos p.month) (pos p.day)
date_there y p n c = (
  year_is y c.year_in,
  (let h = c.month_in in (omega (arith, signed_arith), omega (arith, signed_arith))),
  (let h = c.day_in in (omega (arith, signed_arith), omega (arith, signed_arith))),
)

time_there : (y : ℕ) (p : MonthToSecond) (n : ℕ) → IsCivil y p n → IsTime (pos p.hour) (pos p.minute) (pos p.second) (pos n)
time_there y p n c =
    let h = c.hour_in in let m = c.minute_in in let s = c.second_in in let f = c.subsec_in in (
      (omega (arith, signed_arith), omega (arith, signed_arith)),
      (omega (arith, signed_arith), omega (arith, signed_arith)),
      (omega (arith, signed_arith), omega (arith, signed_arith)),
      (omega (arith, signed_arith), omega (arith, signed_arith)),
    )

civil_found : (y : ℕ) (p : MonthToSecond) (n : ℕ) (r : Result DateTime Error) → (IsOk r ↔ (IsDate (pos y) (pos p.month) (pos p.day) × IsTime (pos p.hour) (pos p.minute) (pos p.second) (pos n))) → IfOk r (λ at. IsYmd (pos y) (pos p.month) (pos p.day) at.date × IsHms (pos p.hour) (pos p.minute) (pos p.second) (pos n) at.time) → result_ok r ≡ civil y p n
civil_found y p n (Ok at) s v = sym (civil_again y p n at (made y p n at v.0 v.1))
civil_found y p n (Err e) s v = sym (civil_none y p n (λ c. false≢true (s.1 (date_there y p n c, time_there y p n c))))

-- the same of the numbers that the code passes
pub civil_made : (y : ℕ) (p : MonthToSecond) (n : ℕ) (r : Result DateTime Error) → y ≤ 9999 → IsShort p → n < 1_000_000_000 → (IsOk r ↔ (IsDate (to_z w16 y) (to_z w8 p.month) (to_z w8 p.day) × IsTime (to_z w8 p.hour) (to_z w8 p.minute) (to_z w8 p.second) (to_z w32 n))) → IfOk r (λ at. IsYmd (to_z w16 y) (to_z w8 p.month) (to_z w8 p.day) at.date × IsHms (to_z w8 p.hour) (to_z w8 p.minute) (to_z w8 p.second) (to_z w32 n) at.time) → result_ok r ≡ civil y p n
civil_made y p n r l q m s v =
    let month = q.month in let day = q.day in let hour = q.hour in let minute = q.minute in let second = q.second in
    let e1 = to_z_pos w16 y (omega arith) in
    let e2 = to_z_pos w8 p.month (omega arith) in
    let e3 = to_z_pos w8 p.day (omega arith) in
    let e4 = to_z_pos w8 p.hour (omega arith) in
    let e5 = to_z_pos w8 p.minute (omega arith) in
    let e6 = to_z_pos w8 p.second (omega arith) in
    let e7 = to_z_pos w32 n (omega arith) in
    civil_found y p n r (rw (e1, e2, e3, e4, e5, e6, e7) at s) (rw (e1, e2, e3, e4, e5, e6, e7) at v)
