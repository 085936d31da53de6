use Rattle.std.proofs.Common.{◌≡◌, ◌∙◌, sym, ap, subst, arith, rules, ℤ, ◌+ℤ◌, to_z-of_z, FitsSigned}
use Rattle.std.specs.Int.{w128}
use Rattle.jiff.specs.Words.{civil_nanos, IsCivilNanos}
use Rattle.jiff.specs.Types.{DateTime}
use Rattle.jiff.proofs.Family.{same_datetime}
use Rattle.jiff.proofs.SpanFacts.{signed_arith}
use Rattle.asn1_core.specs.Moment.{instant}
use Rattle.asn1_core.proofs.Years.{has_it, has_none, none_at}
use Rattle.asn1_core.proofs.time.offset_date_time.OffsetDateTime.utc.Goals as goal

same_year : (a b : DateTime) → civil_nanos a ≡ civil_nanos b → a.date.year ≡ b.date.year
same_year a b e = ap (λ (t : DateTime). t.date.year) (same_datetime a b e)

pub returns-then-year-lt0-clause-value : goal.returns-then-year-lt0-clause-value
returns-then-year-lt0-clause-value c = λ at u.
    let e : civil_nanos c.in_ok-utc.utc ≡ instant c.args.self.now = search rules in
    let y = same_year c.in_ok-utc.utc at (e ∙ sym u.0) in
    omega (arith, signed_arith, y, u.1.0, c.if-year-lt0.true, c.year.ensures)

pub returns-then-year-lt0-clause-some : goal.returns-then-year-lt0-clause-some
returns-then-year-lt0-clause-some c = has_none c.args.self.now c.in_ok-utc.utc (search rules) (omega (arith, signed_arith, c.if-year-lt0.true, c.year.ensures))

pub returns-in_err-utc-clause-value : goal.returns-in_err-utc-clause-value
returns-in_err-utc-clause-value c =
    let same : civil_nanos c.self.inside.local +ℤ c.shift.result ≡ instant c.args.self.now = search rules in
    let range : FitsSigned w128 c.shift.result = first_of (search rules, omega (arith, signed_arith, c.shift.type_inv), omega (arith, signed_arith, c.shift.ensures, c.self.invariant)) in
    let fits = ap (λ (x : ℤ). civil_nanos c.self.inside.local +ℤ x) (sym (to_z-of_z range)) in
    rw c.from_residual.ensures (none_at c.args.self.now (λ h. c.in_err-utc.ensures (subst IsCivilNanos (sym same ∙ fits) h)))

pub returns-clause-some : goal.returns-clause-some
returns-clause-some c = has_it c.args.self.now c.in_ok-utc.utc (search rules) (omega (arith, signed_arith, c.if-year-lt0.false, c.year.ensures))
