-- The verdict on a path.
use Rattle.std.proofs.Common.{◌≡◌, true, false, [], Result, Ok, refl, subst, sym}
use Rattle.shelf_fault.specs.declared.fault.Fault.{Fault}
use Rattle.shelf_path.specs.Asked.{Asked}
use Rattle.shelf_path.specs.Verdicts.{Judges, is_valid, verdict_text}
use Rattle.shelf_path.specs.declared.verdict.Verdict.{Verdict}
use Rattle.shelf_core.specs.Outcome.{Finds, Outcome, done, refused, verdict_outcome}

found : (f : Result Asked Fault) (v : Verdict) (x : Outcome) → Judges f (Ok v) → x ≡ verdict_outcome v → Finds f x
found f v x h e = subst (λ (g : Result Asked Fault). Finds g x) (sym h.1) (record { verdict = v; judged = (h.0, refl, h.2); comes = e })

pub valid : (f : Result Asked Fault) (v : Verdict) (x : Outcome) → Judges f (Ok v) → is_valid v ≡ true → x ≡ done (verdict_text v) [] → Finds f x
valid f v x h e k = found f v x h (rw e k)

pub invalid : (f : Result Asked Fault) (v : Verdict) (x : Outcome) → Judges f (Ok v) → is_valid v ≡ false → x ≡ refused (verdict_text v) → Finds f x
invalid f v x h e k = found f v x h (rw e k)
