-- What comes of a step after one that passed.
use Rattle.std.proofs.Common.{◌≡◌, ◌∙◌, ap, sym, subst, Result, Ok, Err, IsErrAnd}
use Rattle.shelf_fault.specs.Faults.{Gets, MayFail, and_then}
use Rattle.shelf_fault.specs.declared.fault.Fault.{Fault}

-- its fault
pub refused_behind : {A B X : Type 0} (view : X → B) (first : Result (Unit {0}) Fault) (second : Result A Fault) (next : A → Result B Fault) (e : Fault)
    (r : Result X Fault) → first ≡ Ok tt → MayFail second e → IsErrAnd r (λ f. f ≡ e) → Gets view (and_then first (λ u. and_then second next)) r
refused_behind view first second next e (Ok x) h m p = absurd p
refused_behind {A} view first second next e (Err f) h m p = λ never.
    ap (λ (q : Result (Unit {0}) Fault). and_then q (λ u. and_then second next)) h
    ∙ ap (λ (q : Result A Fault). and_then q next) (m (λ same. never (p ∙ same)))
    ∙ ap (λ (x : Fault). Err x) (sym p)

-- what follows its value
pub gets_behind : {A B X : Type 0} (view : X → B) (first : Result (Unit {0}) Fault) (second : Result A Fault) (next : A → Result B Fault) (x : A)
    (r : Result X Fault) → first ≡ Ok tt → second ≡ Ok x → Gets view (next x) r → Gets view (and_then first (λ u. and_then second next)) r
gets_behind {A} {B} view first second next x r h s g =
    let same = ap (λ (q : Result (Unit {0}) Fault). and_then q (λ u. and_then second next)) h ∙ ap (λ (q : Result A Fault). and_then q next) s in
    subst (λ (q : Result B Fault). Gets view q r) (sym same) g

-- what the second comes to
pub passes_behind : {B X : Type 0} (view : X → B) (first : Result (Unit {0}) Fault) (second : Result B Fault) (r : Result X Fault)
    → first ≡ Ok tt → Gets view second r → Gets view (and_then first (λ u. second)) r
passes_behind {B} {X} view first second r h g = subst (λ (q : Result (Unit {0}) Fault). Gets view (and_then q (λ u. second)) r) (sym h) g
