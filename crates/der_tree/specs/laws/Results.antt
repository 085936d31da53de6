-- Results, taken apart.
use Rattle.std.specs.Prelude.{Bool, Err, None, Ok, Option, Result, Some, cond, false, is_ok, is_some, refl, true, ◌&&◌, ◌≡◌}
use Rattle.std.proofs.Common.{ap, ◌∙◌}
use Rattle.der_tree.specs.declared.error.EncodeError.{EncodeError}
use Rattle.der_tree.specs.Results.{done, ok_then}

pub ok_then_ok : {A B : Type 0} (r : Result A EncodeError) (f : A → Result B EncodeError) (y : B) → ok_then r f ≡ Ok y → (x : A) × (r ≡ Ok x) × (f x ≡ Ok y)
ok_then_ok (Ok x) f y e = (x, refl, e)
ok_then_ok (Err d) f y e = absurd cc

pub ok_then_is : {A B : Type 0} (r : Result A EncodeError) (f : A → Result B EncodeError) (x : A) (q : Result B EncodeError) → r ≡ Ok x → f x ≡ q
    → ok_then r f ≡ q
ok_then_is {A} {B} r f x q e h = ap (λ (p : Result A EncodeError). ok_then p f) e ∙ h

pub ok_is : {A : Type 0} (x y : A) → done x ≡ done y → x ≡ y
ok_is x y e = cc

pub some_there : {A : Type 0} (o : Option A) → is_some o ≡ true → (x : A) × (o ≡ Some x)
some_there (Some x) h = (x, refl)
some_there None h = absurd cc

pub ok_there : {A : Type 0} (r : Result A EncodeError) → is_ok r ≡ true → (x : A) × (r ≡ Ok x)
ok_there (Ok x) h = (x, refl)
ok_there (Err e) h = absurd cc

pub is_ok_then : {A B : Type 0} (r : Result A EncodeError) (f : A → B) → is_ok r ≡ is_ok (ok_then r (λ x. Ok (f x)))
is_ok_then (Ok x) f = refl
is_ok_then (Err e) f = refl

pub is_ok_both : {A B C : Type 0} (r : Result A EncodeError) (q : Result B EncodeError) (f : A → B → C)
    → (is_ok r && is_ok q) ≡ is_ok (ok_then r (λ x. ok_then q (λ y. Ok (f x y))))
is_ok_both (Ok x) q f = is_ok_then q (f x)
is_ok_both (Err e) q f = refl

pub is_ok_kept : {A : Type 0} (b : Bool) (r : Result A EncodeError) (d : EncodeError) → (b && is_ok r) ≡ is_ok (cond b r (Err d))
is_ok_kept true r d = refl
is_ok_kept false r d = refl

pub is_ok_chosen : {A : Type 0} (b : Bool) (x : A) (d : EncodeError) → b ≡ is_ok (cond b (done x) (Err d))
is_ok_chosen true x d = refl
is_ok_chosen false x d = refl

pub is_some_chosen : {A : Type 0} (b : Bool) (x : A) → b ≡ is_some (cond b (Some x) None)
is_some_chosen true x = refl
is_some_chosen false x = refl

pub and_same : (a b c d : Bool) → a ≡ c → b ≡ d → (a && b) ≡ (c && d)
and_same a b c d e f = rw (e, f) refl

pub ok_kept : {A : Type 0} (b : Bool) (r : Result A EncodeError) (y : A) (d : EncodeError) → cond b r (Err d) ≡ Ok y → (b ≡ true) × (r ≡ Ok y)
ok_kept true r y d e = (refl, e)
ok_kept false r y d e = absurd cc

pub ok_chosen : {A : Type 0} (b : Bool) (x y : A) (d : EncodeError) → cond b (done x) (Err d) ≡ Ok y → (b ≡ true) × (x ≡ y)
ok_chosen true x y d e = (refl, ok_is x y e)
ok_chosen false x y d e = absurd cc
