-- One certificate is shown, or there is one reason why none is.
use Rattle.std.proofs.Common.{◌≡◌, ℕ, List, sym, ◌∙◌, subst, refl}
use Rattle.asn1_core.specs.Binds.{some_is}
use Rattle.der_tree.specs.Form.{IsDerOf}
use Rattle.der_tree.proofs.FormLaws.{same_value}
use Rattle.pkix_cert.specs.Certificates.{certificate}
use Rattle.pkix_cert.specs.declared.certificate.Certificate.{Certificate}
use Rattle.certify_core.specs.Show.{Shows, HasShowReason}
use Rattle.toml_format.specs.declared.reason.Reason.{Reason}
use Rattle.toml_format.specs.declared.reason.Reason.TheVariants.{NotToml, UnknownKey, MissingKey, WrongType, WrongValue, NotHex, NotOneValue}

-- one certificate is shown
pub one_shown : (input : List ℕ) (c d : Certificate) → Shows input c → Shows input d → c ≡ d
one_shown input c d s t =
    let bytes = some_is s.bytes t.bytes (sym s.hex ∙ t.hex) in
    same_value certificate c d t.bytes (subst (λ (b : List ℕ). IsDerOf certificate c b) bytes s.form) t.form

-- what is shown has no reason
pub shown_has_no_reason : (input : List ℕ) (c : Certificate) (r : Reason) → Shows input c → HasShowReason input r → ⊥
shown_has_no_reason input c NotHex s h = cc (s.hex, h)
shown_has_no_reason input c NotOneValue s h =
    h.none c (subst (λ (b : List ℕ). IsDerOf certificate c b) (some_is s.bytes h.bytes (sym s.hex ∙ h.hex)) s.form)
shown_has_no_reason input c NotToml s h = h
shown_has_no_reason input c UnknownKey s h = h
shown_has_no_reason input c MissingKey s h = h
shown_has_no_reason input c WrongType s h = h
shown_has_no_reason input c WrongValue s h = h

-- what is shown has one reason against it
pub one_show_reason : (input : List ℕ) (reason other : Reason) → HasShowReason input reason → HasShowReason input other → reason ≡ other
one_show_reason input NotHex NotHex h k = refl
one_show_reason input NotOneValue NotOneValue h k = refl
one_show_reason input NotHex NotOneValue h k = cc (h, k.hex)
one_show_reason input NotOneValue NotHex h k = cc (h.hex, k)
one_show_reason input NotHex other h k = absurd k
one_show_reason input NotOneValue other h k = absurd k
one_show_reason input reason other h k = absurd h
