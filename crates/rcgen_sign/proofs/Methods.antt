-- Equality of methods, as derives write it.
use Rattle.std.specs.Prelude.{◌≡◌, true, refl}
use Rattle.std.specs.Cmp.{IsEquivalence}
use Rattle.std.proofs.Common.{◌∙◌}
use Rattle.std.proofs.lemmas.Cmp.{on_equiv, and_equiv, nat_eq_equiv, nat_list_eq_equiv}
use Rattle.rcgen_text.proofs.Equality.{same_is_equal}
use Rattle.rcgen_sign.specs.contracts.key_id.KeyIdMethodPartialEq.TheImpl.{ghosts as methods}
use Rattle.rcgen_sign.specs.declared.key_id.KeyIdMethod.{KeyIdMethod}
use Rattle.rcgen_sign.specs.declared.key_id.KeyIdMethod.TheVariants.{Sha256, Sha384, Sha512, PreSpecified}
use Rattle.rcgen_sign.specs.KeyIds.{given_id, method_of, method_place, same_method}

pub methods_same : (m n : KeyIdMethod) → methods.eq m n ≡ same_method (method_of m) (method_of n)
methods_same Sha256 Sha256 = refl
methods_same Sha256 Sha384 = refl
methods_same Sha256 Sha512 = refl
methods_same Sha256 (PreSpecified b) = refl
methods_same Sha384 Sha256 = refl
methods_same Sha384 Sha384 = refl
methods_same Sha384 Sha512 = refl
methods_same Sha384 (PreSpecified b) = refl
methods_same Sha512 Sha256 = refl
methods_same Sha512 Sha384 = refl
methods_same Sha512 Sha512 = refl
methods_same Sha512 (PreSpecified b) = refl
methods_same (PreSpecified a) Sha256 = refl
methods_same (PreSpecified a) Sha384 = refl
methods_same (PreSpecified a) Sha512 = refl
methods_same (PreSpecified a) (PreSpecified b) = refl

same_method_equiv : IsEquivalence same_method
same_method_equiv = and_equiv (on_equiv method_place nat_eq_equiv) (on_equiv given_id nat_list_eq_equiv)

-- what has the same view is equal
pub methods_equal : (m n : KeyIdMethod) → method_of m ≡ method_of n → methods.eq m n ≡ true
methods_equal m n e = methods_same m n ∙ same_is_equal same_method_equiv (method_of m) (method_of n) e
