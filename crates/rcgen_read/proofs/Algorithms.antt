-- An algorithm that is looked for is found by its identifiers.
use Rattle.std.specs.Prelude.{◌≡◌, ℕ, zero, suc, ◌<◌, Contains, Some, slice_index_or, length, refl}
use Rattle.std.proofs.Common.{arith, subst}
use Rattle.rcgen_sign.specs.Algorithms.{key_algorithm_value, signature_arcs}
use Rattle.rcgen_sign.specs.Listed.{identified_by, listed}
use Rattle.rcgen_sign.specs.declared.sign_algo.SignatureAlgorithm.{SignatureAlgorithm}

abbrev FindsItself : SignatureAlgorithm → Type 0
FindsItself a = identified_by (signature_arcs a) (key_algorithm_value a) ≡ Some a

at : (a : SignatureAlgorithm) (k : ℕ) → k < length listed → slice_index_or listed k a ≡ a → FindsItself a
unfolding listed
at a zero l e = subst FindsItself e refl
at a (suc zero) l e = subst FindsItself e refl
at a (suc (suc zero)) l e = subst FindsItself e refl
at a (suc (suc (suc zero))) l e = subst FindsItself e refl
at a (suc (suc (suc (suc zero)))) l e = subst FindsItself e refl
at a (suc (suc (suc (suc (suc zero))))) l e = subst FindsItself e refl
at a (suc (suc (suc (suc (suc (suc zero)))))) l e = subst FindsItself e refl
at a (suc (suc (suc (suc (suc (suc (suc zero))))))) l e = subst FindsItself e refl
at a (suc (suc (suc (suc (suc (suc (suc (suc zero)))))))) l e = subst FindsItself e refl
at a (suc (suc (suc (suc (suc (suc (suc (suc (suc k))))))))) l e = absurd (omega arith)

pub finds_itself : (a : SignatureAlgorithm) → Contains listed a → FindsItself a
finds_itself a h = at a h.0 h.1 h.2
