-- A signature that is taken is accepted by the verifier under the key's info.
use Rattle.std.specs.Prelude.{Bool, List, Ok, Result, false, if◌then◌else◌, not, refl, true, ℕ, ◌≡◌}
use Rattle.std.proofs.Common.{ap, sym, ◌∙◌}
use Rattle.der_tree.specs.Form.{IsDerOf}
use Rattle.pkix_cert.specs.Algorithms.{algorithm_identifier, subject_public_key_info}
use Rattle.rcgen_sign.specs.Keys.{Key, key_info_octets}
use Rattle.rcgen_certificate.specs.KeyValues.{signature_identifier}
use Rattle.shelf_fault.specs.declared.fault.Fault.{Fault}
use Rattle.shelf_keys.specs.Encoded.{encoded}
use Rattle.shelf_keys.specs.Refusing.{refuse}
use Rattle.shelf_keys.specs.Signatures.{checked, has_shape, is_verified, verified, verifier}
use Rattle.shelf_keys.proofs.Octets.{octets_are}
use Rattle.signature_verifier.specs.Accepted.{accepts}
use Rattle.sealed_path.proofs.Views.{EachView, info_form}
use Rattle.sealed_path.specs.Sealed.{SealedIsIssued}
use Rattle.sealed_path.proofs.Keys.{Spelled, key_info_is, not_refused, ok_same, then_ok}

chosen : (b : Bool) (r q : Result (Unit {0}) Fault) → b ≡ true → (if b then r else q) ≡ Ok tt → r ≡ Ok tt
chosen true r q e h = h
chosen false r q e h = absurd cc

pub taken_is_accepted : (key : Key) (message signature : List ℕ) → is_verified key.algorithm ≡ true → checked key message signature ≡ Ok tt → (algorithm : List ℕ)
    → IsDerOf algorithm_identifier (signature_identifier key.algorithm) algorithm → accepts verifier message (key_info_octets key) algorithm signature ≡ true
unfolding checked verified
taken_is_accepted key message signature is h algorithm form =
    let a = then_ok (refuse (not (has_shape key signature)) _) _ tt h in
    let b = chosen (is_verified key.algorithm) (verified key message signature) (Ok tt) is a.2 in
    let c = then_ok (encoded algorithm_identifier _ (signature_identifier key.algorithm)) _ tt b in
    let same : c.0 ≡ algorithm =
    ok_same c.0 algorithm (encoded algorithm_identifier _ (signature_identifier key.algorithm)) c.1
    (octets_are algorithm_identifier _ (signature_identifier key.algorithm) algorithm form) in
    ap (λ (x : List ℕ). accepts verifier message (key_info_octets key) x signature) (sym same)
    ∙ not_refused (accepts verifier message (key_info_octets key) c.0 signature) _ tt c.2

pub sealed_is : Spelled → EachView → SealedIsIssued
sealed_is spelled each c octets place signing key method usages params subject name message signature der w =
    let f = info_form each c octets w.certificate in (
      record { signature = signature; issued = w.sealed; accepted = taken_is_accepted key message signature w.verified w.taken },
      record {
        form = w.certificate;
        name = refl;
        key = key_info_is spelled place signing c.tbs_certificate.subject_public_key_info f.0 key w.key_is f.1;
      },
    )
