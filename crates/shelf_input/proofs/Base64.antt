-- Signatures as base64, and as they are.
use Rattle.std.proofs.Common.{◌≡◌, ℕ, List, Option, Some, None, Result, Ok, Err, ap, sym, subst, refl}
use Rattle.std.specs.Option.{option_map}
use Rattle.base64.specs.Engines.{standard}
use Rattle.base64.specs.GeneralPurpose.{decode_of}
use Rattle.base64.specs.declared.decode.DecodeError.{DecodeError}
use Rattle.shelf_input.specs.Signatures.{IsDecoded, decoded_or, unblocked, without_white}

or_found : (r : Result (List ℕ) DecodeError) (octets text : List ℕ) → r ≡ Ok octets → octets ≡ decoded_or r text
or_found r octets text e = rw e refl

or_none : (r : Result (List ℕ) DecodeError) (text : List ℕ) → IsDecoded r None → text ≡ decoded_or r text
or_none (Ok octets) text h = absurd (cc)
or_none (Err d) text h = refl

-- the octets of base64
pub known_base64 : (text characters octets : List ℕ) → characters ≡ without_white text → IsDecoded (decode_of standard characters) (Some octets)
    → octets ≡ unblocked text
unfolding unblocked
known_base64 text characters octets e h =
    or_found (decode_of standard (without_white text)) octets text (subst (λ (cs : List ℕ). decode_of standard cs ≡ Ok octets) e h)

-- what isn't base64
pub no_base64 : (text characters : List ℕ) → characters ≡ without_white text → IsDecoded (decode_of standard characters) None → text ≡ unblocked text
unfolding unblocked
no_base64 text characters e h =
    or_none (decode_of standard (without_white text)) text (subst (λ (cs : List ℕ). IsDecoded (decode_of standard cs) None) e h)
