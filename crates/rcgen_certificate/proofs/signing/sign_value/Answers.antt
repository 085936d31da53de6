use Rattle.std.proofs.Common.{List, ap, sym, subst, ℕ, ◌∙◌}
use Rattle.asn1_core.specs.Bits.{Bits}
use Rattle.rcgen_certificate.specs.KeyValues.{signature_identifier}
use Rattle.rcgen_certificate.specs.Signed.{IsSignedBy}
use Rattle.rcgen_certificate.proofs.SignedOctets.{form_is_one, stands_as_it_is}
use Rattle.rcgen_certificate.proofs.signing.sign_value.Goals as goal

pub signed_octets-requires : goal.signed_octets-requires
signed_octets-requires g c = form_is_one g.T.Form.codec c.args.value.now c.in_ok-message.message.items (rw c.in_ok-message.ensures.value at c.encode.ensures.ok)

pub returns-clause-signed : goal.returns-clause-signed
returns-clause-signed g c =
    let algorithm = c.in_ok-algorithm.ensures.value ∙ ap signature_identifier c.algorithm.ensures in
    let written = rw c.in_ok-message.ensures.value at c.encode.ensures.ok in
    let octets = sym (ap (λ (b : Bits). b.bytes) c.all_bits-signature.ensures) in
    subst (λ (b : List ℕ). IsSignedBy g.T.Form.codec c.args.value.now (g.S.PublicKeyData.key c.args.signing_key.now).algorithm b
    (g.S.SigningKey.fits c.args.signing_key.now) c.in_ok-der.der.items) octets
    record {
      message = c.in_ok-message.message.items;
      message_form = written;
      fit = rw c.as_slice.ensures.value at c.in_ok-signature.ensures.signed;
      form = stands_as_it_is g.T.Form.codec c.args.value.now _ _ c.in_ok-message.message.items c.in_ok-der.der.items written
          (rw (algorithm, c.all_bits-signature.ensures) at (rw c.in_ok-der.ensures.value at c.signed_octets.ensures.form));
    }
