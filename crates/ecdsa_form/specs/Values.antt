-- The octets of a signature as those of a value: Ecdsa-Sig-Value (RFC 3279, 2.2.3).
use Rattle.std.specs.Prelude.{List, pos, ℕ, ◌≡◌}
use Rattle.asn1_core.specs.Twos.{signed}
use Rattle.der_tree.specs.Form.{IsDerOf}
use Rattle.pkix_alg.specs.Algorithms.{ecdsa_sig_value}
use Rattle.pkix_alg.specs.declared.algorithms.EcdsaSigValue.{EcdsaSigValue}

-- the octets are the DER encoding of the value whose numbers are r and s
pub record IsSigValue (r s : ℕ) (octets : List ℕ) : Type 0 where
  pub value : EcdsaSigValue
  pub r_is : signed value.r ≡ pos r
  pub s_is : signed value.s ≡ pos s
  pub form : IsDerOf ecdsa_sig_value value octets
