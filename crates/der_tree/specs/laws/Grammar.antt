-- The tag of a SEQUENCE.
use Rattle.std.specs.Prelude.{Some, ◌≡◌}
use Rattle.std.proofs.Common.{ap}
use Rattle.asn1_core.specs.Tags.{universal}
use Rattle.der_tree.specs.Codec.{Codec, Struct}
use Rattle.der_tree.specs.Grammar.{sequence}

-- a codec that is one
pub tag_as : {A : Type 0} (c : Codec A) (x : Struct A) → c ≡ sequence (universal 16) x → c.tag ≡ Some (universal 16)
tag_as {A} c x e = ap (λ (c : Codec A). c.tag) e
