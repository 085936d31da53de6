-- Lists of classes (RFC 5755, 4.4.6).
use Rattle.std.specs.Prelude.{◌≡◌, ℕ, ◌-◌, ◌^◌, Bool, true, ◌&&◌, nat_eq, List, [], ◌∷◌, ◌↔◌}
use Rattle.std.specs.Cmp.Lexicographic.{pointwise, bytes_decides}
use Rattle.std.proofs.Common.{ap, ◌∙◌, eq-eqb}
use Rattle.std.proofs.lemmas.Bool.{eqb-true}
use Rattle.asn1_core.specs.Binds.{and_true, true_and}
use Rattle.asn1_core.specs.Bits.{Bits, bits}
use Rattle.pkix_attr.specs.declared.clearance.ClassList.{ClassList}
use Rattle.pkix_attr.specs.contracts.clearance.ClassListPartialEq.TheImpl.{ghosts as compared}

abbrev pub classes : Bits → ClassList
classes b = record { 0 = b }

-- the bits of one byte, with the last ones unused
abbrev pub class_bits : ℕ → ℕ → ClassList
class_bits byte unused = classes (bits unused (byte ∷ []))

abbrev pub no_class : ClassList
no_class = classes (bits 0 [])

-- the bit string that ends with the class's bit, the only one that is set
abbrev pub only_class : ℕ → ClassList
only_class bit = class_bits (2 ^ (7 - bit)) (7 - bit)

abbrev pub unclassified : ClassList
unclassified = only_class 1

-- as Rust's `==`
abbrev pub same_classes : ClassList → ClassList → Bool
same_classes = compared.eq

same_bits : (a b : Bits) → (pointwise nat_eq a.bytes b.bytes && nat_eq a.unused b.unused) ≡ true → a ≡ b
same_bits a b e =
    let p = and_true (pointwise nat_eq a.bytes b.bytes) (nat_eq a.unused b.unused) e in
    let x = (bytes_decides a.bytes b.bytes).0 p.0 in
    let y = eqb-true a.unused b.unused p.1 in
    ap (λ (w : List ℕ). bits a.unused w) x ∙ ap (λ (n : ℕ). bits n b.bytes) y

pub same_classes_exact : (a b : ClassList) → (same_classes a b ≡ true) ↔ (a ≡ b)
same_classes_exact a b = (
  λ e. ap classes (same_bits a.0 b.0 e),
  λ e. true_and (pointwise nat_eq a.0.bytes b.0.bytes) (nat_eq a.0.unused b.0.unused)
      ((bytes_decides a.0.bytes b.0.bytes).1 (ap (λ (c : ClassList). c.0.bytes) e)) (eq-eqb a.0.unused b.0.unused (ap (λ (c : ClassList). c.0.unused) e)),
)
