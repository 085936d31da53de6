-- Octets as texts of a restricted character string type.
use Rattle.std.specs.Prelude.{◌≡◌, ℕ, ◌%◌, Bool, true, cond, ◌==◌, List, length, Option, Some, None, is_none, is_some, Result, Ok, Err, refl}
use Rattle.std.proofs.Common.{ap, subst, eq-eqb}
use Rattle.asn1_core.specs.Binds.{chosen}
use Rattle.asn1_core.specs.StringTypes.{StringType}
use Rattle.asn1_core.specs.Contents.{Contents}
use Rattle.asn1_core.specs.declared.text.TextFault.{TextFault}
use Rattle.asn1_core.specs.declared.text.TextFault.TheVariants.{BadCharacter, BadLength, OutOfMemory}

-- why octets aren't a text of the type, if they aren't: their number cuts a unit, or else a character isn't of the
-- type
abbrev pub fault_of : StringType → List ℕ → Option TextFault
fault_of s octets = cond (length octets % s.width == 0) (cond (s.valid_len octets == length octets) None (Some (BadCharacter (s.valid_len octets)))) (Some BadLength)

-- the text that was made, or the fault; lack of memory aside
abbrev pub MakesText : StringType → List ℕ → Result (List ℕ) TextFault → Type 0
MakesText s octets (Ok text) = (text ≡ octets) × (fault_of s octets ≡ None)
MakesText s octets (Err OutOfMemory) = Unit {0}
MakesText s octets (Err BadLength) = fault_of s octets ≡ Some BadLength
MakesText s octets (Err (BadCharacter place)) = fault_of s octets ≡ Some (BadCharacter place)

abbrev pub char_count : StringType → List ℕ → ℕ
char_count s text = length (s.characters text)

-- ---- contents octets

abbrev pub text_of : StringType → List ℕ → Option (List ℕ)
text_of s octets = cond (is_none (fault_of s octets)) (Some octets) None

pub text_back : (s : StringType) (a b : List ℕ) → text_of s a ≡ Some b → text_of s b ≡ Some a
text_back s a b e =
    let k = chosen (is_none (fault_of s a)) a b e in
    subst (λ (x : List ℕ). text_of s x ≡ Some a) k.1 (ap (λ (t : Bool). cond t (Some a) None) k.0)

unfoldable pub text_contents : StringType → Contents (List ℕ)
text_contents s = record { to = text_of s; of = text_of s; there = text_back s; back = text_back s }

-- the octets of a text of each length
pub text_there : (s : StringType) (octets : List ℕ) → length octets % s.width ≡ 0 → s.valid_len octets ≡ length octets → (text_contents s).to octets ≡ Some octets
unfolding text_contents
text_there s octets e f = rw (eq-eqb (length octets % s.width) 0 e, eq-eqb (s.valid_len octets) (length octets) f) refl

pub a_text : (s : StringType) → is_some ((text_contents s).of (s.long 0).0) ≡ true
unfolding text_contents
a_text s = let x = s.long 0 in ap is_some (text_there s x.0 x.1 x.2)
