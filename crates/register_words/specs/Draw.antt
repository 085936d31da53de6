-- A serial number from octets of a random source.
use Rattle.std.specs.Prelude.{◌≡◌, ℕ, ◌%◌, List, [], ◌∷◌, Option, Some}
use Rattle.asn1_core.specs.Twos.{unsigned}
use Rattle.register_record.specs.declared.refusal.Refusal.{Refusal}
use Rattle.register_words.specs.declared.drawing.DrawError.{DrawError}
use Rattle.register_words.specs.declared.drawing.DrawError.TheVariants as draw

-- the number of these octets, the highest first, without their first bit
abbrev pub drawn : List ℕ → List ℕ
drawn [] = unsigned []
drawn (a ∷ rest) = unsigned (a % 128 ∷ rest)

-- it is the fault, or memory ran out
abbrev pub ExplainsDraw : Option Refusal → DrawError → Type 0
ExplainsDraw fault (draw.Refused why) = fault ≡ Some why
ExplainsDraw fault draw.OutOfMemory = Unit {0}
