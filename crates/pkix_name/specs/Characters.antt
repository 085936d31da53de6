-- The characters of a text, as code points.
use Rattle.std.specs.Prelude.{ℕ, List}
use Rattle.std.specs.Str.{chars}
use Rattle.asn1_core.specs.StringTypes.{pairs, quads}
use Rattle.pkix_name.specs.declared.characters.Characters.{Characters}
use Rattle.pkix_name.specs.declared.characters.Characters.TheVariants.{Octets, Utf8, Pairs, Quads}

abbrev pub codes_of : Characters → List ℕ
codes_of (Octets s) = s.now
codes_of (Utf8 s) = chars s.now
codes_of (Pairs s) = pairs s.now
codes_of (Quads s) = quads s.now
