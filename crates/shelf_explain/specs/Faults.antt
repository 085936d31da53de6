-- Where octets aren't DER, and why.
use Rattle.std.specs.Prelude.{ℕ, List, [], ◌++◌, codes, decimal, Option, Some, None}
use Rattle.strict_der.specs.Offences.{offence_of}
use Rattle.strict_der.specs.declared.offence.Offence.{Offence}
use Rattle.strict_der.specs.declared.offence.Rule.{Rule}
use Rattle.strict_der.specs.declared.offence.Rule.TheVariants as rule
use Rattle.shelf_explain.specs.Lines.{labelled, next_line}
use Rattle.shelf_explain.specs.Parts.{Place, further}

-- what breaks a rule, and the section with the rule
unfoldable pub rule_words : Rule → List ℕ
rule_words rule.HighTag = codes "tag number, X.690, 8.1.2.4"
rule_words rule.Indefinite = codes "indefinite length, X.690, 10.1"
rule_words rule.LongLength = codes "length of more than 8 octets"
rule_words rule.LengthForm = codes "length, X.690, 10.1"
rule_words rule.Incomplete = codes "incomplete, X.690, 8.1"
rule_words rule.Trailing = codes "octets after the element"
rule_words rule.Depth = codes "more than 64 levels"
rule_words rule.Boolean = codes "BOOLEAN, X.690, 11.1"
rule_words rule.Integer = codes "INTEGER, X.690, 8.3.2"
rule_words rule.BitString = codes "BIT STRING, X.690, 11.2.1"
rule_words rule.Null = codes "NULL, X.690, 8.8"
rule_words rule.Identifier = codes "OBJECT IDENTIFIER, X.690, 8.19.2"
rule_words rule.Real = codes "REAL with a mantissa"
rule_words rule.UtcTime = codes "UTCTime, X.690, 11.8"
rule_words rule.GeneralizedTime = codes "GeneralizedTime, X.690, 11.7"
rule_words rule.Characters = codes "characters of a string, X.690, 8.23"
rule_words rule.Constructed = codes "constructed, X.690, 10.2"
rule_words rule.Primitive = codes "not constructed, X.690, 8.9 and 8.11"
rule_words rule.UnknownType = codes "unknown type, X.680, 8.4"
rule_words rule.Order = codes "order of a SET, X.690, 10.3 and 11.6"

-- on the next line
unfoldable pub offence_words : ℕ → Offence → List ℕ
offence_words at o =
    next_line ++ labelled (codes "not DER at octet ") (decimal (further at o.at)) ++ codes " (" ++ rule_words o.rule ++ codes ")"

unfoldable pub offence_text : ℕ → Option Offence → List ℕ
offence_text at None = []
offence_text at (Some o) = offence_words at o

-- the first offence against DER; none where the octets are DER, of another type than the expected one
unfoldable pub fault_text : Place → List ℕ
fault_text p = offence_text p.at (offence_of p.octets)
