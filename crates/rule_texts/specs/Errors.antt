-- The rules that stop an order where they are broken.
use Rattle.std.specs.Prelude.{Bool, List, false, true}
use Rattle.std.specs.List.{list_any}
use Rattle.rule_table.specs.declared.rule.Rule.{Rule}
use Rattle.rule_table.specs.declared.rule.Rule.TheVariants.{AttributeIssuerForm, AttributeVersion, AttributeWithoutValues}
use Rattle.rule_table.specs.declared.rule.Rule.TheVariants.{BelowPathLength, ControlCharacter, CrlPointUri, EmptyAccess}
use Rattle.rule_table.specs.declared.rule.Rule.TheVariants.{EmptyAltNames, EmptyAuthorityKeyId, EmptyCrlPoints, EmptyHolderName}
use Rattle.rule_table.specs.declared.rule.Rule.TheVariants.{EmptyIssuer, EmptyPolicies, EmptyPurposes, EmptySubjectKeyId}
use Rattle.rule_table.specs.declared.rule.Rule.TheVariants.{EmptyText, EntryTwice, ExtensionTwice, ExtensionsWithoutV3}
use Rattle.rule_table.specs.declared.rule.Rule.TheVariants.{IssuingPointUri, ListEmptyIssuer, ListVersion, NameExcluded}
use Rattle.rule_table.specs.declared.rule.Rule.TheVariants.{NameNotCompared, NameNotPermitted, NegativeSkipCerts}
use Rattle.rule_table.specs.declared.rule.Rule.TheVariants.{NextUpdateNotLater, NoAttributes, NotStrictDer, PathLengthNegative}
use Rattle.rule_table.specs.declared.rule.Rule.TheVariants.{RequestVersion, SerialNotPositive, SerialTooLong, SignatureParameters}
use Rattle.rule_table.specs.declared.rule.Rule.TheVariants.{SubtreeAddress, SubtreeMailbox, TimeForm, TimeFraction, UnknownVersion}
use Rattle.rule_table.specs.declared.rule.Rule.TheVariants.{UnreadableExtension, ValidityReversed, WeakKey}

unfoldable pub is_error : Rule → Bool
is_error BelowPathLength = true
is_error ExtensionTwice = true
is_error EmptyText = true
is_error UnreadableExtension = true
is_error PathLengthNegative = true
is_error EmptyPurposes = true
is_error EmptyAltNames = true
is_error ControlCharacter = true
is_error SubtreeAddress = true
is_error SubtreeMailbox = true
is_error EmptyPolicies = true
is_error NegativeSkipCerts = true
is_error EmptyCrlPoints = true
is_error CrlPointUri = true
is_error EmptyAccess = true
is_error EmptyIssuer = true
is_error UnknownVersion = true
is_error ExtensionsWithoutV3 = true
is_error SerialNotPositive = true
is_error SerialTooLong = true
is_error ValidityReversed = true
is_error TimeForm = true
is_error TimeFraction = true
is_error SignatureParameters = true
is_error EmptySubjectKeyId = true
is_error EmptyAuthorityKeyId = true
is_error NameNotPermitted = true
is_error NameExcluded = true
is_error NameNotCompared = true
is_error RequestVersion = true
is_error ListVersion = true
is_error ListEmptyIssuer = true
is_error NextUpdateNotLater = true
is_error IssuingPointUri = true
is_error EntryTwice = true
is_error AttributeVersion = true
is_error EmptyHolderName = true
is_error AttributeIssuerForm = true
is_error NoAttributes = true
is_error AttributeWithoutValues = true
is_error NotStrictDer = true
is_error WeakKey = true
is_error _ = false

unfoldable pub has_error : List Rule → Bool
has_error rules = list_any is_error rules
