-- Why no attribute certificate is issued, as a refusal.
use Rattle.std.specs.Prelude.{ℕ, List, codes}
use Rattle.attr_issue.specs.AttributeCauses.{AttributeCause, no_attributes, refused, repeated_attribute}
use Rattle.attr_issue.specs.declared.error.AttrError.{AttrError}
use Rattle.attr_issue.specs.declared.error.AttrError.TheVariants as error
use Rattle.certify_core.specs.Lines.{cause_name}
use Rattle.certify_core.specs.Outcome.{refusal_of}
use Rattle.certify_core.specs.declared.refusal.Refusal.{Refusal}
use Rattle.certify_core.specs.declared.refusal.Refusal.TheVariants as refusal

-- the name of the error's variant, and of a cause against any kind that is issued the name of that one
abbrev pub attribute_cause_name : AttributeCause → List ℕ
attribute_cause_name no_attributes = codes "NoAttributes"
attribute_cause_name repeated_attribute = codes "RepeatedAttribute"
attribute_cause_name (refused c) = cause_name c

abbrev pub attribute_refusal : AttrError → Refusal
attribute_refusal error.NoAttributes = refusal.Cause (attribute_cause_name no_attributes)
attribute_refusal error.RepeatedAttribute = refusal.Cause (attribute_cause_name repeated_attribute)
attribute_refusal (error.Refused e) = refusal_of e
attribute_refusal error.OutOfMemory = refusal.OutOfMemory
