-- The document of a question about a certification path (RFC 5280, 6.1.1).
use Rattle.std.specs.Prelude.{ℕ, ℤ, Bool, false, List, codes, Option, Result, Ok}
use Rattle.toml_format.specs.Arcs.{arcs}
use Rattle.toml_format.specs.Document.{document_of}
use Rattle.toml_format.specs.Tables.{TableFormat, no_keys, ◌&◌, required, optional, defaulted, fields}
use Rattle.toml_format.specs.UtcInstant.{utc_instant}
use Rattle.toml_format.specs.Values.{array_of, boolean, text_as}
use Rattle.toml_format.specs.declared.reason.Reason.{Reason}
use Rattle.shelf_fault.specs.declared.fault.Fault.{Fault}
use Rattle.shelf_input.specs.Orders.{in_document}
use Rattle.shelf_path.specs.declared.question.PathQuestion.{PathQuestion}

-- the values at the keys, in order
abbrev pub QuestionValues : Type 0
QuestionValues = (((((Unit {0} × ℤ) × Option (List (List ℕ))) × Bool) × Bool) × Bool) × Bool

unfoldable pub question_of : QuestionValues → Result PathQuestion Reason
question_of ((((((_, at), policies), explicit_policy), inhibit_policy_mapping), inhibit_any_policy), revocation) = Ok (record {
  at = at;
  policies = policies;
  explicit_policy = explicit_policy;
  inhibit_policy_mapping = inhibit_policy_mapping;
  inhibit_any_policy = inhibit_any_policy;
  revocation = revocation;
})

unfoldable pub question_values : TableFormat QuestionValues
question_values =
    no_keys
    & required (codes "at") (text_as utc_instant)
    & optional (codes "policies") (array_of (text_as arcs))
    & defaulted (codes "explicit_policy") boolean false
    & defaulted (codes "inhibit_policy_mapping") boolean false
    & defaulted (codes "inhibit_any_policy") boolean false
    & defaulted (codes "revocation") boolean false

abbrev pub question : TableFormat PathQuestion
question = fields question_values question_of

-- the question that a text is, as a whole
unfoldable pub question_in : List ℕ → Result PathQuestion Fault
question_in text = in_document (document_of question.read text)
