use Rattle.std.proofs.Common.{Some, ap, sym, ◌∙◌}
use Rattle.std.proofs.lemmas.Bool.{false≢true}
use Rattle.toml_format.proofs.Documents.{document_of-read, document_of-refused, read_least}
use Rattle.toml_format.specs.Tables.{fields}
use Rattle.toml_format.proofs.document.read_document.Goals as goal

pub returns-in_ok-read_fields-in-Ok-clause-value : goal.returns-in_ok-read_fields-in-Ok-clause-value
returns-in_ok-read_fields-in-Ok-clause-value g c =
    let format = fields g.T.FromTable.keys g.T.FromTable.of_keys in
    document_of-read format.read c.args.input.now _ _ _
    c.closed-found.ensures c.in_ok-read_fields-in-Ok.ensures c.in-Ok.ensures.ok.0 (c.in-Ok.ensures.ok.1 ∙ ap Some (sym c.in_ok-entries-in-Ok.ensures))

pub returns-in_ok-read_fields-in-Ok-clause-least : goal.returns-in_ok-read_fields-in-Ok-clause-least
returns-in_ok-read_fields-in-Ok-clause-least g c =
    read_least (fields g.T.FromTable.keys g.T.FromTable.of_keys) c.args.input.now _ (returns-in_ok-read_fields-in-Ok-clause-value g c)

pub returns-in-Err-2-clause-value : goal.returns-in-Err-2-clause-value
returns-in-Err-2-clause-value g c =
    let format = fields g.T.FromTable.keys g.T.FromTable.of_keys in
    document_of-refused format.read c.args.input.now
    (c.in-Err.ensures.refused (λ m. false≢true (sym c.if-is_memory.false ∙ c.is_memory.ensures.1 m)))

pub returns-in-Err-2-clause-least : goal.returns-in-Err-2-clause-least
returns-in-Err-2-clause-least g c =
    read_least (fields g.T.FromTable.keys g.T.FromTable.of_keys) c.args.input.now _ (returns-in-Err-2-clause-value g c)
