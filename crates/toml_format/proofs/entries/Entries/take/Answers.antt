use Rattle.std.proofs.Common.{List, Some, ap, sym, ◌∙◌}
use Rattle.std.specs.List.{position}
use Rattle.std.specs.Option.{option_map}
use Rattle.toml.specs.View.{view}
use Rattle.toml_format.proofs.Tables.{found_at, lacks}
use Rattle.toml_format.specs.ReaderView.{Entry, is_at, members}
use Rattle.toml_format.proofs.entries.Entries.take.Goals as goal

pub returns-in_err-index-clause-value : goal.returns-in_err-index-clause-value
returns-in_err-index-clause-value c =
    let at = ap (λ (es : List Entry). position (is_at c.args.key.now) es) (sym c.as_slice.ensures.value) ∙ sym c.in_err-index.ensures in
    ap (option_map (λ v. view v.now)) c.from_residual.ensures ∙ sym (lacks c.args.key.now c.args.self.now.entries.items at).0

pub returns-in_err-index-clause-left : goal.returns-in_err-index-clause-left
returns-in_err-index-clause-left c =
    let at = ap (λ (es : List Entry). position (is_at c.args.key.now) es) (sym c.as_slice.ensures.value) ∙ sym c.in_err-index.ensures in
    (lacks c.args.key.now c.args.self.now.entries.items at).1

pub returns-clause-value : goal.returns-clause-value
returns-clause-value c =
    let at = ap (λ (es : List Entry). position (is_at c.args.key.now) es) (sym c.as_slice.ensures.value) ∙ sym c.in_ok-index.ensures in
    ap (λ e. Some (view e.1.now)) c.remove.ensures.value
    ∙ sym (found_at c.args.key.now c.in_ok-index.index c.args.self.now.entries.items c.remove.result at).0

pub returns-clause-left : goal.returns-clause-left
returns-clause-left c =
    let at = ap (λ (es : List Entry). position (is_at c.args.key.now) es) (sym c.as_slice.ensures.value) ∙ sym c.in_ok-index.ensures in
    ap (λ es. members es) c.remove.ensures.by_index.2
    ∙ (found_at c.args.key.now c.in_ok-index.index c.args.self.now.entries.items c.remove.result at).1
