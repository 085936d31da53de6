use Rattle.std.proofs.Common.{FitsSigned, string_bytes, sym, to_z-of_z, w64, ◌∙◌}
use Rattle.register_lines.specs.Times.{has_year}
use Rattle.register_lines.proofs.Lines.{end_is}
use Rattle.register_lines.proofs.found.end_text.Goals as goal

pub returns-in_ok-text : goal.returns-in_ok-text
returns-in_ok-text c =
    let f : FitsSigned w64 c.args.seconds = c.ranges.seconds in
    let t = simp to_z-of_z at c.in_ok-text.ensures in
    let h = simp to_z-of_z at c.has_year.ensures in
    end_is (has_year c.args.seconds) c.args.seconds (string_bytes c.in_ok-text.text) (sym h ∙ c.if-has_year.true) t
