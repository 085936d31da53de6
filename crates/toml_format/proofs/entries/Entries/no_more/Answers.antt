use Rattle.std.proofs.Common.{◌≡◌, length, arith, sym, ◌∙◌}
use Rattle.std.specs.Vec.{vec_len}
use Rattle.toml_format.proofs.Tables.{no_more-some}
use Rattle.toml_format.proofs.entries.Entries.no_more.Goals as goal

pub returns-else-is_empty : goal.returns-else-is_empty
returns-else-is_empty c =
    let counted : vec_len c.args.self.now.entries ≡ length c.args.self.now.entries.items = omega arith in
    no_more-some c.args.self.now.entries.items (vec_len c.args.self.now.entries) counted (sym c.is_empty.ensures ∙ c.if-is_empty.false)
