use Rattle.std.proofs.Common.{◌≡◌, ◌∙◌, ap, to_z, pos, w8, w16, arith}
use Rattle.std.specs.Option.{option_map}
use Rattle.std.proofs.lemmas.Int.{to_z_pos}
use Rattle.toml_format.specs.TimeView.{date_view}
use Rattle.toml_format.proofs.Dates.{date_is}
use Rattle.toml_format.proofs.time_text.date_of.Goals as goal

pub returns : goal.returns
returns c =
    let year : to_z w16 c.args.year ≡ pos c.args.year = to_z_pos w16 c.args.year (omega (arith, c.requires.year)) in
    let month : to_z w8 c.args.month ≡ pos c.args.month = to_z_pos w8 c.args.month (omega (arith, c.requires.month)) in
    let day : to_z w8 c.args.day ≡ pos c.args.day = to_z_pos w8 c.args.day (omega (arith, c.requires.day)) in
    let succeeds = rw (year, month, day) at c.new.ensures.succeeds in
    let value = rw (year, month, day) at c.new.ensures.value in
    ap (option_map date_view) c.ok.ensures.value ∙ date_is c.new.result c.args.year c.args.month c.args.day c.requires.year succeeds value
