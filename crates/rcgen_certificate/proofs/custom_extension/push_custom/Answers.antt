use Rattle.std.specs.Prelude.{map}
use Rattle.std.proofs.Common.{sym, ◌∙◌, arith}
use Rattle.std.proofs.lemmas.List.Folds.{list_all-map}
use Rattle.rcgen_certificate.specs.CustomExtensions.{custom_of, has_custom_oid}
use Rattle.rcgen_certificate.specs.ExtensionRows.{row_of_extension}
use Rattle.rcgen_certificate.proofs.CustomExtensions.{rows_more, rows_of_all}
use Rattle.rcgen_certificate.proofs.NameTrees.{item_passes}
use Rattle.rcgen_certificate.proofs.custom_extension.push_custom.Goals as goal

pub extension_of-requires : goal.extension_of-requires
extension_of-requires c =
    item_passes (λ e. has_custom_oid (custom_of e)) c.args.given.now c.loop-custom.custom-index c.custom-item.result c.loop-custom-test.true
    c.custom-item.is (sym (list_all-map has_custom_oid custom_of c.args.given.now) ∙ c.requires)

pub loop-custom-preserved : goal.loop-custom-preserved
loop-custom-preserved c =
    rows_more (map row_of_extension c.args.list.now) c.loop-custom.list c.push.new.self c.in_ok-extension_of.field-0 c.args.given.now
    c.loop-custom.custom-index c.custom-item.result c.loop-custom-test.true c.custom-item.is c.loop-custom.invariant
    c.in_ok-extension_of.ensures.row c.in_ok-push.ensures.ok

pub returns-clause-rows : goal.returns-clause-rows
returns-clause-rows c =
    rows_of_all (map row_of_extension c.args.list.now) (map row_of_extension c.loop-custom.list) c.args.given.now c.loop-custom.custom-index
    (omega (arith, c.loop-custom-test.false)) c.loop-custom.invariant
