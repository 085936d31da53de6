use Rattle.std.proofs.Common.{◌≡◌, map, string_bytes, sym, ap, ◌∙◌, arith, rules}
use Rattle.std.specs.List.{list_all}
use Rattle.std.proofs.lemmas.List.{take_all}
use Rattle.std.proofs.lemmas.List.Folds.{list_all-map}
use Rattle.pkix_name.specs.declared.general_name.GeneralName.TheVariants.{Uri}
use Rattle.rcgen_certificate.specs.AsciiTexts.{is_ascii}
use Rattle.rcgen_certificate.proofs.NameTrees.{item_passes}
use Rattle.rcgen_certificate.proofs.Rows.{map_more}
use Rattle.rcgen_certificate.proofs.Points.{uris_are}
use Rattle.rcgen_certificate.proofs.distribution_point.uri_names.Goals as goal

pub uri_name-requires : goal.uri_name-requires
uri_name-requires c =
    let text : c.as_str.result.now ≡ string_bytes c.uri-item.result = search rules in
    let uris = c.deref-uri-items.result.now in
    ap is_ascii text
    ∙ item_passes (λ s. is_ascii (string_bytes s)) uris c.loop-uri.uri-index c.uri-item.result c.loop-uri-test.true c.uri-item.is
    (sym (list_all-map is_ascii string_bytes uris) ∙ ap (λ us. list_all is_ascii (map string_bytes us)) c.deref-uri-items.ensures.value ∙ c.requires)

pub loop-uri-preserved : goal.loop-uri-preserved
loop-uri-preserved c =
    let text : c.as_str.result.now ≡ string_bytes c.uri-item.result = search rules in
    map_more (λ s. Uri (string_bytes s)) c.deref-uri-items.result.now c.loop-uri.uri-index c.uri-item.result c.loop-uri.names
    c.push.new.self c.in_ok-uri_name.field-0 c.loop-uri-test.true c.uri-item.is c.loop-uri.invariant
    (c.in_ok-uri_name.ensures.value ∙ ap Uri text) c.in_ok-push.ensures.ok

pub returns-clause-value : goal.returns-clause-value
returns-clause-value c =
    let all = take_all c.loop-uri.uri-index c.deref-uri-items.result.now (omega (arith, c.loop-uri-test.false)) in
    c.loop-uri.invariant ∙ ap (map (λ s. Uri (string_bytes s))) (all ∙ c.deref-uri-items.ensures.value) ∙ uris_are c.args.point.now
