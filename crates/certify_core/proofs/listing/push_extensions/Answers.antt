use Rattle.std.specs.Prelude.{ℕ, List, ◌++◌, codes, flat_map}
use Rattle.std.proofs.Common.{ap, sym, ◌∙◌}
use Rattle.std.proofs.lemmas.List.{append_assoc}
use Rattle.pkix_cert.specs.Views.{ExtensionParts}
use Rattle.pkix_cert.specs.ViewsShown.{parts_shown}
use Rattle.certify_core.specs.ListedParts.{extension_part_text}
use Rattle.certify_core.specs.Listing.{line}
use Rattle.certify_core.proofs.listing.push_extensions.Goals as goal

pub loop-extension-preserved : goal.loop-extension-preserved
unfolding line
loop-extension-preserved c =
    let lines = line (codes "extension") extension_part_text in
    let left : List ExtensionParts = c.next.new.self in
    let text : List ℕ = c.loop-extension.lines.items in
    ap (λ (x : List ℕ). x ++ flat_map lines left) c.in_ok-push_line.ensures
    ∙ append_assoc text (lines (parts_shown c.in-Some.extension)) (flat_map lines left)
    ∙ ap (λ (x : List ExtensionParts). text ++ flat_map lines x) (sym c.in-Some.ensures.steps)
    ∙ c.loop-extension.invariant
