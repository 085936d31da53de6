use Rattle.std.proofs.Common.{◌≡◌, ◌++◌}
use Rattle.std.specs.List.{flat_map}
use Rattle.std.specs.Prelude.{codes}
use Rattle.certify_core.specs.ListedParts.{extension_part_text}
use Rattle.certify_core.specs.Listing.{line}
use Rattle.certify_core.proofs.listing.push_extensions.Given as goal

-- the lines so far, and those of the extensions that are left
abbrev pub invariant-loop-extension : goal.invariant-loop-extension
invariant-loop-extension l =
    let extension_line = line (codes "extension") extension_part_text in
    l.lines.items ++ flat_map extension_line l.extension-iterator ≡ l.initial.lines.items ++ flat_map extension_line l.fn.extensions
