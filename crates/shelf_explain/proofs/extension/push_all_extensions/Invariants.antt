use Rattle.std.proofs.Common.{◌≡◌, ◌++◌, take}
use Rattle.std.specs.List.{flat_map}
use Rattle.shelf_explain.specs.ExtensionTexts.{extension_line}
use Rattle.shelf_explain.proofs.extension.push_all_extensions.Given as goal

abbrev pub invariant-loop-extension : goal.invariant-loop-extension
invariant-loop-extension l = l.lines.items ≡ l.initial.lines.items ++ flat_map (extension_line l.indent) (take l.extension-index l.extensions)
