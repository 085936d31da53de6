use Rattle.std.proofs.Common.{◌≡◌, ◌++◌, map, string_bytes}
use Rattle.std.specs.Vec.Iter.{into_iter_items}
use Rattle.shelf_command.specs.Requests.{file_input}
use Rattle.shelf_command.proofs.request.push_files.Given as goal

-- what was pushed, and what is left
abbrev pub invariant-loop-name : goal.invariant-loop-name
invariant-loop-name l =
    l.inputs.items ++ map file_input (map string_bytes (into_iter_items l.name-iterator))
    ≡ l.fn.inputs.items ++ map file_input (map string_bytes l.fn.names.items)
