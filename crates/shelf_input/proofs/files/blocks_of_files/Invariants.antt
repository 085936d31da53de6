use Rattle.std.proofs.Common.{◌≡◌, [], drop, map}
use Rattle.shelf_input.specs.Files.{files_blocks}
use Rattle.shelf_input.proofs.files.blocks_of_files.Given as goal

-- what is left, from here on, is the whole
abbrev pub invariant-loop-file : goal.invariant-loop-file
invariant-loop-file l =
    (files_blocks l.number l.found.items (map (λ file. file.items) (drop l.file-index l.files)) ≡ files_blocks 0 [] (map (λ file. file.items) l.files))
    × (l.number ≡ l.file-index)
