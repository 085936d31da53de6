use Rattle.std.proofs.Common.{[], ◌+◌, arith, drop, suc}
use Rattle.shelf_input.specs.Files.{files_blocks}
use Rattle.shelf_input.proofs.Reading.{at_place, file_stops, octets_of, passed_on}
use Rattle.shelf_input.proofs.files.blocks_of_files.Goals as goal

pub returns-in_err-next : goal.returns-in_err-next
returns-in_err-next c =
    let files = c.args.files.now in
    let place = c.loop-file.file-index in
    let fault = c.in_err-next.field-0.0 in
    let whole = files_blocks 0 [] (octets_of files) in
    passed_on (λ bs. bs.items) whole c.from_residual.result fault c.from_residual.ensures.1
    (λ never. file_stops c.loop-file.number (c.loop-file.number + 1) c.loop-file.found.items c.deref.result.now (octets_of (drop place files))
    (octets_of (drop (suc place) files)) whole fault c.loop-file.invariant.0
    (at_place files place c.file-item.result c.deref.result.now c.loop-file-test.true c.file-item.is c.deref.ensures.value) (omega arith)
    (c.in_err-next.ensures never))
