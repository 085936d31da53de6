use Rattle.std.specs.Prelude.{◌≡◌, ℕ, List, Some, length}
use Rattle.std.specs.Int.{w64, from_be_bytes}
use Rattle.std.proofs.Common.{sym, ap, arith, ◌∙◌}
use Rattle.authority.proofs.Entries.{octets_are}
use Rattle.authority.proofs.book.serial_of.Goals as goal

pub returns : goal.returns
returns c =
    let eight : length c.as_slice-octets.result.now ≡ 8 = omega (arith, c.in-len8.len_at_least, c.in-len8.len_below) in
    let same = c.as_slice-octets.ensures in
    rw (octets_are c.args.entry.now.serial_number (ap length (sym same) ∙ eight) (rw same at c.are_octets.ensures), c.from_be_bytes.ensures)
    (ap (λ (bs : List ℕ). Some (from_be_bytes w64 bs)) same)
