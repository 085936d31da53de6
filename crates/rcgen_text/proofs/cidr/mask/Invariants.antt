use Rattle.std.proofs.Common.{◌≡◌, ◌-◌, ◌++◌, length, take}
use Rattle.rcgen_text.specs.Addresses.{mask}
use Rattle.rcgen_text.proofs.cidr.mask.Given as goal

-- the octets so far, and those that are left
abbrev pub invariant-loop-octet : goal.invariant-loop-octet
invariant-loop-octet g l =
    (take l.octet-index l.octet-items ++ mask (g.row.N - l.octet-index) l.left ≡ mask g.row.N l.prefix) × (length l.octet-items ≡ g.row.N)
