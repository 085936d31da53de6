use Rattle.std.specs.Prelude.{◌≡◌}
use Rattle.std.specs.BTreeMap as tree
use Rattle.rcgen_text.specs.contracts.dn_type.DnTypeOrd.TheImpl.{ghosts as order}
use Rattle.rcgen_text.specs.declared.dn_type.DnType.{DnType}
use Rattle.rcgen_text.specs.DnTypes.{kind_of}
use Rattle.rcgen_text.specs.Names.{all_pushed, entries_of, place_of_type}
use Rattle.rcgen_text.proofs.distinguished_name.DistinguishedName.from_entries.Given as goal

-- the name has the attributes so far, and the map says where each type occurs in it
abbrev pub invariant-loop-ty : goal.invariant-loop-ty
invariant-loop-ty l = (l.name ≡ all_pushed (entries_of l.yielded)) × ((t : DnType) → tree.get order.cmp l.places t ≡ place_of_type (kind_of t) l.name)
