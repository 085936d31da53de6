use Rattle.rcgen_text.specs.DnTypes.{kind_of}
use Rattle.rcgen_text.proofs.Places.{placed}
use Rattle.rcgen_text.proofs.distinguished_name.DistinguishedName.push.Goals as goal

pub put-requires : goal.put-requires
put-requires c = record {
  place = rw (← c.self.view_is, c.place_of-place.ensures, c.as_slice.ensures.value) (placed c.self.inside.entries.items (kind_of c.args.ty));
}
