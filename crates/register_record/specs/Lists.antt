-- Which entries a list has.
use Rattle.std.specs.Prelude.{ℕ, ℤ, Bool, false, ◌&&◌, cond, nat_lt, nat_le, int_lt, List, Option, Some, None}
use Rattle.std.specs.List.{filter_map}
use Rattle.register_record.specs.Records.{State}
use Rattle.register_record.specs.declared.event.ListKind.{ListKind}
use Rattle.register_record.specs.declared.event.ListKind.TheVariants.{Complete, Delta}
use Rattle.register_record.specs.declared.list.Entry.{Entry}
use Rattle.register_record.specs.declared.state.Base.{Base}
use Rattle.register_record.specs.declared.state.Certificate.{Certificate}
use Rattle.register_record.specs.declared.state.Change.{Change}
use Rattle.register_record.specs.declared.state.Change.TheVariants.{Revoked, Released}

-- A list beyond the certificate's end has had the entry (RFC 5280, 3.3): the last complete list that is sealed was reserved after the change, and
-- is of a time after the end.
abbrev pub is_off : Option Base → ℕ → ℤ → Bool
is_off None since not_after = false
is_off (Some b) since not_after = nat_lt since b.number && int_lt not_after b.this_update

-- the status changed after the base was reserved (RFC 5280, 5.2.4)
abbrev pub is_new : Option Base → ℕ → Bool
is_new None since = false
is_new (Some b) since = nat_le b.number since

abbrev pub entry : List ℕ → Change → Entry
entry serial change = record { serial = serial; change = change }

-- of a complete list: a certificate that is revoked, and not yet off the lists
abbrev pub in_complete : Option Base → List ℕ → ℤ → ℕ → Option Change → Option Entry
in_complete base serial not_after since None = None
in_complete base serial not_after since (Some (Released time)) = None
in_complete base serial not_after since (Some (Revoked r)) = cond (is_off base since not_after) None (Some (entry serial (Revoked r)))

-- of a delta list: a certificate whose status has changed since the base; one that was on hold, and is valid, is to be removed (RFC 5280, 5.2.4)
abbrev pub in_delta : Option Base → List ℕ → ℕ → Option Change → Option Entry
in_delta base serial since None = None
in_delta base serial since (Some change) = cond (is_new base since) (Some (entry serial change)) None

abbrev pub in_list : ListKind → Option Base → Certificate → Option Entry
in_list Complete base c = in_complete base c.serial c.not_after c.since c.change
in_list Delta base c = in_delta base c.serial c.since c.change

-- the entries of the next list of this kind, in the order in which the serial numbers were reserved
abbrev pub entries : ListKind → State → List Entry
entries kind s = filter_map (in_list kind s.base) s.certificates

-- the base that a list of this kind has
abbrev pub base_number : ListKind → Option Base → Option ℕ
base_number Complete base = None
base_number Delta None = None
base_number Delta (Some b) = Some b.number
