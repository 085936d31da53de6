-- The rows of events.
use Rattle.std.specs.Prelude.{ℕ, suc, pos, Bool, true, nat_lt, List, [], ◌∷◌}
use Rattle.sqlite_value.specs.declared.value.Value.TheVariants.{Null, Int}
use Rattle.sqlite_value.specs.Order.{Row}
use Rattle.asn1_core.specs.Twos.{is_shortest}
use Rattle.register_record.specs.Following.{end_of_numbers}
use Rattle.register_record.specs.declared.event.Event.{Event}
use Rattle.register_record.specs.declared.event.Event.TheVariants as event
use Rattle.register_rows.specs.Columns.{columns}

-- the row of the event that so many events come before: its rowid, nothing in the column of the INTEGER PRIMARY KEY, and the columns
abbrev pub row_of : ℕ → Event → Row
row_of n e = Int (pos (suc n)) ∷ Null ∷ columns e

abbrev pub rows_from : ℕ → List Event → List Row
rows_from n [] = []
rows_from n (e ∷ es) = row_of n e ∷ rows_from (suc n) es

-- the rows of all events, in order
abbrev pub rows_of : List Event → List Row
rows_of = rows_from 0

-- its serial number is the contents octets of an INTEGER (X.690, 8.3.2), and the number of a list is below 2^63
abbrev pub is_kept : Event → Bool
is_kept (event.Issuer certificate) = true
is_kept (event.Reserved serial kind not_after message) = is_shortest serial
is_kept (event.Sealed serial octets) = is_shortest serial
is_kept (event.Revoked serial revocation) = is_shortest serial
is_kept (event.MadeFinal serial revocation) = is_shortest serial
is_kept (event.Released serial time) = is_shortest serial
is_kept (event.ListReserved number kind this_update next_update message) = nat_lt number end_of_numbers
is_kept (event.ListSealed number octets) = nat_lt number end_of_numbers
