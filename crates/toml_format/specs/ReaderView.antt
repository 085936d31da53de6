-- What a reader of a table has read, and what is left; without where it lies in memory.
use Rattle.std.specs.Prelude.{ℕ, Bool, List, map, String, string_bytes}
use Rattle.std.specs.Borrow.{Bor}
use Rattle.std.specs.Map.Iter.{deref_pair}
use Rattle.std.specs.declared.alloc.Global.{Global}
use Rattle.toml.specs.Data.{Members, same_key}
use Rattle.toml.specs.View.{members_view}
use Rattle.toml.specs.declared.value.Value.{Value}
use Rattle.toml_format.specs.TableReading.{Reading}
use Rattle.toml_format.specs.declared.entries.Entries.{Entries}
use Rattle.toml_format.specs.declared.table_reader.TableReader.{TableReader}

-- a key, and the value at it
abbrev pub Entry : Type 0
Entry = Bor (String Global) × Bor Value

-- the key is the entry's
abbrev pub is_at : List ℕ → Entry → Bool
is_at key e = same_key key (string_bytes e.0.now)

abbrev pub members : List Entry → Members
members es = members_view (map deref_pair es)

-- the entries that are left
abbrev pub entries_view : Entries → Members
entries_view e = members e.entries.items

-- what was read, and what is left
unfoldable pub seen : {A : Type 0} → TableReader A → Reading A
seen r = record { left = entries_view r.left; read = r.read }
