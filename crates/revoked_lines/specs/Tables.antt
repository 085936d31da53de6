-- A line and a table of an order's array with the same texts.
use Rattle.std.specs.Prelude.{◌≡◌, ◌↔◌, ℕ, Bool, true, if◌then◌else◌, List, codes, Option, Some, None, Ok}
use Rattle.toml.specs.Data.{Data, Members, member, no_members, string, table}
use Rattle.toml_format.specs.RevocationList.{revoked}
use Rattle.toml_format.specs.Tables.{table_of}
use Rattle.toml_format.specs.declared.revocation_list.Revoked.{Revoked}
use Rattle.shelf_profile.specs.RevocationList.{is_entry}
use Rattle.revoked_lines.specs.Lines.{WordsView, entry_of, is_dash}

-- a reason that is given
abbrev pub given_reason : Option (List ℕ) → Option (List ℕ)
given_reason None = None
given_reason (Some word) = if is_dash word then None else Some word

-- a key with a text, where there is one
abbrev pub with_key : List ℕ → Option (List ℕ) → Members → Members
with_key key None rest = rest
with_key key (Some text) rest = member key (string text) rest

-- the table with the texts of a line, its keys in their order
abbrev pub texts_table : List ℕ → List ℕ → Option (List ℕ) → Option (List ℕ) → Data
texts_table serial time reason invalid =
    table (
    with_key (codes "invalid") invalid
    (with_key (codes "reason") reason (member (codes "serial") (string serial) (member (codes "time") (string time) no_members)))
    )

abbrev pub table_with : WordsView → Data
table_with w = texts_table w.serial w.time (given_reason w.reason) w.invalid

-- The entry of a line is what the table is read as, where such a list may have it; and of no other table there is one.
abbrev pub LinesAreTables : Type 0
LinesAreTables =
    (is_delta : Bool) (number : ℕ) (w : WordsView) (e : Revoked)
    → (entry_of is_delta number w ≡ Ok e) ↔ (((table_of revoked).read (table_with w) ≡ Ok e) × (is_entry is_delta e ≡ true))
