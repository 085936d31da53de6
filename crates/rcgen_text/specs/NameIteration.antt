-- The attributes of a name, one after another.
use Rattle.std.specs.Prelude.{List}
use Rattle.std.specs.Borrow.{Bor}
use Rattle.rcgen_text.specs.declared.dn_type.DnType.{DnType}
use Rattle.rcgen_text.specs.declared.dn_value.DnValue.{DnValue}
use Rattle.rcgen_text.specs.declared.distinguished_name.DistinguishedNameIterator.{DistinguishedNameIterator}
use Rattle.rcgen_text.specs.DnTypes.{kind_of}
use Rattle.rcgen_text.specs.DnValues.{text_of}
use Rattle.rcgen_text.specs.Names.{Entry, entries_of}

-- the attribute that is given
abbrev pub given_attribute : Bor DnType × Bor DnValue → Entry
given_attribute e = record { dn_type = kind_of e.0.now; text = text_of e.1.now }

-- those that are still to come
abbrev pub attributes_left : DistinguishedNameIterator → List Entry
attributes_left it = entries_of it.rest.now
