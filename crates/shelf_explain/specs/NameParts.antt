-- Names that can't be read as a whole, attribute by attribute (RFC 5280, 4.1.2.4).
use Rattle.std.specs.Prelude.{ℕ, List}
use Rattle.pkix_name.specs.Names.{attribute_type_and_value, name, relative_distinguished_name}
use Rattle.shelf_explain.specs.Lines.{below_line, next_line}
use Rattle.shelf_explain.specs.Names.{attribute_text, name_text, relative_name_text}
use Rattle.shelf_explain.specs.PartTexts.{read_at, read_or_parts}
use Rattle.shelf_explain.specs.Parts.{Place}

unfoldable pub attribute_at : Place → List ℕ
attribute_at p = read_at attribute_type_and_value attribute_text p

unfoldable pub relative_name_at : Place → List ℕ
relative_name_at p = read_or_parts relative_distinguished_name relative_name_text below_line attribute_at p

-- in the order of its parts
unfoldable pub name_at : Place → List ℕ
name_at p = read_or_parts name name_text next_line relative_name_at p
