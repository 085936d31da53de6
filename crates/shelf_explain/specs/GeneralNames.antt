-- Names of other kinds (RFC 5280, 4.2.1.6).
use Rattle.std.specs.Prelude.{ℕ, List, [], ◌∷◌, ◌++◌, codes}
use Rattle.std.specs.List.{join_by}
use Rattle.pkix_name.specs.GeneralNames.{edi_party_name}
use Rattle.pkix_name.specs.declared.general_name.GeneralName.{GeneralName}
use Rattle.pkix_name.specs.declared.general_name.GeneralName.TheVariants as names
use Rattle.pkix_x400.specs.Addresses.{or_address}
use Rattle.shelf_explain.specs.Addresses.{address_text}
use Rattle.shelf_explain.specs.Encodings.{encoded_text}
use Rattle.shelf_explain.specs.Known.{identifier_text}
use Rattle.shelf_explain.specs.Lines.{labelled, next_line}
use Rattle.shelf_explain.specs.Names.{attribute_value_text, name_text}
use Rattle.shelf_explain.specs.Values.{plain_text}

unfoldable pub labelled_text : List ℕ → List ℕ → List ℕ
labelled_text label text = label ++ plain_text text

-- a text where the value is one
unfoldable pub other_name_text : List ℕ → List ℕ → List ℕ
other_name_text arcs value = labelled (codes "other:") (identifier_text arcs) ++ codes "=" ++ attribute_value_text value

unfoldable pub general_name_text : GeneralName → List ℕ
general_name_text (names.OtherName name) = other_name_text name.type_id name.value
general_name_text (names.Rfc822Name text) = labelled_text (codes "email:") text
general_name_text (names.DnsName text) = labelled_text (codes "DNS:") text
general_name_text (names.X400Address address) = labelled (codes "X.400 address:") (encoded_text or_address address)
general_name_text (names.DirectoryName name) = labelled (codes "directory:") (name_text name)
general_name_text (names.EdiPartyName name) = labelled (codes "EDI party name:") (encoded_text edi_party_name name)
general_name_text (names.Uri text) = labelled_text (codes "URI:") text
general_name_text (names.IpAddress octets) = labelled (codes "IP:") (address_text octets)
general_name_text (names.RegisteredId arcs) = labelled (codes "registered:") (identifier_text arcs)

-- a line for each
unfoldable pub each_text : {A : Type 0} → (A → List ℕ) → List A → List ℕ
each_text text [] = codes "none"
each_text text (x ∷ xs) = join_by text next_line (x ∷ xs)
