-- Alternative names that are there twice.
use Rattle.std.specs.Prelude.{Bool, List, Option, not, ℕ, ◌||◌}
use Rattle.std.specs.List.{filter_map}
use Rattle.extension_lookup.specs.Lookup.{are_distinct}
use Rattle.pkix_name.specs.declared.general_name.GeneralName.{GeneralName}
use Rattle.pkix_rules.specs.Generals.{address_in, host_in, mailbox_in, uri_in}
use Rattle.pkix_rules.specs.declared.repeated.TextForm.{TextForm}
use Rattle.pkix_rules.specs.declared.repeated.TextForm.TheVariants.{Address, Host, Location, Mailbox}

-- what the name has, where it is of the form
abbrev pub text_at : TextForm → GeneralName → Option (List ℕ)
text_at Host n = host_in n
text_at Mailbox n = mailbox_in n
text_at Location n = uri_in n
text_at Address n = address_in n

abbrev pub texts_of : TextForm → List GeneralName → List (List ℕ)
texts_of form names = filter_map (text_at form) names

-- two of the form are the same, octet by octet
abbrev pub repeats_form : TextForm → List GeneralName → Bool
repeats_form form names = not (are_distinct (texts_of form names))

unfoldable pub repeats_name : List GeneralName → Bool
repeats_name names = repeats_form Host names || repeats_form Mailbox names || repeats_form Location names || repeats_form Address names
