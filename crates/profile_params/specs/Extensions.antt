-- An extension that is given as it is (RFC 5280, 4.1).
use Rattle.rcgen_certificate.specs.CustomExtensions.{Custom}
use Rattle.toml_format.specs.declared.certificate.ExtensionEntry.{ExtensionEntry}

abbrev pub extension_of_profile : ExtensionEntry → Custom
extension_of_profile e = record { oid = e.oid; critical = e.critical; content = e.content }
