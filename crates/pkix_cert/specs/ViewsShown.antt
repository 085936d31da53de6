-- What views show.
use Rattle.pkix_cert.specs.Views.{ExtensionParts}
use Rattle.pkix_cert.specs.declared.view.ExtensionView.{ExtensionView}

abbrev pub parts_shown : ExtensionView → ExtensionParts
parts_shown v = record { whole = v.whole.now; id = v.id.now; critical = v.critical; contents = v.contents.now }
