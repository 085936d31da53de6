use Rattle.std.proofs.Common.{rules}
use Rattle.rcgen_certificate.specs.Issuers.{view_of}
use Rattle.rcgen_certificate.specs.ParamsView.{params_view}
use Rattle.rcgen_certificate.proofs.Rows.{extension_rows_named}
use Rattle.rcgen_certificate.proofs.extensions.extensions.Goals as goal

pub extensions_field-requires : goal.extensions_field-requires
extensions_field-requires g c =
    let named = extension_rows_named (params_view c.args.params.now) (g.K.PublicKeyData.key c.args.public_key.now)
    (view_of g.S.PublicKeyData.key c.args.issuer.now) c.requires.given in
    search rules
