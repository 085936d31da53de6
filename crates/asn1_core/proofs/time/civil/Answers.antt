use Rattle.asn1_core.proofs.Civil.{civil_made}
use Rattle.std.proofs.Common.{◌∙◌}
use Rattle.asn1_core.proofs.time.civil.Goals as goal

pub returns : goal.returns
returns c =
    c.ok.ensures.value ∙ civil_made c.args.year c.args.parts c.args.nanosecond c.new.result c.requires.year c.requires.parts c.requires.nanosecond c.new.ensures.succeeds c.new.ensures.value
