use Rattle.der_tree.proofs.FormLaws.{written_is}
use Rattle.der_tree.specs.Grammar.{any}
use Rattle.der_tree.specs.View.{plain}
use Rattle.rcgen_certificate.specs.Signed.{signed, signed_value}
use Rattle.rcgen_certificate.proofs.signing.signed_octets.Goals as goal

pub returns-clause-form : goal.returns-clause-form
returns-clause-form c =
    written_is (signed any) (signed_value c.args.message.items c.args.algorithm.now c.args.signature.now) (plain c.in_ok-tree.tree)
    c.in_ok-octets.octets.items c.in_ok-tree.ensures c.in_ok-octets.ensures.octets c.in_ok-octets.ensures.element
