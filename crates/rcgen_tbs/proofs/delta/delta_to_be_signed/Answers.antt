use Rattle.rcgen_certificate.specs.Issuers.{view_of}
use Rattle.rcgen_issue.specs.CrlView.{crl_view}
use Rattle.rcgen_tbs.proofs.Deltas.{delta_message}
use Rattle.rcgen_tbs.proofs.Frames.{entries_are_raw}
use Rattle.rcgen_tbs.proofs.delta.delta_to_be_signed.Goals as goal

pub framed_octets-requires-clause-entries : goal.framed_octets-requires-clause-entries
framed_octets-requires-clause-entries g c = entries_are_raw _ _ c.in_ok-entries.ensures.entries

pub returns-clause-message : goal.returns-clause-message
returns-clause-message g c =
    delta_message c.args.base.now (crl_view c.args.params.now) (view_of g.S.PublicKeyData.key c.args.issuer.now) c.in_ok-frame.frame c.in_ok-entries.entries
    c.in_ok-message.message.items c.in_ok-frame.ensures.value (rw c.deref.ensures.value at c.in_ok-entries.ensures.entries) c.in_ok-message.ensures.form
