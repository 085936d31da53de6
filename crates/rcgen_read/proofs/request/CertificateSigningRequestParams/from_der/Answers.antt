use Rattle.std.proofs.Common.{ap, sym, ◌∙◌}
use Rattle.rcgen_read.specs.ExtensionReading.{asked_view, read_extensions}
use Rattle.rcgen_read.specs.ReceivedRequests.{received_view}
use Rattle.rcgen_read.specs.RequestReading.{read_request_of}
use Rattle.rcgen_read.proofs.Assembled.{all_read}
use Rattle.rcgen_read.proofs.request.CertificateSigningRequestParams.from_der.Goals as goal

pub returns : goal.returns
returns g c = record {
  read = (
    read_request_of (received_view c.in_ok-received.received) c.in_ok-algorithm.algorithm c.in_ok-name.name (asked_view c.in_ok-asked.asked),
    all_read (g.V.Verifier.accepts c.args.verifier.now) c.args.der.now (received_view c.in_ok-received.received) c.in_ok-verify.field-0
        c.in_ok-algorithm.algorithm c.in_ok-name.name (asked_view c.in_ok-asked.asked) c.in_ok-received.ensures c.in_ok-verify.ensures
        c.in_ok-algorithm.ensures c.in_ok-name.ensures.read (ap read_extensions (sym c.as_slice.ensures) ∙ c.in_ok-asked.ensures),
    record { params = c.in_ok-params.ensures.value; public_key = c.in_ok-public_key.ensures.value },
  );
}
