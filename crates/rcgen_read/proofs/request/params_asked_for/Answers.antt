use Rattle.rcgen_read.specs.ExtensionReading.{asked_view}
use Rattle.rcgen_read.proofs.Assembled.{both_read}
use Rattle.rcgen_read.proofs.request.params_asked_for.Goals as goal

pub returns : goal.returns
returns c = (
  record { name = c.in_ok-name.name; asked = asked_view c.in_ok-asked.asked },
  both_read c.args.subject.now c.args.extensions.now c.in_ok-name.name (asked_view c.in_ok-asked.asked) c.in_ok-name.ensures.read c.in_ok-asked.ensures,
  c.in_ok-params.ensures.value,
)
