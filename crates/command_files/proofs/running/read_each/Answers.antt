use Rattle.std.proofs.Common.{◌≡◌}
use Rattle.command_run.specs.declared.status.Status.TheVariants as status
use Rattle.command_files.specs.Ends.{end_status}
use Rattle.command_files.specs.Run.{IsTooMuch, IsUnreadable}
use Rattle.command_files.specs.declared.running.End.{End}
use Rattle.command_files.proofs.InputLemmas.{bytes_of, left_more, one_more, passed_on, too_much, unreadable}
use Rattle.command_files.proofs.running.read_each.Goals as goal

pub returns-in_err-bytes-clause-too_long : goal.returns-in_err-bytes-clause-too_long
returns-in_err-bytes-clause-too_long g c =
    passed_on c.from_residual.result c.in_err-bytes.field-0.0
    (λ (end : End). end_status end ≡ status.TooLong → IsTooMuch (g.I.Inputs.stored c.args.inputs.now) c.args.names.now)
    c.from_residual.ensures.1
    (λ h. too_much (g.I.Inputs.stored c.args.inputs.now) c.args.names.now c.loop-place.place c.index-names-place.result (bytes_of c.loop-place.found.items) c.loop-place.left
    c.loop-place-test.true c.index-names-place.is c.loop-place.invariant.each c.loop-place.invariant.all (c.in_err-bytes.ensures.too_long h))

pub returns-in_err-bytes-clause-fault : goal.returns-in_err-bytes-clause-fault
returns-in_err-bytes-clause-fault g c =
    passed_on c.from_residual.result c.in_err-bytes.field-0.0
    (λ (end : End). end_status end ≡ status.ReadFault → IsUnreadable (g.I.Inputs.may_fail c.args.inputs.now) c.args.names.now)
    c.from_residual.ensures.1
    (λ h. unreadable (g.I.Inputs.may_fail c.args.inputs.now) c.args.names.now c.loop-place.place c.index-names-place.result
    c.loop-place-test.true c.index-names-place.is (c.in_err-bytes.ensures.fault h))

pub loop-place-preserved : goal.loop-place-preserved
loop-place-preserved g c = record {
  each = one_more (g.I.Inputs.stored c.args.inputs.now) c.args.names.now c.loop-place.place c.index-names-place.result c.loop-place.found.items c.push.new.self.items
      c.in_ok-bytes.bytes c.loop-place-test.true c.index-names-place.is c.loop-place.invariant.each c.in_ok-bytes.ensures.whole c.in_ok-bytes.ensures.own
      c.in_ok-push.ensures.items;
  all = left_more c.loop-place.left c.len-left.result c.loop-place.found.items c.push.new.self.items c.in_ok-bytes.bytes c.len-left.ensures
      c.in_ok-bytes.ensures.all c.loop-place.invariant.all c.in_ok-push.ensures.items;
}
