use Rattle.std.proofs.Common.{string_bytes, inr}
use Rattle.rcgen_certificate.proofs.Issuing.{passed}
use Rattle.rcgen_certificate.proofs.NamesOfTexts.{names_more, first_nameless}
use Rattle.rcgen_certificate.proofs.params.names_of.Goals as goal

pub returns-in_err-name_of-clause-why : goal.returns-in_err-name_of-clause-why
returns-in_err-name_of-clause-why c =
    passed c.from_residual-in_err-name_of.result c.in_err-name_of.field-0.0 _ c.from_residual-in_err-name_of.ensures.1
    (inr (first_nameless string_bytes c.args.texts.items c.loop-text.yielded c.into_iter-text-iterator.result c.loop-text.text-iterator
    c.next.new.self c.in-Some.text c.loop-text.names.items c.in_err-name_of.field-0.0 c.into_iter-text-iterator.ensures.into_iter_gives.0
    c.loop-text.yielded_by c.in-Some.ensures.steps c.loop-text.invariant c.in_err-name_of.ensures.nameless c.in_err-name_of.ensures.why))

pub loop-text-preserved : goal.loop-text-preserved
loop-text-preserved c =
    names_more string_bytes c.loop-text.yielded c.in-Some.text c.loop-text.names.items c.push.new.self.items c.in_ok-name_of.field-0
    c.loop-text.invariant c.in_ok-name_of.ensures.name c.in_ok-push.ensures.items
