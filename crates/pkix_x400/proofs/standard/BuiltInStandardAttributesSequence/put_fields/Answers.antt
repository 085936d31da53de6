-- At the last two of nine fields, where one isn't put: those before it were. And where all were put.
use Rattle.der_tree.proofs.Putting.{put_more, put_as, unput, fault_here, fault_after, fault_as}
use Rattle.pkix_x400.specs.Standards.{built_in_standard_attributes_fields}
use Rattle.pkix_x400.proofs.standard.BuiltInStandardAttributesSequence.put_fields.Goals as goal

pub returns-in_err-put_implicit-5 : goal.returns-in_err-put_implicit-5
unfolding built_in_standard_attributes_fields
returns-in_err-put_implicit-5 c =
    unput _ _ _ _ _ (
    fault_after _ _ _ _ _ (put_as _ _ _ _ _ c.as_ref.ensures.value c.in_ok-put_optional.ensures.puts) (
    fault_after _ _ _ _ _ (put_as _ _ _ _ _ c.as_ref-2.ensures.value c.in_ok-put_optional-2.ensures.puts) (
    fault_after _ _ _ _ _ (put_as _ _ _ _ _ c.as_ref-3.ensures.value c.in_ok-put_implicit.ensures.puts) (
    fault_after _ _ _ _ _ (put_as _ _ _ _ _ c.as_ref-4.ensures.value c.in_ok-put_implicit-2.ensures.puts) (
    fault_after _ _ _ _ _ (put_as _ _ _ _ _ c.as_ref-5.ensures.value c.in_ok-put_explicit.ensures.puts) (
    fault_after _ _ _ _ _ (put_as _ _ _ _ _ c.as_ref-6.ensures.value c.in_ok-put_implicit-3.ensures.puts) (
    fault_after _ _ _ _ _ (put_as _ _ _ _ _ c.as_ref-7.ensures.value c.in_ok-put_implicit-4.ensures.puts) (
    fault_here _ _ _ (fault_as _ _ _ _ c.as_ref-8.ensures.value c.in_err-put_implicit-5.ensures.puts))))))))) c.from_residual-in_err-put_implicit-5.ensures.1

pub returns-in_err-put_implicit-6 : goal.returns-in_err-put_implicit-6
unfolding built_in_standard_attributes_fields
returns-in_err-put_implicit-6 c =
    unput _ _ _ _ _ (
    fault_after _ _ _ _ _ (put_as _ _ _ _ _ c.as_ref.ensures.value c.in_ok-put_optional.ensures.puts) (
    fault_after _ _ _ _ _ (put_as _ _ _ _ _ c.as_ref-2.ensures.value c.in_ok-put_optional-2.ensures.puts) (
    fault_after _ _ _ _ _ (put_as _ _ _ _ _ c.as_ref-3.ensures.value c.in_ok-put_implicit.ensures.puts) (
    fault_after _ _ _ _ _ (put_as _ _ _ _ _ c.as_ref-4.ensures.value c.in_ok-put_implicit-2.ensures.puts) (
    fault_after _ _ _ _ _ (put_as _ _ _ _ _ c.as_ref-5.ensures.value c.in_ok-put_explicit.ensures.puts) (
    fault_after _ _ _ _ _ (put_as _ _ _ _ _ c.as_ref-6.ensures.value c.in_ok-put_implicit-3.ensures.puts) (
    fault_after _ _ _ _ _ (put_as _ _ _ _ _ c.as_ref-7.ensures.value c.in_ok-put_implicit-4.ensures.puts) (
    fault_after _ _ _ _ _ (put_as _ _ _ _ _ c.as_ref-8.ensures.value c.in_ok-put_implicit-5.ensures.puts) (
    fault_as _ _ _ _ c.as_ref-9.ensures.value c.in_err-put_implicit-6.ensures.puts))))))))) c.from_residual-in_err-put_implicit-6.ensures.1

pub returns : goal.returns
unfolding built_in_standard_attributes_fields
returns c =
    put_more _ _ _ _ _ (put_as _ _ _ _ _ c.as_ref.ensures.value c.in_ok-put_optional.ensures.puts) (
    put_more _ _ _ _ _ (put_as _ _ _ _ _ c.as_ref-2.ensures.value c.in_ok-put_optional-2.ensures.puts) (
    put_more _ _ _ _ _ (put_as _ _ _ _ _ c.as_ref-3.ensures.value c.in_ok-put_implicit.ensures.puts) (
    put_more _ _ _ _ _ (put_as _ _ _ _ _ c.as_ref-4.ensures.value c.in_ok-put_implicit-2.ensures.puts) (
    put_more _ _ _ _ _ (put_as _ _ _ _ _ c.as_ref-5.ensures.value c.in_ok-put_explicit.ensures.puts) (
    put_more _ _ _ _ _ (put_as _ _ _ _ _ c.as_ref-6.ensures.value c.in_ok-put_implicit-3.ensures.puts) (
    put_more _ _ _ _ _ (put_as _ _ _ _ _ c.as_ref-7.ensures.value c.in_ok-put_implicit-4.ensures.puts) (
    put_more _ _ _ _ _ (put_as _ _ _ _ _ c.as_ref-8.ensures.value c.in_ok-put_implicit-5.ensures.puts) (
    put_as _ _ _ _ _ c.as_ref-9.ensures.value c.in_ok-put_implicit-6.ensures.puts))))))))
