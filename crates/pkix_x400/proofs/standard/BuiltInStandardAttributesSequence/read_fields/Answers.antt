-- The last of nine fields: all before it were read.
use Rattle.std.proofs.Common.{refl}
use Rattle.der_tree.proofs.Reading.{then_reads, unread}
use Rattle.pkix_x400.specs.Standards.{built_in_standard_attributes_fields}
use Rattle.pkix_x400.proofs.standard.BuiltInStandardAttributesSequence.read_fields.Goals as goal

pub returns-in_err-implicit-6 : goal.returns-in_err-implicit-6
unfolding built_in_standard_attributes_fields
returns-in_err-implicit-6 c =
    then_reads _ _ _ _ _ c.in_ok-optional.ensures.reads (
    then_reads _ _ _ _ _ c.in_ok-optional-2.ensures.reads (
    then_reads _ _ _ _ _ c.in_ok-implicit.ensures.reads (
    then_reads _ _ _ _ _ c.in_ok-implicit-2.ensures.reads (
    then_reads _ _ _ _ _ c.in_ok-explicit.ensures.reads (
    then_reads _ _ _ _ _ c.in_ok-implicit-3.ensures.reads (
    then_reads _ _ _ _ _ c.in_ok-implicit-4.ensures.reads (
    then_reads _ _ _ _ _ c.in_ok-implicit-5.ensures.reads (
    unread _ _ _ _ _ _ c.in_err-implicit-6.ensures.reads c.from_residual-in_err-implicit-6.ensures.1))))))))

pub returns : goal.returns
unfolding built_in_standard_attributes_fields
returns c = rw (
  c.in_ok-optional.ensures.reads,
  c.in_ok-optional-2.ensures.reads,
  c.in_ok-implicit.ensures.reads,
  c.in_ok-implicit-2.ensures.reads,
  c.in_ok-explicit.ensures.reads,
  c.in_ok-implicit-3.ensures.reads,
  c.in_ok-implicit-4.ensures.reads,
  c.in_ok-implicit-5.ensures.reads,
  c.in_ok-implicit-6.ensures.reads,
) refl
