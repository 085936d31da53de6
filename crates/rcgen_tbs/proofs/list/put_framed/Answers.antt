-- At each field that isn't put: the fields before it were, and writing stops there; and where all were put.
use Rattle.der_tree.proofs.Putting.{put_more, put_as, unput, fault_here, fault_after, fault_as}
use Rattle.rcgen_tbs.specs.Frames.{framed_fields}
use Rattle.rcgen_tbs.proofs.list.put_framed.Goals as goal

pub returns-in_err-put_entries : goal.returns-in_err-put_entries
unfolding framed_fields
returns-in_err-put_entries c =
    unput _ _ _ _ _ (
    fault_after _ _ _ _ _ (put_as _ _ _ _ _ c.as_ref.ensures.value c.in_ok-put_optional.ensures.puts) (
    fault_after _ _ _ _ _ (c.in_ok-put.ensures.puts) (
    fault_after _ _ _ _ _ (c.in_ok-put-2.ensures.puts) (
    fault_after _ _ _ _ _ (c.in_ok-put-3.ensures.puts) (
    fault_after _ _ _ _ _ (put_as _ _ _ _ _ c.as_ref-2.ensures.value c.in_ok-put_optional-2.ensures.puts) (
    fault_here _ _ _ (c.in_err-put_entries.ensures.puts))))))) c.from_residual-in_err-put_entries.ensures.1

pub returns-in_err-put_explicit : goal.returns-in_err-put_explicit
unfolding framed_fields
returns-in_err-put_explicit c =
    unput _ _ _ _ _ (
    fault_after _ _ _ _ _ (put_as _ _ _ _ _ c.as_ref.ensures.value c.in_ok-put_optional.ensures.puts) (
    fault_after _ _ _ _ _ (c.in_ok-put.ensures.puts) (
    fault_after _ _ _ _ _ (c.in_ok-put-2.ensures.puts) (
    fault_after _ _ _ _ _ (c.in_ok-put-3.ensures.puts) (
    fault_after _ _ _ _ _ (put_as _ _ _ _ _ c.as_ref-2.ensures.value c.in_ok-put_optional-2.ensures.puts) (
    fault_after _ _ _ _ _ (c.in_ok-put_entries.ensures.puts) (
    fault_as _ _ _ _ c.as_ref-3.ensures.value c.in_err-put_explicit.ensures.puts))))))) c.from_residual-in_err-put_explicit.ensures.1

pub returns : goal.returns
unfolding framed_fields
returns c =
    put_more _ _ _ _ _ (put_as _ _ _ _ _ c.as_ref.ensures.value c.in_ok-put_optional.ensures.puts) (
    put_more _ _ _ _ _ (c.in_ok-put.ensures.puts) (
    put_more _ _ _ _ _ (c.in_ok-put-2.ensures.puts) (
    put_more _ _ _ _ _ (c.in_ok-put-3.ensures.puts) (
    put_more _ _ _ _ _ (put_as _ _ _ _ _ c.as_ref-2.ensures.value c.in_ok-put_optional-2.ensures.puts) (
    put_more _ _ _ _ _ (c.in_ok-put_entries.ensures.puts) (
    put_as _ _ _ _ _ c.as_ref-3.ensures.value c.in_ok-put_explicit.ensures.puts))))))
