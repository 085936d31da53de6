use Rattle.rcgen_certificate.specs.ParamsView.{params_view}
use Rattle.shelf_params.specs.Parameters.{content_params, contents_strict, named_params}
use Rattle.shelf_params.proofs.Steps.{passes_behind}
use Rattle.shelf_params.proofs.subject_types.content_params.Goals as goal

pub returns : goal.returns
unfolding content_params
returns c =
    passes_behind params_view (contents_strict c.args.content.extensions) (named_params c.args.content) c.named_params.result
    (rw c.as_slice.ensures at c.in_ok-contents_strict.ensures) c.named_params.ensures
