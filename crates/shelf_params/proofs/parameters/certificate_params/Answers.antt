use Rattle.rcgen_certificate.specs.ParamsView.{params_view}
use Rattle.shelf_params.specs.Parameters.{certificate_params, completed, content_params, subtrees_said}
use Rattle.shelf_params.proofs.Steps.{gets_behind, refused_behind}
use Rattle.shelf_params.proofs.parameters.certificate_params.Goals as goal

pub returns-in_err-params : goal.returns-in_err-params
unfolding certificate_params
returns-in_err-params c =
    refused_behind params_view (subtrees_said c.args.content.constraints) (content_params c.args.content)
    (λ params. completed params c.args.days c.args.access) c.in_err-params.field-0.0 c.from_residual-in_err-params.result c.in_ok-subtrees_said.ensures
    c.in_err-params.ensures c.from_residual-in_err-params.ensures.1

pub returns : goal.returns
unfolding certificate_params
returns c =
    gets_behind params_view (subtrees_said c.args.content.constraints) (content_params c.args.content)
    (λ params. completed params c.args.days c.args.access) (params_view c.in_ok-params.params) c.completed.result c.in_ok-subtrees_said.ensures
    c.in_ok-params.ensures c.completed.ensures
