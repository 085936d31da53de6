use Rattle.std.proofs.Common.{Ok, ap, sym, ◌∙◌}
use Rattle.profile_params.specs.Certificates.{params_of_profile}
use Rattle.rcgen_certificate.specs.ParamsView.{ParamsView, params_view}
use Rattle.shelf_params.specs.Parameters.{named_params}
use Rattle.shelf_params.proofs.RepeatedTypes.{passed_by, refused_by}
use Rattle.shelf_params.proofs.subject_types.named_params.Goals as goal

pub returns-in_err-refuse_shorter : goal.returns-in_err-refuse_shorter
unfolding named_params
returns-in_err-refuse_shorter c =
    refused_by params_view c.args.content.name (params_view c.in_ok-params.params).distinguished_name c.attributes_given-given.result
    (λ u. Ok (params_of_profile c.args.content)) c.in_err-refuse_shorter.field-0.0 c.from_residual-in_err-refuse_shorter.result
    c.attributes_given-given.ensures (ap (λ (p : ParamsView). p.distinguished_name) c.in_ok-params.ensures.params) c.in_err-refuse_shorter.ensures
    c.from_residual-in_err-refuse_shorter.ensures.1

pub returns : goal.returns
unfolding named_params
returns c =
    passed_by c.args.content.name (params_view c.in_ok-params.params).distinguished_name c.attributes_given-given.result
    (λ u. Ok (params_of_profile c.args.content)) c.attributes_given-given.ensures
    (ap (λ (p : ParamsView). p.distinguished_name) c.in_ok-params.ensures.params) c.in_ok-refuse_shorter.ensures
    ∙ ap (λ (p : ParamsView). Ok p) (sym c.in_ok-params.ensures.params)
