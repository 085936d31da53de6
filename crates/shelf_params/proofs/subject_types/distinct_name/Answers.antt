use Rattle.std.proofs.Common.{List, Ok, ap, sym, ◌∙◌}
use Rattle.profile_params.specs.Names.{name_of_profile}
use Rattle.rcgen_text.specs.Names.{Entry}
use Rattle.shelf_params.specs.Parameters.{distinct_name}
use Rattle.shelf_params.proofs.RepeatedTypes.{passed_by, refused_by}
use Rattle.shelf_params.proofs.subject_types.distinct_name.Goals as goal

pub returns-in_err-refuse_shorter : goal.returns-in_err-refuse_shorter
unfolding distinct_name
returns-in_err-refuse_shorter c =
    refused_by (λ n. n) c.args.name c.in_ok-made.made c.attributes_given-given.result (λ u. Ok (name_of_profile c.args.name))
    c.in_err-refuse_shorter.field-0.0 c.from_residual-in_err-refuse_shorter.result c.attributes_given-given.ensures c.in_ok-made.ensures.value
    c.in_err-refuse_shorter.ensures c.from_residual-in_err-refuse_shorter.ensures.1

pub returns : goal.returns
unfolding distinct_name
returns c =
    passed_by c.args.name c.in_ok-made.made c.attributes_given-given.result (λ u. Ok (name_of_profile c.args.name)) c.attributes_given-given.ensures
    c.in_ok-made.ensures.value c.in_ok-refuse_shorter.ensures
    ∙ ap (λ (es : List Entry). Ok es) (sym c.in_ok-made.ensures.value)
