use Rattle.rcgen_certificate.specs.ParamsView.{params_view}
use Rattle.rcgen_tbs.proofs.Subjects.{identified_is}
use Rattle.rcgen_tbs.proofs.stand_in.identified.Goals as goal

pub returns-clause-view : goal.returns-clause-view
returns-clause-view c =
    let id = rw c.as_slice.ensures.value at c.in_ok-id.ensures.value in (
      c.in_ok-octets.octets.items,
      c.in_ok-octets.ensures.form,
      identified_is (params_view c.args.params.now) (params_view c.in_ok-copy.copy) c.in_ok-octets.octets.items c.in_ok-id.id.items
          c.in_ok-copy.ensures.same.view id,
    )
