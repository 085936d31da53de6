use Rattle.shelf_fault.specs.declared.fault.Fault.TheVariants.{CommonName}
use Rattle.shelf_params.proofs.CommonNames.{is_text}
use Rattle.shelf_params.proofs.common_names.dns_name.Goals as goal

pub returns-in-Err : goal.returns-in-Err
returns-in-Err c = λ n. is_text c.args.octets.now CommonName c.requires c.in-Err.ensures.cases.0
