-- What the extensions of a certificate say, as the steps read it.
use Rattle.path_validation.specs.Limits.{ca_fits, names_fit, policies_fit, statements_fit}
use Rattle.issued_path.specs.Types.{OfArgument}

abbrev pub ReadCa : Type 0
ReadCa = OfArgument ca_fits

abbrev pub ReadNames : Type 0
ReadNames = OfArgument names_fit

abbrev pub ReadPolicies : Type 0
ReadPolicies = OfArgument policies_fit

abbrev pub ReadStatements : Type 0
ReadStatements = OfArgument statements_fit
