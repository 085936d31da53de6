-- Basic constraints: whether a subject is an authority, and how long a path below it may be (RFC 5280, 4.2.1.9).
use Rattle.std.specs.Prelude.{true, false, [], ◌∷◌, Option, Some, None, List}
use Rattle.asn1_core.specs.Twos.{unsigned}
use Rattle.pkix_cert.specs.declared.constraint.BasicConstraints.{BasicConstraints as Constraints}
use Rattle.pkix_cert.specs.ExtensionIds.{ce_basic_constraints, id_ce}
use Rattle.pkix_cert.specs.Constraints.{basic_constraints}
use Rattle.rcgen_text.specs.declared.basic_constraints.BasicConstraints.TheVariants.{Unconstrained, Constrained}
use Rattle.rcgen_text.specs.declared.basic_constraints.IsCa.{IsCa}
use Rattle.rcgen_text.specs.declared.basic_constraints.IsCa.TheVariants.{NoCa, ExplicitNoCa, Ca}
use Rattle.rcgen_certificate.specs.ExtensionRows.{ExtensionRow, extension_row}

-- the value of the extension, which is present where something is said of the subject
abbrev pub constraints : IsCa → Option Constraints
constraints NoCa = None
constraints ExplicitNoCa = Some (record { ca = false; path_len_constraint = None })
constraints (Ca Unconstrained) = Some (record { ca = true; path_len_constraint = None })
constraints (Ca (Constrained n)) = Some (record { ca = true; path_len_constraint = Some (unsigned (n ∷ [])) })

-- the extension on them
abbrev pub basic_constraints_row : IsCa → List ExtensionRow
basic_constraints_row is_ca = extension_row (id_ce ce_basic_constraints) true basic_constraints (constraints is_ca)
