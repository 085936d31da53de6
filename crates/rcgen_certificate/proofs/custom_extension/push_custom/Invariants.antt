use Rattle.std.specs.Prelude.{◌≡◌, ◌++◌, take, map}
use Rattle.rcgen_certificate.specs.CustomExtensions.{custom_of, custom_row}
use Rattle.rcgen_certificate.specs.ExtensionRows.{row_of_extension}
use Rattle.rcgen_certificate.proofs.custom_extension.push_custom.Given as goal

abbrev pub invariant-loop-custom : goal.invariant-loop-custom
invariant-loop-custom l =
    (map row_of_extension l.list ≡ map row_of_extension l.initial.list ++ map (λ c. custom_row (custom_of c)) (take l.custom-index l.given))
