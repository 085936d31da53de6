-- Where a serial number is in the list of certificates.
use Rattle.std.specs.Prelude.{ℕ, suc, cond, List, [], ◌∷◌, Option, Some, None}
use Rattle.std.specs.Option.{option_map}
use Rattle.register_record.specs.Records.{has_serial}
use Rattle.register_record.specs.declared.state.Certificate.{Certificate}

abbrev pub place_of : List ℕ → List Certificate → Option ℕ
place_of serial [] = None
place_of serial (c ∷ cs) = cond (has_serial serial c) (Some 0) (option_map suc (place_of serial cs))
