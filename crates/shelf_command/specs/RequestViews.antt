-- What a run is asked to do, and with which files.
use Rattle.std.specs.Prelude.{ℕ, Bool, List, Option}
use Rattle.command_files.specs.Run.{Named}
use Rattle.shelf_command.specs.declared.request.Action.{Action}

pub record RequestView : Type 0 where
  pub action : Action
  -- the order or question, the signature, the file of `--revoked` and the files, each where it is taken
  pub inputs : List Named
  -- the file that takes what is made
  pub out : Option (List ℕ)
  -- as DER, not as PEM
  pub is_der : Bool
  -- a warning is a fault
  pub is_strict : Bool
  -- a file of `--revoked` is among the inputs
  pub has_revoked : Bool
