-- What was read of the words after a subcommand.
use Rattle.std.specs.Prelude.{ℕ, Bool, List, Option}
use Rattle.shelf_command.specs.declared.command_line.Opt.{Opt}

pub record LineView : Type 0 where
  -- the names of files, in order
  pub names : List (List ℕ)
  pub signature : Option (List ℕ)
  pub revoked : Option (List ℕ)
  pub order : Option (List ℕ)
  pub out : Option (List ℕ)
  pub is_der : Bool
  pub is_strict : Bool
  pub is_json : Bool
  pub is_help : Bool
  -- whether `--` came
  pub is_ended : Bool
  -- the option whose value is the next word
  pub awaited : Option Opt
