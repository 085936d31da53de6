-- The words after a subcommand: options, and names of files.
use Rattle.std.specs.Prelude.{ℕ, ◌==◌, Bool, true, false, if◌then◌else◌, List, [], ◌∷◌, ◌++◌, codes, Option, Some, None}
use Rattle.std.specs.Option.{option_and_then}
use Rattle.toml_format.specs.Words.{word_of as in_table}
use Rattle.shelf_command.specs.Lines.{LineView}
use Rattle.shelf_command.specs.declared.command_line.Opt.{Opt}
use Rattle.shelf_command.specs.declared.command_line.Opt.TheVariants.{Der, End, Help, Json, Order, Out, Revoked, Signature, Strict}

abbrev pub no_line : LineView
no_line = record {
  names = [];
  signature = None;
  revoked = None;
  order = None;
  out = None;
  is_der = false;
  is_strict = false;
  is_json = false;
  is_help = false;
  is_ended = false;
  awaited = None;
}

unfoldable pub option_named : List ℕ → Option Opt
option_named = in_table (
    (codes "--signature", Signature) ∷ (codes "--revoked", Revoked) ∷ (codes "--order", Order) ∷ (codes "--out", Out) ∷ (codes "--der", Der) ∷ (codes "--strict", Strict) ∷ (codes "--json", Json)
    ∷ (codes "--help", Help) ∷ (codes "--", End) ∷ [])

-- a hyphen-minus and more; `-` alone is the name of standard input
abbrev pub is_option : List ℕ → Bool
is_option [] = false
is_option (b ∷ []) = false
is_option (b ∷ c ∷ more) = b == 45

abbrev pub with_name : LineView → List ℕ → LineView
with_name l w = record (l) { names = l.names ++ w ∷ [] }

-- an option's value, where it has none yet
abbrev pub with_signature : Option (List ℕ) → LineView → List ℕ → Option LineView
with_signature None l w = Some (record (l) { signature = Some w; awaited = None })
with_signature (Some before) l w = None

abbrev pub with_revoked : Option (List ℕ) → LineView → List ℕ → Option LineView
with_revoked None l w = Some (record (l) { revoked = Some w; awaited = None })
with_revoked (Some before) l w = None

abbrev pub with_order : Option (List ℕ) → LineView → List ℕ → Option LineView
with_order None l w = Some (record (l) { order = Some w; awaited = None })
with_order (Some before) l w = None

abbrev pub with_out : Option (List ℕ) → LineView → List ℕ → Option LineView
with_out None l w = Some (record (l) { out = Some w; awaited = None })
with_out (Some before) l w = None

abbrev pub with_value : Opt → LineView → List ℕ → Option LineView
with_value Signature l w = with_signature l.signature l w
with_value Revoked l w = with_revoked l.revoked l w
with_value Order l w = with_order l.order l w
with_value Out l w = with_out l.out l w
with_value Der l w = None
with_value Strict l w = None
with_value Json l w = None
with_value Help l w = None
with_value End l w = None

abbrev pub with_option : Opt → LineView → LineView
with_option Signature l = record (l) { awaited = Some Signature }
with_option Revoked l = record (l) { awaited = Some Revoked }
with_option Order l = record (l) { awaited = Some Order }
with_option Out l = record (l) { awaited = Some Out }
with_option Der l = record (l) { is_der = true }
with_option Strict l = record (l) { is_strict = true }
with_option Json l = record (l) { is_json = true }
with_option Help l = record (l) { is_help = true }
with_option End l = record (l) { is_ended = true }

-- a word that is the option that is known, or another word
abbrev pub by_option : Option Opt → LineView → List ℕ → Option LineView
by_option (Some o) l w = Some (with_option o l)
by_option None l w = if is_option w then None else Some (with_name l w)

-- one more word: the value that an option waits for, an option, or the name of a file; after `--` a name whatever it is
abbrev pub by_awaited : Option Opt → LineView → List ℕ → Option LineView
by_awaited (Some o) l w = with_value o l w
by_awaited None l w = if l.is_ended then Some (with_name l w) else by_option (option_named w) l w

abbrev pub step : LineView → List ℕ → Option LineView
step l w = by_awaited l.awaited l w

-- all words
abbrev pub line_of : LineView → List (List ℕ) → Option LineView
line_of l [] = Some l
line_of l (w ∷ ws) = option_and_then (λ next. line_of next ws) (step l w)
