-- The words of a list that is made for measures.
use Rattle.std.proofs.Common.{◌≡◌, ◌∙◌, ℕ, List, [], ◌∷◌, Option, Some, None, bytes_eq, ap, refl, inl, inr}
use Rattle.std.proofs.lemmas.Bool.{cases_Bool}
use Rattle.std.proofs.lemmas.Slice.Eq.{bytes_eq-Decides}
use Rattle.std.specs.Option.{option_map}
use Rattle.asn1_core.specs.Binds.{bind_some, some_is}
use Rattle.certify_core.specs.Command.{IsBulk, command_named, command_of, commands, named_in, taking, word}
use Rattle.certify_core.specs.Counts.{count_of}
use Rattle.certify_core.specs.declared.command.Command.{Command}
use Rattle.certify_core.specs.declared.command.Command.TheVariants.{Bulk}
use Rattle.certify_core.proofs.Decimals.{count_is_told, counted}

pub bulk_is_named : (words : List (List ℕ)) (n : ℕ) → IsBulk words n → command_of words ≡ Some (Bulk n)
unfolding command_of command_named taking
bulk_is_named words n b = rw (b.1, counted b.0 n b.2) refl

-- ---- and no other words are its words

-- a command that is found has the name that was looked for
found_by_name : (commands : List Command) (name : List ℕ) (command : Command) → named_in commands name ≡ Some command → name ≡ (word command).name
found_by_name [] name command e = absurd cc
found_by_name (c ∷ commands) name command e =
    elim (cases_Bool (bytes_eq name (word c).name)) [
      | inl same ↦
          let is : c ≡ command = some_is c command (rw same at e) in
          (bytes_eq-Decides name (word c).name).0 same ∙ ap (λ (x : Command). (word x).name) is
      | inr other ↦ found_by_name commands name command (rw other at e)
    ]

-- the command is one that takes a number, and the number's text follows its word
record TakesCount (command : Command) (arguments : List (List ℕ)) (n : ℕ) : Type 0 where
  row : ℕ
  text : List ℕ
  command_is : command ≡ Bulk row
  arguments_are : arguments ≡ text ∷ []
  count : count_of text ≡ Some n

mapped : (o : Option ℕ) (n : ℕ) → option_map Bulk o ≡ Some (Bulk n) → o ≡ Some n
mapped None n e = absurd cc
mapped (Some m) n e = let same : m ≡ n = cc in ap Some same

takes_count : (command : Command) (arguments : List (List ℕ)) (n : ℕ) → taking command arguments ≡ Some (Bulk n) → TakesCount command arguments n
unfolding taking
takes_count (Bulk row) (text ∷ []) n e =
    record { row = row; text = text; command_is = refl; arguments_are = refl; count = mapped (count_of text) n e }
takes_count (Bulk row) [] n e = absurd cc
takes_count (Bulk row) (first ∷ second ∷ rest) n e = absurd cc
takes_count _ [] n e = absurd cc
takes_count _ (first ∷ rest) n e = absurd cc

told_by : (name : List ℕ) (arguments : List (List ℕ)) (command : Command) (n : ℕ) → name ≡ (word command).name → TakesCount command arguments n
    → IsBulk (name ∷ arguments) n
told_by name arguments command n named t = (
  t.text,
  rw (named, t.command_is, t.arguments_are) refl,
  count_is_told t.text n t.count,
)

pub bulk_is_told : (words : List (List ℕ)) (n : ℕ) → command_of words ≡ Some (Bulk n) → IsBulk words n
unfolding command_of command_named
bulk_is_told [] n e = absurd cc
bulk_is_told (name ∷ arguments) n e =
    let found = bind_some (command_named name) (λ (c : Command). taking c arguments) (Bulk n) e in
    told_by name arguments found.0 n (found_by_name commands name found.0 found.1) (takes_count found.0 arguments n found.2)
