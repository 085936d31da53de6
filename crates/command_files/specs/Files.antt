-- Files, where it is known what is stored under their names.
use Rattle.std.specs.Prelude.{◌≡◌, ◌≢◌, ℕ, ◌<◌, Bool, List, [], length, find, Option, Some, None, ⊤}
use Rattle.std.specs.Option.{option_map}
use Rattle.std.specs.Str.{bytes_eq}

-- these bytes are what is stored there, where that is known
abbrev pub IsStored : Option (List ℕ) → List ℕ → Type 0
IsStored None bytes = ⊤
IsStored (Some known) bytes = known ≡ bytes

-- what is stored there has more bytes than so many, where that is known
abbrev pub IsLongerThan : ℕ → Option (List ℕ) → Type 0
IsLongerThan most None = ⊤
IsLongerThan most (Some known) = most < length known

-- the text is stored under the name, and under each other name what was stored there before, where that is known
abbrev pub Replaces : Option (List ℕ → Option (List ℕ)) → Option (List ℕ → Option (List ℕ)) → List ℕ → List ℕ → Type 0
Replaces None new name text = ⊤
Replaces (Some old) None name text = ⊥
Replaces (Some old) (Some new) name text = (new name ≡ Some text) × ((other : List ℕ) → other ≢ name → new other ≡ old other)

-- ---- in memory

-- an input: its name, its bytes, and the calls of reading it that fail
pub record StoredInput : Type 0 where
  pub name : List ℕ
  pub bytes : List ℕ
  pub failing : List ℕ

-- the input of a name, the first of several
abbrev pub input_named : List StoredInput → List ℕ → Option StoredInput
input_named inputs name = find (λ i. bytes_eq i.name name) inputs

abbrev pub stored_in : List StoredInput → List ℕ → Option (List ℕ)
stored_in inputs name = option_map (λ i. i.bytes) (input_named inputs name)

-- there is no input of the name, or some of its reads fail
abbrev pub HasFault : Option StoredInput → Type 0
HasFault None = ⊤
HasFault (Some i) = ¬ (i.failing ≡ [])

-- a file: its name and its bytes
pub record HeldFile : Type 0 where
  pub name : List ℕ
  pub bytes : List ℕ

-- what is stored under a name, in the first file of several
abbrev pub held_in : List HeldFile → List ℕ → Option (List ℕ)
held_in files name = option_map (λ f. f.bytes) (find (λ f. bytes_eq f.name name) files)

-- files, which can be replaced or can't
pub record HeldFiles : Type 0 where
  pub files : List HeldFile
  pub is_writable : Bool
