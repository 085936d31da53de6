-- The types over which path validation's steps are defined, by a function over each.
use Rattle.path_validation.specs.Certificates.{is_self_issued}
use Rattle.path_validation.specs.Names.{names_of}
use Rattle.path_validation.specs.States.{first_state}

abbrev pub OfArgument : {A B : Type 0} → (A → B) → Type 0
OfArgument {A} {B} f = A

abbrev pub OfResult : {A B C : Type 0} → (A → B → C) → Type 0
OfResult {A} {B} {C} f = C

-- the state variables (RFC 5280, 6.1.2)
abbrev pub PathState : Type 0
PathState = OfResult first_state

-- a certificate, as the steps read it
abbrev pub ReadCertificate : Type 0
ReadCertificate = OfArgument names_of

-- what it says without its extensions
abbrev pub ReadIdentity : Type 0
ReadIdentity = OfArgument is_self_issued
