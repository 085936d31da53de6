-- Why an order isn't carried out.
use Rattle.std.specs.Prelude.{◌≡◌, ◌≢◌, ℕ, Bool, not, cond, is_none, List, Option, Some, None, Result, Ok, Err}
use Rattle.asn1_core.specs.OidFaults.{wide_arcs_fault}
use Rattle.asn1_core.specs.declared.object_identifier.OidFault.{OidFault}
use Rattle.asn1_core.specs.declared.object_identifier.OidFault.TheVariants.{OutOfMemory as NoMemory}
use Rattle.pem.specs.declared.error.PemError.{PemError}
use Rattle.pem.specs.declared.error.PemError.TheVariants as text
use Rattle.rcgen_text.specs.Causes as why
use Rattle.rcgen_text.specs.Causes.{Cause, Origin, origin_of}
use Rattle.rcgen_text.specs.declared.error.Error.{Error}
use Rattle.shelf_fault.specs.declared.fault.Fault.{Fault}
use Rattle.shelf_fault.specs.declared.fault.Fault.TheVariants.{OutOfMemory, Blocks, Obstacle as OfObstacle}
use Rattle.shelf_fault.specs.declared.fault.Obstacle.{Obstacle}
use Rattle.shelf_fault.specs.declared.fault.Obstacle.TheVariants as obstacle

-- ---- faults of what lies below

-- the obstacle that a cause is, without its text
abbrev pub obstacle_of : Cause → Obstacle
obstacle_of why.not_certificate = obstacle.NotRead
obstacle_of why.not_request = obstacle.RequestNotRead
obstacle_of why.request_signature = obstacle.Other
obstacle_of why.name_type = obstacle.NameType
obstacle_of (why.printable_text _) = obstacle.Text
obstacle_of (why.universal_text _) = obstacle.Text
obstacle_of (why.ia5_text _) = obstacle.Text
obstacle_of (why.teletex_text _) = obstacle.Text
obstacle_of (why.bmp_text _) = obstacle.Text
obstacle_of (why.address_length _) = obstacle.AddressLength
obstacle_of why.unsupported_extension = obstacle.Extension
obstacle_of why.unsupported_algorithm = obstacle.Algorithm
obstacle_of why.time = obstacle.Time
obstacle_of why.unsupported_in_csr = obstacle.NoPlace
obstacle_of why.next_update = obstacle.NextUpdate
obstacle_of why.not_crl_signer = obstacle.NotCrlSigner
obstacle_of why.empty_uris = obstacle.EmptyPoint
obstacle_of (why.x509 _) = obstacle.Other
obstacle_of why.identifier = obstacle.Identifier
obstacle_of why.attribute_values = obstacle.AttributeValues

abbrev pub fault_by_cause : Cause → Fault
fault_by_cause c = OfObstacle (obstacle_of c)

abbrev pub fault_by : Origin → Fault
fault_by why.memory = OutOfMemory
fault_by why.key = OfObstacle obstacle.Other
fault_by (why.cause c) = fault_by_cause c

abbrev pub fault_of : Error → Fault
fault_of e = fault_by (origin_of e)

-- that of a text that is read
abbrev pub fault_of_text : PemError → Fault
fault_of_text text.OutOfMemory = OutOfMemory
fault_of_text (text.Refused refusal) = Blocks refusal

-- that of arcs that aren't an object identifier
abbrev pub fault_of_arcs : OidFault → Fault
fault_of_arcs NoMemory = OutOfMemory
fault_of_arcs _ = OfObstacle obstacle.Identifier

-- ---- what an order comes to: a value, or its first fault

-- a step, and what goes on after it
abbrev pub and_then : {A B : Type 0} → Result A Fault → (A → Result B Fault) → Result B Fault
and_then (Ok x) f = f x
and_then (Err e) f = Err e

-- the value, unless the fault is there
abbrev pub unless : {A : Type 0} → Bool → Fault → A → Result A Fault
unless is_there fault x = cond is_there (Err fault) (Ok x)

-- the value, where there is one
abbrev pub some_or : {A : Type 0} → Option A → Fault → Result A Fault
some_or (Some x) fault = Ok x
some_or None fault = Err fault

-- the value, where there is no cause against it
abbrev pub unless_cause : {A : Type 0} → Option Cause → A → Result A Fault
unless_cause None x = Ok x
unless_cause (Some c) x = Err (fault_by_cause c)

-- there is no cause
abbrev pub no_cause : Option Cause → Result (Unit {0}) Fault
no_cause c = unless_cause c tt

-- what was read, unless there is a cause against it
abbrev pub by_cause : {A : Type 0} → Result A Cause → Result A Fault
by_cause (Ok x) = Ok x
by_cause (Err c) = Err (fault_by_cause c)

-- the object identifier of these arcs (X.660, 7.6)
abbrev pub identifier : List ℕ → Result (List ℕ) Fault
identifier arcs = unless (not (is_none (wide_arcs_fault arcs))) (OfObstacle obstacle.Identifier) arcs

-- ---- what a call answers

-- Memory may run out at any time; each other fault is the one that there is.
abbrev pub MayFail : {A : Type 0} → Result A Fault → Fault → Type 0
MayFail found fault = fault ≢ OutOfMemory → found ≡ Err fault

-- the value that there is, seen so
abbrev pub Gets : {A X : Type 0} → (X → A) → Result A Fault → Result X Fault → Type 0
Gets view found (Ok x) = found ≡ Ok (view x)
Gets view found (Err fault) = MayFail found fault

-- there is no fault, whatever is made
abbrev pub Passes : {X : Type 0} → Result (Unit {0}) Fault → Result X Fault → Type 0
Passes found (Ok x) = found ≡ Ok tt
Passes found (Err fault) = MayFail found fault
