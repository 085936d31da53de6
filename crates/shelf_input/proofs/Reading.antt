-- What the blocks of a text are read as.
use Rattle.std.proofs.Common.{◌≡◌, ◌∙◌, ℕ, suc, ◌<◌, List, ◌∷◌, ◌++◌, Result, Ok, Err, IsErrAnd, Vec, Global, drop, drop-cons, get_or, length, map, sym, ap, refl}
use Rattle.pem.specs.Encoding.{Encoding}
use Rattle.pem.specs.Outcome.{Explains}
use Rattle.pem.specs.declared.error.PemError.{PemError}
use Rattle.pem.specs.declared.error.PemError.TheVariants.{OutOfMemory, Refused}
use Rattle.pem.specs.declared.error.Refusal.{Refusal}
use Rattle.shelf_fault.specs.Faults.{Gets, MayFail, and_then, fault_of_text}
use Rattle.shelf_fault.specs.declared.fault.Fault.{Fault}
use Rattle.toml_format.specs.declared.reason.Reason.{Reason}
use Rattle.shelf_input.specs.Blocks.{with_all, with_next}
use Rattle.shelf_input.specs.Files.{file_blocks, files_blocks, in_text}
use Rattle.shelf_input.specs.Orders.{in_document}
use Rattle.shelf_input.specs.declared.blocks.Blocks.{Blocks}

-- a text that isn't read has this fault
pub explained : (found : Result (List Encoding) Refusal) (e : PemError) → Explains found e → MayFail (in_text found) (fault_of_text e)
explained found OutOfMemory h never = absurd (never refl)
explained found (Refused refusal) h _ = ap in_text h

-- a block that isn't taken ends the reading
pub stops : (number next : ℕ) (b : Blocks) (e : Encoding) (left rest : List Encoding) (whole : Result Blocks Fault) (fault : Fault)
    → with_all number b left ≡ whole → left ≡ e ∷ rest → suc number ≡ next → with_next next b e ≡ Err fault → whole ≡ Err fault
stops number next b e left rest whole fault inv is count h =
    sym inv ∙ ap (with_all number b) is
    ∙ ap (λ (r : Result Blocks Fault). and_then r (λ x. with_all (suc number) x rest)) (ap (λ (n : ℕ). with_next n b e) count ∙ h)

-- what holds of a fault holds after it was passed on
pub passed_on : {A X : Type 0} (view : X → A) (found : Result A Fault) (r : Result X Fault) (fault : Fault) → IsErrAnd r (λ f. f ≡ fault)
    → MayFail found fault → Gets view found r
passed_on view found (Ok x) fault p h = absurd p
passed_on view found (Err f) fault p h = λ n. h (λ same. n (p ∙ same)) ∙ ap (λ (x : Fault). Err x) (sym p)

-- a file that isn't taken ends the reading
pub file_stops : (count next : ℕ) (found : List Encoding) (file : List ℕ) (left rest : List (List ℕ)) (whole : Result (List Encoding) Fault) (fault : Fault)
    → files_blocks count found left ≡ whole → left ≡ file ∷ rest → suc count ≡ next → file_blocks next file ≡ Err fault → whole ≡ Err fault
file_stops count next found file left rest whole fault inv is number h =
    sym inv ∙ ap (files_blocks count found) is
    ∙ ap (λ (r : Result (List Encoding) Fault). and_then r (λ es. files_blocks (suc count) (found ++ es) rest))
    (ap (λ (n : ℕ). file_blocks n file) number ∙ h)

abbrev pub octets_of : List (Vec ℕ Global) → List (List ℕ)
octets_of files = map (λ file. file.items) files

-- the file at a place, and those after it
pub at_place : (files : List (Vec ℕ Global)) (place : ℕ) (file : Vec ℕ Global) (octets : List ℕ) → place < length files → file ≡ get_or files place file
    → octets ≡ file.items → octets_of (drop place files) ≡ octets ∷ octets_of (drop (suc place) files)
at_place files place file octets l is same =
    ap octets_of (drop-cons files place file l)
    ∙ ap (λ (v : Vec ℕ Global). v.items ∷ octets_of (drop (suc place) files)) (sym is)
    ∙ ap (λ (o : List ℕ). o ∷ octets_of (drop (suc place) files)) (sym same)
