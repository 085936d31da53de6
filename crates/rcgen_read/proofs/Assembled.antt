-- A request that was read whole.
use Rattle.std.specs.Prelude.{◌≡◌, ℕ, List, Ok, ok_or, refl}
use Rattle.pkix_cert.specs.declared.extension.Extension.{Extension}
use Rattle.pkix_name.specs.declared.name.Name.{Name}
use Rattle.rcgen_text.specs.Causes.{not_request, unsupported_algorithm}
use Rattle.rcgen_text.specs.Names.{Entry}
use Rattle.rcgen_sign.specs.declared.sign_algo.SignatureAlgorithm.{SignatureAlgorithm}
use Rattle.rcgen_read.specs.ExtensionReading.{Asked, read_extensions}
use Rattle.rcgen_read.specs.NameReading.{read_name}
use Rattle.rcgen_read.specs.ReceivedRequests.{ReceivedRequest, received_at}
use Rattle.rcgen_read.specs.RequestReading.{Accepts, algorithm_of, asked_of, read_request, read_request_of, verified}

pub all_read : (accepts : Accepts) (der : List ℕ) (r : ReceivedRequest) (u : Unit {0}) (algorithm : SignatureAlgorithm) (name : List Entry) (asked : Asked)
    → ok_or (received_at der) not_request ≡ Ok r → verified accepts r ≡ Ok u → ok_or (algorithm_of r.request) unsupported_algorithm ≡ Ok algorithm
    → read_name r.request.info.subject ≡ Ok name → read_extensions r.extensions ≡ Ok asked
    → read_request accepts der ≡ Ok (read_request_of r algorithm name asked)
all_read accepts der r u algorithm name asked e f g h k = rw (e, f, g, h, k) refl

-- a subject and extensions, one after the other
pub both_read : (subject : Name) (extensions : List Extension) (name : List Entry) (asked : Asked) → read_name subject ≡ Ok name
    → read_extensions extensions ≡ Ok asked → asked_of subject extensions ≡ Ok (record { name = name; asked = asked })
unfolding asked_of
both_read subject extensions name asked e f = rw (e, f) refl
