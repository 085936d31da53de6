-- Parameters of requests that say the same are equal, as derives write it.
use Rattle.std.specs.Prelude.{◌≡◌, true, refl}
use Rattle.rcgen_text.proofs.Equality.{same_is_equal}
use Rattle.rcgen_sign.specs.contracts.public_key.PublicKeyEq.TheImpl.Laws.{laws-law as key_laws}
use Rattle.rcgen_certificate.specs.Params.{SaysSame}
use Rattle.rcgen_certificate.proofs.Equality.{params_equal}
use Rattle.rcgen_read.specs.contracts.request.CertificateSigningRequestParamsPartialEq.TheImpl.{ghosts as requests}
use Rattle.rcgen_read.specs.declared.request.CertificateSigningRequestParams.{CertificateSigningRequestParams}

pub requests_equal : (p q : CertificateSigningRequestParams) → SaysSame p.params q.params → q.public_key ≡ p.public_key → requests.eq q p ≡ true
requests_equal p q s k = rw (params_equal p.params q.params s, same_is_equal key_laws q.public_key p.public_key k) refl
