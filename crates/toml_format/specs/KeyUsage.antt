-- The words of the key usages (RFC 5280, 4.2.1.3).
use Rattle.std.specs.Prelude.{ℕ, List, [], ◌∷◌, codes, Option}
use Rattle.toml_format.specs.Words.{word_of}
use Rattle.rcgen_text.specs.declared.key_usage.KeyUsagePurpose.{KeyUsagePurpose}
use Rattle.rcgen_text.specs.declared.key_usage.KeyUsagePurpose.TheVariants.{DigitalSignature, ContentCommitment, KeyEncipherment, DataEncipherment}
use Rattle.rcgen_text.specs.declared.key_usage.KeyUsagePurpose.TheVariants.{KeyAgreement, KeyCertSign, CrlSign, EncipherOnly, DecipherOnly}

unfoldable pub key_usage : List ℕ → Option KeyUsagePurpose
key_usage = word_of (
    (codes "digitalSignature", DigitalSignature)
    ∷ (codes "contentCommitment", ContentCommitment)
    ∷ (codes "keyEncipherment", KeyEncipherment)
    ∷ (codes "dataEncipherment", DataEncipherment)
    ∷ (codes "keyAgreement", KeyAgreement)
    ∷ (codes "keyCertSign", KeyCertSign)
    ∷ (codes "cRLSign", CrlSign)
    ∷ (codes "encipherOnly", EncipherOnly)
    ∷ (codes "decipherOnly", DecipherOnly)
    ∷ []
    )
