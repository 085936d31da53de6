-- What a certificate says by default, by what it is to be used for.
use Rattle.std.specs.Prelude.{ℕ, Bool, List, [], ◌∷◌, codes, Option, Some, None, is_some}
use Rattle.toml_format.specs.Words.{word_of}
use Rattle.toml_format.specs.declared.purpose.Purpose.{Purpose}
use Rattle.toml_format.specs.declared.purpose.Purpose.TheVariants.{ServerAuth, ClientAuth}
use Rattle.rcgen_text.specs.declared.basic_constraints.BasicConstraints.TheVariants.{Constrained, Unconstrained}
use Rattle.rcgen_text.specs.declared.basic_constraints.IsCa.{IsCa}
use Rattle.rcgen_text.specs.declared.basic_constraints.IsCa.TheVariants.{Ca, ExplicitNoCa, NoCa}
use Rattle.rcgen_text.specs.declared.key_usage.KeyUsagePurpose.{KeyUsagePurpose}
use Rattle.rcgen_text.specs.declared.key_usage.KeyUsagePurpose.TheVariants.{CrlSign, DigitalSignature, KeyCertSign}
use Rattle.shelf_profile.specs.declared.preset.Preset.{Preset}
use Rattle.shelf_profile.specs.declared.preset.Preset.TheVariants.{Authority, Client, Root, Server}

unfoldable pub preset : List ℕ → Option Preset
preset = word_of ((codes "root", Root) ∷ (codes "authority", Authority) ∷ (codes "server", Server) ∷ (codes "client", Client) ∷ [])

-- whether the subject is an authority, and how long paths below it may be (RFC 5280, 4.2.1.9)
abbrev pub preset_ca : Option Preset → IsCa
preset_ca (Some Root) = Ca Unconstrained
preset_ca (Some Authority) = Ca (Constrained 0)
preset_ca (Some Server) = ExplicitNoCa
preset_ca (Some Client) = ExplicitNoCa
preset_ca None = NoCa

-- what the subject's key is for (RFC 5280, 4.2.1.3)
abbrev pub preset_key_usages : Option Preset → List KeyUsagePurpose
preset_key_usages (Some Root) = KeyCertSign ∷ CrlSign ∷ []
preset_key_usages (Some Authority) = KeyCertSign ∷ CrlSign ∷ []
preset_key_usages (Some Server) = DigitalSignature ∷ []
preset_key_usages (Some Client) = DigitalSignature ∷ []
preset_key_usages None = []

-- the purposes of the subject's key (RFC 5280, 4.2.1.12)
abbrev pub preset_purposes : Option Preset → List Purpose
preset_purposes (Some Root) = []
preset_purposes (Some Authority) = []
preset_purposes (Some Server) = ServerAuth ∷ []
preset_purposes (Some Client) = ClientAuth ∷ []
preset_purposes None = []

-- the certificate contains the identifier of the issuer's key (RFC 5280, 4.2.1.1)
abbrev pub has_authority_key_id : Option Preset → Bool
has_authority_key_id preset = is_some preset
