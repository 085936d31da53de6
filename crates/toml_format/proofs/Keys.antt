-- A table that is read key by key.
use Rattle.std.proofs.Common.{◌≡◌, ap, ◌∙◌}
use Rattle.toml.specs.Data.{Members}
use Rattle.toml_format.specs.TableReading.{Reading, then_read}

-- one more key after those that were read
pub one_more : {A B : Type 0} (new : Reading (A × B)) (old known : Reading A) (read : Members → Reading B)
    → old ≡ known → new ≡ then_read old read → new ≡ then_read known read
one_more {A} new old known read so_far step = step ∙ ap (λ (r : Reading A). then_read r read) so_far
