use Rattle.rcgen_text.proofs.Addresses.{v6_text}
use Rattle.rcgen_text.proofs.ip.IpAddr.parse.Goals as goal

pub returns-in-Ok-V6 : goal.returns-in-Ok-V6
returns-in-Ok-V6 c =
    rw c.v6_address.ensures.value
    (v6_text _ _ _ c.octets-in-Ok-V6.ensures c.v6_address.ensures.octets (rw c.in-Ok-V6.field-0-is at c.in-Ok-V6.ensures.value))
