-- Bytes in hexadecimal digits, of either case.
use Rattle.std.specs.Prelude.{ℕ, List, Option}
use Rattle.std.specs.Result.{result_ok}
use Rattle.hex.specs.Hex.{decode_of}

-- the bytes that pairs of hexadecimal digits write
unfoldable pub from_hex : List ℕ → Option (List ℕ)
from_hex text = result_ok (decode_of text)
