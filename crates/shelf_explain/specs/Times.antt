-- Times, as RFC 3339 writes them.
use Rattle.std.specs.Prelude.{ℕ, List, [], ◌++◌, codes, drop, take, Option, Some, None}
use Rattle.asn1_core.specs.GeneralizedTime.{generalized_time_contents}
use Rattle.asn1_core.specs.declared.time.generalized_time.GeneralizedTime.{GeneralizedTime}

-- the contents octets of a GeneralizedTime (X.690, 11.7), with a dash, a T or a colon between the parts (RFC 3339, 5.6)
unfoldable pub rfc_3339 : List ℕ → List ℕ
rfc_3339 t =
    take 4 t ++ codes "-" ++ take 2 (drop 4 t) ++ codes "-" ++ take 2 (drop 6 t) ++ codes "T" ++ take 2 (drop 8 t) ++ codes ":" ++ take 2 (drop 10 t)
    ++ codes ":" ++ drop 12 t

unfoldable pub contents_text : Option (List ℕ) → List ℕ
contents_text (Some contents) = rfc_3339 contents
contents_text None = []

-- a time that was read has contents octets
unfoldable pub moment_text : GeneralizedTime → List ℕ
moment_text time = contents_text (generalized_time_contents.to time)
