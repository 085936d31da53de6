-- Where a text may be cut.
use Rattle.std.proofs.lemmas.Str.{IsCharBoundary-before_ascii, IsCharBoundary-after_ascii, lead_after_ascii}

pub ruleset boundaries = (IsCharBoundary-before_ascii, IsCharBoundary-after_ascii, lead_after_ascii)
