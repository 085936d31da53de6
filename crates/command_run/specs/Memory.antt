-- What a source and a sink in memory represent.
use Rattle.std.specs.Prelude.{ℕ, ◌+◌, ◌-◌, ◌^◌, Bool, false, ◌==◌, nat_lt, if◌then◌else◌, List, Option, Some, None}
use Rattle.std.specs.List.{list_any}

-- the call with this number fails; after the last number there is none
abbrev pub fails_at : List ℕ → Option ℕ → Bool
fails_at failing (Some call) = list_any (λ number. number == call) failing
fails_at failing None = false

-- the number of the call after this one, which is at most 2^64 - 1
abbrev pub call_after : Option ℕ → Option ℕ
call_after (Some call) = if nat_lt call (2 ^ 64 - 1) then Some (call + 1) else None
call_after None = None

pub record SourceState : Type 0 where
  -- the bytes that reads will give
  pub left : List ℕ
  -- the numbers of the calls that fail
  pub failing : List ℕ
  -- the number of the next call
  pub call : Option ℕ
  -- how many calls have failed
  pub faults : ℕ

pub record SinkState : Type 0 where
  -- the bytes that were written
  pub written : List ℕ
  -- how many bytes there is room for, those that were written among them
  pub room : ℕ
  -- the numbers of the calls that fail
  pub failing : List ℕ
  -- the number of the next call
  pub call : Option ℕ
  -- how many calls have failed
  pub faults : ℕ
