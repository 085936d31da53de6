-- A text that is written in pieces.
use Rattle.std.proofs.Common.{ℕ, ◌+◌, List, take, drop, Option, sym, subst, take-add}
use Rattle.std.proofs.KnownBytes.{Appends-trans}
use Rattle.std.specs.Io.KnownBytes.{Appends}
use Rattle.command_run.specs.Io.{AppendsFront}

pub Appends-next : (a b c : Option (List ℕ)) (m n : ℕ) (text : List ℕ) → Appends a b (take m text) → Appends b c (take n (drop m text)) → Appends a c (take (m + n) text)
Appends-next a b c m n text p q = subst (Appends a c) (sym (take-add m n text)) (Appends-trans a b c _ _ p q)

pub AppendsFront-next : (a b c : Option (List ℕ)) (m : ℕ) (text : List ℕ) → Appends a b (take m text) → AppendsFront b c (drop m text) → AppendsFront a c text
AppendsFront-next a b c m text p q = (m + q.0, Appends-next a b c m q.0 text p q.1)
