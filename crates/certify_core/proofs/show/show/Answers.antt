use Rattle.std.proofs.Common.{refl, sym}
use Rattle.certify_core.proofs.show.show.Goals as goal

pub returns-clause-why : goal.returns-clause-why
returns-clause-why c = record {
  bytes = c.in-Some.bytes;
  hex = sym (rw c.in-Some.is at c.in_ok-bytes.ensures);
  none = rw (c.in-None.is, c.as_slice.ensures) at c.in_ok-found.ensures;
}

pub returns-in-Some-found-clause-text : goal.returns-in-Some-found-clause-text
returns-in-Some-found-clause-text c =
    let listed = rw (c.in-Some-found.is, c.as_slice.ensures) at c.in_ok-found.ensures in
    record {
      params = listed.0;
      says = record { bytes = c.in-Some.bytes; hex = sym (rw c.in-Some.is at c.in_ok-bytes.ensures); form = listed.1 };
      written = listed.2;
      no_cause = refl;
    }
