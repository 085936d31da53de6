use Rattle.shelf_job.proofs.Sealing.{message_is_one, sealed_over}
use Rattle.shelf_job.specs.Jobs.{key_of}
use Rattle.outcomes.proofs.Octets.{octets_assembled}
use Rattle.outcomes.proofs.Sealed.{assembled_there}
use Rattle.outcomes.proofs.laws.each_signature_has_one_result.Goals as goal

pub returns : goal.returns
returns c = λ j message signature h l.
    let m = c.messages_are_elements.ensures in
    let a = c.assembled_is_issued.ensures in
    let one = message_is_one c.assembled_as.ensures.element c.assembled_list.ensures.element m.request m.attribute j message h in
    let made = assembled_there message (key_of j).algorithm signature one l in
    let sealed = sealed_over c.assembled_as.ensures.certificate c.assembled_list.ensures.list a.request a.attribute j message signature made.0 h made.1 in
    record {
      der = made.0;
      sealed = sealed;
      no_other = λ another other k. c.der_once.ensures j signature another message other made.0 k sealed;
      octets = λ p q. octets_assembled message (key_of j).algorithm signature made.0 one p q made.1;
      taken = λ r t. record { ready = r; is_message = h; taken = t; sealed = sealed };
    }
