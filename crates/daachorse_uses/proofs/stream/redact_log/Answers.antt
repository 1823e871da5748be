-- The automaton is of the secrets, and what it copies is a copy without them.
use Rattle.std.proofs.Common.{codes, inr}
use Rattle.daachorse_streams.specs.Replaced.{AppendsBeginning}
use Rattle.daachorse_uses.specs.Secrets.{dictionary_in, secrets_found}
use Rattle.daachorse_uses.proofs.Copies.{copied}
use Rattle.daachorse_uses.proofs.Secrets.{copies_secrets}
use Rattle.daachorse_uses.proofs.stream.redact_log.Goals as goal

pub returns : goal.returns
returns g c =
    let text = c.args.secrets.now in let call = c.redact_reader-2 in
    let known = g.R.Read.remaining c.args.log in let contents = g.W.Write.contents in
    let copies =
    copies_secrets text c.in_ok-automaton_of.field-0 c.in_ok-automaton_of.ensures.ok known AppendsBeginning contents
    (λ m. codes "[...]") call.result c.args.out.now call.new.out call.ensures.copies in
    record {
      copied =
          copied (dictionary_in text) known (secrets_found text) AppendsBeginning contents (λ m. codes "[...]")
          call.result c.args.out.now call.new.out copies;
      copies = inr copies;
    }
