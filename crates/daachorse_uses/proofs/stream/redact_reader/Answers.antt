-- Each call writes the text, or at an error a beginning of it.
use Rattle.std.proofs.Common.{rules, codes}
use Rattle.std.specs.Prelude.{⊤}
use Rattle.daachorse.specs.bytewise.Automata.{dictionary_of}
use Rattle.daachorse_streams.specs.Replaced.{AppendsBeginning}
use Rattle.daachorse_uses.specs.Copies.{CopiesRead, WritesText, matches_of}
use Rattle.daachorse_uses.proofs.Copies.{copied}
use Rattle.daachorse_uses.proofs.Weaker.{replaces_read}
use Rattle.daachorse_uses.proofs.stream.redact_reader.Goals as goal

pub returns : goal.returns
returns g c =
    let contents = g.W.Write.contents in let call = c.replace_all_from_reader in let words = c.args.words.now in
    let copies : CopiesRead (dictionary_of words) (g.R.Read.remaining c.args.reader) (matches_of words) AppendsBeginning contents
    (λ m. codes "[...]")
    call.result c.args.out.now call.new.out =
    replaces_read (λ s. s.now) contents _ (WritesText AppendsBeginning contents (λ m. codes "[...]")) (λ f. tt)
    (λ f m part shown r left f' made. search rules)
    (λ byte. ⊤) (λ bytes. bytes) _ _ _ call.result _ c.args.out.now call.new.out call.ensures in
    record {
      copied =
          copied (dictionary_of words) (g.R.Read.remaining c.args.reader) (matches_of words) AppendsBeginning contents (λ m. codes "[...]")
          call.result c.args.out.now call.new.out copies;
      copies = copies;
    }
