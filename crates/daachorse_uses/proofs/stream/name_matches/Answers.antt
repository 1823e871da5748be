-- Each call that returns no error writes the text.
use Rattle.std.proofs.Common.{rules}
use Rattle.std.specs.Prelude.{⊤}
use Rattle.daachorse.specs.bytewise.Automata.{dictionary_of}
use Rattle.daachorse_uses.specs.Copies.{CopiesRead, WritesText, in_brackets, matches_of}
use Rattle.daachorse_uses.proofs.Copies.{copied}
use Rattle.daachorse_uses.proofs.Weaker.{replaces_read}
use Rattle.daachorse_uses.proofs.stream.name_matches.Goals as goal

pub returns : goal.returns
returns g c =
    let contents = g.W.Write.contents in let call = c.replace_all_from_reader in let words = c.args.words.now in
    let copies : CopiesRead (dictionary_of words) (g.R.Read.remaining c.args.reader) (matches_of words) (λ old new text. ⊤) contents
    (λ m. in_brackets m.value)
    call.result c.args.out.now call.new.out =
    replaces_read (λ s. s.now) contents _ (WritesText (λ old new text. ⊤) contents (λ m. in_brackets m.value)) (λ f. tt)
    (λ f m part shown r left f' made. search rules)
    (λ byte. ⊤) (λ bytes. bytes) _ _ _ call.result _ c.args.out.now call.new.out call.ensures in
    record {
      copied =
          copied (dictionary_of words) (g.R.Read.remaining c.args.reader) (matches_of words) (λ old new text. ⊤) contents
          (λ m. in_brackets m.value) call.result c.args.out.now call.new.out copies;
      copies = copies;
    }
