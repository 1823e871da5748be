-- The bytes are a whole character, or what is partial, or wrong, as the text that they are or their fault says.
use Rattle.std.proofs.Common.{◌≡◌, None, Some, drop, sym, ap, ◌∙◌, subst}
use Rattle.std.specs.Str.{IsErrorLen, IsUtf8, IsValidUpTo, error_len, valid_up_to}
use Rattle.std.specs.Str.Lossy.{utf8_error_len}
use Rattle.daachorse_c.proofs.Pushing.{still_open, whole, wrong}
use Rattle.daachorse_c.proofs.stream_unit.CharStreamUnit.push.Goals as goal

pub returns-in-Some : goal.returns-in-Some
returns-in-Some c =
    let is = c.as_slice.ensures ∙ c.with-partial.ensures in let text = c.in-Ok.ensures.cases in
    let spelt = sym is ∙ sym text.0 ∙ sym c.chars.ensures.rest ∙ c.in-Some.ensures.steps.0 in
    whole c.args.partial.now c.args.byte c.requires c.in-Some.character _ (subst IsUtf8 is text.1) spelt

pub returns-in-Some-error_len : goal.returns-in-Some-error_len
returns-in-Some-error_len c =
    let is = c.as_slice.ensures ∙ c.with-partial.ensures in let e = c.in-Err.ensures in let n = valid_up_to c.in-Err.error in (
      λ text. e.cases.0 (subst IsUtf8 (sym is) text),
      wrong c.args.partial.now c.args.byte c.requires n (error_len c.in-Err.error) (subst (λ l. IsValidUpTo l n) is e.cases.1) (e.fault ∙ ap (λ l. utf8_error_len (drop n l)) is)
          (λ none. let no : Some c.in-Some-error_len.field-0 ≡ None = sym c.in-Some-error_len.is ∙ c.error_len.ensures ∙ none in cc),
    )

pub returns-in-None-error_len : goal.returns-in-None-error_len
returns-in-None-error_len c =
    let is = c.as_slice.ensures ∙ c.with-partial.ensures in let e = c.in-Err.ensures in let n = valid_up_to c.in-Err.error in (
      c.with-partial.ensures,
      still_open c.args.partial.now c.args.byte c.requires n (error_len c.in-Err.error) (subst (λ l. IsValidUpTo l n) is e.cases.1) (subst (λ l. IsErrorLen l n (error_len c.in-Err.error)) is e.error_len) (e.fault ∙ ap (λ l. utf8_error_len (drop n l)) is)
          (sym c.error_len.ensures ∙ c.in-None-error_len.is),
    )
