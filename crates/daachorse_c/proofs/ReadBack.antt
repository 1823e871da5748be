-- What was read of bytes takes what is not left of them, and is what was written.
use Rattle.std.proofs.Common.{◌≡◌, ℕ, ◌+◌, ◌-◌, ◌<◌, ◌≤◌, ◌++◌, List, length, ap, ◌∙◌, arith, length-append}
use Rattle.std.specs.Prelude.{◌^◌}
use Rattle.std.specs.Int.{w32}
use Rattle.daachorse_serializer.specs.Forms.{number_form}
use Rattle.daachorse.specs.bytewise.Automata.{Automaton as Bytewise}
use Rattle.daachorse.specs.bytewise.WrittenForms.{IsAutomaton as IsBytewise, without_depths as bytewise_alone, written_form as bytewise_form}
use Rattle.daachorse.specs.charwise.Automata.{Automaton as Charwise}
use Rattle.daachorse.specs.charwise.WrittenForms.{IsAutomaton as IsCharwise, without_depths as charwise_alone, written_form as charwise_form}
use Rattle.daachorse_c.specs.declared.unit.Unit.{Unit}
use Rattle.daachorse_c.specs.declared.unit.Unit.TheVariants.{Byte, Character}
use Rattle.daachorse_c.specs.Automata.{Automaton, Bytes, Characters, unit_of}
use Rattle.daachorse_c.specs.Written.{GivesAutomaton, IsRead, IsWhole, form_of, without_depths}

-- an automaton over the unit whose form the bytes begin with is this one, and these bytes are left
abbrev pub ReadsBack : Unit → List ℕ → Automaton → List ℕ → Type 0
ReadsBack unit bytes a rest = (written : Automaton) (behind : List ℕ) → unit_of written ≡ unit → IsWhole written → bytes ≡ form_of written ++ behind → (a ≡ without_depths written) × (rest ≡ behind)

module _ {bytes rest : List ℕ} (ends : (front : List ℕ) × (bytes ≡ front ++ rest)) where
  long : length bytes ≡ length ends.0 + length rest
  long = ap length ends.1 ∙ length-append ends.0 rest

  pub left_fits : length rest ≤ length bytes
  left_fits = omega (arith, long)

  pub is_read : (unit : Unit) (a : Automaton) → unit_of a ≡ unit → GivesAutomaton bytes a rest → ReadsBack unit bytes a rest → IsRead unit bytes a (length bytes - length rest)
  is_read unit a over given back = record {
    over = over;
    rest = rest;
    given = given;
    taken = omega (arith, long);
    back = λ written behind whole is begins.
        let same = back written behind whole is begins in
        (same.0, omega (arith, ap length begins, length-append (form_of written) behind, ap length same.1));
  }

pub bytes_back : {bytes rest : List ℕ} (a : Bytewise ℕ) → ((w : Bytewise ℕ) (behind : List ℕ) → IsBytewise (λ v. v < 2 ^ 32) w → bytes ≡ bytewise_form (number_form w32) w ++ behind → (a ≡ bytewise_alone w) × (rest ≡ behind)) → ReadsBack Byte bytes (Bytes a) rest
bytes_back a back (Bytes w) behind over whole begins = let same = back w behind whole begins in (ap Bytes same.0, same.1)
bytes_back a back (Characters w) behind over whole begins = let no : Character ≡ Byte = over in cc

pub characters_back : {bytes rest : List ℕ} (a : Charwise ℕ) → ((w : Charwise ℕ) (behind : List ℕ) → IsCharwise (λ v. v < 2 ^ 32) w → bytes ≡ charwise_form (number_form w32) w ++ behind → (a ≡ charwise_alone w) × (rest ≡ behind)) → ReadsBack Character bytes (Characters a) rest
characters_back a back (Bytes w) behind over whole begins = let no : Byte ≡ Character = over in cc
characters_back a back (Characters w) behind over whole begins = let same = back w behind whole begins in (ap Characters same.0, same.1)
