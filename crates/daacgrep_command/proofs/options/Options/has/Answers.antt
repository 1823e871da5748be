-- Two flags are equal where their places are.
use Rattle.std.proofs.Common.{◌≡◌, ◌==◌, List, refl, ap, ◌∙◌}
use denote.Enum.Bare.{sameb}
use denote.Enum.Declared.{tag_of}
use Rattle.std.specs.List.{list_any}
use Rattle.daacgrep_command.specs.contracts.flag.Flag.{the_type}
use Rattle.daacgrep_command.specs.declared.flag.Flag.{Flag}
use Rattle.daacgrep_command.specs.declared.flag.Flag.TheVariants.{WithName, NoName, OnlyMatches, Places, Numbers, Count, FileNames, Quiet, IgnoreCase, Invert, NullData, Longest, First, Overlapping, Values, Help, Version}
use Rattle.daacgrep_command.specs.Flags.{asks, flag_place}
use Rattle.daacgrep_command.proofs.options.Options.has.Goals as goal

place_is : (f : Flag) → tag_of the_type f ≡ flag_place f
place_is WithName = refl
place_is NoName = refl
place_is OnlyMatches = refl
place_is Places = refl
place_is Numbers = refl
place_is Count = refl
place_is FileNames = refl
place_is Quiet = refl
place_is IgnoreCase = refl
place_is Invert = refl
place_is NullData = refl
place_is Longest = refl
place_is First = refl
place_is Overlapping = refl
place_is Values = refl
place_is Help = refl
place_is Version = refl

same_is : (f flag : Flag) → sameb the_type f flag ≡ (flag_place f == flag_place flag)
same_is f flag = ap (λ n. n == tag_of the_type flag) (place_is f) ∙ ap (λ n. flag_place f == n) (place_is flag)

asked_is : (flag : Flag) (fs : List Flag) → list_any (λ f. sameb the_type f flag) fs ≡ asks flag fs
asked_is flag fs = λ i. list_any (λ f. same_is f flag i) fs

pub returns : goal.returns
returns g c =
    let e : c.deref.result.now ≡ c.args.self.now.flags = c.deref.ensures.value ∙ ap (λ o. o.flags) c.self.view_is in
    c.contains.ensures.value ∙ asked_is c.args.flag c.deref.result.now ∙ ap (asks c.args.flag) e
