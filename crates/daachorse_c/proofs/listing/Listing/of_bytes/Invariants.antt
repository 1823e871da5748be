-- What was counted and what is left is the listing.
use Rattle.std.proofs.Common.{◌≡◌, ◌++◌, length}
use Rattle.daachorse_model.specs.Prefixes.{IsListing}
use Rattle.daachorse.specs.bytewise.Automata.{dictionary_of}
use Rattle.daachorse_c.specs.declared.unit.Unit.TheVariants.{Byte}
use Rattle.daachorse_c.specs.Listing.{Arrays, AreWhole, Fits, IsKeptWithin, arrays_of, entries}
use Rattle.daachorse_c.specs.Patterns.{AreTexts, texts_in}
use Rattle.daachorse_c.proofs.listing.Listing.of_bytes.Given as goal

abbrev pub invariant-loop-item : goal.invariant-loop-item
invariant-loop-item l = record {
  listed : Arrays;
  whole : AreWhole listed;
  size : l.listing.size ≡ length listed.bytes;
  count : l.listing.count ≡ length listed.ends;
  kept : Fits l.listing l.room → arrays_of l.listing ≡ listed;
  no_more : IsKeptWithin l.listing l.room;
  texts : AreTexts Byte (entries listed);
  listing : IsListing (dictionary_of l.automaton) (texts_in Byte (entries listed) ++ l.item-iterator);
}
