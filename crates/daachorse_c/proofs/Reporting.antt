-- What a stream reports: what is found goes on as the text does, and what is reported is written after what was written before.
use Rattle.std.proofs.Common.{◌≡◌, ℕ, ◌+◌, ◌-◌, ◌<◌, ◌≤◌, Bool, true, false, List, [], ◌∷◌, ◌++◌, map, take, drop, length, refl, sym, ap, ◌∙◌, append_assoc, append-nil, length-append, arith}
use borrow.Rule.Slice.PartMut.{mid_of, put_mid}
use Rattle.std.specs.Prelude.{option_to_list, slice_set}
use Rattle.std.proofs.lemmas.List.{drop_all, drop_at, drop-drop, length-drop, length-map, length-take-le, map-append, take-append-drop, take_at, take_rest}
use Rattle.daachorse_model.specs.declared.Match.{Match}
use Rattle.daachorse_model.specs.Dictionary.{Dictionary}
use Rattle.daachorse_model.specs.Folding.{as_read, folded_unit}
use Rattle.daachorse_model.specs.Matches.{at_each_end, matches_after, standard_after}
use Rattle.daachorse_model.proofs.StandardEnds.{standard-joined}
use Rattle.daachorse_search.specs.Scans.{past_each_end}
use Rattle.daachorse_search.proofs.ScanLaws.{at_each_end-split, past_each_end-append}
use Rattle.daachorse_c.specs.declared.found.CMatch.{CMatch}
use Rattle.daachorse_c.specs.declared.search.StreamKind.TheVariants.{Find}
use Rattle.daachorse_c.specs.Streams.{BeginEachFound, all_or_longest, found_in}
use Rattle.daachorse_c.specs.OverlappingStreams.{all_or_first}
use Rattle.daachorse_c.specs.Writes.{Writes, WritesAll, c_match}
use Rattle.daachorse_c.proofs.Writing.{one_longer, one_more}

-- ---- what is found

-- a unit is read as one unit
abbrev unit_as_read : Bool → ℕ → ℕ
unit_as_read true u = folded_unit u
unit_as_read false u = u

one_as_read : (folds : Bool) (u : ℕ) → as_read folds (u ∷ []) ≡ unit_as_read folds u ∷ []
one_as_read true u = refl
one_as_read false u = refl

-- what is found at the end of each beginning, joined
module _ (found f : List ℕ → List (Match ℕ)) (each : (h : List ℕ) → found h ≡ at_each_end f [] h) where
  joined-append : (h more : List ℕ) → found (h ++ more) ≡ found h ++ past_each_end f h more
  joined-append h more =
      each (h ++ more)
      ∙ at_each_end-split f [] (h ++ more)
      ∙ ap (λ l. f [] ++ l) (past_each_end-append f [] h more)
      ∙ sym (append_assoc (f []) (past_each_end f [] h) (past_each_end f h more))
      ∙ ap (λ l. l ++ past_each_end f h more) (sym (at_each_end-split f [] h) ∙ sym (each h))

  joined-unit : (folds : Bool) (h text : List ℕ) (u : ℕ) → text ≡ h ++ as_read folds (u ∷ []) → found text ≡ found h ++ f text
  joined-unit folds h text u read =
      let one = read ∙ ap (λ l. h ++ l) (one_as_read folds u) in
      ap found one ∙ joined-append h (unit_as_read folds u ∷ []) ∙ ap (λ t. found h ++ f t) (sym one)

module _ (width : ℕ → ℕ) (K : Dictionary ℕ) where
  -- what the standard search, and that for all or the longest matches, find at the end of a text
  abbrev pub last_found : List ℕ → List (Match ℕ)
  last_found t = option_to_list (standard_after width K t)

  abbrev pub all_found : Bool → List ℕ → List (Match ℕ)
  all_found longest_only t = all_or_first longest_only (matches_after width K t)

module _ (width : ℕ → ℕ) (wide : (u : ℕ) → 1 ≤ width u) (K : Dictionary ℕ) where
  find-each : (h : List ℕ) → found_in width Find K h ≡ at_each_end (last_found width K) [] h
  find-each h = sym (standard-joined width K wide h)

  all-each : (longest_only : Bool) (h : List ℕ) → found_in width (all_or_longest longest_only) K h ≡ at_each_end (all_found width K longest_only) [] h
  all-each true h = refl
  all-each false h = refl

  -- one unit more: what ends there is found after all others
  pub find-unit : (folds : Bool) (h text : List ℕ) (u : ℕ) → text ≡ h ++ as_read folds (u ∷ []) → found_in width Find K text ≡ found_in width Find K h ++ last_found width K text
  find-unit = joined-unit (found_in width Find K) (last_found width K) find-each

  pub all-unit : (longest_only folds : Bool) (h text : List ℕ) (u : ℕ) → text ≡ h ++ as_read folds (u ∷ []) → found_in width (all_or_longest longest_only) K text ≡ found_in width (all_or_longest longest_only) K h ++ all_found width K longest_only text
  all-unit longest_only = joined-unit (found_in width (all_or_longest longest_only) K) (all_found width K longest_only) (all-each longest_only)

  -- what was reported begins what is found in each text that goes on
  pub find-stays : (h : List ℕ) (reported left : List (Match ℕ)) → found_in width Find K h ≡ reported ++ left → BeginEachFound width Find K h reported
  find-stays h reported left is = λ more. let next = past_each_end (last_found width K) h more in
      (left ++ next, joined-append (found_in width Find K) (last_found width K) find-each h more ∙ ap (λ l. l ++ next) is ∙ append_assoc reported left next)

  pub all-stays : (longest_only : Bool) (h : List ℕ) (reported left : List (Match ℕ)) → found_in width (all_or_longest longest_only) K h ≡ reported ++ left → BeginEachFound width (all_or_longest longest_only) K h reported
  all-stays longest_only h reported left is = λ more. let kind = all_or_longest longest_only in let f = all_found width K longest_only in let next = past_each_end f h more in
      (left ++ next, joined-append (found_in width kind K) f (all-each longest_only) h more ∙ ap (λ l. l ++ next) is ∙ append_assoc reported left next)

-- ---- what is reported

-- what is reported of what was left, and what is left then
pub reported_more : {found : List (Match ℕ)} (reported left : List (Match ℕ)) (n : ℕ) → found ≡ reported ++ left → found ≡ (reported ++ take n left) ++ drop n left
reported_more reported left n is = is ∙ ap (λ l. reported ++ l) (sym (take-append-drop n left)) ∙ sym (append_assoc reported (take n left) (drop n left))

pub written_some : {left : List (Match ℕ)} {old new : List CMatch} {n : ℕ} → Writes left old new n → WritesAll (take n left) old new n
written_some {left} {old} {new} {n} w = record { count = sym (length-take-le n left w.there); room = w.room; wrote = w.wrote }

pub written_none : (old : List CMatch) → WritesAll [] old old 0
written_none old = record { count = refl; room = omega arith; wrote = refl }

-- one match more is written after what was written, or many
pub written_one : {xs : List (Match ℕ)} {old new : List CMatch} {n : ℕ} (m : Match ℕ) → WritesAll xs old new n → n < length old → WritesAll (xs ++ m ∷ []) old (slice_set new n (c_match m)) (n + 1)
written_one {xs} {old} {new} {n} m w lt = record { count = one_longer xs m n w.count; room = omega (arith, lt); wrote = one_more xs m old new n w.count lt w.wrote }

pub written_more : {xs ys : List (Match ℕ)} {old new last : List CMatch} (n k : ℕ) → WritesAll xs old new n → WritesAll ys (mid_of n (length new - n) new) last k
    → WritesAll (xs ++ ys) old (put_mid n (length new - n) new last) (n + k)
written_more {xs} {ys} {old} {new} {last} n k w v =
    let cs = map c_match xs in
    let long : length cs ≡ n = length-map xs c_match ∙ sym w.count in
    let front : take n new ≡ cs = ap (take n) w.wrote ∙ take_at cs (drop n old) n long in
    let behind : drop n new ≡ drop n old = ap (drop n) w.wrote ∙ drop_at cs (drop n old) n long in
    let rest = take_rest new n ∙ behind in
    let room = ap length rest ∙ length-drop n old in
    let put : put_mid n (length new - n) new last ≡ take n new ++ last =
    ap (λ l. take n new ++ (last ++ l)) (drop_all (length new - n) (drop n new) (omega (arith, length-drop n new))) ∙ ap (λ l. take n new ++ l) (append-nil last) in
    record {
      count = omega (arith, w.count, v.count, length-append xs ys);
      room = omega (arith, w.room, v.room, room);
      wrote =
          put
          ∙ ap (λ l. l ++ last) front
          ∙ ap (λ l. cs ++ l) (v.wrote ∙ ap (λ l. map c_match ys ++ drop k l) rest ∙ ap (λ l. map c_match ys ++ l) (drop-drop k n old))
          ∙ sym (append_assoc cs (map c_match ys) (drop (n + k) old))
          ∙ ap (λ l. l ++ drop (n + k) old) (sym (map-append c_match xs ys));
    }
