-- A group has a member just where the elements that have it lead on, and in a right machine an element leads on just where its text has a child.
use Rattle.std.proofs.Common.{◌≡◌, ℕ, ◌+◌, ◌<◌, ◌↔◌, inl, inr, Bool, true, false, List, [], ◌∷◌, ◌++◌, length, Option, Some, None, refl, sym, ap, ◌∙◌, subst, arith, slice_index_or, length-append}
use Rattle.std.specs.Prelude.{IsTrue, is_some, slice_get}
use Rattle.std.specs.Iterator.{YieldsFirst}
use Rattle.std.specs.List.{AllByRecursion}
use Rattle.std.proofs.lemmas.Bool.{cases_eq}
use Rattle.std.proofs.lemmas.List.{get_or_push, get_or_append_left}
use Rattle.std.proofs.lemmas.Option.{slice_get-get_or}
use Rattle.daachorse_model.proofs.Paths.{walk-push}
use Rattle.daachorse_array.specs.Arrays.{ArrayView, AreGroups, HasEdges}
use Rattle.daachorse_array.specs.Edges.{is_in, members}
use Rattle.daachorse_array.specs.Listing.{unit_of}
use Rattle.daachorse_array.specs.Machines.{Machine, content, IsMachine}
use Rattle.daachorse_array.specs.Texts.{IsReached, text_of}
use Rattle.daachorse_array.proofs.MachineLaws.{Reached-inside, back, fore}
use Rattle.daachorse_array.proofs.PathLaws.{element_reached, reached_element}
use Rattle.daachorse_array.proofs.SortLaws.{below-All, below-has, edge-in, in-edge}
use Rattle.daachorse_model.specs.Prefixes.{HasChild}
use Rattle.daachorse_array.specs.Marks.{AreChildMarks, LeadsOn}

module _ (a : ArrayView) (edges : HasEdges a) (i : ℕ) (real : i < a.count) where
  -- an element with no group leads nowhere
  pub alone_ends : a.group i ≡ None → ¬ LeadsOn a.child i
  alone_ends own (c, j, e) = let bad : ◌≡◌ {A = Option ℕ} None (Some j) = sym (edges.tell.alone i c real own) ∙ e in cc

  module _ (g : ℕ) (group : Some g ≡ a.group i) where
    own : a.group i ≡ Some g
    own = sym group

    -- the test of the members
    abbrev member : ℕ → Bool
    member j = is_in g (a.edge j)

    member_leads : (x : ℕ) (rest : List ℕ) → members a.edge g a.count ≡ x ∷ rest → LeadsOn a.child i
    member_leads x rest e =
        let P : List ℕ → Type 0 = λ l. AllByRecursion (λ j. (j < a.count) × (member j ≡ true)) l in
        let first = (subst P e (below-All member a.count)).0 in
        let unit : ℕ = unit_of (a.edge x) in
        (unit, x, edges.tell.to_child i g unit x real own first.0 (in-edge g (a.edge x) first.1))

    none_ends : members a.edge g a.count ≡ [] → ¬ LeadsOn a.child i
    none_ends e (c, j, leads) =
        let is = edge-in g c (a.edge j) (edges.tell.from_child i g c j real own leads) in
        let has = below-has member a.count j (edges.inside i c j leads).0 is.0 in
        omega (arith, has.1, ap length e)

    -- what is read first of the group tells it
    pub first_tells : (groups : List (List ℕ)) → AreGroups a groups → (ms left : List ℕ) (o : Option ℕ) → ms ≡ slice_index_or groups g [] → YieldsFirst (λ l. l) ms o left → IsTrue (is_some o) ↔ LeadsOn a.child i
    first_tells groups are ms left o is steps = by o steps
      where
        same : ms ≡ members a.edge g a.count
        same = is ∙ are.are g (edges.tell.inside i g real own)

        by : (o : Option ℕ) → YieldsFirst (λ l. l) ms o left → IsTrue (is_some o) ↔ LeadsOn a.child i
        by None none = (λ no. absurd (let bad : false ≡ true = no in cc), λ leads. absurd (none_ends (sym same ∙ none.0) leads))
        by (Some x) some = (λ yes. member_leads x left (sym same ∙ some), λ leads. refl)

-- ---- a list of marks that grows

pub marks-start : (child : ℕ → ℕ → Option ℕ) (marks : List Bool) → marks ≡ [] → AreChildMarks child 0 marks
marks-start child marks e = record { size = ap length e; each = λ i none. absurd (omega (arith, none)) }

pub marks-next : (child : ℕ → ℕ → Option ℕ) (k : ℕ) (marks new : List Bool) (mark : Bool) → AreChildMarks child k marks → new ≡ marks ++ mark ∷ [] → IsTrue mark ↔ LeadsOn child k → AreChildMarks child (k + 1) new
marks-next child k marks new mark old e told = record {
  size = omega (arith, ap length e, length-append marks (mark ∷ []), old.size);
  each = λ i less. elim (cases_eq i k) [
    | inl same ↦
        let P : Bool → ℕ → Type 0 = λ b j. IsTrue b ↔ LeadsOn child j in
        let at : mark ≡ slice_index_or new i false = sym (ap (λ l. slice_index_or l i false) e ∙ get_or_push marks mark false i (old.size ∙ sym same)) in
        subst (λ j. P (slice_index_or new i false) j) (sym same) (subst (λ b. P b k) at told)
    | inr other ↦
        let before : i < k = omega (arith, less, other) in
        let at : slice_index_or marks i false ≡ slice_index_or new i false = sym (ap (λ l. slice_index_or l i false) e ∙ get_or_append_left marks (mark ∷ []) false i (omega (arith, before, old.size))) in
        let P : Bool → Type 0 = λ b. IsTrue b ↔ LeadsOn child i in
        subst P at (old.each i before)
  ];
}

module _ {V : Type 0} (width : ℕ → ℕ) (a : Machine V) (leftmost : Bool) (n m : ℕ) (right : IsMachine width a leftmost n m) where
  leads_text : (i : ℕ) → IsReached a.child m n i → LeadsOn a.child i → HasChild (content width a) (text_of a.child m n i)
  leads_text i reached (c, j, e) =
      let text : List ℕ = text_of a.child m n i in
      (c, fore width a leftmost n m right (text ++ c ∷ []) (reached_element a.child (text ++ c ∷ []) j (walk-push a.child 0 text c i reached ∙ e)))

  text_leads : (i : ℕ) → IsReached a.child m n i → HasChild (content width a) (text_of a.child m n i) → LeadsOn a.child i
  text_leads i reached (c, begins) =
      let text : List ℕ = text_of a.child m n i in
      let end = element_reached a.child (text ++ c ∷ []) (back width a leftmost n m right (text ++ c ∷ []) begins) in
      (c, end.0, sym (walk-push a.child 0 text c i reached) ∙ end.1)

  -- the marks of the elements are those of the states
  pub marks_tell : (marks : List Bool) → AreChildMarks a.child n marks → (i : ℕ) → IsReached a.child m n i → (mark : Bool) × (slice_get marks i ≡ Some mark) × (IsTrue mark ↔ HasChild (content width a) (text_of a.child m n i))
  marks_tell marks are i reached =
      let inside : i < n = Reached-inside width a leftmost n m right i reached in
      let told = are.each i inside in (
        slice_index_or marks i false,
        slice_get-get_or marks i false (omega (arith, inside, are.size)),
        (λ mark. leads_text i reached (told.0 mark), λ child. told.1 (text_leads i reached child)),
      )
