-- The levels of a tree, one after the other, tell whether a filter passes at each key.
use Rattle.std.proofs.Common.{◌≡◌, ℕ, ◌+◌, ◌<◌, ◌≤◌, ◌⊎◌, Bool, true, false, List, [], ◌∷◌, ◌++◌, length, take, drop, Option, Some, None}
use Rattle.std.proofs.Common.{refl, sym, ap, ◌∙◌, subst, inl, inr, arith, get_or, append_assoc, append-nil, take-append-drop}
use Rattle.std.specs.Prelude.{All, Contains, flat_map}
use Rattle.std.proofs.lemmas.Bool.{cases_eq, cases_lt, false≢true}
use Rattle.std.proofs.lemmas.Grind.{flat_map-append}
use Rattle.std.proofs.lemmas.List.{flat_map_more, length-take-le, length_push}
use Rattle.std.proofs.lemmas.List.Elements.{All-append, All-contains, All-nil, All-push, Contains-append_left, Contains-append_right}
use Rattle.std.proofs.lemmas.Option.{none-some, same_Some}
use Rattle.daachorse_array.specs.Edges.{TellChildren, is_in, members}
use Rattle.daachorse_model.specs.Paths.{Leads, walk}
use Rattle.daachorse_model.proofs.Paths.{push-parts, walk-push}
use Rattle.daachorse_model.proofs.Lists.{last_of}
use Rattle.daachorse_array.proofs.PathLaws.{Leads-inside, Leads-length, walk-split}
use Rattle.daachorse_prefilter.specs.Filters.{Filter, admits}
use Rattle.daachorse_prefilter.specs.Windows.{HasRead}
use Rattle.daachorse_prefilter.specs.declared.prefilter.window.Window.{Window}
use Rattle.daachorse_prefilter.proofs.WindowLaws.{admits-append}
use Rattle.daachorse_checker.specs.Filters.{HasRefused, IsAdmitted, IsBeginning, IsChildOf, IsInLevel, IsLevel, IsNextOf, IsPushed}
use Rattle.daachorse_checker.specs.Filters.{PassesAll}
use Rattle.daachorse_checker.specs.Ranks.{HasOnePath}
use Rattle.daachorse_checker.proofs.MemberLaws.{IsLast, below-cons, below-none, child_member, label, member_child}

abbrev Entry : Type 0
Entry = ℕ × Window

in_left : (xs ys : List Entry) (j : ℕ) → IsInLevel xs j → IsInLevel (xs ++ ys) j
in_left xs ys j h = (h.0, Contains-append_left xs ys (j, h.0) h.1)

-- Behind the old entries there are those of the children of e from an element on; the members of its group below that are left.
pub record IsPushing (child : ℕ → ℕ → Option ℕ) (bytes : ℕ → List ℕ) (f : Filter) (edge : ℕ → Option (ℕ × ℕ)) (n g : ℕ) (e : Entry)
    (left : List ℕ) (old new : List Entry) : Type 0 where
  pub bound : ℕ
  pub most : bound ≤ n
  pub left_is : left ≡ members edge g bound
  pub kids : List Entry
  pub is : new ≡ old ++ kids
  pub each : All (IsChildOf child bytes f e) kids
  pub seen : (c t : ℕ) → child e.0 c ≡ Some t → bound ≤ t → IsInLevel kids t

module _ {child : ℕ → ℕ → Option ℕ} {bytes : ℕ → List ℕ} {f : Filter} {group : ℕ → Option ℕ} {edge : ℕ → Option (ℕ × ℕ)} {n : ℕ}
    (tell : TellChildren child group edge n) {e : Entry} (lt : e.0 < n) where
  -- an element without a group has no children
  pub pushed_none : (old : List Entry) → group e.0 ≡ None → IsPushed child bytes f e old old
  pushed_none old none = record {
    kids = [];
    is = sym (append-nil old);
    each = All-nil (IsChildOf child bytes f e);
    all = λ c j to. absurd (none-some j (sym (tell.alone e.0 c lt none) ∙ to));
  }

  module _ {g : ℕ} (own : group e.0 ≡ Some g) where
    -- all members are left
    pub pushing_start : (left : List ℕ) (old : List Entry) → left ≡ members edge g n → ((c t : ℕ) → child e.0 c ≡ Some t → t < n)
        → IsPushing child bytes f edge n g e left old old
    pushing_start left old is inside = record {
      bound = n;
      most = omega arith;
      left_is = is;
      kids = [];
      is = sym (append-nil old);
      each = All-nil (IsChildOf child bytes f e);
      seen = λ c t to le. absurd (omega (arith, inside c t to, le));
    }

    module _ {x : ℕ} {rest : List ℕ} {old new : List Entry} (pushing : IsPushing child bytes f edge n g e (x ∷ rest) old new) where
      last : IsLast (λ j. is_in g (edge j)) pushing.bound x rest
      last = below-cons (λ j. is_in g (edge j)) pushing.bound x rest (sym pushing.left_is)

      -- the next member is an element
      pub pushing_in : x < n
      pushing_in = omega (arith, last.less, pushing.most)

      -- and its entry is put behind the others
      pub pushing_next : (s : Window) → ((text : List ℕ) → HasRead f text e.1 → HasRead f (text ++ bytes (label edge x)) s)
          → IsPushing child bytes f edge n g e rest old (new ++ (x, s) ∷ [])
      pushing_next s read = record {
        bound = x;
        most = omega (arith, pushing_in);
        left_is = last.before;
        kids = pushing.kids ++ (x, s) ∷ [];
        is = ap (λ xs. xs ++ (x, s) ∷ []) pushing.is ∙ append_assoc old pushing.kids ((x, s) ∷ []);
        each = All-push (IsChildOf child bytes f e) pushing.kids (x, s) pushing.each
            (label edge x, member_child tell e.0 g lt own x pushing_in last.passes, read);
        seen = λ c t to le. elim (cases_eq t x) [
          | inl same ↦ (
            s,
            subst (λ (j : ℕ). Contains (pushing.kids ++ (x, s) ∷ []) (j, s)) (sym same)
                (Contains-append_right pushing.kids ((x, s) ∷ []) (x, s) (0, omega arith, refl)),
          )
          | inr other ↦ elim (cases_lt t pushing.bound) [
            | inl less ↦ absurd (last.none t (omega (arith, le, other)) less (child_member tell e.0 g lt own c t to))
            | inr more ↦ in_left pushing.kids ((x, s) ∷ []) t (pushing.seen c t to more)
          ]
        ];
      }

    -- none is left
    pub pushing_done : {left : List ℕ} {old new : List Entry} → left ≡ [] → IsPushing child bytes f edge n g e left old new
        → IsPushed child bytes f e old new
    pushing_done none pushing = record {
      kids = pushing.kids;
      is = pushing.is;
      each = pushing.each;
      all = λ c j to. elim (cases_lt j pushing.bound) [
        | inl less ↦ absurd (below-none (λ k. is_in g (edge k)) pushing.bound j (sym pushing.left_is ∙ none) less
            (child_member tell e.0 g lt own c j to))
        | inr more ↦ pushing.seen c j to more
      ];
    }

abbrev IsDone : (ℕ → ℕ → Option ℕ) → Filter → (ℕ → Bool) → List Entry → Entry → Type 0
IsDone child f is_key next e = IsAdmitted f e ⊎ ((is_key e.0 ≡ false) × ((c j : ℕ) → child e.0 c ≡ Some j → IsInLevel next j))

-- the filter passes at the text of an entry
passes_at : {child : ℕ → ℕ → Option ℕ} {bytes : ℕ → List ℕ} {f : Filter} → HasOnePath child → (d : ℕ) (w : List ℕ) (e : Entry)
    → IsBeginning child bytes f d e → Leads child w e.0 → IsAdmitted f e → admits f (flat_map bytes w) ≡ true
passes_at {child} {bytes} {f} tree d w e begun leads passes =
    let same : begun.text ≡ w = tree.one_path e.0 begun.text w begun.leads leads in
    ap (λ v. admits f (flat_map bytes v)) (sym same) ∙ passes (flat_map bytes begun.text) begun.read

-- and at that of each longer one
passes_on : (bytes : ℕ → List ℕ) (f : Filter) (v r : List ℕ) → admits f (flat_map bytes v) ≡ true
    → admits f (flat_map bytes (v ++ r)) ≡ true
passes_on bytes f v r h = ap (admits f) (flat_map-append bytes v r) ∙ admits-append f (flat_map bytes v) (flat_map bytes r) h

module _ {child : ℕ → ℕ → Option ℕ} {bytes : ℕ → List ℕ} {f : Filter} {is_key : ℕ → Bool} where
  module _ {level next : List Entry} {n : ℕ} {e : Entry} (so_far : IsNextOf child bytes f is_key level n next)
      (here : (default : Entry) → e ≡ get_or level n default) where
    -- an entry at whose text the filter passes
    pub next_admitted : IsAdmitted f e → IsNextOf child bytes f is_key level (n + 1) next
    next_admitted passes = record {
      each = so_far.each;
      all = λ k default lt. elim (cases_eq k n) [
        | inl same ↦ inl (subst (λ (x : Entry). IsAdmitted f x) (here default ∙ ap (λ m. get_or level m default) (sym same)) passes)
        | inr other ↦ so_far.all k default (omega (arith, lt, other))
      ];
    }

    -- one whose children are put behind
    pub next_pushed : (new : List Entry) → n < length level → is_key e.0 ≡ false → IsPushed child bytes f e next new
        → IsNextOf child bytes f is_key level (n + 1) new
    next_pushed new lt no' pushed =
        let P : Entry → Type 0 = λ k. (x : Entry) × Contains level x × IsChildOf child bytes f x k in
        let in' : Contains level e = (n, lt, sym (here e)) in
        record {
          each = subst (λ (xs : List Entry). All P xs) (sym pushed.is)
              (All-append P next pushed.kids so_far.each (λ k default less. (e, in', pushed.each k default less)));
          all = λ k default less. subst (λ (xs : List Entry). IsDone child f is_key xs (get_or level k default)) (sym pushed.is)
              (elim (cases_eq k n) [
                | inl same ↦ subst (λ (x : Entry). IsDone child f is_key (next ++ pushed.kids) x)
                    (here default ∙ ap (λ m. get_or level m default) (sym same)) (inr (no', λ c j to. behind (pushed.all c j to)))
                | inr other ↦ elim (so_far.all k default (omega (arith, less, other))) [
                  | inl h ↦ inl h
                  | inr h ↦ inr (h.0, λ c j to. in_left next pushed.kids j (h.1 c j to))
                ]
              ]);
        }
      where
        behind : {j : ℕ} → IsInLevel pushed.kids j → IsInLevel (next ++ pushed.kids) j
        behind h = (h.0, Contains-append_right next pushed.kids _ h.1)

  module _ (tree : HasOnePath child) where
    -- the root alone
    pub level_start : (level : List Entry) (s : Window) → level ≡ (0, s) ∷ [] → HasRead f [] s → IsLevel child bytes f is_key 0 level
    level_start level s e read = record {
      begun = subst (λ (xs : List Entry). All (IsBeginning child bytes f 0) xs) (sym e)
          (All-push (IsBeginning child bytes f 0) [] (0, s) (All-nil (IsBeginning child bytes f 0))
          (record { text = []; long = refl; leads = refl; read = read }));
      all = λ w i none leads. inr (
        s,
        subst (λ (xs : List Entry). Contains xs (i, s)) (sym e)
            (0, omega arith, ap (λ j. (j, s)) (root w i none leads)),
      );
      short = λ w i lt. absurd (omega (arith, lt));
    }
      where
        root : (w : List ℕ) (i : ℕ) → length w ≡ 0 → Leads child w i → 0 ≡ i
        root [] i none leads = same_Some 0 i leads
        root (c ∷ w) i none leads = absurd (omega (arith, none))

    module _ {d : ℕ} {level : List Entry} (is : IsLevel child bytes f is_key d level) where
      -- what a text of d units leads to is done
      done_at : (next : List Entry) → IsNextOf child bytes f is_key level (length level) next → (w : List ℕ) (i : ℕ) → length w ≡ d
          → Leads child w i → (admits f (flat_map bytes w) ≡ true)
          ⊎ ((is_key i ≡ false) × ((c j : ℕ) → child i c ≡ Some j → IsInLevel next j))
      done_at next of w i long leads = elim (is.all w i long leads) [
        | inl h ↦ inl h
        | inr h ↦
            let e : Entry = (i, h.0) in
            elim (All-contains (IsDone child f is_key next) level e of.all h.1) [
              | inl passes ↦ inl (passes_at tree d w e (All-contains (IsBeginning child bytes f d) level e is.begun h.1) leads passes)
              | inr done ↦ inr done
            ]
      ]

      next_begun : (next : List Entry) (k : Entry) → (e : Entry) × Contains level e × IsChildOf child bytes f e k
          → IsBeginning child bytes f (d + 1) k
      next_begun next k (e, in', child_of) =
          let begun = All-contains (IsBeginning child bytes f d) level e is.begun in' in
          let c = child_of.0 in
          record {
            text = begun.text ++ c ∷ [];
            long = length_push begun.text c ∙ ap (λ n. n + 1) begun.long;
            leads = walk-push child 0 begun.text c e.0 begun.leads ∙ child_of.1;
            read = subst (λ (xs : List ℕ). HasRead f xs k.1) (flat_map_more bytes [] begun.text c)
                (child_of.2 (flat_map bytes begun.text) begun.read);
          }

      next_all : (next : List Entry) → IsNextOf child bytes f is_key level (length level) next → (w : List ℕ) (i : ℕ) → length w ≡ d + 1
          → Leads child w i → (admits f (flat_map bytes w) ≡ true) ⊎ IsInLevel next i
      next_all next of [] i long leads = absurd (omega (arith, long))
      next_all next of (x ∷ xs) i long leads =
          let a = last_of x xs in
          let p = push-parts child 0 a.0 a.1 i (sym (ap (λ v. walk child 0 v) a.2) ∙ leads) in
          elim (done_at next of a.0 p.0 (omega (arith, long, ap length a.2, length_push a.0 a.1)) p.1) [
            | inl h ↦ inl (ap (λ v. admits f (flat_map bytes v)) a.2 ∙ passes_on bytes f a.0 (a.1 ∷ []) h)
            | inr h ↦ inr (h.1 a.1 i p.2)
          ]

      -- the next level is that of the texts of one unit more
      pub level_next : (next : List Entry) (d' : ℕ) → d' ≡ d + 1 → IsNextOf child bytes f is_key level (length level) next
          → IsLevel child bytes f is_key d' next
      level_next next d' e of = subst (λ n. IsLevel child bytes f is_key n next) (sym e) (record {
        begun = λ k default lt. next_begun next (get_or next k default) (of.each k default lt);
        all = next_all next of;
        short = λ w i lt leads key. elim (cases_lt (length w) d) [
          | inl less ↦ is.short w i less leads key
          | inr most ↦ elim (done_at next of w i (omega (arith, lt, most)) leads) [
            | inl h ↦ h
            | inr h ↦ absurd (false≢true (sym h.0 ∙ key))
          ]
        ];
      })

      -- where no entry is left the filter passes at all keys
      pub level_none : length level ≡ 0 → PassesAll child bytes is_key f
      level_none none i w leads key = elim (cases_lt (length w) d) [
        | inl less ↦ is.short w i less leads key
        | inr most ↦
            let whole : take d w ++ drop d w ≡ w = take-append-drop d w in
            let at = walk-split child 0 i (take d w) (drop d w) (ap (λ v. walk child 0 v) whole ∙ leads) in
            elim (is.all (take d w) at.0 (length-take-le d w most) at.1) [
              | inl h ↦ ap (λ v. admits f (flat_map bytes v)) (sym whole) ∙ passes_on bytes f (take d w) (drop d w) h
              | inr h ↦ absurd (omega (arith, none, h.1.1))
            ]
      ]

      -- texts are shorter than there are elements
      pub level_last : (n m : ℕ) → 0 < n → ((i c j : ℕ) → child i c ≡ Some j → (j < n) × (c < m)) → n ≤ d → PassesAll child bytes is_key f
      level_last n m some inside le i w leads key =
          is.short w i (omega (arith, le, Leads-length child n m some inside tree.one_path w i leads)) leads key

      -- entries are elements
      pub level_inside : (n m : ℕ) → 0 < n → ((i c j : ℕ) → child i c ≡ Some j → (j < n) × (c < m)) → All (λ e. e.0 < n) level
      level_inside n m some inside k default lt =
          let begun = is.begun k default lt in
          Leads-inside child n m some inside tree.one_path begun.text (get_or level k default).0 begun.leads

      -- a key was refused
      pub level_refused : HasRefused f is_key level → PassesAll child bytes is_key f → ⊥
      level_refused (e, in', key, refused) all =
          let begun = All-contains (IsBeginning child bytes f d) level e is.begun in' in
          false≢true (sym (refused (flat_map bytes begun.text) begun.read) ∙ all e.0 begun.text begun.leads key)
