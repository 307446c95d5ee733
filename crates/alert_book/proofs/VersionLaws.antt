-- What is kept of the versions that a session believes live, after a place is made or a version set.
use Rattle.std.proofs.Common.{◌≡◌, ◌≢◌, ◌∙◌, ℕ, ◌<◌, ◌≤◌, Bool, true, false, cond, Option, Some, None, is_some}
use Rattle.std.proofs.Common.{List, [], ◌∷◌, ◌++◌, length, get_or, refl, sym, ap, subst, inl, inr, arith, rules}
use Rattle.std.proofs.Common.{eqb, ltb, suc, zero}
use Rattle.std.specs.Prelude.{IfNone, IfSome}
use Rattle.std.proofs.Math.ListN.{set}
use Rattle.std.specs.List.{find, position, position_or_len, slice_get}
use Rattle.std.specs.Option.{option_or}
use Rattle.std.proofs.lemmas.Bool.{cases_Bool, eqb-false, eqb-true, ltb-false, ltb-true}
use Rattle.std.proofs.lemmas.List.{get_or-set_same, get_or-set_other, length-set}
use Rattle.std.proofs.lemmas.List.Folds.{find-append, find-set, find_at, find_past}
use Rattle.std.proofs.lemmas.List.Quantifiers.{all_pairs_push}
use Rattle.std.proofs.lemmas.List.Sums.{fails_before_first, passes_at_first, position_or_len_is}
use Rattle.std.proofs.lemmas.Option.{get_or_from_slice_get, slice_get-get_or, slice_get_past, slice_get_within}
use Rattle.cbsp_wire.specs.declared.message.Cell.{Cell}
use Rattle.cbsp_wire.specs.Range.{is_cell}
use Rattle.cbsp_wire.proofs.CellLists.{is_itself, same_cell}
use Rattle.alert_book.specs.declared.session.request.CellVersion.{CellVersion}
use Rattle.alert_book.specs.VersionSteps.{AreApart, HasSameLists, IsPlaceOf, KeepsVersions, SetsVersion, has_cell}
use Rattle.alert_book.specs.VersionSteps.{has_place, is_of_cell, is_version_of, kept_version, version_in_list}
use Rattle.alert_book.specs.VersionSteps.{version_of}

-- the lists of the alerts
abbrev pub Entries : Type 0
Entries = List (List CellVersion)

-- a cell with a version
abbrev pub versioned : Cell → Option ℕ → CellVersion
versioned cell version = record { cell = cell; version = version }

-- of different cells the test says so, also the other way round
other_cell : (a b : Cell) → a ≢ b → is_cell a b ≡ false
other_cell a b apart = elim (cases_Bool (is_cell a b)) [
  | inl is ↦ absurd (apart (same_cell a b is))
  | inr other ↦ other
]

-- cells that differ one way differ the other way too
pub turned : (a b : Cell) → is_cell a b ≡ false → is_cell b a ≡ false
turned a b other =
    other_cell b a (λ same. let self : is_cell a b ≡ true = ap (is_cell a) same ∙ is_itself a in cc)

-- of versions of different cells the one at a place is the first of its cell
pub first_at : (list : List CellVersion) (cell : Cell) (place : ℕ) (one : CellVersion) → AreApart list
    → slice_get list place ≡ Some one → is_cell cell one.cell ≡ true → IsPlaceOf list cell place
first_at list cell place one apart there own =
    let inside : place < length list = slice_get_within list place one there in
    let here : get_or list place one ≡ one = get_or_from_slice_get list place one one there in
    let mine : cell ≡ one.cell = same_cell cell one.cell own in
    record {
      within = inside;
      first = position_or_len_is (is_of_cell cell) list place one (omega (arith, inside))
          (λ k before. other_cell cell (get_or list k one).cell (λ same. apart k place one before inside
          (sym same ∙ mine ∙ ap (λ (o : CellVersion). o.cell) (sym here))))
          (λ _. ap (λ (o : CellVersion). is_cell cell o.cell) here ∙ own);
    }

-- what a search finds is the first place, and what it doesn't find isn't there
some_is : (a b : ℕ) → Some a ≡ Some b → a ≡ b
some_is a b same = cc

no_some : (a : ℕ) → Some a ≡ None → ⊥
no_some a same = search (rules, same)

found_if : (b : Bool) (first place : ℕ) → cond b (Some first) None ≡ Some place → (b ≡ true) × (first ≡ place)
found_if true first place found = (refl, some_is first place found)
found_if false first place found = absurd (no_some place (sym found))

-- a place that was found is the first of the cell
pub place_found : (list : List CellVersion) (cell : Cell) (place : ℕ)
    → position (is_of_cell cell) list ≡ Some place → IsPlaceOf list cell place
place_found list cell place found =
    let first = position_or_len (is_of_cell cell) list in
    let both = found_if (ltb first (length list)) first place found in
    record { within = subst (λ k. k < length list) both.1 (ltb-true first (length list) both.0); first = both.1 }

none_if : (b : Bool) (first : ℕ) → cond b (Some first) None ≡ None → b ≡ false
none_if true first none = absurd (no_some first none)
none_if false first none = refl

-- if none was found, no version is of the cell
pub none_found : (list : List CellVersion) (cell : Cell) → position (is_of_cell cell) list ≡ None
    → has_cell list cell ≡ false
none_found list cell none =
    let first = position_or_len (is_of_cell cell) list in
    let past : length list ≤ first =
    ltb-false first (length list) (none_if (ltb first (length list)) first none) in
    ap is_some (find_at (is_of_cell cell) list ∙ slice_get_past list first past)

-- so it is of what a search returns
pub found_by : (list : List CellVersion) (cell : Cell) (place : Option ℕ) → place ≡ position (is_of_cell cell) list
    → IfSome place (IsPlaceOf list cell)
found_by list cell None is = tt
found_by list cell (Some place) is = place_found list cell place (sym is)

-- and of a search that returns none
pub none_by : (list : List CellVersion) (cell : Cell) (place : Option ℕ) → place ≡ position (is_of_cell cell) list
    → IfNone place (has_cell list cell ≡ false)
none_by list cell None is = none_found list cell (sym is)
none_by list cell (Some place) is = tt

-- what has a place is there
pub has_found : (list : List CellVersion) (cell : Cell) (place : Option ℕ) → is_some place ≡ true
    → IfSome place (IsPlaceOf list cell) → has_cell list cell ≡ true
has_found list cell None some at = search (rules, some)
has_found list cell (Some place) some at =
    ap is_some (find_at (is_of_cell cell) list ∙ ap (slice_get list) at.first
    ∙ slice_get-get_or list place (versioned cell None) at.within)

-- what has no place isn't there
pub has_none : (list : List CellVersion) (cell : Cell) (place : Option ℕ) → is_some place ≡ false
    → IfNone place (has_cell list cell ≡ false) → has_cell list cell ≡ false
has_none list cell None none apart = apart
has_none list cell (Some place) none apart = search (rules, none)

-- at a cell's place is its version
own_at : (list : List CellVersion) (cell : Cell) (place : ℕ) (d : CellVersion) → IsPlaceOf list cell place
    → cell ≡ (get_or list place d).cell
own_at list cell place d at =
    let first = position_or_len (is_of_cell cell) list in
    let passes = passes_at_first (is_of_cell cell) list d (subst (λ k. k < length list) (sym at.first) at.within) in
    same_cell _ _ (ap (λ k. is_of_cell cell (get_or list k d)) (sym at.first) ∙ passes)

-- the version at a cell's place is the cell's
pub version_at : (list : List CellVersion) (cell : Cell) (place : ℕ) (d : CellVersion) → IsPlaceOf list cell place
    → (get_or list place d).version ≡ version_in_list list cell
version_at list cell place d at =
    ap version_of (sym (slice_get-get_or list place d at.within) ∙ ap (slice_get list) (sym at.first)
    ∙ sym (find_at (is_of_cell cell) list))

-- a version that is set is found for its cell, and others as before
found_set : (list : List CellVersion) (cell c : Cell) (place : ℕ) (version : Option ℕ) → IsPlaceOf list cell place
    → find (is_of_cell c) (set list place (versioned cell version))
    ≡ cond (is_cell cell c) (Some (versioned cell version)) (find (is_of_cell c) list)
found_set list cell c place version at = elim (cases_Bool (is_cell cell c)) [
  | inl own ↦
      let same : cell ≡ c = same_cell cell c own in
      rw own (find-set (is_of_cell c) list place (versioned cell version)
      (sym at.first ∙ ap (λ (x : Cell). position_or_len (is_of_cell x) list) same) at.within
      (ap (is_cell c) same ∙ is_itself c))
  | inr other ↦
      let apart = turned cell c other in
      rw other (find_past (is_of_cell c) list place (versioned cell version) (versioned cell version)
      (ap (is_cell c) (sym (own_at list cell place (versioned cell version) at)) ∙ apart) apart)
]

version_if : (b : Bool) (one : CellVersion) (found : Option CellVersion)
    → version_of (cond b (Some one) found) ≡ cond b one.version (version_of found)
version_if true one found = refl
version_if false one found = refl

-- after a version is set each cell has what it had, but for its own cell
pub kept_set : (list : List CellVersion) (cell c : Cell) (place : ℕ) (version : Option ℕ) → IsPlaceOf list cell place
    → version_in_list (set list place (versioned cell version)) c
    ≡ cond (is_cell cell c) version (version_in_list list c)
kept_set list cell c place version at =
    ap version_of (found_set list cell c place version at)
    ∙ version_if (is_cell cell c) (versioned cell version) (find (is_of_cell c) list)

-- and the same cells have a place
pub places_set : (list : List CellVersion) (cell c : Cell) (place : ℕ) (version : Option ℕ)
    → has_cell list cell ≡ true → IsPlaceOf list cell place
    → has_cell (set list place (versioned cell version)) c ≡ has_cell list c
places_set list cell c place version placed at =
    ap is_some (found_set list cell c place version at) ∙ by_test
  where
    by_test : is_some (cond (is_cell cell c) (Some (versioned cell version)) (find (is_of_cell c) list))
        ≡ has_cell list c
    by_test = elim (cases_Bool (is_cell cell c)) [
      | inl own ↦ rw own (sym (ap (has_cell list) (sym (same_cell cell c own)) ∙ placed))
      | inr other ↦ rw other refl
    ]

-- and no cell has two versions then
cell_at : (list : List CellVersion) (cell : Cell) (place k : ℕ) (version : Option ℕ) (d : CellVersion)
    → IsPlaceOf list cell place
    → (get_or (set list place (versioned cell version)) k d).cell ≡ (get_or list k d).cell
cell_at list cell place k version d at = elim (cases_Bool (eqb k place)) [
  | inl here ↦
      let same : k ≡ place = eqb-true k place here in
      rw same (ap (λ (o : CellVersion). o.cell)
      (get_or-set_same list place (versioned cell version) d at.within) ∙ own_at list cell place d at)
  | inr there ↦ ap (λ (o : CellVersion). o.cell)
      (get_or-set_other list place k (versioned cell version) d (eqb-false k place there))
]

-- versions of different cells stay so after one is set
pub apart_set : (list : List CellVersion) (cell : Cell) (place : ℕ) (version : Option ℕ) → AreApart list
    → IsPlaceOf list cell place → AreApart (set list place (versioned cell version))
apart_set list cell place version apart at = λ i j d before inside same.
    apart i j d before (omega (arith, inside, length-set list place (versioned cell version)))
    (sym (cell_at list cell place i version d at) ∙ same ∙ cell_at list cell place j version d at)

-- a place that is made for a cell keeps every version
version_or : (found : Option CellVersion) (b : Bool) (cell : Cell)
    → version_of (option_or found (cond b (Some (versioned cell None)) None)) ≡ version_of found
version_or None true cell = refl
version_or None false cell = refl
version_or (Some one) b cell = refl

-- after a place is made each cell has the version that it had
pub kept_pushed : (list : List CellVersion) (cell c : Cell)
    → version_in_list (list ++ versioned cell None ∷ []) c ≡ version_in_list list c
kept_pushed list cell c =
    ap version_of (find-append (is_of_cell c) list (versioned cell None ∷ []))
    ∙ version_or (find (is_of_cell c) list) (is_cell c cell) cell

some_or : (found other : Option CellVersion) → is_some found ≡ true → is_some (option_or found other) ≡ true
some_or None other found = search (rules, found)
some_or (Some one) other found = refl

or_some : (found : Option CellVersion) (one : CellVersion) → is_some (option_or found (Some one)) ≡ true
or_some None one = refl
or_some (Some other) one = refl

-- a cell that had a place has one yet
pub places_pushed : (list : List CellVersion) (cell c : Cell) → has_cell list c ≡ true
    → has_cell (list ++ versioned cell None ∷ []) c ≡ true
places_pushed list cell c placed =
    ap is_some (find-append (is_of_cell c) list (versioned cell None ∷ []))
    ∙ some_or (find (is_of_cell c) list) (find (is_of_cell c) (versioned cell None ∷ [])) placed

-- the cell for which a place is made has one
pub made_pushed : (list : List CellVersion) (cell : Cell) → has_cell (list ++ versioned cell None ∷ []) cell ≡ true
made_pushed list cell =
    ap is_some (find-append (is_of_cell cell) list (versioned cell None ∷ []))
    ∙ ap (λ b. is_some (option_or (find (is_of_cell cell) list) (cond b (Some (versioned cell None)) None)))
    (is_itself cell)
    ∙ or_some (find (is_of_cell cell) list) (versioned cell None)

-- and no cell has two versions then
no_first : (list : List CellVersion) (cell : Cell) (d : CellVersion) → has_cell list cell ≡ false
    → length list ≤ position_or_len (is_of_cell cell) list
no_first list cell d none = elim (cases_Bool (ltb first (length list))) [
  | inl inside ↦
      let found : find (is_of_cell cell) list ≡ Some (get_or list first d) =
      find_at (is_of_cell cell) list ∙ slice_get-get_or list first d (ltb-true first (length list) inside) in
      let some : has_cell list cell ≡ true = ap is_some found in
      cc
  | inr past ↦ ltb-false first (length list) past
]
  where
    first : ℕ
    first = position_or_len (is_of_cell cell) list

-- versions of different cells stay so after a place is made for another cell
pub apart_pushed : (list : List CellVersion) (cell : Cell) → AreApart list → has_cell list cell ≡ false
    → AreApart (list ++ versioned cell None ∷ [])
apart_pushed list cell apart none =
    all_pairs_push (λ (a b : CellVersion). a.cell ≢ b.cell) list (versioned cell None) apart
    (λ k d inside same.
    let fails = fails_before_first (is_of_cell cell) list k d
    (omega (arith, inside, no_first list cell d none)) in
    let passes : is_cell cell (get_or list k d).cell ≡ true = ap (is_cell cell) same ∙ is_itself cell in
    cc)

-- what is kept twice is kept
pub keeps_more : (old now new : Entries) → KeepsVersions old now → KeepsVersions now new → KeepsVersions old new
keeps_more old now new first then = record {
  same = λ n c. then.same n c ∙ first.same n c;
  places = λ n c placed. then.places n c (first.places n c placed);
}

-- lists that stay keep what they have
pub keeps_lists : (old new : Entries) → HasSameLists old new → KeepsVersions old new
keeps_lists old new same = record {
  same = λ n c. ap (λ (list : List CellVersion). version_in_list list c) (same n);
  places = λ n c placed. ap (λ (list : List CellVersion). has_cell list c) (same n) ∙ placed;
}

-- one more list with nothing is as good as none
pub list_pushed : (lists : Entries) → HasSameLists lists (lists ++ [] ∷ [])
list_pushed [] zero = refl
list_pushed [] (suc n) = refl
list_pushed (list ∷ lists) zero = refl
list_pushed (list ∷ lists) (suc n) = list_pushed lists n

-- a list that keeps what it has, in its place
pub keeps_at : (lists : Entries) (number : ℕ) (list : List CellVersion) → number < length lists
    → ((c : Cell) → version_in_list list c ≡ version_in_list (get_or lists number []) c)
    → ((c : Cell) → has_cell (get_or lists number []) c ≡ true → has_cell list c ≡ true)
    → KeepsVersions lists (set lists number list)
keeps_at lists number list inside same places = record { same = same_at; places = places_at }
  where
    same_at : (n : ℕ) (c : Cell) → kept_version (set lists number list) n c ≡ kept_version lists n c
    same_at n c = elim (cases_Bool (eqb n number)) [
      | inl here ↦ rw (eqb-true n number here)
          (ap (λ (l : List CellVersion). version_in_list l c) (get_or-set_same lists number list [] inside) ∙ same c)
      | inr there ↦ ap (λ (l : List CellVersion). version_in_list l c)
          (get_or-set_other lists number n list [] (eqb-false n number there))
    ]

    places_at : (n : ℕ) (c : Cell) → has_place lists n c ≡ true → has_place (set lists number list) n c ≡ true
    places_at n c = elim (cases_Bool (eqb n number)) [
      | inl here ↦ rw (eqb-true n number here) (λ placed.
          ap (λ (l : List CellVersion). has_cell l c) (get_or-set_same lists number list [] inside) ∙ places c placed)
      | inr there ↦ λ placed. ap (λ (l : List CellVersion). has_cell l c)
          (get_or-set_other lists number n list [] (eqb-false n number there)) ∙ placed
    ]

-- a list in which one version was set, in its place
pub sets_at : (lists : Entries) (number : ℕ) (cell : Cell) (version : Option ℕ) (list : List CellVersion)
    → number < length lists
    → ((c : Cell) → version_in_list list c
    ≡ cond (is_cell cell c) version (version_in_list (get_or lists number []) c))
    → ((c : Cell) → has_cell list c ≡ has_cell (get_or lists number []) c)
    → SetsVersion lists (set lists number list) number cell version
sets_at lists number cell version list inside kept places = record { kept = kept_at; places = places_at }
  where
    here : get_or (set lists number list) number [] ≡ list
    here = get_or-set_same lists number list [] inside

    kept_at : (n : ℕ) (c : Cell) → kept_version (set lists number list) n c
        ≡ cond (is_version_of number cell n c) version (kept_version lists n c)
    kept_at n c = elim (cases_Bool (eqb number n)) [
      | inl own ↦ rw own (subst (λ m. kept_version (set lists number list) m c
          ≡ cond (is_cell cell c) version (kept_version lists m c)) (eqb-true number n own)
          (ap (λ (l : List CellVersion). version_in_list l c) here ∙ kept c))
      | inr other ↦ rw other (ap (λ (l : List CellVersion). version_in_list l c)
          (get_or-set_other lists number n list [] (λ same. eqb-false number n other (sym same))))
    ]

    places_at : (n : ℕ) (c : Cell) → has_place (set lists number list) n c ≡ has_place lists n c
    places_at n c = elim (cases_Bool (eqb number n)) [
      | inl own ↦ subst (λ m. has_place (set lists number list) m c ≡ has_place lists m c) (eqb-true number n own)
          (ap (λ (l : List CellVersion). has_cell l c) here ∙ places c)
      | inr other ↦ ap (λ (l : List CellVersion). has_cell l c)
          (get_or-set_other lists number n list [] (λ same. eqb-false number n other (sym same)))
    ]
