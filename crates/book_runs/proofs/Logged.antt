-- Records whose logs have the entries of what their cells were asked in some exchanges, in whichever order: those of a
-- run of one session, and those of a run of several.
use Rattle.std.proofs.Common.{◌≡◌, ℕ, zero, suc, Bool, true, false, cond, List, [], ◌∷◌, get_or, map}
use Rattle.std.proofs.Common.{◌⊎◌, eqb, filter, inl, inr, refl, subst, sym, arith}
use Rattle.std.specs.List.{All, Contains, flat_map}
use Rattle.std.proofs.lemmas.Bool.{eq-eqb}
use Rattle.std.proofs.lemmas.List.Elements.{All-cons, All-contains_itself, All-map, All-nil, All-weaker}
use Rattle.std.proofs.lemmas.List.Elements.{Contains-append_cases, Contains-append_left, Contains-append_right}
use Rattle.std.proofs.lemmas.List.Concat.{flat_map-append}
use Rattle.cbsp_wire.specs.declared.message.Cell.{Cell}
use Rattle.bsc_table.specs.Legal.{IsLegal}
use Rattle.bsc_table.specs.Record.{Record}
use Rattle.book_runs.specs.Live.{IsRunBy, Interleaving, asked_by}
use Rattle.book_runs.specs.Run.{Asked, Exchange, IsRunOfBook, asked_in, asked_of, entries_for}

-- a finished legal record with these entries: all of what was asked, and of nothing else
pub record HasLogOf (slots : ℕ) (exchanges : List Exchange) (r : Record) : Type 0 where
  pub run : r.slots ≡ slots
  pub over : r.clock ≡ slots
  pub legal : IsLegal r
  pub asked : List Asked
  pub entries : r.log ≡ entries_for slots 0 asked
  pub each : All (Contains (asked_of r.cell exchanges)) asked
  pub every : All (Contains asked) (asked_of r.cell exchanges)

-- a record of a run of one session is one
pub log_of_run : (slots : ℕ) (exchanges : List Exchange) (r : Record) → IsRunOfBook slots exchanges r
    → HasLogOf slots exchanges r
log_of_run slots exchanges r run = record {
  run = run.run;
  over = run.over;
  legal = run.legal;
  asked = asked_of r.cell exchanges;
  entries = run.entries;
  each = All-contains_itself (asked_of r.cell exchanges);
  every = All-contains_itself (asked_of r.cell exchanges);
}

-- all exchanges of sessions
abbrev pub joined : List (List Exchange) → List Exchange
joined sessions = flat_map (λ (exchanges : List Exchange). exchanges) sessions

-- what a session asked was asked in all of them
session_asks : (cell : Cell) (sessions : List (List Exchange)) (part : ℕ) (a : Asked)
    → Contains (asked_of cell (get_or sessions part [])) a → Contains (asked_of cell (joined sessions)) a
session_asks cell [] part a there = there
session_asks cell (exchanges ∷ sessions) zero a there =
    subst (λ (all : List Asked). Contains all a) (sym (flat_map-append (asked_in cell) exchanges (joined sessions)))
    (Contains-append_left (asked_of cell exchanges) (asked_of cell (joined sessions)) a there)
session_asks cell (exchanges ∷ sessions) (suc part) a there =
    subst (λ (all : List Asked). Contains all a) (sym (flat_map-append (asked_in cell) exchanges (joined sessions)))
    (Contains-append_right (asked_of cell exchanges) (asked_of cell (joined sessions)) a
    (session_asks cell sessions part a there))

-- and what was asked in all of them, in one
of_a_session : (cell : Cell) (sessions : List (List Exchange)) (a : Asked)
    → Contains (asked_of cell (joined sessions)) a
    → (part : ℕ) × Contains (asked_of cell (get_or sessions part [])) a
of_a_session cell [] a there = (0, there)
of_a_session cell (exchanges ∷ sessions) a there =
    by_side (Contains-append_cases (asked_of cell exchanges) (asked_of cell (joined sessions)) a
    (subst (λ (all : List Asked). Contains all a) (flat_map-append (asked_in cell) exchanges (joined sessions)) there))
    (λ later. of_a_session cell sessions a later)
  where
    by_side : Contains (asked_of cell exchanges) a ⊎ Contains (asked_of cell (joined sessions)) a
        → (Contains (asked_of cell (joined sessions)) a
        → (part : ℕ) × Contains (asked_of cell (get_or sessions part [])) a)
        → (part : ℕ) × Contains (asked_of cell (get_or (exchanges ∷ sessions) part [])) a
    by_side (inl here) go = (0, here)
    by_side (inr later) go = let there = go later in (suc there.0, there.1)

-- an element of an order is one of its part's
contains_first : {X : Type 0} (x : X) (xs : List X) → Contains (x ∷ xs) x
contains_first x xs = (0, omega arith, refl)

contains_later : {X : Type 0} (x y : X) (ys : List X) → Contains ys x → Contains (y ∷ ys) x
contains_later x y ys there = (suc there.0, omega (arith, there.1), there.2)

-- what stands in an interleaving with a part is among what that part's session asked
pub each_asked : (order : Interleaving)
    → All (λ (a : ℕ × Asked). Contains (asked_by a.0 order) a.1) order
each_asked [] = All-nil (λ (a : ℕ × Asked). Contains (asked_by a.0 []) a.1)
each_asked (first ∷ order) =
    All-cons (λ (a : ℕ × Asked). Contains (asked_by a.0 (first ∷ order)) a.1) first order
    (subst (λ b. Contains (map (λ (a : ℕ × Asked). a.1) (cond b (first ∷ kept first.0) (kept first.0))) first.1)
    (sym (eq-eqb first.0 first.0 refl)) (contains_first first.1 (asked_by first.0 order)))
    (All-weaker (λ (a : ℕ × Asked). Contains (asked_by a.0 order) a.1)
    (λ (a : ℕ × Asked). Contains (asked_by a.0 (first ∷ order)) a.1)
    (λ a there. more a (eqb first.0 a.0) there) order (each_asked order))
  where
    kept : ℕ → Interleaving
    kept part = filter (λ (a : ℕ × Asked). eqb a.0 part) order

    more : (a : ℕ × Asked) (b : Bool) → Contains (asked_by a.0 order) a.1
        → Contains (map (λ (x : ℕ × Asked). x.1) (cond b (first ∷ filter (λ (x : ℕ × Asked). eqb x.0 a.0) order)
        (filter (λ (x : ℕ × Asked). eqb x.0 a.0) order))) a.1
    more a true there = contains_later a.1 first.1 (asked_by a.0 order) there
    more a false there = there

-- and one of a part's is an element of the order
part_asked : (part : ℕ) (order : Interleaving) (a : Asked) → Contains (asked_by part order) a
    → Contains (map (λ x. x.1) order) a
part_asked part [] a there = there
part_asked part (first ∷ order) a there =
    by_part (eqb first.0 part) there (λ later. part_asked part order a later)
  where
    by_part : (b : Bool)
        → Contains (map (λ (x : ℕ × Asked). x.1) (cond b (first ∷ filter (λ (x : ℕ × Asked). eqb x.0 part) order)
        (filter (λ (x : ℕ × Asked). eqb x.0 part) order))) a
        → (Contains (asked_by part order) a → Contains (map (λ x. x.1) order) a)
        → Contains (map (λ (x : ℕ × Asked). x.1) (first ∷ order)) a
    by_part true (zero, within, is) go = (zero, omega arith, is)
    by_part true (suc k, within, is) go =
        contains_later a first.1 (map (λ (x : ℕ × Asked). x.1) order) (go (k, omega (arith, within), is))
    by_part false there go = contains_later a first.1 (map (λ (x : ℕ × Asked). x.1) order) (go there)

-- so a record of a run of several is one of all their exchanges
pub log_of_sessions : (slots : ℕ) (sessions : List (List Exchange)) (r : Record) → IsRunBy slots sessions r
    → HasLogOf slots (joined sessions) r
log_of_sessions slots sessions r by =
    let all : List Asked = asked_of r.cell (joined sessions) in record {
      run = by.run;
      over = by.over;
      legal = by.legal;
      asked = map (λ a. a.1) by.order;
      entries = by.entries;
      each = All-map (Contains (asked_of r.cell (joined sessions))) (λ (a : ℕ × Asked). a.1) by.order
          (All-weaker (λ (a : ℕ × Asked). Contains (asked_by a.0 by.order) a.1)
          (λ (a : ℕ × Asked). Contains (asked_of r.cell (joined sessions)) a.1)
          (λ a there. session_asks r.cell sessions a.0 a.1
          (subst (λ (list : List Asked). Contains list a.1) (by.own a.0) there)) by.order (each_asked by.order));
      every = All-weaker (Contains all) (Contains (map (λ a. a.1) by.order))
          (λ a there. let one = of_a_session r.cell sessions a there in
          part_asked one.0 by.order a (subst (λ (list : List Asked). Contains list a) (sym (by.own one.0)) one.1)) all
          (All-contains_itself all);
    }
