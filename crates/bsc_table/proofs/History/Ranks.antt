-- Background messages and the others: what their categories say of their layers, and which of them claim something.
use Rattle.std.proofs.Common.{◌≡◌, ℕ, zero, suc, ◌<◌, ◌==◌, Bool, true, false, cond, not, List, [], ◌∷◌, ◌++◌, map}
use Rattle.std.proofs.Common.{filter, get_or, Some, refl, ap, sym, subst, ◌∙◌, inl, inr, arith}
use Rattle.std.specs.List.{All, AllPairs, Contains}
use Rattle.std.proofs.lemmas.Bool.{cases_Bool, eqb-true, eq-eqb, ne_eqb, false≢true}
use Rattle.std.proofs.lemmas.List.{append-nil, map-append, get_or-map, length-map}
use Rattle.std.proofs.lemmas.List.Elements.{All-filter, All-head, All-tail, All-contains_itself, filter-append}
use Rattle.std.proofs.lemmas.List.Elements.{filter_passes}
use Rattle.scheduler.specs.Air.{layer, layer_of}
use Rattle.bsc_table.specs.declared.command.Category.{Category}
use Rattle.bsc_table.specs.declared.command.Category.TheVariants.{High, Normal, Background}
use Rattle.bsc_table.specs.Claim.{Claim, reserves, stop_claim, stop_claims}
use Rattle.bsc_table.specs.Record.{Accepted, rank_of, is_background_category, claim_of, claims_of}
use Rattle.bsc_table.proofs.Room.Ahead.{by_number}
use Rattle.bsc_table.proofs.History.Pairs.{BelowIt}

-- the category says the layer
pub in_front : (category : Category) → is_background_category category ≡ false → layer_of (rank_of category) ≡ 0
in_front High is = refl
in_front Normal is = refl
in_front Background is = absurd (false≢true (sym is))

-- a background message isn't in the front layer
pub not_in_front : (category : Category) → is_background_category category ≡ true → layer_of (rank_of category) ≡ 0 → ⊥
not_in_front High is front = false≢true is
not_in_front Normal is front = false≢true is
not_in_front Background is front = omega arith

-- and what is in the front layer isn't background
pub is_front : (category : Category) → layer_of (rank_of category) ≡ 0 → is_background_category category ≡ false
is_front High front = refl
is_front Normal front = refl
is_front Background front = absurd (omega arith)

-- the test of the layer is that of the category
pub layer_tells : (category : Category) → (layer_of (rank_of category) == 0) ≡ not (is_background_category category)
layer_tells High = refl
layer_tells Normal = refl
layer_tells Background = refl

-- what passes a filter, and is there, is in what it leaves
pub Contains-filter : {X : Type 0} (p : X → Bool) (xs : List X) (x : X)
    → Contains xs x
    → p x ≡ true
    → Contains (filter p xs) x
Contains-filter p [] x here passes = absurd (omega (arith, here.1))
Contains-filter p (y ∷ xs) x (zero, within, is) passes =
    let first : p y ≡ true = ap p is ∙ passes in
    subst (λ (b : Bool). Contains (cond b (y ∷ filter p xs) (filter p xs)) x) (sym first) (0, omega arith, is)
Contains-filter p (y ∷ xs) x (suc k, within, is) passes =
    let rest = Contains-filter p xs x (k, omega arith, is) passes in
    elim (cases_Bool (p y)) [
      | inl first ↦ subst (λ (b : Bool). Contains (cond b (y ∷ filter p xs) (filter p xs)) x) (sym first)
          (suc rest.0, omega (arith, rest.1), rest.2)
      | inr fails ↦ subst (λ (b : Bool). Contains (cond b (y ∷ filter p xs) (filter p xs)) x) (sym fails) rest
    ]

-- the claims of all, of which those that reserve are what is claimed
abbrev pub all_claims : List Accepted → List Claim
all_claims all = map claim_of all

its_place : (all : List Accepted) (a : Accepted) → Contains all a → Contains (all_claims all) (claim_of a)
its_place all a here = (
  here.0,
  omega (arith, here.1, length-map all claim_of),
  get_or-map claim_of all here.0 a (claim_of a) here.1
      ∙ ap claim_of here.2,
)

-- an accepted message that isn't background has its claim
pub its_claim : (all : List Accepted) (a : Accepted)
    → Contains all a
    → layer a.message ≡ 0
    → Contains (claims_of all) (claim_of a)
its_claim all a here front =
    Contains-filter reserves (all_claims all) (claim_of a) (its_place all a here) (eq-eqb (layer a.message) 0 front)

its_place_of : (all : List Accepted) → All (Contains (all_claims all)) (claims_of all)
its_place_of all = All-filter reserves (Contains (all_claims all)) (all_claims all)
    (All-contains_itself (all_claims all))

claims_rise : (all : List Accepted)
    → AllPairs BelowIt all
    → AllPairs (λ x y. x.message.entry < y.message.entry) (all_claims all)
claims_rise all rising = λ i j d before within.
    let default : Accepted = record {
      id = 0;
      serial = 0;
      accepted = 0;
      behind = d.behind;
      excess = 0;
      message =
          d.message;
    } in
    let long = length-map all claim_of in
    let first = ap (λ (c : Claim). c.message.entry) (get_or-map claim_of all i default d (omega arith)) in
    let second = ap (λ (c : Claim). c.message.entry) (get_or-map claim_of all j default d (omega arith)) in
    omega (arith, first, second, rising i j default before (omega arith))

-- the message of that number is this one
pub same_claim : (all : List Accepted) (a : Accepted)
    → AllPairs BelowIt all
    → Contains all a
    → All (λ c. c.message.entry ≡ a.message.entry → c ≡ claim_of a) (claims_of all)
same_claim all a rising here = λ k d within. λ same.
    by_number (all_claims all) (get_or (claims_of all) k d) (claim_of a) (claims_rise all rising)
    (its_place_of all k d within) (its_place all a here) same

-- what changes no claim changes no list of them
map_same : (f : Claim → Claim) (claims : List Claim) → All (λ c. f c ≡ c) claims → map f claims ≡ claims
map_same f [] all = refl
map_same f (c ∷ claims) all =
    let Same : Claim → Type 0 = λ x. f x ≡ x in
    ap (λ (x : Claim). x ∷ map f claims) (All-head Same c claims all)
    ∙ ap (λ (l : List Claim). c ∷ l) (map_same f claims (All-tail Same c claims all))

-- a stop of a background message changes no claim
pub same_claims : (entry slot : ℕ) (all : List Accepted) (a : Accepted)
    → AllPairs BelowIt all
    → Contains all a
    → a.message.entry ≡ entry
    → (layer a.message ≡ 0 → ⊥)
    → stop_claims entry slot (claims_of all) ≡ claims_of all
same_claims entry slot all a rising here named back =
    map_same (stop_claim entry slot) (claims_of all) (λ k d h.
    let c : Claim = get_or (claims_of all) k d in
    let front : layer c.message ≡ 0 = eqb-true (layer c.message) 0 (filter_passes reserves (all_claims all) k d h) in
    elim (cases_Bool (c.message.entry == entry)) [
      | inl its ↦
          let same = same_claim all a rising here k d h (eqb-true c.message.entry entry its ∙ sym named) in
          absurd (back (sym (ap (λ (x : Claim). layer x.message) same) ∙ front))
      | inr other ↦ unstopped c (c.message.entry == entry) other
    ])
  where
    unstopped : (c : Claim) (says : Bool) → says ≡ false → (record c
        { message = record (c.message) { stop = cond says (Some slot) c.message.stop } }) ≡ c
    unstopped c true e = absurd (false≢true (sym e))
    unstopped c false e = refl

-- the claims with one more
pub claims_more : (all : List Accepted) (a : Accepted)
    → claims_of (all ++ a ∷ []) ≡ claims_of all ++ filter reserves (claim_of a ∷ [])
claims_more all a =
    ap (filter reserves) (map-append claim_of all (a ∷ [])) ∙ filter-append reserves (all_claims all) (claim_of a ∷ [])

-- one more message adds its claim
pub claims_more_front : (all : List Accepted) (a : Accepted)
    → layer a.message ≡ 0
    → claims_of (all ++ a ∷ []) ≡ claims_of all ++ claim_of a ∷ []
claims_more_front all a front =
    claims_more all a ∙ ap (λ (b : Bool). claims_of all ++ cond b (claim_of a ∷ []) [])
    (eq-eqb (layer a.message) 0 front)

-- unless it is background
pub claims_more_back : (all : List Accepted) (a : Accepted)
    → (layer a.message ≡ 0 → ⊥)
    → claims_of (all ++ a ∷ []) ≡ claims_of all
claims_more_back all a back =
    claims_more all a ∙ ap (λ (b : Bool). claims_of all ++ cond b (claim_of a ∷ []) [])
    (ne_eqb (layer a.message) 0 back) ∙ append-nil (claims_of all)
