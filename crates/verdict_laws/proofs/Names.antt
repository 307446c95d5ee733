-- No two messages that a legal history accepted have one identifier and serial number: so no row begins what another
-- row began.
use Rattle.std.proofs.Common.{◌≡◌, true, false, List, [], ◌∷◌, ◌++◌, refl, sym, ap, ◌∙◌}
use Rattle.std.proofs.Common.{arith, inl, inr, suc}
use Rattle.std.specs.Prelude.{⊤, ◌&&◌, ◌||◌, ◌==◌}
use Rattle.std.specs.List.{All, AllByRecursion, AllPairs, list_any}
use Rattle.std.proofs.lemmas.Bool.{and_parts, cases_Bool, eq-eqb, eqb-true, false≢true}
use Rattle.std.proofs.lemmas.List.Elements.{recursion_from_All}
use Rattle.bsc_table.specs.declared.entry.Entry.{Entry}
use Rattle.bsc_table.specs.Record.{Accepted, accepted_in}
use Rattle.bsc_table.proofs.History.Pairs.{AllPairs-tail}
use Rattle.composition.proofs.Laws.{OfAnotherPair}
use Rattle.verification.specs.Asked.{AskedMessage, asked_of_log}
use Rattle.verification_laws.proofs.AskedOf.{AreComing, IsComing, asked_are_accepted}
use Rattle.verdict_laws.proofs.Rows.{is_named}

-- a message hasn't the name of another one
abbrev pub IsOther : AskedMessage → AskedMessage → Type 0
IsOther a x = is_named x.id x.serial a ≡ false

-- no two of a list have one name
abbrev pub AreApart : List AskedMessage → Type 0
AreApart [] = ⊤
AreApart (a ∷ xs) = AllByRecursion (IsOther a) xs × AreApart xs

-- it is so both ways
named-back : (a x : AskedMessage) → is_named a.id a.serial x ≡ true → is_named x.id x.serial a ≡ true
named-back a x is =
    let parts = and_parts (a.id == x.id) (a.serial == x.serial) is in
    ap (λ here. here && (x.serial == a.serial)) (eq-eqb x.id a.id (sym (eqb-true a.id x.id parts.0)))
    ∙ eq-eqb x.serial a.serial (sym (eqb-true a.serial x.serial parts.1))

-- so being another is so both ways
pub other-back : (a x : AskedMessage) → IsOther a x → IsOther x a
other-back a x other =
    elim (cases_Bool (is_named a.id a.serial x)) [
      | inl is ↦ absurd (false≢true (sym other ∙ named-back a x is))
      | inr not_it ↦ not_it
    ]

-- none of a list has the name of one that is apart from all of it
pub none-named : (a : AskedMessage) (xs : List AskedMessage) → AllByRecursion (IsOther a) xs →
    list_any (is_named a.id a.serial) xs ≡ false
none-named a [] all = refl
none-named a (x ∷ xs) all =
    ap (λ here. here || list_any (is_named a.id a.serial) xs) (other-back a x all.0) ∙ none-named a xs all.1

-- and none of a front has that of one behind it
pub none-before : (xs ys : List AskedMessage) → AreApart (xs ++ ys) →
    AllByRecursion (λ y. list_any (is_named y.id y.serial) xs ≡ false) ys
none-before [] ys apart = each ys
  where
    each : (ys : List AskedMessage) → AllByRecursion (λ (y : AskedMessage). false ≡ false) ys
    each [] = tt
    each (y ∷ ys) = (refl, each ys)
none-before (x ∷ xs) ys apart = both ys (behind xs ys apart.0) (none-before xs ys apart.1)
  where
    behind : (xs ys : List AskedMessage) → AllByRecursion (IsOther x) (xs ++ ys) → AllByRecursion (IsOther x) ys
    behind [] ys all = all
    behind (z ∷ xs) ys all = behind xs ys all.1

    both : (ys : List AskedMessage) → AllByRecursion (IsOther x) ys →
        AllByRecursion (λ (y : AskedMessage). list_any (is_named y.id y.serial) xs ≡ false) ys →
        AllByRecursion (λ (y : AskedMessage). list_any (is_named y.id y.serial) (x ∷ xs) ≡ false) ys
    both [] others none = tt
    both (y ∷ ys) others none = (
      ap (λ here. here || list_any (is_named y.id y.serial) xs) others.0 ∙ none.0,
      both ys others.1 none.1,
    )

-- nor the other way round
pub none-behind : (xs ys : List AskedMessage) → AreApart (xs ++ ys) →
    AllByRecursion (λ x. list_any (is_named x.id x.serial) ys ≡ false) xs
none-behind [] ys apart = tt
none-behind (x ∷ xs) ys apart = (none-named x ys (behind xs ys apart.0), none-behind xs ys apart.1)
  where
    behind : (xs ys : List AskedMessage) → AllByRecursion (IsOther x) (xs ++ ys) → AllByRecursion (IsOther x) ys
    behind [] ys all = all
    behind (z ∷ xs) ys all = behind xs ys all.1

-- what stands behind is apart, too
pub apart-behind : (xs ys : List AskedMessage) → AreApart (xs ++ ys) → AreApart ys
apart-behind [] ys apart = apart
apart-behind (x ∷ xs) ys apart = apart-behind xs ys apart.1

-- what was asked is apart, as what was accepted is
others-of : (log : List Entry) (a : AskedMessage) (b : Accepted) (xs : List AskedMessage) (bs : List Accepted) →
    IsComing log [] a b → AreComing log [] xs bs → AllByRecursion (OfAnotherPair b) bs → AllByRecursion (IsOther a) xs
others-of log a b [] [] same all others = tt
others-of log a b [] (c ∷ bs) same all others = absurd all
others-of log a b (x ∷ xs) [] same all others = absurd all
others-of log a b (x ∷ xs) (c ∷ bs) same all others = (
  ap (λ id. (id == a.id) && (x.serial == a.serial)) all.0.id_is
      ∙ ap (λ id. (c.id == id) && (x.serial == a.serial)) same.id_is
      ∙ ap (λ serial. (c.id == b.id) && (serial == a.serial)) all.0.serial_is
      ∙ ap (λ serial. (c.id == b.id) && (c.serial == serial)) same.serial_is
      ∙ others.0,
  others-of log a b xs bs same all.1 others.1,
)

head-others : (b : Accepted) (bs : List Accepted) → AllPairs OfAnotherPair (b ∷ bs) → All (OfAnotherPair b) bs
head-others b bs pairs = λ k d within. pairs 0 (suc k) d (omega arith) (omega (arith, within))

apart-of : (log : List Entry) (xs : List AskedMessage) (bs : List Accepted) → AreComing log [] xs bs →
    AllPairs OfAnotherPair bs → AreApart xs
apart-of log [] [] all pairs = tt
apart-of log [] (b ∷ bs) all pairs = absurd all
apart-of log (a ∷ xs) [] all pairs = absurd all
apart-of log (a ∷ xs) (b ∷ bs) all pairs = (
  others-of log a b xs bs all.0 all.1
      (recursion_from_All (OfAnotherPair b) bs (head-others b bs pairs)),
  apart-of log xs bs all.1 (AllPairs-tail OfAnotherPair b bs pairs),
)

-- those of a log whose pairs come once
pub asked-apart : (log : List Entry) → AllPairs OfAnotherPair (accepted_in log) → AreApart (asked_of_log log)
asked-apart log pairs = apart-of log (asked_of_log log) (accepted_in log) (asked_are_accepted log) pairs
