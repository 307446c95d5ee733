-- In which order a cell was asked: by the numbers of its log's entries, where the numbers of what each session asked of
-- it are known.
use Rattle.std.proofs.Common.{◌≡◌, ℕ, ◌+◌, zero, suc, ◌<◌, true, cond, Some, List, [], ◌∷◌}
use Rattle.std.proofs.Common.{◌++◌, length, drop, eqb, eqb-true, filter, map, ap, subst, sym, ◌∙◌, arith, inl, inr}
use Rattle.std.specs.List.{All, slice_get}
use Rattle.std.proofs.lemmas.Bool.{cases_Bool, eqb-false}
use Rattle.std.proofs.lemmas.List.{drop_all}
use Rattle.std.proofs.lemmas.List.Elements.{All-filter, All-head, All-weaker, filter_passes}
use Rattle.std.proofs.lemmas.Option.{slice_get_within}
use Rattle.bsc_table.specs.declared.entry.Entry.{Entry}
use Rattle.book_runs.specs.Live.{Interleaving, asked_by}
use Rattle.book_runs.specs.Run.{Asked, entries_for, given_slot}
use Rattle.book_runs.specs.Sessions.{slot_before, slot_of_entry}
use Rattle.book_runs.proofs.Numbered.{Rise, all_from, from_next, items_at, items_from, no_item, none_from, numbers_of}
use Rattle.book_runs.proofs.Numbered.{only_item}

-- the entry of a number, of what was asked
abbrev pub entry_of : (slots : ℕ) → List Entry → ℕ × Asked → Entry
entry_of slots log x = record {
  command = x.1.command;
  slot = given_slot slots (slot_before log x.0) x.1.at;
  answer = x.1.answer;
}

-- an entry's number is one of this part's, and of no other's
pub record IsOfPart (parts : ℕ → List (ℕ × Asked)) (k part : ℕ) : Type 0 where
  pub once : length (items_at k (parts part)) ≡ 1
  pub others : (q : ℕ) → (part ≡ q → ⊥) → length (items_at k (parts q)) ≡ 0

-- what each part asked, numbered by a log's entries: its numbers rise, the log has the entries, and each of the log's
-- is of one part
pub record AreParts (slots : ℕ) (log : List Entry) (parts : ℕ → List (ℕ × Asked)) : Type 0 where
  pub rise : (q : ℕ) → Rise (numbers_of (parts q))
  pub stand : (q : ℕ) → All (λ x. slice_get log x.0 ≡ Some (entry_of slots log x)) (parts q)
  pub each : (k : ℕ) → k < length log → (part : ℕ) × IsOfPart parts k part

-- the order of what was asked from a number on
record IsOrderFrom (slots : ℕ) (log : List Entry) (parts : ℕ → List (ℕ × Asked)) (k : ℕ) : Type 0 where
  order : Interleaving
  own : (q : ℕ) → asked_by q order ≡ map (λ x. x.1) (items_from k (parts q))
  entries : entries_for slots (slot_before log k) (map (λ a. a.1) order) ≡ drop k log

same_element : {X : Type 0} (x y : X) → Some x ≡ Some y → x ≡ y
same_element x y same = cc

found_next : {X : Type 0} (xs : List X) (k : ℕ) (x : X) → slice_get xs k ≡ Some x → drop k xs ≡ x ∷ drop (suc k) xs
found_next [] k x is = absurd (cc)
found_next (y ∷ xs) zero x is = ap (λ z. z ∷ xs) (same_element y x is)
found_next (y ∷ xs) (suc k) x is = found_next xs k x is

-- the entry of a number comes before those of greater ones
next_item : (slots : ℕ) (log : List Entry) (parts : ℕ → List (ℕ × Asked)) (k : ℕ) → AreParts slots log parts
    → k < length log → IsOrderFrom slots log parts (suc k) → IsOrderFrom slots log parts k
next_item slots log parts k are within rest =
    let found = are.each k within in
    let part : ℕ = found.0 in
    let only = only_item (items_at k (parts part)) found.1.once in
    let x : ℕ × Asked = only.0 in
    let Has : ℕ × Asked → Type 0 = λ y. slice_get log y.0 ≡ Some (entry_of slots log y) in
    let number : x.0 ≡ k = eqb-true x.0 k (All-head (λ (y : ℕ × Asked). eqb y.0 k ≡ true) x []
    (subst (All (λ (y : ℕ × Asked). eqb y.0 k ≡ true)) only.1 (filter_passes (λ (y : ℕ × Asked). eqb y.0 k)
    (parts part)))) in
    let stands : Has x = All-head Has x [] (subst (All Has) only.1
    (All-filter (λ (y : ℕ × Asked). eqb y.0 k) Has (parts part) (are.stand part))) in
    let here : slice_get log k ≡ Some (entry_of slots log (k, x.1)) =
    subst (λ n. slice_get log n ≡ Some (entry_of slots log (n, x.1))) number stands in
    record {
      order = (part, x.1) ∷ rest.order;
      own = λ q. own found.1 x only.1 q;
      entries = ap (λ s. entry_of slots log (k, x.1) ∷ entries_for slots s (map (λ a. a.1) rest.order))
          (sym (ap slot_of_entry here))
          ∙ ap (λ later. entry_of slots log (k, x.1) ∷ later) rest.entries
          ∙ sym (found_next log k (entry_of slots log (k, x.1)) here);
    }
  where
    own : {part : ℕ} → IsOfPart parts k part → (x : ℕ × Asked) → items_at k (parts part) ≡ x ∷ [] → (q : ℕ)
        → asked_by q ((part, x.1) ∷ rest.order) ≡ map (λ y. y.1) (items_from k (parts q))
    own {part = part} is x only q =
        let kept : Interleaving = filter (λ (a : ℕ × Asked). eqb a.0 q) rest.order in
        let later : List (ℕ × Asked) = items_from (suc k) (parts q) in
        let split = from_next k (parts q) (are.rise q) in
        elim (cases_Bool (eqb part q)) [
          | inl same ↦
              let at : items_at k (parts q) ≡ x ∷ [] =
              subst (λ n. items_at k (parts n) ≡ x ∷ []) (eqb-true part q same) only in
              ap (λ b. map (λ (a : ℕ × Asked). a.1) (cond b ((part, x.1) ∷ kept) kept)) same
              ∙ ap (λ more. x.1 ∷ more) (rest.own q)
              ∙ sym (ap (map (λ (y : ℕ × Asked). y.1)) (split ∙ ap (λ first. first ++ later) at))
          | inr other ↦
              let at : items_at k (parts q) ≡ [] =
              no_item (items_at k (parts q)) (is.others q (eqb-false part q other)) in
              ap (λ b. map (λ (a : ℕ × Asked). a.1) (cond b ((part, x.1) ∷ kept) kept)) other
              ∙ rest.own q
              ∙ sym (ap (map (λ (y : ℕ × Asked). y.1)) (split ∙ ap (λ first. first ++ later) at))
        ]

order_from : (slots : ℕ) (log : List Entry) (parts : ℕ → List (ℕ × Asked)) → AreParts slots log parts
    → (left k : ℕ) → left + k ≡ length log → IsOrderFrom slots log parts k
order_from slots log parts are zero k whole = record {
  order = [];
  own = λ q. ap (map (λ (x : ℕ × Asked). x.1)) (sym (none_from k (parts q) (All-weaker
      (λ (x : ℕ × Asked). slice_get log x.0 ≡ Some (entry_of slots log x)) (λ (x : ℕ × Asked). x.0 < k)
      (λ x stands. within x.0 (slice_get_within log x.0 (entry_of slots log x) stands)) (parts q) (are.stand q))));
  entries = sym (drop_all k log (omega (arith, whole)));
}
  where
    within : (n : ℕ) → n < length log → n < k
    within n below = omega (arith, whole)
order_from slots log parts are (suc left) k whole =
    next_item slots log parts k are (omega (arith, whole))
    (order_from slots log parts are left (suc k) (omega (arith, whole)))

-- so all that was asked has an order
pub record IsOrderOf (slots : ℕ) (log : List Entry) (parts : ℕ → List (ℕ × Asked)) : Type 0 where
  pub order : Interleaving
  pub own : (q : ℕ) → asked_by q order ≡ map (λ x. x.1) (parts q)
  pub entries : log ≡ entries_for slots 0 (map (λ a. a.1) order)

-- the parts of a log have an interleaving of which the log is the record
pub order_of_parts : (slots : ℕ) (log : List Entry) (parts : ℕ → List (ℕ × Asked)) → AreParts slots log parts
    → IsOrderOf slots log parts
order_of_parts slots log parts are =
    let whole = order_from slots log parts are (length log) 0 (omega arith) in record {
      order = whole.order;
      own = λ q. whole.own q ∙ ap (map (λ (x : ℕ × Asked). x.1)) (all_from (parts q));
      entries = sym whole.entries;
    }
