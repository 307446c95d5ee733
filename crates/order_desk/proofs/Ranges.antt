-- Ranges of slots that follow each other, as one.
use Rattle.std.proofs.Common.{◌≡◌, ◌∙◌, ℕ, ◌+◌, ◌<◌, ◌≤◌, ◌&&◌, Bool, true, false, refl, sym, ap, cond, leb, ltb}
use Rattle.std.proofs.Common.{List, [], ◌∷◌, ◌++◌, length, filter, inl, inr, arith}
use Rattle.std.specs.List.{list_all}
use Rattle.std.proofs.lemmas.Bool.{cases_lt, lt-ltb, le-leb, lt-leb, le-ltb}
use Rattle.std.proofs.lemmas.List.Folds.{list_all-append}
use Rattle.bsc_table.specs.declared.entry.SlotRange.{SlotRange}
use Rattle.order_desk.specs.SettleSteps.{AreLike, ends_by, has_slot}
use Rattle.order_desk.proofs.Tallied.{count_with}

-- of two ranges that follow each other, a slot is in one, if it is in both together
joined_slots : (from middle to slot : ℕ) → from ≤ middle → middle ≤ to
    → cond (leb from slot && ltb slot to) 1 0
    ≡ cond (leb from slot && ltb slot middle) 1 0 + cond (leb middle slot && ltb slot to) 1 0
joined_slots from middle to slot first last = elim (cases_lt slot middle) [
  | inl less ↦ low (leb from slot) (ltb slot to) (ltb slot middle) (leb middle slot)
      (lt-ltb slot to (under less)) (lt-ltb slot middle less) (lt-leb middle slot less)
  | inr more ↦ high (leb from slot) (ltb slot to) (ltb slot middle) (leb middle slot)
      (le-leb from slot (over more)) (le-ltb slot middle more) (le-leb middle slot more)
]
  where
    under : slot < middle → slot < to
    under less = omega arith

    over : middle ≤ slot → from ≤ slot
    over more = omega arith

    low : (a b m n : Bool) → b ≡ true → m ≡ true → n ≡ false
        → cond (a && b) 1 0 ≡ cond (a && m) 1 0 + cond (n && b) 1 0
    low a b m n is_b is_m is_n = grind arith

    high : (a b m n : Bool) → a ≡ true → m ≡ false → n ≡ true
        → cond (a && b) 1 0 ≡ cond (a && m) 1 0 + cond (n && b) 1 0
    high a b m n is_a is_m is_n = grind arith

-- and they end by a slot, if the last one does
joined_end : (all : Bool) (middle to slot : ℕ) → middle ≤ to
    → (all && (leb to slot && true)) ≡ ((all && (leb middle slot && true)) && (leb to slot && true))
joined_end all middle to slot last = elim (cases_lt slot to) [
  | inl less ↦ none all (leb middle slot) (leb to slot) (lt-leb to slot less)
  | inr more ↦ both all (leb middle slot) (leb to slot) (le-leb middle slot (before more))
]
  where
    before : to ≤ slot → middle ≤ slot
    before more = omega arith

    none : (all m t : Bool) → t ≡ false → (all && (t && true)) ≡ ((all && (m && true)) && (t && true))
    none all m t is = grind arith

    both : (all m t : Bool) → m ≡ true → (all && (t && true)) ≡ ((all && (m && true)) && (t && true))
    both all m t is = grind arith

-- a range that follows the last one makes that longer
pub joined : (ranges : List SlotRange) (last range : SlotRange)
    → last.from ≤ last.to
    → last.to ≡ range.from
    → range.from ≤ range.to
    → AreLike (ranges ++ record { from = last.from; to = range.to } ∷ []) ((ranges ++ last ∷ []) ++ range ∷ [])
joined ranges last range first follows next = record {
  slots = λ slot. count_with (has_slot slot) ranges whole
      ∙ sum (length (filter (has_slot slot) ranges)) (cond (has_slot slot whole) 1 0) (cond (has_slot slot last) 1 0)
      (cond (has_slot slot range) 1 0) (length (filter (has_slot slot) (ranges ++ last ∷ [])))
      (length (filter (has_slot slot) ((ranges ++ last ∷ []) ++ range ∷ []))) (slots slot)
      (count_with (has_slot slot) ranges last) (count_with (has_slot slot) (ranges ++ last ∷ []) range);
  ends = λ slot. list_all-append (ends_by slot) ranges (whole ∷ [])
      ∙ (joined_end (list_all (ends_by slot) ranges) last.to range.to slot ends
      ∙ (ap (λ b. b && (ends_by slot range && true)) (sym (list_all-append (ends_by slot) ranges (last ∷ [])))
      ∙ sym (list_all-append (ends_by slot) (ranges ++ last ∷ []) (range ∷ []))));
}
  where
    whole : SlotRange
    whole = record { from = last.from; to = range.to }

    ends : last.to ≤ range.to
    ends = omega (arith, follows, next)

    slots : (slot : ℕ) → cond (has_slot slot whole) 1 0 ≡ cond (has_slot slot last) 1 0 + cond (has_slot slot range) 1 0
    slots slot = joined_slots last.from last.to range.to slot first ends
        ∙ ap (λ n. cond (has_slot slot last) 1 0 + cond (leb n slot && ltb slot range.to) 1 0) follows

    sum : (n w l r one both : ℕ) → w ≡ l + r → one ≡ n + l → both ≡ one + r → n + w ≡ both
    sum n w l r one both is_w is_one is_both = omega arith

-- all ranges end by a slot, if the last one does and those before it do
pub all_end : (slot : ℕ) (ranges : List SlotRange) (last : SlotRange)
    → list_all (ends_by slot) (ranges ++ last ∷ []) ≡ (leb last.to slot && list_all (ends_by slot) ranges)
all_end slot ranges last = list_all-append (ends_by slot) ranges (last ∷ [])
    ∙ turned (list_all (ends_by slot) ranges) (leb last.to slot)
  where
    turned : (a b : Bool) → (a && (b && true)) ≡ (b && a)
    turned true true = refl
    turned true false = refl
    turned false true = refl
    turned false false = refl
