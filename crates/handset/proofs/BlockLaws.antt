-- Pages in a list of blocks, one block after another.
use Rattle.std.proofs.Common.{◌≡◌, ◌≢◌, ℕ, ◌≤◌, Bool, true, false, eqb, List, [], ◌∷◌, ◌++◌, length, take, map, refl}
use Rattle.std.proofs.Common.{sym, ◌∙◌, ap, arith, inl, inr, append-nil, append_assoc}
use Rattle.std.specs.Prelude.{◌⊎◌, ◌&&◌}
use Rattle.std.proofs.lemmas.Bool.{cases_eq, ne_eqb}
use Rattle.cbs_page.specs.Page.{view_of}
use Rattle.handset.specs.Reception.{page_octets, block_type, page_types, pages_read}
use Rattle.handset.specs.Keeping.{IsUnderWay}
use Rattle.handset.specs.KeepingSteps.{under_way_with, page_ended}

-- what a block does to the blocks of a page that isn't whole
record Steps (kept : List (List ℕ)) (block : List ℕ) : Type 0 where
  few : length (under_way_with kept block) ≤ 3
  begun : map block_type (under_way_with kept block) ≡ take (length (under_way_with kept block)) page_types
  goes_on :
      (more : List (List ℕ)) →
      pages_read (kept ++ block ∷ more) ≡ page_ended kept block ++ pages_read (under_way_with kept block ++ more)

-- a block's type is that of a block of a page, or none of them
abbrev OfType : ℕ → Type 0
OfType t =
    (t ≡ 0x20) ⊎ ((t ≡ 0x21)
    ⊎ ((t ≡ 0x22) ⊎ ((t ≡ 0x33) ⊎ (eqb t 0x20 ≡ false) × (eqb t 0x21 ≡ false) × (eqb t 0x22 ≡ false)
    × (eqb t 0x33 ≡ false))))

of_type : (t : ℕ) → OfType t
of_type t =
    elim (cases_eq t 0x20) [
      | inl is ↦ inl is
      | inr not20 ↦ elim (cases_eq t 0x21) [
        | inl is ↦ inr (inl is)
        | inr not21 ↦ elim (cases_eq t 0x22) [
          | inl is ↦ inr (inr (inl is))
          | inr not22 ↦ elim (cases_eq t 0x33) [
            | inl is ↦ inr (inr (inr (inl is)))
            | inr not33 ↦
                inr (inr (inr
                (inr (ne_eqb t 0x20 not20, ne_eqb t 0x21 not21, ne_eqb t 0x22 not22, ne_eqb t 0x33 not33))))
          ]
        ]
      ]
    ]

after_none : (b : List ℕ) → OfType (block_type b) → Steps [] b
after_none b (inl t) = record { few = simp t (omega arith); begun = simp t refl; goes_on = λ more. simp t refl }
after_none b (inr (inl t)) = record { few = simp t (omega arith); begun = simp t refl; goes_on = λ more. simp t refl }
after_none b (inr (inr (inl t))) =
    record { few = simp t (omega arith); begun = simp t refl; goes_on = λ more. simp t refl }
after_none b (inr (inr (inr (inl t)))) =
    record { few = simp t (omega arith); begun = simp t refl; goes_on = λ more. simp t refl }
after_none b (inr (inr (inr (inr t)))) =
    record {
      few = simp (t.0, t.1, t.2) (omega arith);
      begun = simp (t.0, t.1, t.2) refl;
      goes_on =
          λ more. simp (t.0, t.1, t.2, t.3) refl;
    }

after_first : (x b : List ℕ) → block_type x ≡ 0x20 → OfType (block_type b) → Steps (x ∷ []) b
after_first x b one (inl t) =
    record { few = simp t (omega arith); begun = simp t refl; goes_on = λ more. simp (one, t) refl }
after_first x b one (inr (inl t)) =
    record { few = simp t (omega arith); begun = simp (one, t) refl; goes_on = λ more. simp (one, t) refl }
after_first x b one (inr (inr (inl t))) =
    record { few = simp t (omega arith); begun = simp t refl; goes_on = λ more. simp (one, t) refl }
after_first x b one (inr (inr (inr (inl t)))) =
    record { few = simp t (omega arith); begun = simp t refl; goes_on = λ more. simp (one, t) refl }
after_first x b one (inr (inr (inr (inr t)))) =
    record {
      few = simp (t.0, t.1, t.2) (omega arith);
      begun = simp (t.0, t.1, t.2) refl;
      goes_on =
          λ more. simp (one, t.0, t.1, t.2, t.3) refl;
    }

after_second : (x y b : List ℕ) → block_type x ≡ 0x20 → block_type y ≡ 0x21 → OfType (block_type b)
    → Steps (x ∷ y ∷ []) b
after_second x y b one two (inl t) =
    record { few = simp t (omega arith); begun = simp t refl; goes_on = λ more. simp (one, two, t) refl }
after_second x y b one two (inr (inl t)) =
    record { few = simp t (omega arith); begun = simp t refl; goes_on = λ more. simp (one, two, t) refl }
after_second x y b one two (inr (inr (inl t))) =
    record { few = simp t (omega arith); begun = simp (one, two, t) refl; goes_on = λ more. simp (one, two, t) refl }
after_second x y b one two (inr (inr (inr (inl t)))) =
    record { few = simp t (omega arith); begun = simp t refl; goes_on = λ more. simp (one, two, t) refl }
after_second x y b one two (inr (inr (inr (inr t)))) =
    record {
      few = simp (t.0, t.1, t.2) (omega arith);
      begun = simp (t.0, t.1, t.2) refl;
      goes_on =
          λ more. simp (one, two, t.0, t.1, t.2, t.3) refl;
    }

after_third : (x y z b : List ℕ) → block_type x ≡ 0x20 → block_type y ≡ 0x21 → block_type z ≡ 0x22
    → OfType (block_type b) →
    Steps (x ∷ y ∷ z ∷ []) b
after_third x y z b one two three (inl t) =
    record { few = simp t (omega arith); begun = simp t refl; goes_on = λ more. simp (one, two, three, t) refl }
after_third x y z b one two three (inr (inl t)) =
    record { few = simp t (omega arith); begun = simp t refl; goes_on = λ more. simp (one, two, three, t) refl }
after_third x y z b one two three (inr (inr (inl t))) =
    record { few = simp t (omega arith); begun = simp t refl; goes_on = λ more. simp (one, two, three, t) refl }
after_third x y z b one two three (inr (inr (inr (inl t)))) =
    record { few = simp t (omega arith); begun = simp t refl; goes_on = λ more. simp (one, two, three, t) refl }
after_third x y z b one two three (inr (inr (inr (inr t)))) =
    record {
      few = simp (t.0, t.1, t.2) (omega arith);
      begun = simp (t.0, t.1, t.2) refl;
      goes_on =
          λ more. simp (one, two, three, t.0, t.1, t.2, t.3) refl;
    }

steps : (kept : List (List ℕ)) (b : List ℕ) → length kept ≤ 3 → map block_type kept ≡ take (length kept) page_types →
    Steps kept b
steps [] b few begun = after_none b (of_type (block_type b))
steps (x ∷ []) b few begun = let e : block_type x ∷ [] ≡ 0x20 ∷ [] = begun in after_first x b (cc)
    (of_type (block_type b))
steps (x ∷ y ∷ []) b few begun =
    let e : block_type x ∷ block_type y ∷ [] ≡ 0x20 ∷ 0x21 ∷ [] = begun in after_second x y b (cc) (cc)
    (of_type (block_type b))
steps (x ∷ y ∷ z ∷ []) b few begun =
    let e : block_type x ∷ block_type y ∷ block_type z ∷ [] ≡ 0x20 ∷ 0x21 ∷ 0x22 ∷ [] = begun in
    after_third x y z b (cc) (cc) (cc) (of_type (block_type b))
steps (x ∷ y ∷ z ∷ w ∷ rest) b few begun = absurd (omega arith)

and-false : (b : Bool) → (b && false) ≡ false
and-false true = refl
and-false false = refl

-- where no page is under way, a block ends none, and after one that begins none no page is under way
pub ends_none : (block : List ℕ) → [] ≡ page_ended [] block
ends_none block = simp and-false refl

-- a block that isn't a first one begins no page
pub begins_none : (block : List ℕ) → block_type block ≢ 0x20 → [] ≡ under_way_with [] block
begins_none block other = simp (ne_eqb (block_type block) 0x20 other, and-false) refl

-- the blocks of a page that isn't whole have no page
no_page : (kept : List (List ℕ)) → length kept ≤ 3 → pages_read kept ≡ []
no_page [] few = refl
no_page (x ∷ []) few = simp and-false refl
no_page (x ∷ y ∷ []) few = simp and-false refl
no_page (x ∷ y ∷ z ∷ []) few = simp and-false refl
no_page (x ∷ y ∷ z ∷ w ∷ rest) few = absurd (omega arith)

-- the pages of the blocks with one more are those of the blocks, and the page that the one makes whole
pub pages-more : (kept blocks : List (List ℕ)) (b : List ℕ) → IsUnderWay kept blocks →
    pages_read (blocks ++ b ∷ []) ≡ pages_read blocks ++ page_ended kept b
pages-more kept blocks b is =
    let step = steps kept b is.few is.begun in
    is.goes_on (b ∷ []) ∙ ap (λ pages. pages_read blocks ++ pages)
    (step.goes_on [] ∙ ap (λ rest. page_ended kept b ++ pages_read rest) (append-nil (under_way_with kept b))
    ∙ ap (λ pages. page_ended kept b ++ pages) (no_page (under_way_with kept b) step.few)
    ∙ append-nil (page_ended kept b))

-- what is under way with one more block is so after one more block
pub under_way-more : (kept blocks : List (List ℕ)) (b : List ℕ) → IsUnderWay kept blocks →
    IsUnderWay (under_way_with kept b) (blocks ++ b ∷ [])
under_way-more kept blocks b is =
    let step = steps kept b is.few is.begun in
    record {
      few = step.few;
      begun = step.begun;
      goes_on =
          λ more.
          ap pages_read (append_assoc blocks (b ∷ []) more) ∙ is.goes_on (b ∷ more)
          ∙ ap (λ pages. pages_read blocks ++ pages) (step.goes_on more)
          ∙ sym (append_assoc (pages_read blocks) (page_ended kept b) (pages_read (under_way_with kept b ++ more)))
          ∙ ap (λ pages. pages ++ pages_read (under_way_with kept b ++ more)) (sym (pages-more kept blocks b is));
    }

-- four blocks of a page at the front of a list are a page, and a block that begins none is no part of one
pub pages_read-page : (first second third last : List ℕ) (rest : List (List ℕ)) →
    block_type first ≡ 0x20 → block_type second ≡ 0x21 → block_type third ≡ 0x22 → block_type last ≡ 0x33 →
    pages_read (first ∷ second ∷ third ∷ last ∷ rest) ≡ view_of
    (page_octets (first ∷ second ∷ third ∷ last ∷ [])) ∷ pages_read rest
pages_read-page first second third last rest one two three four = simp (one, two, three, four) refl

pages_read-other : (block : List ℕ) (rest : List (List ℕ)) → block_type block ≢ 0x20 →
    pages_read (block ∷ rest) ≡ pages_read rest
pages_read-other block rest other = rw (ne_eqb (block_type block) 0x20 other) refl
