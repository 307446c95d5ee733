-- The first slot that airs a page, found by how often the slots up to each air it.
use Rattle.std.proofs.Common.{◌≡◌, ℕ, ◌+◌, ◌<◌, Bool, true, false, cond, Option, Some, None, [], ◌∷◌, ◌++◌}
use Rattle.std.proofs.Common.{length, find, get_or, refl, sym, ◌∙◌, ap, subst, arith, append_assoc, length-append}
use Rattle.std.specs.Prelude.{if◌then◌else◌, nat_le}
use Rattle.std.specs.List.{range_with_len}
use Rattle.std.proofs.lemmas.List.{length_push}
use Rattle.scheduler.specs.Air.{Air}
use Rattle.scheduler.specs.Pages.{airs_page, times_aired}
use Rattle.report.specs.LastPages.{first_airing}
use Rattle.report.proofs.StepLaws.{counted}

-- the slot after those in front
slot-here : (before : Air) (used : Option (ℕ × ℕ)) (later : Air) →
    get_or (before ++ used ∷ later) (length before) None ≡ used
slot-here [] used later = refl
slot-here (x ∷ before) used later = slot-here before used later

-- where none of the slots in front airs the page, the first slot by which it was aired once is the first that airs it
pub first-found : (test : ℕ → Bool) (air : Air) (entry page : ℕ) (before rest : Air) → air ≡ before ++ rest →
    times_aired entry page air (length before) ≡ 0 →
    ((slot : ℕ) → slot < length air → test slot ≡ nat_le 1 (times_aired entry page air (slot + 1))) →
    find test (range_with_len (length before) (length rest)) ≡ first_airing entry page rest (length before)
first-found test air entry page before [] is none says = refl
first-found test air entry page before (used ∷ later) is none says =
    by_test (airs_page entry page used) refl
    (λ zero. subst (λ (k : ℕ). find test (range_with_len k (length later)) ≡ first_airing entry page later k) longer
    (first-found test air entry page (before ++ used ∷ []) later
    (is ∙ sym (append_assoc before (used ∷ []) later)) (ap (times_aired entry page air) longer ∙ zero) says))
  where
    longer : length (before ++ used ∷ []) ≡ length before + 1
    longer = length_push before used

    within : length before < length air
    within = omega (arith, ap (λ (xs : Air). length xs) is, length-append before (used ∷ later))

    here : get_or air (length before) None ≡ used
    here = ap (λ (xs : Air). get_or xs (length before) None) is ∙ slot-here before used later

    by_test : (airs : Bool) → airs_page entry page used ≡ airs →
        (times_aired entry page air (length before + 1) ≡ 0 →
        find test (range_with_len (length before + 1) (length later))
        ≡ first_airing entry page later (length before + 1)) →
        find test (range_with_len (length before) (length (used ∷ later)))
        ≡ first_airing entry page (used ∷ later) (length before)
    by_test true airs more =
        let count : times_aired entry page air (length before + 1)
        ≡ times_aired entry page air (length before) + (if true then 1 else 0) =
        counted (airs_page entry page) air (length before) within true (ap (airs_page entry page) here ∙ airs) in
        let once : times_aired entry page air (length before + 1) ≡ 1 = omega (arith, count, none) in
        let found : test (length before) ≡ true =
        says (length before) within ∙ ap (λ (k : ℕ). nat_le 1 k) once in
        ap (λ (b : Bool). cond b (Some (length before)) (find test (range_with_len (length before + 1) (length later))))
        found
        ∙ sym (ap (λ (b : Bool). cond b (Some (length before)) (first_airing entry page later (length before + 1)))
        airs)
    by_test false airs more =
        let count : times_aired entry page air (length before + 1)
        ≡ times_aired entry page air (length before) + (if false then 1 else 0) =
        counted (airs_page entry page) air (length before) within false (ap (airs_page entry page) here ∙ airs) in
        let never : times_aired entry page air (length before + 1) ≡ 0 = omega (arith, count, none) in
        let not_found : test (length before) ≡ false =
        says (length before) within ∙ ap (λ (k : ℕ). nat_le 1 k) never in
        ap (λ (b : Bool). cond b (Some (length before)) (find test (range_with_len (length before + 1) (length later))))
        not_found
        ∙ more never
        ∙ sym (ap (λ (b : Bool). cond b (Some (length before)) (first_airing entry page later (length before + 1)))
        airs)
