use Rattle.std.proofs.Common.{◌≡◌, ◌∙◌, ℕ, ◌+◌, ◌<◌, Bool, true, false, Option, Some, None, Bor, is_some, List, [], ◌∷◌}
use Rattle.std.proofs.Common.{◌++◌, ◌-◌, ◌≤◌, suc, find, get_or, refl, sym, ap, subst, arith, eqb}
use Rattle.std.specs.Option.{option_copied}
use Rattle.std.specs.Prelude.{not}
use Rattle.std.specs.List.{list_all, range_with_len}
use Rattle.std.proofs.lemmas.Bool.{and_right}
use Rattle.std.proofs.lemmas.List.Folds.{list_all_at}
use Rattle.std.proofs.lemmas.List.FromFn.{length-range_with_len, get_or-range_with_len}
use Rattle.cbs_page.specs.declared.octets.PageView.{PageView}
use Rattle.handset.specs.Reception.{Name, name_of}
use Rattle.handset.specs.Keeping.{is_numbered}
use Rattle.handset.specs.KeepingSteps.{is_kept_whole, total_kept}
use Rattle.handset.proofs.messages.is_complete.Goals as goal

abbrev has : Name → List PageView → ℕ → Bool
has name pages number = is_some (find (is_numbered name number) pages)

-- a page of some number up to the total is missing
missing : (name : Name) (pages : List PageView) (number : ℕ) → 0 < number → number ≤ total_kept name pages →
    has name pages number ≡ false → is_kept_whole name pages ≡ false
missing name pages number some within none =
    let before : ℕ = number - 1 in
    let there : get_or (range_with_len 1 (total_kept name pages)) before 0 ≡ number =
    get_or-range_with_len 1 (total_kept name pages) before 0 (omega arith)
    ∙ (let e : 1 + before ≡ number = omega arith in e) in
    and_right (not (eqb (total_kept name pages) 0))
    (list_all (has name pages) (range_with_len 1 (total_kept name pages)))
    (list_all_at (has name pages) (range_with_len 1 (total_kept name pages)) before 0
    (omega (arith, length-range_with_len 1 (total_kept name pages))) (ap (has name pages) there ∙ none))

-- one number before those that have their pages has its page, too
one_more : (name : Name) (pages : List PageView) (number total : ℕ) → 0 < number → number ≤ total →
    list_all (has name pages) (range_with_len (number + 1) (total - number)) ≡ true →
    has name pages number ≡ true → list_all (has name pages) (range_with_len (number - 1 + 1) (total - (number - 1))) ≡
    true
one_more name pages number total some within all here =
    let first : number - 1 + 1 ≡ number = omega arith in
    let count : total - (number - 1) ≡ suc (total - number) = omega arith in
    ap (list_all (has name pages)) (ap (λ n. range_with_len n (total - (number - 1))) first
    ∙ ap (range_with_len number) count)
    ∙ rw (here, all) refl

copied_some : (o : Option (Bor PageView)) → is_some (option_copied o) ≡ is_some o
copied_some None = refl
copied_some (Some x) = refl

pub returns-then-is_none : goal.returns-then-is_none
returns-then-is_none c =
    let none : is_some c.page_with.result ≡ false = c.is_none.ensures ∙ ap not c.if-is_none.true in
    sym (missing (name_of c.args.last.now) (c.args.pages.now ++ c.args.last.now ∷ []) c.loop-number.number
    (omega (arith, c.loop-number-test.true)) (subst (λ n. c.loop-number.number ≤ n) c.total_with-total.ensures
    c.loop-number.invariant.within)
    (ap is_some (sym c.page_with.ensures) ∙ copied_some c.page_with.result ∙ none))

pub loop-number-preserved : goal.loop-number-preserved
loop-number-preserved c =
    let some : is_some c.page_with.result ≡ true = c.is_none.ensures ∙ ap not c.if-is_none.false in
    record {
      within = omega (arith, c.loop-number.invariant.within);
      there = one_more (name_of c.args.last.now)
          (c.args.pages.now ++ c.args.last.now ∷ []) c.loop-number.number c.total_with-total.result
          (omega (arith, c.loop-number-test.true)) c.loop-number.invariant.within c.loop-number.invariant.there
          (ap is_some (sym c.page_with.ensures) ∙ copied_some c.page_with.result ∙ some);
    }
