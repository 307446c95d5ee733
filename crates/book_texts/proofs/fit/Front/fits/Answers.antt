use Rattle.std.proofs.Common.{◌≡◌, ◌≢◌, ℕ, true, false, List, [], length, refl, sym, ◌∙◌, ap}
use Rattle.std.proofs.Common.{subst, rules}
use Rattle.std.specs.Prelude.{is_some}
use Rattle.std.specs.List.{list_all}
use Rattle.std.proofs.lemmas.Bool.{le-leb, leb-true}
use Rattle.std.proofs.lemmas.List.{nil_from_length}
use Rattle.gsm_alphabet.specs.Alphabet.{code_of}
use Rattle.cbs_page.specs.Text.{alphabet_for}
use Rattle.cbs_page.specs.declared.coding.Alphabet.TheVariants as alphabet
use Rattle.book_texts.specs.Fit.{FitsIn}
use Rattle.book_texts.proofs.Fitting.{fits_if_few, fits_nothing}
use Rattle.book_texts.proofs.fit.Front.fits.Goals as goal

gsm_for : (text : List ℕ) → list_all (λ c. is_some (code_of c)) text ≡ true → alphabet.Gsm ≡ alphabet_for text
gsm_for text all = rw all refl

ucs2_for : (text : List ℕ) → list_all (λ c. is_some (code_of c)) text ≡ false → alphabet.Ucs2 ≡ alphabet_for text
ucs2_for text lacks = rw lacks refl

some_text : (text : List ℕ) (characters : ℕ) → characters ≡ length text → characters ≢ 0 → text ≢ []
some_text text characters as_many some none = some (as_many ∙ ap length none)

pub returns-then-self-eq0 : goal.returns-then-self-eq0
returns-then-self-eq0 c =
    λ text taken.
    let empty : text ≡ [] = nil_from_length text (sym taken.characters ∙ search (rules, c.if-self-eq0.true)) in
    (λ _. subst (λ (xs : List ℕ). FitsIn c.args.pages xs) (sym empty) (fits_nothing c.args.pages), λ _. refl)

pub returns-then-self : goal.returns-then-self
returns-then-self c =
    λ text taken.
    let all : list_all (λ c. is_some (code_of c)) text ≡ true =
    sym taken.is_gsm ∙ search (rules, c.if-self.true) in
    let tells = fits_if_few alphabet.Gsm text c.args.self.now.gsm c.args.pages (gsm_for text all) taken.in_gsm taken.gsm
    (some_text text _ taken.characters (search (rules, c.if-self-eq0.false))) in
    (λ few. tells.0 (leb-true _ _ few), λ fits. le-leb _ _ (tells.1 fits))

pub returns-else-self : goal.returns-else-self
returns-else-self c =
    λ text taken.
    let lacks : list_all (λ c. is_some (code_of c)) text ≡ false =
    sym taken.is_gsm ∙ search (rules, c.if-self.false) in
    let tells = fits_if_few alphabet.Ucs2 text c.args.self.now.ucs2 c.args.pages (ucs2_for text lacks) taken.in_ucs2
    taken.ucs2 (some_text text _ taken.characters (search (rules, c.if-self-eq0.false))) in
    (λ few. tells.0 (leb-true _ _ few), λ fits. le-leb _ _ (tells.1 fits))
