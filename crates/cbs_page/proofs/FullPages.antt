-- The contents of a text's pages are full.
use Rattle.std.proofs.Common.{◌≡◌, ◌≤◌, ◌∙◌, ℕ, true, eqb, List, [], ◌∷◌, arith, ap, eq-eqb, length, map, refl}
use Rattle.std.proofs.Common.{subst, sum_by, sym}
use Rattle.std.specs.Prelude.{nat_le}
use Rattle.std.specs.List.{flat_map, list_all, AllByRecursion}
use Rattle.std.proofs.lemmas.Bool.{and_from, le-leb}
use Rattle.std.proofs.lemmas.List.Concat.{length-flat_map}
use Rattle.ucs2_text.proofs.Places.{length-octets_of_units}
use Rattle.cbs_page.specs.declared.coding.Alphabet.{Alphabet}
use Rattle.cbs_page.specs.declared.coding.Alphabet.TheVariants.{Gsm, Ucs2}
use Rattle.cbs_page.specs.declared.content.Content.{Content}
use Rattle.cbs_page.specs.Text.{capacity, codes_of, cost_of, AreContentsOf, IsContentOf}

-- a page's content has 82 octets, of which at most 82 are used
page_fits : (alphabet : Alphabet) (codes : List ℕ) (content : Content) → length codes ≤ capacity alphabet →
    IsContentOf alphabet codes content → (nat_le content.used 82 ≡ true) × (eqb (length content.octets) 82 ≡ true)
page_fits Gsm codes content few is =
    (le-leb content.used 82 (omega (arith, is.0, few)), eq-eqb (length content.octets) 82 is.1.size)
page_fits Ucs2 codes content few is = (
  le-leb content.used 82 (omega (arith, is.0, few)),
  eq-eqb (length content.octets) 82 (ap length is.1 ∙ length-octets_of_units codes few),
)

-- and so have those of a text's pages
pub pages_fit : (alphabet : Alphabet) (pieces : List (List ℕ)) (contents : List Content) →
    AllByRecursion (λ piece. sum_by (cost_of alphabet) piece ≤ capacity alphabet) pieces →
    AreContentsOf alphabet (map (flat_map (codes_of alphabet)) pieces) contents →
    (list_all (λ (c : Content). nat_le c.used 82) contents ≡ true)
    × (list_all (λ (c : Content). eqb (length c.octets) 82) contents ≡ true)
pages_fit alphabet [] [] within have = (refl, refl)
pages_fit alphabet [] (c ∷ cs) within have = absurd have
pages_fit alphabet (p ∷ ps) [] within have = absurd have
pages_fit alphabet (p ∷ ps) (c ∷ cs) within have =
    let few : length (flat_map (codes_of alphabet) p) ≤ capacity alphabet =
    subst (λ n. n ≤ capacity alphabet) (sym (length-flat_map (codes_of alphabet) p)) within.0 in
    let here = page_fits alphabet (flat_map (codes_of alphabet) p) c few have.0 in
    let rest = pages_fit alphabet ps cs within.1 have.1 in (
      and_from (nat_le c.used 82) (list_all (λ (d : Content). nat_le d.used 82) cs) here.0 rest.0,
      and_from (eqb (length c.octets) 82) (list_all (λ (d : Content). eqb (length d.octets) 82) cs) here.1 rest.1,
    )
