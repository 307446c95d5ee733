-- The codes of a text, cut as codes: where the first page ends can be read off them.
use Rattle.std.proofs.Common.{◌≡◌, ◌≢◌, ℕ, ◌+◌, ◌-◌, ◌<◌, ◌≤◌, Option, Some, None, List, [], ◌∷◌, ◌++◌}
use Rattle.std.proofs.Common.{length, take, drop, get_or, refl, sym, ap, ◌∙◌, arith, inl, inr, subst, append_assoc}
use Rattle.std.proofs.Common.{append-nil, length-append, zero-add}
use Rattle.std.specs.List.{flat_map}
use Rattle.std.specs.Prelude.{is_some}
use Rattle.std.specs.Option.{option_map_or, option_to_list}
use Rattle.std.proofs.Math.Seq.{drop-append_seam, take-append_seam, get_or-append_seam}
use Rattle.std.proofs.lemmas.Bool.{le-leb, lt-leb, cases_lt, ne_eqb}
use Rattle.std.proofs.lemmas.List.{get_or_append_left}
use Rattle.gsm_alphabet.specs.declared.Code.{Code}
use Rattle.gsm_alphabet.specs.declared.Code.TheVariants.{One, Ext}
use Rattle.gsm_alphabet.specs.Alphabet.{code_of, septets_of_code, main_table, extension_table}
use Rattle.gsm_alphabet.specs.Alphabet.{text_of_septets}
use Rattle.gsm_alphabet.proofs.AlphabetLaws.{one_entry, text_begins}
use Rattle.ucs2_text.specs.Ucs2.{unit_of_character}
use Rattle.cbs_page.specs.declared.coding.Alphabet.{Alphabet}
use Rattle.cbs_page.specs.declared.coding.Alphabet.TheVariants.{Gsm, Ucs2}
use Rattle.cbs_page.specs.declared.content.Content.{Content}
use Rattle.cbs_page.specs.PagingSteps.{page_end, HoldText, TakesPages}
use Rattle.cbs_page.specs.Text.{capacity, codes_of, IsContentOf, AreContentsOf}
use Rattle.cbs_page.proofs.Cutting.{cuts_from}
use Rattle.cbs_page.proofs.CuttingLaws.{AreContentsOf-push}
use Rattle.cbs_page.proofs.PaginateLaws.{has_pages, count_of_cuts}
use Rattle.cbs_page.proofs.TextLaws.{cost-small, capacity-bounds}

-- the codes of one character: none, one that is no escape, or an escape and one that is none
abbrev AreOfOne : Alphabet → List ℕ → Type 0
AreOfOne alphabet [] = Unit {0}
AreOfOne Gsm (code ∷ []) = code ≢ 27
AreOfOne Gsm (first ∷ second ∷ []) = (first ≡ 27) × (second ≢ 27)
AreOfOne Gsm (first ∷ second ∷ third ∷ rest) = ⊥
AreOfOne Ucs2 (code ∷ []) = Unit {0}
AreOfOne Ucs2 (first ∷ second ∷ rest) = ⊥

-- the escape is the septet of no character of the extension table: after an escape it would show a space
no_escape : (character septet : ℕ) → code_of character ≡ Some (Ext septet) → septet ≢ 27
unfolding main_table extension_table
no_escape character septet is escape =
    let code : code_of character ≡ Some (Ext 27) = is ∙ ap (λ (s : ℕ). Some (Ext s)) escape in
    let shown : text_of_septets (option_map_or septets_of_code (code_of character) [] ++ []) ≡ character ∷ [] =
    text_begins character [] (ap is_some code) in
    let space : 32 ∷ [] ≡ character ∷ [] = rw code at shown in
    let same : 32 ≡ character = cc in
    let impossible : code_of 32 ≡ Some (Ext 27) = subst (λ (c : ℕ). code_of c ≡ Some (Ext 27)) (sym same) code in
    cc

codes_of_one : (alphabet : Alphabet) (character : ℕ) → AreOfOne alphabet (codes_of alphabet character)
codes_of_one Gsm character = by_code (code_of character) refl
  where
    by_code : (code : Option Code) → code_of character ≡ code → AreOfOne Gsm (option_map_or septets_of_code code [])
    by_code None is = tt
    by_code (Some (One septet)) is = (one_entry character septet is).is_other
    by_code (Some (Ext septet)) is = (refl, no_escape character septet is)
codes_of_one Ucs2 character = by_unit (unit_of_character character)
  where
    by_unit : (unit : Option ℕ) → AreOfOne Ucs2 (option_to_list unit)
    by_unit None = tt
    by_unit (Some unit) = tt

-- the last of the codes of whole characters is no escape
abbrev EndsWhole : Alphabet → List ℕ → Type 0
EndsWhole Gsm piece = get_or piece (length piece - 1) 0 ≢ 27
EndsWhole Ucs2 piece = Unit {0}

last_of_one : (piece : List ℕ) (code : ℕ) → get_or (piece ++ code ∷ []) (length (piece ++ code ∷ []) - 1) 0 ≡ code
last_of_one piece code =
    let place : length (piece ++ code ∷ []) - 1 ≡ length piece = omega (arith, length-append piece (code ∷ [])) in
    rw place (get_or-append_seam piece code [] 0)

ends_whole : (alphabet : Alphabet) (piece codes : List ℕ) → AreOfOne alphabet codes → EndsWhole alphabet piece
    → EndsWhole alphabet (piece ++ codes)
ends_whole Ucs2 piece codes of_one ends = tt
ends_whole Gsm piece [] of_one ends = rw (append-nil piece) ends
ends_whole Gsm piece (code ∷ []) of_one ends = rw (last_of_one piece code) of_one
ends_whole Gsm piece (first ∷ second ∷ []) of_one ends =
    let same : (piece ++ first ∷ []) ++ second ∷ [] ≡ piece ++ first ∷ second ∷ [] =
    append_assoc piece (first ∷ []) (second ∷ []) in
    subst (λ (xs : List ℕ). EndsWhole Gsm xs) same (rw (last_of_one (piece ++ first ∷ []) second) of_one.1)
ends_whole Gsm piece (first ∷ second ∷ third ∷ rest) of_one ends = absurd of_one

ends_whole-none : (alphabet : Alphabet) → EndsWhole alphabet []
ends_whole-none Gsm = λ is. cc
ends_whole-none Ucs2 = tt

-- a full piece is a whole page
full_page : (piece rest : List ℕ) → EndsWhole Gsm piece → length piece ≡ 93
    → page_end Gsm (piece ++ rest) ≡ length piece
full_page piece rest ends full =
    let place : length piece - 1 ≡ 92 = omega (arith, full) in
    let last : get_or piece 92 0 ≢ 27 = subst (λ (n : ℕ). get_or piece n 0 ≢ 27) place ends in
    let at : get_or (piece ++ rest) 92 0 ≡ get_or piece 92 0 =
    get_or_append_left piece rest 0 92 (omega (arith, full)) in
    rw (at, ne_eqb (get_or piece 92 0) 27 last, full) refl

-- where a character has no room, the page ends before it
page_end-is : (alphabet : Alphabet) (piece codes rest : List ℕ) → AreOfOne alphabet codes → EndsWhole alphabet piece
    → length piece ≤ capacity alphabet → capacity alphabet < length piece + length codes
    → page_end alphabet (piece ++ (codes ++ rest)) ≡ length piece
page_end-is Ucs2 piece [] rest of_one ends room full = absurd (omega arith)
page_end-is Ucs2 piece (code ∷ []) rest of_one ends room full = omega arith
page_end-is Ucs2 piece (first ∷ second ∷ others) rest of_one ends room full = absurd of_one
page_end-is Gsm piece [] rest of_one ends room full = absurd (omega arith)
page_end-is Gsm piece (code ∷ []) rest of_one ends room full =
    full_page piece (code ∷ rest) ends (omega (arith, room, full))
page_end-is Gsm piece (first ∷ second ∷ []) rest of_one ends room full =
    elim (cases_lt (length piece) 93) [
      | inl below ↦
          let short : length piece ≡ 92 = omega (arith, below, full) in
          let at : get_or (piece ++ first ∷ second ∷ rest) 92 0 ≡ 27 =
          ap (λ (n : ℕ). get_or (piece ++ first ∷ second ∷ rest) n 0) (sym short)
          ∙ get_or-append_seam piece first (second ∷ rest) 0 ∙ of_one.0 in
          rw (at, short) refl
      | inr above ↦ full_page piece (first ∷ second ∷ rest) ends (omega (arith, above, room))
    ]
page_end-is Gsm piece (first ∷ second ∷ third ∷ others) rest of_one ends room full = absurd of_one

-- The first page of a piece and the characters after it is cut off: it has these codes, and these characters are left.
record IsCutOff (alphabet : Alphabet) (piece text codes : List ℕ) : Type 0 where
  left : List ℕ
  spelled : flat_map (codes_of alphabet) left ≡ drop (page_end alphabet codes) codes
  cut : cuts_from (codes_of alphabet) (capacity alphabet) piece text
      ≡ take (page_end alphabet codes) codes ∷ cuts_from (codes_of alphabet) (capacity alphabet) [] left

cut_off : (alphabet : Alphabet) (piece text : List ℕ) → EndsWhole alphabet piece → length piece ≤ capacity alphabet
    → capacity alphabet < length (piece ++ flat_map (codes_of alphabet) text)
    → IsCutOff alphabet piece text (piece ++ flat_map (codes_of alphabet) text)
cut_off alphabet piece [] ends room more = absurd (omega (arith, length-append {A = ℕ} piece []))
cut_off alphabet piece (c ∷ text) ends room more =
    let codes = codes_of alphabet in
    let limit = capacity alphabet in
    let rest = flat_map codes text in
    let of_one = codes_of_one alphabet c in
    elim (cases_lt limit (length piece + length (codes c))) [
      | inl full ↦
          let at : page_end alphabet (piece ++ (codes c ++ rest)) ≡ length piece =
          page_end-is alphabet piece (codes c) rest of_one ends room full in
          let begins : cuts_from codes limit piece (c ∷ text) ≡ piece ∷ cuts_from codes limit (codes c) text =
          rw (lt-leb (length piece + length (codes c)) limit full) refl in
          let small : length (codes c) ≤ limit = omega (arith, cost-small alphabet c, capacity-bounds alphabet) in
          let again : cuts_from codes limit [] (c ∷ text) ≡ cuts_from codes limit (codes c) text =
          rw (zero-add (length (codes c)), le-leb (length (codes c)) limit small) refl in
          record {
            left = c ∷ text;
            spelled = rw at (sym (drop-append_seam piece (codes c ++ rest)));
            cut = rw (at, take-append_seam piece (codes c ++ rest)) (begins ∙ ap (λ cuts. piece ∷ cuts) (sym again));
          }
      | inr fits ↦
          let same : (piece ++ codes c) ++ rest ≡ piece ++ (codes c ++ rest) = append_assoc piece (codes c) rest in
          let within : length (piece ++ codes c) ≤ limit = omega (arith, fits, length-append piece (codes c)) in
          let off = cut_off alphabet (piece ++ codes c) text (ends_whole alphabet piece (codes c) of_one ends) within
          (rw same more) in
          let takes : cuts_from codes limit piece (c ∷ text) ≡ cuts_from codes limit (piece ++ codes c) text =
          rw (le-leb (length piece + length (codes c)) limit fits) refl in
          subst (λ (xs : List ℕ). IsCutOff alphabet piece (c ∷ text) xs) same
          (record { left = off.left; spelled = off.spelled; cut = takes ∙ off.cut })
    ]

-- A text is cut into the closed pieces and what is left, which has these codes.
pub record IsCutTo (alphabet : Alphabet) (text codes : List ℕ) (closed : List (List ℕ)) : Type 0 where
  pub left : List ℕ
  pub spelled : flat_map (codes_of alphabet) left ≡ codes
  pub cut : closed ++ cuts_from (codes_of alphabet) (capacity alphabet) [] left
      ≡ cuts_from (codes_of alphabet) (capacity alphabet) [] text

-- nothing is cut yet
pub cut_to-none : (alphabet : Alphabet) (text codes : List ℕ) → flat_map (codes_of alphabet) text ≡ codes
    → IsCutTo alphabet text codes []
cut_to-none alphabet text codes is = record { left = text; spelled = is; cut = refl }

-- one more page is cut off
pub cut_to-more : (alphabet : Alphabet) (text codes : List ℕ) (closed : List (List ℕ))
    → IsCutTo alphabet text codes closed
    → capacity alphabet < length codes
    → IsCutTo alphabet text (drop (page_end alphabet codes) codes) (closed ++ take (page_end alphabet codes) codes ∷ [])
cut_to-more alphabet text codes closed had more =
    let off : IsCutOff alphabet [] had.left codes =
    subst (λ (xs : List ℕ). IsCutOff alphabet [] had.left xs) had.spelled
    (cut_off alphabet [] had.left (ends_whole-none alphabet) (omega arith) (rw had.spelled more)) in
    record {
      left = off.left;
      spelled = off.spelled;
      cut = append_assoc closed (take (page_end alphabet codes) codes ∷ [])
          (cuts_from (codes_of alphabet) (capacity alphabet) [] off.left)
          ∙ ap (λ cuts. closed ++ cuts) (sym off.cut) ∙ had.cut;
    }

-- what fits is the last page
cut_last : (alphabet : Alphabet) (piece text : List ℕ)
    → length (piece ++ flat_map (codes_of alphabet) text) ≤ capacity alphabet
    → cuts_from (codes_of alphabet) (capacity alphabet) piece text ≡ (piece ++ flat_map (codes_of alphabet) text) ∷ []
cut_last alphabet piece [] fits = ap (λ xs. xs ∷ []) (sym (append-nil piece))
cut_last alphabet piece (c ∷ text) fits =
    let codes = codes_of alphabet in
    let limit = capacity alphabet in
    let rest = flat_map codes text in
    let same : (piece ++ codes c) ++ rest ≡ piece ++ (codes c ++ rest) = append_assoc piece (codes c) rest in
    let room : length piece + length (codes c) ≤ limit =
    omega (arith, fits, ap length (sym same), length-append (piece ++ codes c) rest, length-append piece (codes c)) in
    let takes : cuts_from codes limit piece (c ∷ text) ≡ cuts_from codes limit (piece ++ codes c) text =
    rw (le-leb (length piece + length (codes c)) limit room) refl in
    takes ∙ cut_last alphabet (piece ++ codes c) text (rw same fits) ∙ ap (λ xs. xs ∷ []) same

-- the rest, if it fits, ends the cut
pub cut_to-end : (alphabet : Alphabet) (text codes : List ℕ) (closed : List (List ℕ))
    → IsCutTo alphabet text codes closed
    → length codes ≤ capacity alphabet
    → closed ++ codes ∷ [] ≡ cuts_from (codes_of alphabet) (capacity alphabet) [] text
cut_to-end alphabet text codes closed had few =
    let last : cuts_from (codes_of alphabet) (capacity alphabet) [] had.left ≡ codes ∷ [] =
    cut_last alphabet [] had.left (rw had.spelled few) ∙ ap (λ xs. xs ∷ []) had.spelled in
    ap (λ cuts. closed ++ cuts) (sym last) ∙ had.cut

-- So many pages are begun, and the last of them has the rest of the codes.
pub record HasCounted (alphabet : Alphabet) (text codes : List ℕ) (pages : ℕ) : Type 0 where
  pub closed : List (List ℕ)
  pub cut : IsCutTo alphabet text codes closed
  pub counted : length closed + 1 ≡ pages

-- the first page is begun
pub counted-none : (alphabet : Alphabet) (text codes : List ℕ) → flat_map (codes_of alphabet) text ≡ codes
    → HasCounted alphabet text codes 1
counted-none alphabet text codes is = record { closed = []; cut = cut_to-none alphabet text codes is; counted = refl }

-- one more page is cut off, and the next is begun
pub counted-more : (alphabet : Alphabet) (text codes : List ℕ) (pages : ℕ) → HasCounted alphabet text codes pages
    → capacity alphabet < length codes → HasCounted alphabet text (drop (page_end alphabet codes) codes) (pages + 1)
counted-more alphabet text codes pages had more = record {
  closed = had.closed ++ take (page_end alphabet codes) codes ∷ [];
  cut = cut_to-more alphabet text codes had.closed had.cut more;
  counted = omega (arith, had.counted, length-append had.closed (take (page_end alphabet codes) codes ∷ []));
}

-- what fits is on the last of the pages
pub counted-end : (alphabet : Alphabet) (text codes : List ℕ) (pages : ℕ) → text ≢ []
    → HasCounted alphabet text codes pages → length codes ≤ capacity alphabet → TakesPages alphabet text pages
counted-end alphabet text codes pages some had few =
    let has = has_pages alphabet text some in
    let whole = cut_to-end alphabet text codes had.closed had.cut few in (
      has.pieces,
      has.paging,
      omega (
        arith,
        had.counted,
        length-append had.closed (codes ∷ []),
        ap length whole,
        count_of_cuts (codes_of alphabet) (capacity alphabet) [] text,
        has.count,
      ),
    )

-- These contents hold the closed pieces, and the rest of the codes is still to be cut.
pub record HasClosed (alphabet : Alphabet) (text codes : List ℕ) (contents : List Content) : Type 0 where
  pub closed : List (List ℕ)
  pub held : AreContentsOf alphabet closed contents
  pub cut : IsCutTo alphabet text codes closed

-- nothing is held yet
pub closed-none : (alphabet : Alphabet) (text codes : List ℕ) → flat_map (codes_of alphabet) text ≡ codes
    → HasClosed alphabet text codes []
closed-none alphabet text codes is = record { closed = []; held = tt; cut = cut_to-none alphabet text codes is }

-- one more content holds the next page
pub closed-more : (alphabet : Alphabet) (text codes : List ℕ) (contents : List Content) (content : Content)
    → HasClosed alphabet text codes contents → capacity alphabet < length codes
    → IsContentOf alphabet (take (page_end alphabet codes) codes) content
    → HasClosed alphabet text (drop (page_end alphabet codes) codes) (contents ++ content ∷ [])
closed-more alphabet text codes contents content had more here = record {
  closed = had.closed ++ take (page_end alphabet codes) codes ∷ [];
  held = AreContentsOf-push alphabet had.closed contents (take (page_end alphabet codes) codes) content had.held here;
  cut = cut_to-more alphabet text codes had.closed had.cut more;
}

-- the last content holds the rest
pub closed-end : (alphabet : Alphabet) (text codes : List ℕ) (contents : List Content) (content : Content) → text ≢ []
    → HasClosed alphabet text codes contents → length codes ≤ capacity alphabet → IsContentOf alphabet codes content
    → HoldText alphabet text (contents ++ content ∷ [])
closed-end alphabet text codes contents content some had few here =
    let has = has_pages alphabet text some in
    let whole = cut_to-end alphabet text codes had.closed had.cut few in
    let held : AreContentsOf alphabet (had.closed ++ codes ∷ []) (contents ++ content ∷ []) =
    AreContentsOf-push alphabet had.closed contents codes content had.held here in (
      has.pieces,
      has.paging,
      subst (λ (cuts : List (List ℕ)). AreContentsOf alphabet cuts (contents ++ content ∷ [])) (whole ∙ has.cut) held,
    )
