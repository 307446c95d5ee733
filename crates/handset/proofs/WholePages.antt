-- The four blocks of a page that come right after each other, where no page is under way before them.
use Rattle.std.proofs.Common.{◌≡◌, ◌∙◌, ℕ, ◌+◌, Bool, true, false, cond, List, [], ◌∷◌, ◌++◌, length, take, drop}
use Rattle.std.proofs.Common.{map, refl, sym, ap, subst, arith, append_assoc}
use Rattle.std.proofs.Math.Seq.{take-add}
use Rattle.std.specs.Str.{bytes_eq}
use Rattle.std.proofs.lemmas.Slice.Eq.{bytes_eq-Decides}
use Rattle.cbs_page.specs.declared.octets.PageView.{PageView}
use Rattle.cbs_page.specs.Page.{view_of}
use Rattle.handset.specs.Reception.{name_of, block_type, page_octets, page_types, page_in_front}
use Rattle.handset.specs.Keeping.{HandsetState, kept_of, HasRead}
use Rattle.handset.specs.KeepingSteps.{message_ended_read, page_ended, under_way_with, TakesPage}
use Rattle.handset.proofs.BlockLaws.{ends_none}
use Rattle.handset.proofs.ReadingLaws.{reads_none, reads_page}

-- the four blocks of a page
abbrev pub four : (first second third last : List ℕ) → List (List ℕ)
four first second third last = first ∷ second ∷ third ∷ last ∷ []

-- a handset that took the page of some blocks, and has none under way
pub record TookPage (old new : HandsetState) (page : PageView) : Type 0 where
  pub none : new.under_way ≡ []
  pub pages : TakesPage old.pages new.pages page
  pub shown : new.shown ≡ old.shown ++ message_ended_read (kept_of old.pages (name_of page)) page

-- four blocks of a page are read by taking the page
pub reads_four : (handset after : HandsetState) (blocks : List (List ℕ)) (first second third last : List ℕ)
    → handset.under_way ≡ [] → block_type first ≡ 0x20 → block_type second ≡ 0x21 → block_type third ≡ 0x22
    → block_type last ≡ 0x33 → TookPage handset after (view_of (page_octets (four first second third last)))
    → HasRead handset blocks → HasRead after (blocks ++ four first second third last)
reads_four handset after blocks first second third last none one two three end took read =
    let page = view_of (page_octets (four first second third last)) in
    let begun : HandsetState = record handset { under_way = first ∷ [] } in
    let second_read : HandsetState = record handset { under_way = first ∷ second ∷ [] } in
    let third_read : HandsetState = record handset { under_way = first ∷ second ∷ third ∷ [] } in
    let after_first : HasRead begun (blocks ++ first ∷ []) = reads_none handset begun blocks first
    (ends_none first ∙ ap (λ k. page_ended k first) (sym none))
    (let is : first ∷ [] ≡ under_way_with [] first = simp one refl in
    is ∙ ap (λ k. under_way_with k first) (sym none)) refl refl read in
    let after_second : HasRead second_read ((blocks ++ first ∷ []) ++ second ∷ []) =
    reads_none begun second_read (blocks ++ first ∷ []) second (simp two refl) (simp two refl) refl refl after_first in
    let after_third : HasRead third_read (((blocks ++ first ∷ []) ++ second ∷ []) ++ third ∷ []) =
    reads_none second_read third_read ((blocks ++ first ∷ []) ++ second ∷ []) third (simp three refl)
    (simp three refl) refl refl after_second in
    let after_last : HasRead after ((((blocks ++ first ∷ []) ++ second ∷ []) ++ third ∷ []) ++ last ∷ []) =
    reads_page third_read after (((blocks ++ first ∷ []) ++ second ∷ []) ++ third ∷ []) last page (simp end refl)
    (took.none ∙ (let is : [] ≡ under_way_with (first ∷ second ∷ third ∷ []) last = simp end refl in is))
    took.pages took.shown after_third in
    let joined : (((blocks ++ first ∷ []) ++ second ∷ []) ++ third ∷ []) ++ last ∷ []
    ≡ blocks ++ four first second third last =
    append_assoc ((blocks ++ first ∷ []) ++ second ∷ []) (third ∷ []) (last ∷ [])
    ∙ append_assoc (blocks ++ first ∷ []) (second ∷ []) (third ∷ last ∷ [])
    ∙ append_assoc blocks (first ∷ []) (second ∷ third ∷ last ∷ []) in
    subst (HasRead after) joined after_last

-- the same of four blocks of which only the types are known
types_read : (handset after : HandsetState) (blocks page : List (List ℕ)) → handset.under_way ≡ []
    → map block_type page ≡ page_types → TookPage handset after (view_of (page_octets page)) → HasRead handset blocks
    → HasRead after (blocks ++ page)
types_read handset after blocks (first ∷ second ∷ third ∷ last ∷ []) none types took read =
    let is : block_type first ∷ block_type second ∷ block_type third ∷ block_type last ∷ []
    ≡ 0x20 ∷ 0x21 ∷ 0x22 ∷ 0x33 ∷ [] = types in
    reads_four handset after blocks first second third last none (cc) (cc) (cc) (cc) took read
types_read handset after blocks [] none types took read = absurd (omega (arith, ap length types))
types_read handset after blocks (first ∷ []) none types took read = absurd (omega (arith, ap length types))
types_read handset after blocks (first ∷ second ∷ []) none types took read = absurd (omega (arith, ap length types))
types_read handset after blocks (first ∷ second ∷ third ∷ []) none types took read =
    absurd (omega (arith, ap length types))
types_read handset after blocks (first ∷ second ∷ third ∷ last ∷ more ∷ rest) none types took read =
    absurd (omega (arith, ap length types))

-- the page in front of some blocks is that of the first four, by their types
pub in_front : (blocks : List (List ℕ)) (page : PageView) → page ∷ [] ≡ page_in_front blocks →
    (map block_type (take 4 blocks) ≡ page_types) × (page ≡ view_of (page_octets (take 4 blocks)))
in_front blocks page is =
    by_test (bytes_eq (map block_type (take 4 blocks)) page_types) (view_of (page_octets (take 4 blocks)))
    (bytes_eq-Decides (map block_type (take 4 blocks)) page_types).0 refl is
  where
    by_test : (here : Bool) (view : PageView) →
        (bytes_eq (map block_type (take 4 blocks)) page_types ≡ true → map block_type (take 4 blocks) ≡ page_types) →
        bytes_eq (map block_type (take 4 blocks)) page_types ≡ here → page ∷ [] ≡ cond here (view ∷ []) [] →
        (map block_type (take 4 blocks) ≡ page_types) × (page ≡ view)
    by_test true view types test one = (types test, cc)
    by_test false view types test none = absurd (cc)

-- the blocks up to a place where a page stands, with that page
pub reads_whole : (handset after : HandsetState) (before blocks : List (List ℕ)) (place : ℕ) (page : PageView) →
    handset.under_way ≡ [] → page ∷ [] ≡ page_in_front (drop place blocks) → TookPage handset after page →
    HasRead handset (before ++ take place blocks) → HasRead after (before ++ take (place + 4) blocks)
reads_whole handset after before blocks place page none is took read =
    let ahead = in_front (drop place blocks) page is in
    let read_on : before ++ take (place + 4) blocks ≡ (before ++ take place blocks) ++ take 4 (drop place blocks) =
    ap (λ l. before ++ l) (take-add place 4 blocks)
    ∙ sym (append_assoc before (take place blocks) (take 4 (drop place blocks))) in
    subst (HasRead after) (sym read_on)
    (types_read handset after (before ++ take place blocks) (take 4 (drop place blocks)) none ahead.0
    (subst (TookPage handset after) ahead.1 took) read)
