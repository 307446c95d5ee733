-- What the blocks of a sender carry, counted as they come, is what the tape carries that they make.
use Rattle.std.proofs.Common.{◌≡◌, ℕ, zero, suc, ◌+◌, ◌-◌, ◌*◌, ◌/◌, ◌<◌, ◌≤◌, ◌^◌, ◌%◌, max, min, Bool, true, false}
use Rattle.std.proofs.Common.{List, [], ◌∷◌, ◌++◌, length, map, take, fold, get_or, refl, sym, ap, ◌∙◌, subst, inl, inr}
use Rattle.std.proofs.Common.{arith, append-nil, length-append, Option, Some, None, Ok, Err, nat_lt, lit<, is_none}
use Rattle.std.proofs.Common.{unwrap_or, replicate}
use Rattle.std.proofs.Common.{if◌then◌else◌, MatchBool}
use Rattle.std.specs.Prelude.{◌==◌, ◌&&◌, nat_le, slice_set, bytes_eq}
use Rattle.std.specs.List.{suffix_len}
use Rattle.std.proofs.lemmas.Bool.{cases_Bool, cases_eq, ltb-false, ltb-true}
use Rattle.std.proofs.lemmas.Grind.{fold-append}
use Rattle.std.proofs.lemmas.List.{length-set, map-append, take_more}
use Rattle.std.proofs.lemmas.Option.{slice_get-get_or, slice_get_past}
use Rattle.std.proofs.lemmas.List.{get_or-set_other, get_or-set_same}
use Rattle.std.proofs.lemmas.List.Sums.{suffix_len_is}
use Rattle.cbch_blocks.specs.Blocks.{idle_block}
use Rattle.cbs_page.specs.declared.octets.PageView.{PageView}
use Rattle.handset.specs.Keeping.{IsUnderWay}
use Rattle.handset.specs.KeepingSteps.{page_ended, under_way_with}
use Rattle.handset.specs.Reception.{block_type, page_in_front, page_types, pages_read}
use Rattle.handset.proofs.BlockLaws.{pages-more, under_way-more}
use Rattle.gsmtap.specs.Carried.{each_once, pages_known, summary_in}
use Rattle.gsmtap.specs.CarriedSteps.{gathered_by, gathered_with}
use Rattle.gsmtap.specs.Listening.{AreCounted, IsEnd, IsKept, IsListening, block_at, front_of, identifiers_of, settled}
use Rattle.gsmtap.specs.TapeOfCapture.{blocks_in, slots_filled}
use Rattle.gsmtap.specs.TapeSteps.{last_slot}
use Rattle.gsmtap.specs.Track.{Known, ahead, followed, latest, nearest, place_in, put, put_at, slot_of_frame}
use Rattle.gsmtap.specs.Track.{with_block}
use Rattle.gsmtap.specs.declared.fault.AirFaultKind.TheVariants.{Differs, StepsBack}
use Rattle.gsmtap.specs.declared.listener.Listener.{Listener}
use Rattle.gsmtap.specs.declared.listener.PageCount.{PageCount}
use Rattle.gsmtap.specs.declared.tap.Sent.{Sent}
use Rattle.gsmtap.specs.declared.track.Track.{Track}
use Rattle.gsmtap.proofs.Once.{gathered_from_none}
use Rattle.gsmtap.proofs.TapesLaws.{first_or_second, in_track, long_put}

-- Numbers that are gathered after others

gathered-append : (numbers front back : List ℕ) →
    gathered_by numbers (front ++ back) ≡ gathered_by (gathered_by numbers front) back
gathered-append numbers [] back = refl
gathered-append numbers (one ∷ front) back = gathered-append (gathered_with numbers one) front back

once-append : (front back : List ℕ) → each_once (front ++ back) ≡ gathered_by (each_once front) back
once-append front back =
    sym (gathered_from_none (front ++ back)) ∙ gathered-append [] front back
    ∙ ap (λ it. gathered_by it back) (gathered_from_none front)

-- Pages that are counted block by block

none_under_way : IsUnderWay [] []
none_under_way = record { few = omega arith; begun = refl; goes_on = λ more. refl }

few_in_front : (blocks : List (List ℕ)) → length (page_in_front blocks) ≤ 1
few_in_front blocks = elim (cases_Bool (bytes_eq (map block_type (take 4 blocks)) page_types)) [
  | inl is ↦ rw is (omega arith)
  | inr isnt ↦ rw isnt (omega arith)
]

pages_few : (blocks : List (List ℕ)) → length (pages_read blocks) ≤ length blocks
pages_few [] = omega arith
pages_few (block ∷ rest) =
    omega (
      arith,
      pages_few rest,
      few_in_front (block ∷ rest),
      length-append (page_in_front (block ∷ rest)) (pages_read rest),
    )

-- they are few
pub counted_few : (count : PageCount) (blocks : List (List ℕ)) → AreCounted count blocks → length blocks < 2 ^ 63 →
    count.pages < 2 ^ 63
counted_few count blocks are few = omega (arith, are.pages, few, pages_few blocks)

-- after one block more
pub counted_more : (old new : PageCount) (blocks : List (List ℕ)) (block : List ℕ) → AreCounted old blocks →
    new.kept.items ≡ under_way_with old.kept.items block →
    new.pages ≡ old.pages + length (page_ended old.kept.items block) →
    new.identifiers.items
    ≡ gathered_by old.identifiers.items (identifiers_of (page_ended old.kept.items block)) →
    AreCounted new (blocks ++ block ∷ [])
counted_more old new blocks block are kept pages identifiers =
    let ended : List PageView = page_ended old.kept.items block in
    let read : pages_read (blocks ++ block ∷ []) ≡ pages_read blocks ++ ended =
    pages-more old.kept.items blocks block are.under_way in
    let many : length (pages_read (blocks ++ block ∷ [])) ≡ length (pages_read blocks) + length ended =
    ap length read ∙ length-append (pages_read blocks) ended in
    record {
      under_way =
          subst (λ it. IsUnderWay it (blocks ++ block ∷ [])) (sym kept)
          (under_way-more old.kept.items blocks block are.under_way);
      kept =
          kept ∙ ap (λ it. under_way_with it block) are.kept ∙ sym (fold-append under_way_with [] blocks (block ∷ []));
      pages = omega (arith, pages, are.pages, many);
      identifiers =
          identifiers ∙ ap (λ it. gathered_by it (identifiers_of ended)) are.identifiers
          ∙ sym (once-append (identifiers_of (pages_read blocks)) (identifiers_of ended))
          ∙ ap each_once (sym (map-append (λ (page : PageView). page.id) (pages_read blocks) ended))
          ∙ ap (λ it. each_once (identifiers_of it)) (sym read);
    }

-- a page in front of three blocks that begin one is the page that the fourth ends
pub front_is : (first second third block : List ℕ) →
    map block_type (first ∷ second ∷ third ∷ []) ≡ take 3 page_types →
    page_in_front (first ∷ second ∷ third ∷ block ∷ []) ≡ page_ended (first ∷ second ∷ third ∷ []) block
front_is first second third block begun =
    let one : block_type first ≡ 0x20 = cc in
    let two : block_type second ≡ 0x21 = cc in
    let three : block_type third ≡ 0x22 = cc in
    elim (cases_Bool (block_type block == 0x33)) [
      | inl is ↦ simp (one, two, three, is) refl
      | inr isnt ↦ simp (one, two, three, isnt) refl
    ]

-- The first blocks of a tape

front_same : (blocks others : List (Option (List ℕ))) (count : ℕ) →
    ((place : ℕ) → place < count → block_at others place ≡ block_at blocks place) →
    front_of others count ≡ front_of blocks count
front_same blocks others zero same = refl
front_same blocks others (suc count) same =
    ap (λ front. front ++ unwrap_or (block_at others count) idle_block ∷ [])
    (front_same blocks others count (λ place few. same place (omega (arith, few))))
    ∙ ap (λ block. front_of blocks count ++ unwrap_or block idle_block ∷ []) (same count (omega arith))

front_is_take : (blocks : List (Option (List ℕ))) (count : ℕ) → count ≤ length blocks →
    front_of blocks count ≡ blocks_in (take count blocks)
front_is_take blocks zero few = refl
front_is_take blocks (suc count) few =
    let next : suc count ≡ count + 1 = omega arith in
    ap (λ front. front ++ unwrap_or (block_at blocks count) idle_block ∷ [])
    (front_is_take blocks count (omega (arith, few)))
    ∙ sym (map-append (λ block. unwrap_or block idle_block) (take count blocks) (get_or blocks count None ∷ []))
    ∙ ap blocks_in (sym (ap (λ n. take n blocks) next ∙ take_more blocks count None (omega (arith, few))))

-- they are as many as are asked for
pub front_long : (blocks : List (Option (List ℕ))) (count : ℕ) → length (front_of blocks count) ≡ count
front_long blocks zero = refl
front_long blocks (suc count) =
    length-append (front_of blocks count) (unwrap_or (block_at blocks count) idle_block ∷ [])
    ∙ omega (arith, front_long blocks count)

front_under_way : (blocks : List (Option (List ℕ))) (count : ℕ) →
    (kept : List (List ℕ)) × IsUnderWay kept (front_of blocks count)
front_under_way blocks zero = ([], none_under_way)
front_under_way blocks (suc count) =
    let before = front_under_way blocks count in
    let block : List ℕ = unwrap_or (block_at blocks count) idle_block in (
      under_way_with before.0 block,
      under_way-more before.0 (front_of blocks count) block before.1,
    )

idle_more : (kept blocks : List (List ℕ)) → IsUnderWay kept blocks →
    pages_read (blocks ++ idle_block ∷ []) ≡ pages_read blocks
idle_more kept blocks is = pages-more kept blocks idle_block is ∙ append-nil (pages_read blocks)

idle_after : (blocks : List (Option (List ℕ))) (count more : ℕ) →
    ((place : ℕ) → count ≤ place → block_at blocks place ≡ None) →
    pages_read (front_of blocks (count + more)) ≡ pages_read (front_of blocks count)
idle_after blocks count zero idle =
    let same : count + 0 ≡ count = omega arith in
    ap (λ n. pages_read (front_of blocks n)) same
idle_after blocks count (suc more) idle =
    let next : count + suc more ≡ suc (count + more) = omega arith in
    let under = front_under_way blocks (count + more) in
    ap (λ n. pages_read (front_of blocks n)) next
    ∙ ap (λ block. pages_read (front_of blocks (count + more) ++ unwrap_or block idle_block ∷ []))
    (idle (count + more) (omega arith))
    ∙ idle_more under.0 (front_of blocks (count + more)) under.1
    ∙ idle_after blocks count more idle

-- Where a tape ends

end_more : (blocks : List (Option (List ℕ))) (count place : ℕ) (block : List ℕ) → IsEnd blocks count →
    place < length blocks → IsEnd (slice_set blocks place (Some block)) (max count (place + 1))
end_more blocks count place block end inside = record {
  within = omega (arith, end.within, inside, length-set blocks place (Some block));
  idle = λ later past.
      get_or-set_other blocks place later (Some block) None (λ same. omega (arith, past, same))
      ∙ end.idle later (omega (arith, past));
  last = λ some. elim (cases_Bool (nat_lt (place + 1) count)) [
    | inl is ↦
        let later : place + 1 < count = ltb-true (place + 1) count is in
        let same : max count (place + 1) - 1 ≡ count - 1 = omega (arith, later) in
        ap (λ n. is_none (block_at (slice_set blocks place (Some block)) n)) same
        ∙ ap is_none
        (get_or-set_other blocks place (count - 1) (Some block) None (λ at. omega (arith, at, later)))
        ∙ end.last (omega (arith, later))
    | inr isnt ↦
        let same : max count (place + 1) - 1 ≡ place = omega (arith, ltb-false (place + 1) count isnt) in
        ap (λ n. is_none (block_at (slice_set blocks place (Some block)) n)) same
        ∙ ap is_none (get_or-set_same blocks place (Some block) None inside)
  ];
}

end_slots : (blocks : List (Option (List ℕ))) (count : ℕ) → IsEnd blocks count →
    slots_filled blocks ≡ (count + 3) / 4
end_slots blocks count end =
    let idle : suffix_len is_none blocks ≡ length blocks - count =
    suffix_len_is is_none blocks count None end.within (λ k past inside. ap is_none (end.idle k past)) end.last in
    let left : length blocks - suffix_len is_none blocks ≡ count = omega (arith, idle, end.within) in
    ap (λ n. (n + 3) / 4) left

-- What is kept of a tape, a slot later

nones : (place : ℕ) → get_or {A = Option (List ℕ)} (None ∷ None ∷ None ∷ None ∷ []) place None ≡ None
nones zero = refl
nones (suc zero) = refl
nones (suc (suc zero)) = refl
nones (suc (suc (suc zero))) = refl
nones (suc (suc (suc (suc place)))) = refl

-- the second slot that was kept, and one that is idle
abbrev pub moved_on : List (Option (List ℕ)) → List (Option (List ℕ))
moved_on recent =
    get_or recent 4 None ∷ get_or recent 5 None ∷ get_or recent 6 None ∷ get_or recent 7 None
    ∷ None ∷ None ∷ None ∷ None ∷ []

recent_next : (blocks recent : List (Option (List ℕ))) (from : ℕ) →
    ((place : ℕ) → place < 8 → get_or recent place None ≡ block_at blocks (from + place)) →
    ((place : ℕ) → from + 8 ≤ place → block_at blocks place ≡ None) →
    (place : ℕ) → place < 8 → get_or (moved_on recent) place None ≡ block_at blocks (from + 4 + place)
recent_next blocks recent from are idle zero few =
    let there : from + 4 ≡ from + 4 + 0 = omega arith in
    are 4 (lit< tt) ∙ ap (block_at blocks) there
recent_next blocks recent from are idle (suc zero) few =
    let there : from + 5 ≡ from + 4 + 1 = omega arith in
    are 5 (lit< tt) ∙ ap (block_at blocks) there
recent_next blocks recent from are idle (suc (suc zero)) few =
    let there : from + 6 ≡ from + 4 + 2 = omega arith in
    are 6 (lit< tt) ∙ ap (block_at blocks) there
recent_next blocks recent from are idle (suc (suc (suc zero))) few =
    let there : from + 7 ≡ from + 4 + 3 = omega arith in
    are 7 (lit< tt) ∙ ap (block_at blocks) there
recent_next blocks recent from are idle (suc (suc (suc (suc place)))) few =
    nones place ∙ sym (idle (from + 4 + suc (suc (suc (suc place)))) (omega arith))

-- the blocks of a slot that is counted
abbrev pub four_more : List (List ℕ) → (recent : List (Option (List ℕ))) → List (List ℕ)
four_more front recent =
    (((front ++ unwrap_or (get_or recent 0 None) idle_block ∷ []) ++ unwrap_or (get_or recent 1 None) idle_block ∷ [])
    ++ unwrap_or (get_or recent 2 None) idle_block ∷ []) ++ unwrap_or (get_or recent 3 None) idle_block ∷ []

front_next : (blocks recent : List (Option (List ℕ))) (from : ℕ) →
    ((place : ℕ) → place < 8 → get_or recent place None ≡ block_at blocks (from + place)) →
    four_more (front_of blocks from) recent ≡ front_of blocks (from + 4)
front_next blocks recent from are =
    let at : (place n : ℕ) → place < 8 → from + place ≡ n → get_or recent place None ≡ block_at blocks n =
    λ place n few is. are place few ∙ ap (block_at blocks) is in
    let first : get_or recent 0 None ≡ block_at blocks from = at 0 from (lit< tt) (omega arith) in
    let second : get_or recent 1 None ≡ block_at blocks (suc from) = at 1 (suc from) (lit< tt) (omega arith) in
    let third : get_or recent 2 None ≡ block_at blocks (suc (suc from)) =
    at 2 (suc (suc from)) (lit< tt) (omega arith) in
    let fourth : get_or recent 3 None ≡ block_at blocks (suc (suc (suc from))) =
    at 3 (suc (suc (suc from))) (lit< tt) (omega arith) in
    let four : suc (suc (suc (suc from))) ≡ from + 4 = omega arith in
    rw first (rw second (rw third (rw fourth (ap (front_of blocks) four))))

-- a slot later
pub kept_next : (blocks : List (Option (List ℕ))) (slot : ℕ) (old new : Listener) → IsKept blocks slot old →
    new.end ≡ old.end → new.recent ≡ moved_on old.recent →
    AreCounted new.count (four_more (front_of blocks (4 * slot)) old.recent) → IsKept blocks (slot + 1) new
kept_next blocks slot old new is end recent counted =
    let later : 4 * slot + 4 ≡ 4 * (slot + 1) = omega arith in
    record {
      counted =
          subst (λ n. AreCounted new.count (front_of blocks n)) later
          (subst (λ it. AreCounted new.count it) (front_next blocks old.recent (4 * slot) is.recent) counted);
      recent = λ place few.
          ap (λ it. get_or it place None) recent
          ∙ recent_next blocks old.recent (4 * slot) is.recent
          (λ there past. is.end.idle there (omega (arith, past, is.near))) place few
          ∙ ap (λ n. block_at blocks (n + place)) later;
      eight = ap length recent;
      end = subst (λ n. IsEnd blocks n) (sym end) is.end;
      near = omega (arith, end, is.near);
    }

-- and many slots later, where no block is kept any more

counted_far : (count : PageCount) (blocks : List (Option (List ℕ))) (from more : ℕ) →
    ((place : ℕ) → from ≤ place → block_at blocks place ≡ None) → count.kept.items ≡ [] →
    AreCounted count (front_of blocks from) → AreCounted count (front_of blocks (from + more))
counted_far count blocks from zero idle none are =
    let same : from ≡ from + 0 = omega arith in
    subst (λ n. AreCounted count (front_of blocks n)) same are
counted_far count blocks from (suc more) idle none are =
    let next : suc (from + more) ≡ from + suc more = omega arith in
    let pages : count.pages ≡ count.pages + 0 = omega arith in
    subst (λ n. AreCounted count (front_of blocks n)) next
    (subst (λ block. AreCounted count (front_of blocks (from + more) ++ unwrap_or block idle_block ∷ []))
    (sym (idle (from + more) (omega arith)))
    (counted_more count count (front_of blocks (from + more)) idle_block
    (counted_far count blocks from more idle none are) none pages refl))

none_kept : (count : PageCount) (blocks : List (Option (List ℕ))) (from before : ℕ) → from ≡ suc before →
    block_at blocks before ≡ None → AreCounted count (front_of blocks from) → count.kept.items ≡ []
none_kept count blocks from before is none are =
    are.kept ∙ ap (λ n. fold under_way_with [] (front_of blocks n)) is
    ∙ ap (λ block. fold under_way_with [] (front_of blocks before ++ unwrap_or block idle_block ∷ [])) none
    ∙ fold-append under_way_with [] (front_of blocks before) (idle_block ∷ [])

-- three slots after the last block that is known no later slot makes a difference
pub kept_far : (blocks : List (Option (List ℕ))) (slot more : ℕ) (listener : Listener) →
    IsKept blocks (slot + 3) listener → listener.end ≤ 4 * slot + 8 → IsKept blocks (slot + 3 + more) listener
kept_far blocks slot more listener is near =
    let idle : (place : ℕ) → 4 * slot + 8 ≤ place → block_at blocks place ≡ None =
    λ place past. is.end.idle place (omega (arith, past, near)) in
    let last : 4 * (slot + 3) ≡ suc (4 * slot + 11) = omega arith in
    let none : listener.count.kept.items ≡ [] =
    none_kept listener.count blocks (4 * (slot + 3)) (4 * slot + 11) last (idle (4 * slot + 11) (omega arith))
    is.counted in
    let there : 4 * (slot + 3) + 4 * more ≡ 4 * (slot + 3 + more) = omega arith in
    record {
      counted =
          subst (λ n. AreCounted listener.count (front_of blocks n)) there
          (counted_far listener.count blocks (4 * (slot + 3)) (4 * more)
          (λ place past. idle place (omega (arith, past))) none is.counted);
      recent = λ place few.
          is.recent place few ∙ idle (4 * (slot + 3) + place) (omega arith)
          ∙ sym (idle (4 * (slot + 3 + more) + place) (omega arith));
      eight = is.eight;
      end = is.end;
      near = omega (arith, near);
    }

-- A block is put at a place

put_recent : (blocks recent : List (Option (List ℕ))) (from index place : ℕ) (block : List ℕ) →
    place ≡ from + index → place < length blocks → index < length recent → length recent ≡ 8 →
    ((at : ℕ) → at < 8 → get_or recent at None ≡ block_at blocks (from + at)) →
    (at : ℕ) → at < 8 →
    get_or (slice_set recent index (Some block)) at None
    ≡ block_at (slice_set blocks place (Some block)) (from + at)
put_recent blocks recent from index place block is inside within eight are at few = elim (cases_eq at index) [
  | inl here ↦
      let there : from + at ≡ place = omega (arith, here, is) in
      ap (λ n. get_or (slice_set recent index (Some block)) n None) here
      ∙ get_or-set_same recent index (Some block) None within
      ∙ sym (get_or-set_same blocks place (Some block) None inside)
      ∙ ap (block_at (slice_set blocks place (Some block))) (sym there)
  | inr other ↦
      get_or-set_other recent index at (Some block) None other
      ∙ are at few
      ∙ sym (get_or-set_other blocks place (from + at) (Some block) None (λ same. other (omega (arith, same, is))))
]

-- where none was known
pub kept_put : (blocks : List (Option (List ℕ))) (slot index place : ℕ) (block : List ℕ) (old new : Listener) →
    IsKept blocks slot old → place ≡ 4 * slot + index → index < 8 → place < length blocks →
    new.count ≡ old.count → new.recent ≡ slice_set old.recent index (Some block) →
    new.end ≡ max old.end (place + 1) → IsKept (slice_set blocks place (Some block)) slot new
kept_put blocks slot index place block old new is there few inside count recent end = record {
  counted =
      subst (λ (it : PageCount). AreCounted it (front_of (slice_set blocks place (Some block)) (4 * slot))) (sym count)
      (subst (λ it. AreCounted old.count it)
      (sym (front_same blocks (slice_set blocks place (Some block)) (4 * slot)
      (λ at before. get_or-set_other blocks place at (Some block) None (λ same. omega (arith, before, same, there)))))
      is.counted);
  recent = λ at some.
      ap (λ it. get_or it at None) recent
      ∙ put_recent blocks old.recent (4 * slot) index place block there inside (omega (arith, few, is.eight)) is.eight
      is.recent at some;
  eight = ap length recent ∙ length-set old.recent index (Some block) ∙ is.eight;
  end = subst (λ n. IsEnd (slice_set blocks place (Some block)) n) (sym end)
      (end_more blocks old.end place block is.end inside);
  near = omega (arith, end, is.near, there, few);
}

-- What was counted in the end

-- it is what the tape carries
pub carried_is : (known : Known) (old last : Listener) → IsListening known old →
    IsKept known.blocks (settled known.track + 2) last → last.end ≡ old.end →
    record {
      slots = (last.end + 3) / 4;
      pages = last.count.pages;
      identifiers = last.count.identifiers.items;
    } ≡ summary_in known.blocks
carried_is known old last is kept end =
    let blocks : List (Option (List ℕ)) = known.blocks in
    let slots : ℕ = (last.end + 3) / 4 in
    let filled : slots_filled blocks ≡ slots = end_slots blocks last.end kept.end in
    let settled_to : ℕ = 4 * (settled known.track + 2) in
    let few : 4 * slots ≤ settled_to = omega (arith, is.kept.near, end) in
    let whole : 4 * slots + (settled_to - 4 * slots) ≡ settled_to = omega (arith, few) in
    let inside : 4 * slots ≤ length blocks = omega (arith, kept.end.within, is.long) in
    let pages : pages_read (front_of blocks settled_to) ≡ pages_known blocks =
    ap (λ n. pages_read (front_of blocks n)) (sym whole)
    ∙ idle_after blocks (4 * slots) (settled_to - 4 * slots)
    (λ place past. kept.end.idle place (omega (arith, past)))
    ∙ ap pages_read (front_is_take blocks (4 * slots) inside)
    ∙ ap (λ n. pages_read (blocks_in (take (4 * n) blocks))) (sym filled) in
    ap (λ n. record { slots = n; pages = last.count.pages; identifiers = last.count.identifiers.items }) (sym filled)
    ∙ ap (λ n. record { slots = slots_filled blocks; pages = n; identifiers = last.count.identifiers.items })
    (kept.counted.pages ∙ ap length pages)
    ∙ ap (λ it. record { slots = slots_filled blocks; pages = length (pages_known blocks); identifiers = it })
    (kept.counted.identifiers ∙ ap (λ it. each_once (identifiers_of it)) pages)

-- so many slots later
pub kept_by : (blocks : List (Option (List ℕ))) (slot slots moved : ℕ) (old new : Listener) → IsKept blocks slot old →
    new.end ≡ old.end → moved ≡ min slots 3 → IsKept blocks (slot + moved) new → IsKept blocks (slot + slots) new
kept_by blocks slot slots moved old new is end enough kept = elim (cases_Bool (nat_lt 3 slots)) [
  | inl many ↦
      let more : 3 < slots = ltb-true 3 slots many in
      let three : slot + moved ≡ slot + 3 = omega (arith, enough, more) in
      let whole : slot + 3 + (slots - 3) ≡ slot + slots = omega (arith, more) in
      subst (λ n. IsKept blocks n new) whole
      (kept_far blocks slot (slots - 3) new (subst (λ n. IsKept blocks n new) three kept)
      (omega (arith, end, is.near)))
  | inr few ↦
      let all : slot + moved ≡ slot + slots = omega (arith, enough, ltb-false 3 slots few) in
      subst (λ n. IsKept blocks n new) all kept
]

-- A block more

-- a block stands in the slot from which on blocks can come, or in the next one, and that slot never comes nearer
pub record IsSlotNear (track : Option Track) (there : Track) : Type 0 where
  pub from : settled (Some (latest track there)) ≤ there.slot
  pub to : there.slot ≤ settled (Some (latest track there)) + 1
  pub onward : settled track ≤ settled (Some (latest track there))
  pub bound : settled (Some (latest track there)) ≤ last_slot track + 3328

-- where it stands
pub slot_near : (track : Option Track) (there : ℕ) (new : Track) → followed track there ≡ Some new →
    IsSlotNear track new
unfolding followed
slot_near None there new is =
    let same : record { first = there; slot = 0 } ≡ new = cc in
    let zero : 0 ≡ new.slot = ap (λ (track : Track). track.slot) same in
    record {
      from = omega (arith, zero);
      to = omega (arith, zero);
      onward = omega arith;
      bound = omega (arith, zero);
    }
slot_near (Some track) there new is =
    let distance : ℕ = ahead ((track.first + track.slot) % 6656) there in
    elim (first_or_second (nat_lt distance 3328) (distance == 6655 && nat_le 1 track.slot) (track.slot + distance)
    (track.slot - 1) new.slot (in_track track.first (nearest track there) new is)) [
      | inl both ↦
          let small : distance < 3328 = ltb-true distance 3328 both.0 in
          record {
            from = omega (arith, both.1);
            to = omega (arith, both.1);
            onward = omega (arith, both.1);
            bound = omega (arith, both.1, small);
          }
      | inr back ↦ record {
        from = omega (arith, back);
        to = omega (arith, back);
        onward = omega (arith, back);
        bound = omega (arith, back);
      }
    ]

-- it is put at its place
pub heard_more : (known : Known) (sent : Sent) (there : Track) (blocks : List (Option (List ℕ))) (new : Listener) →
    nat_lt (place_in sent.frame) 4 ≡ true → followed known.track (slot_of_frame sent.frame) ≡ Some there →
    put known.blocks (4 * there.slot + place_in sent.frame) sent.block ≡ Some blocks →
    length known.blocks ≡ 262140 → new.track ≡ Some (latest known.track there) →
    IsKept blocks (settled (Some (latest known.track there))) new →
    (next : Known) × (with_block known sent ≡ Ok next) × IsListening next new
unfolding with_block
heard_more known sent there blocks new few follows is long track kept = (
  record { track = Some (latest known.track there); blocks = blocks },
  rw few (rw follows (rw is refl)),
  record {
    track = track;
    long =
        long_put known.blocks (4 * there.slot + place_in sent.frame) sent.block blocks is ∙ long;
    kept = kept;
  },
)

-- it is of the extended channel
pub heard_none : (known : Known) (sent : Sent) → nat_lt (place_in sent.frame) 4 ≡ false →
    with_block known sent ≡ Ok known
unfolding with_block
heard_none known sent other = rw other refl

-- it steps back
pub steps_back : (known : Known) (sent : Sent) → nat_lt (place_in sent.frame) 4 ≡ true →
    followed known.track (slot_of_frame sent.frame) ≡ None → with_block known sent ≡ Err StepsBack
unfolding with_block
steps_back known sent few follows = rw few (rw follows refl)

-- it differs
pub differs : (known : Known) (sent : Sent) (there : Track) → nat_lt (place_in sent.frame) 4 ≡ true →
    followed known.track (slot_of_frame sent.frame) ≡ Some there →
    put known.blocks (4 * there.slot + place_in sent.frame) sent.block ≡ None → with_block known sent ≡ Err Differs
unfolding with_block
differs known sent there few follows is = rw few (rw follows (rw is refl))

-- A place of a tape

-- past its end
pub put_past : (blocks : List (Option (List ℕ))) (place : ℕ) (block : List ℕ) → length blocks ≤ place →
    put blocks place block ≡ Some blocks
unfolding put
put_past blocks place block past = ap (put_at blocks place block) (slice_get_past blocks place past)

-- where no block is known
pub put_none : (blocks : List (Option (List ℕ))) (place : ℕ) (block : List ℕ) → place < length blocks →
    block_at blocks place ≡ None → put blocks place block ≡ Some (slice_set blocks place (Some block))
unfolding put
put_none blocks place block inside none =
    ap (put_at blocks place block) (slice_get-get_or blocks place None inside ∙ ap Some none)

put_known : (blocks : List (Option (List ℕ))) (place : ℕ) (block known : List ℕ) → place < length blocks →
    block_at blocks place ≡ Some known →
    put blocks place block ≡ (if bytes_eq known block then Some blocks else None)
unfolding put
put_known blocks place block known inside is =
    ap (put_at blocks place block) (slice_get-get_or blocks place None inside ∙ ap Some is)

-- and where one is
pub put_again : (result : Bool) (blocks : List (Option (List ℕ))) (slot place : ℕ) (block known : List ℕ)
    (listener : Listener) → result ≡ bytes_eq known block → place < length blocks →
    block_at blocks place ≡ Some known → IsKept blocks slot listener →
    MatchBool result
    ((next : List (Option (List ℕ))) × (put blocks place block ≡ Some next) × IsKept next slot listener)
    (put blocks place block ≡ None)
put_again true blocks slot place block known listener same inside is kept =
    (blocks, put_known blocks place block known inside is ∙ rw (sym same) refl, kept)
put_again false blocks slot place block known listener same inside is kept =
    put_known blocks place block known inside is ∙ rw (sym same) refl

-- three blocks that are kept, and one more
pub three_of : (kept : List (List ℕ)) (block default : List ℕ) → length kept ≡ 3 →
    map block_type kept ≡ take (length kept) page_types →
    page_in_front (get_or kept 0 default ∷ get_or kept 1 default ∷ get_or kept 2 default ∷ block ∷ [])
    ≡ page_ended kept block
three_of [] block default long begun = absurd (omega (arith, long))
three_of (a ∷ []) block default long begun = absurd (omega (arith, long))
three_of (a ∷ b ∷ []) block default long begun = absurd (omega (arith, long))
three_of (a ∷ b ∷ c ∷ []) block default long begun = front_is a b c block begun
three_of (a ∷ b ∷ c ∷ d ∷ rest) block default long begun = absurd (omega (arith, long))

-- Before the first block

eight_nones : (place : ℕ) →
    get_or {A = Option (List ℕ)} (None ∷ None ∷ None ∷ None ∷ None ∷ None ∷ None ∷ None ∷ []) place None ≡ None
eight_nones zero = refl
eight_nones (suc zero) = refl
eight_nones (suc (suc zero)) = refl
eight_nones (suc (suc (suc zero))) = refl
eight_nones (suc (suc (suc (suc place)))) = nones place

idle_place : (count place : ℕ) → block_at (replicate count None) place ≡ None
idle_place zero place = refl
idle_place (suc count) zero = refl
idle_place (suc count) (suc place) = idle_place count place

-- a tape has as many places as it is made of
pub nothing_long : (places : ℕ) → length {A = Option (List ℕ)} (replicate places None) ≡ places
nothing_long zero = refl
nothing_long (suc places) = ap suc (nothing_long places)

-- nothing is known of a tape
pub kept_none : (count : PageCount) (places : ℕ) → AreCounted count [] →
    IsKept (replicate places None) 0 (record {
      track = None;
      count = count;
      recent = None ∷ None ∷ None ∷ None ∷ None ∷ None ∷ None ∷ None ∷ [];
      end = 0;
    })
kept_none count places are = record {
  counted = are;
  recent = λ place few. eight_nones place ∙ sym (idle_place places (4 * 0 + place));
  eight = refl;
  end = record {
    within = omega arith;
    idle = λ place past. idle_place places place;
    last = λ some. absurd (omega (arith, some));
  };
  near = omega arith;
}

-- a number is below four
pub is_below : (n : ℕ) → n < 4 → nat_lt n 4 ≡ true
is_below n few = elim (cases_Bool (nat_lt n 4)) [
  | inl is ↦ is
  | inr isnt ↦ absurd (omega (arith, few, ltb-false n 4 isnt))
]

-- or it isn't
pub isnt_below : (n : ℕ) → 4 ≤ n → nat_lt n 4 ≡ false
isnt_below n many = elim (cases_Bool (nat_lt n 4)) [
  | inl is ↦ absurd (omega (arith, many, ltb-true n 4 is))
  | inr isnt ↦ isnt
]

-- where a block is to be put after a listener has moved on
pub kept_there : (known : Known) (listener after new : Listener) (there : Track) (slot moved : ℕ) →
    IsListening known listener → IsSlotNear listener.track there →
    slot ≡ settled (Some (latest listener.track there)) → moved ≡ slot - settled listener.track →
    ((blocks : List (Option (List ℕ))) (from : ℕ) → IsKept blocks from listener → IsKept blocks (from + moved) after) →
    new.count ≡ after.count → new.recent ≡ after.recent → new.end ≡ after.end → IsKept known.blocks slot new
kept_there known listener after new there slot moved is near slot_is moved_is moves count recent end =
    let same : settled known.track ≡ settled listener.track = ap settled (sym is.track) in
    let whole : settled known.track + moved ≡ slot = omega (arith, same, moved_is, slot_is, near.onward) in
    let kept : IsKept known.blocks slot after =
    subst (λ n. IsKept known.blocks n after) whole (moves known.blocks (settled known.track) is.kept) in
    record {
      counted = subst (λ (it : PageCount). AreCounted it (front_of known.blocks (4 * slot))) (sym count) kept.counted;
      recent = λ place few. ap (λ it. get_or it place None) recent ∙ kept.recent place few;
      eight = ap length recent ∙ kept.eight;
      end = subst (λ n. IsEnd known.blocks n) (sym end) kept.end;
      near = omega (arith, end, kept.near);
    }
