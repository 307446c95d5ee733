use Rattle.std.proofs.Common.{◌≡◌, ◌∙◌, ℕ, ◌+◌, List, [], ◌∷◌, ◌++◌, find, sym, ap, arith, IsTrue, string_bytes}
use Rattle.std.proofs.Common.{encode_utf8_all, append-nil}
use Rattle.std.specs.Option.{option_map_or}
use Rattle.std.specs.List.{flat_map, range_with_len}
use Rattle.std.proofs.lemmas.Grind.{flat_map-append}
use Rattle.std.proofs.lemmas.List.Elements.{All-push}
use Rattle.std.proofs.lemmas.Str.{encodes-append}
use Rattle.cbs_page.specs.declared.octets.PageView.{PageView}
use Rattle.cbs_page.specs.Page.{is_readable}
use Rattle.cbs_page.specs.Text.{text_of_page}
use Rattle.handset.specs.Reception.{Name, name_of}
use Rattle.handset.specs.Keeping.{is_numbered}
use Rattle.handset.proofs.Lists.{range-more, found_holds}
use Rattle.handset.proofs.messages.text.Goals as goal
use Rattle.handset.proofs.messages.text.Goals.{in-Some+in_ok-push_page_text, in_default}

abbrev text_at : Name → List PageView → ℕ → List ℕ
text_at name pages number = option_map_or text_of_page (find (is_numbered name number) pages) []

-- the text up to a number, with the text of the next
one_more : (name : Name) (pages : List PageView) (before : ℕ) →
    encode_utf8_all (flat_map (text_at name pages) (range_with_len 1 (before + 1)))
    ≡ encode_utf8_all (flat_map (text_at name pages) (range_with_len 1 before)) ++ encode_utf8_all
    (text_at name pages (before + 1))
one_more name pages before =
    let next : 1 + before ≡ before + 1 = omega arith in
    ap encode_utf8_all
    (ap (flat_map (text_at name pages)) (range-more 1 before ∙ ap (λ n. range_with_len 1 before ++ n ∷ []) next)
    ∙ flat_map-append (text_at name pages) (range_with_len 1 before) ((before + 1) ∷ [])
    ∙ ap (λ text. flat_map (text_at name pages) (range_with_len 1 before) ++ text)
    (append-nil (text_at name pages (before + 1))))
    ∙ encodes-append (flat_map (text_at name pages) (range_with_len 1 before)) (text_at name pages (before + 1))

pub push_page_text-requires : goal.push_page_text-requires
push_page_text-requires c =
    found_holds (λ p. IsTrue (is_readable p)) (is_numbered (name_of c.args.last.now) (c.loop-before.before + 1))
    (c.args.pages.now ++ c.args.last.now ∷ []) c.in-Some.page.now
    (All-push (λ (p : PageView). IsTrue (is_readable p)) c.args.pages.now c.args.last.now c.requires.pages
    c.requires.last) (rw c.in-Some.is at c.page_with.ensures)

pub loop-before-preserved : goal.loop-before-preserved
loop-before-preserved c =
    let more = one_more (name_of c.args.last.now) (c.args.pages.now ++ c.args.last.now ∷ []) c.loop-before.before in
    elim c.match-page_with.branch [
      | in-Some+in_ok-push_page_text w ↦
          let here : text_at (name_of c.args.last.now) (c.args.pages.now ++ c.args.last.now ∷ [])
          (c.loop-before.before + 1) ≡ text_of_page w.in-Some.page.now =
          ap (λ o. option_map_or text_of_page o []) (sym (rw w.in-Some.is at c.page_with.ensures)) in
          ap string_bytes w.text-is ∙ w.in_ok-push_page_text.ensures.pushed
          ∙ ap (λ t. t ++ encode_utf8_all (text_of_page w.in-Some.page.now)) c.loop-before.invariant
          ∙ ap (λ t. encode_utf8_all
          (flat_map (text_at (name_of c.args.last.now) (c.args.pages.now ++ c.args.last.now ∷ []))
          (range_with_len 1 c.loop-before.before)) ++ encode_utf8_all t) (sym here)
          ∙ sym more
      | in_default w ↦
          let here : text_at (name_of c.args.last.now) (c.args.pages.now ++ c.args.last.now ∷ [])
          (c.loop-before.before + 1) ≡ [] =
          ap (λ o. option_map_or text_of_page o []) (sym (rw w.in_default.is at c.page_with.ensures)) in
          ap string_bytes w.text-is ∙ c.loop-before.invariant
          ∙ sym (append-nil (encode_utf8_all
          (flat_map (text_at (name_of c.args.last.now) (c.args.pages.now ++ c.args.last.now ∷ []))
          (range_with_len 1 c.loop-before.before))))
          ∙ ap (λ t. encode_utf8_all
          (flat_map (text_at (name_of c.args.last.now) (c.args.pages.now ++ c.args.last.now ∷ []))
          (range_with_len 1 c.loop-before.before)) ++ encode_utf8_all t) (sym here)
          ∙ sym more
    ]
