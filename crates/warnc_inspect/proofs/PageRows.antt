-- The rows of pages, one page after another.
use Rattle.std.proofs.Common.{◌≡◌, ◌∙◌, ◌+◌, ◌<◌, ◌++◌, ℕ, List, ap, append_assoc, drop, length, sym}
use Rattle.std.specs.Prelude.{slice_index_or}
use Rattle.std.proofs.lemmas.List.{at_drop_more}
use Rattle.cbs_page.specs.declared.content.Content.{Content}
use Rattle.warnc_inspect.specs.PageOutput.{content_row, page_rows}

-- what is so of the rows so far and the next one, it is so of some rows, which go on with those that are left
pub rows_more : {Is : List ℕ → Type 0} (id serial dcs total n : ℕ) (contents : List Content) (d : Content)
    (done whole : List ℕ) → n < length contents
    → Is (done ++ content_row id serial dcs total (n + 1) (slice_index_or contents n d))
    → done ++ page_rows id serial dcs total (n + 1) (drop n contents) ≡ whole
    → (x : List ℕ) × Is x × (x ++ page_rows id serial dcs total (n + 1 + 1) (drop (n + 1) contents) ≡ whole)
rows_more id serial dcs total n contents d done whole within is all = (
  done ++ content_row id serial dcs total (n + 1) (slice_index_or contents n d),
  is,
  append_assoc done (content_row id serial dcs total (n + 1) (slice_index_or contents n d))
      (page_rows id serial dcs total (n + 1 + 1) (drop (n + 1) contents))
      ∙ ap (λ rows. done ++ rows) (sym (at_drop_more (page_rows id serial dcs total (n + 1)) contents n d within))
      ∙ all,
)
