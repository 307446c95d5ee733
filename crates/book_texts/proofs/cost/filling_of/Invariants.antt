use Rattle.std.proofs.Common.{◌≡◌, ◌+◌, ◌≤◌, length, drop}
use Rattle.std.specs.Str.{chars}
use Rattle.cbs_page.proofs.Cutting.{count_from}
use Rattle.cbs_page.specs.Text.{capacity, codes_of}
use Rattle.book_texts.proofs.Filling.{used_from}
use Rattle.book_texts.proofs.cost.filling_of.Given as goal

abbrev pub invariant-loop-character : goal.invariant-loop-character
invariant-loop-character l = record {
  finite : (goal.iterator-loop-character).can_next l.character-iterator
      × (goal.iterator-loop-character).is_finite l.character-iterator;
  within : l.used ≤ capacity l.alphabet;
  characters : l.characters ≡ length l.yielded;
  few : l.pages ≤ length l.yielded + 1;
  counted : l.pages + count_from (codes_of l.alphabet) (capacity l.alphabet) l.used
      (drop (length l.yielded) (chars l.text))
      ≡ count_from (codes_of l.alphabet) (capacity l.alphabet) 0 (chars l.text) + 1;
  last : used_from (codes_of l.alphabet) (capacity l.alphabet) l.used (drop (length l.yielded) (chars l.text))
      ≡ used_from (codes_of l.alphabet) (capacity l.alphabet) 0 (chars l.text);
}
