use Rattle.std.proofs.Common.{[], ◌∷◌, length}
use Rattle.std.specs.Str.{chars}
use Rattle.cbs_page.specs.PagingSteps.{is_good}
use Rattle.cbs_page.proofs.SpellingLaws.{HasSpelled}
use Rattle.cbs_page.proofs.spelling.units_of_text.Given as goal

abbrev pub invariant-loop-character : goal.invariant-loop-character
invariant-loop-character l = record {
  finite : (goal.iterator-loop-character).can_next l.character-iterator
      × (goal.iterator-loop-character).is_finite l.character-iterator;
  made : HasSpelled is_good (λ character. character ∷ []) (chars l.text) (length l.yielded) l.units.items;
}
