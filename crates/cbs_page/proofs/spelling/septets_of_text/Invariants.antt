use Rattle.std.proofs.Common.{length}
use Rattle.std.specs.Str.{chars}
use Rattle.gsm_alphabet.specs.Alphabet.{septets_of}
use Rattle.cbs_page.specs.PagingSteps.{is_spelled}
use Rattle.cbs_page.proofs.SpellingLaws.{HasSpelled}
use Rattle.cbs_page.proofs.spelling.septets_of_text.Given as goal

abbrev pub invariant-loop-character : goal.invariant-loop-character
invariant-loop-character l = record {
  finite : (goal.iterator-loop-character).can_next l.character-iterator
      × (goal.iterator-loop-character).is_finite l.character-iterator;
  made : HasSpelled is_spelled septets_of (chars l.text) (length l.yielded) l.septets.items;
}
