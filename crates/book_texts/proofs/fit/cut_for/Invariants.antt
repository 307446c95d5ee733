use Rattle.std.proofs.Common.{◌≡◌, length, take}
use Rattle.std.specs.Str.{chars}
use Rattle.book_texts.specs.FitSteps.{AreFew, HasTaken, IsBest}
use Rattle.book_texts.proofs.fit.cut_for.Given as goal

abbrev pub invariant-loop-character : goal.invariant-loop-character
invariant-loop-character l = record {
  finite : (goal.iterator-loop-character).can_next l.character-iterator
      × (goal.iterator-loop-character).is_finite l.character-iterator;
  characters : l.front.characters ≡ length l.yielded;
  few : AreFew l.front.characters l.front;
  taken : HasTaken (take (length l.yielded) (chars l.text)) l.front;
  best : IsBest l.pages (chars l.text) (length l.yielded) l.best;
}
