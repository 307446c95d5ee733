-- Each law is a lemma of AlphabetLaws.
use Rattle.gsm_alphabet.proofs.AlphabetLaws as laws
use Rattle.gsm_alphabet.proofs.laws.alphabet_laws.Goals as goal

pub returns : goal.returns
returns c = record {
  text_begins = laws.text_begins;
  texts_begin = laws.texts_begin;
  text_comes_back = laws.text_comes_back;
  one_or_two_septets = laws.takes_one_or_two;
  septets_are_small = laws.septets_are_small;
  only_return_takes_return = laws.only_return_takes_return;
  shows_basic_scalars = laws.shows_basic_scalars;
  has_basic_scalars = laws.has_basic_scalars;
  entries_are_codes = laws.entries_are_codes;
}
