-- Each law is a lemma of Ucs2Laws.
use Rattle.ucs2_text.proofs.Ucs2Laws as laws
use Rattle.ucs2_text.proofs.laws.ucs2_laws.Goals as goal

pub returns : goal.returns
returns c = record {
  units_come_back = laws.units_come_back;
  octets_come_back = laws.octets_come_back;
  puts_whole_pages = laws.puts_whole_pages;
  reads_whole_pages = laws.reads_whole_pages;
  characters_come_back = laws.characters_come_back;
  units_show_scalars = laws.units_show_scalars;
}
