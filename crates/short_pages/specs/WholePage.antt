-- The page of 88 octets that a short page stands for: the first octets of a page came, and what follows the characters
-- that came whole is what fills a page. 3GPP TS 23.041, clause 9.4.1 (pages), and 3GPP TS 23.038, clauses 6.1.2.2 and
-- 6.2.3 (characters and filling).
use Rattle.std.specs.Prelude.{ℕ, ◌+◌, ◌-◌, ◌*◌, ◌/◌, Option, Some, None, List, ◌++◌, length, map, take, drop, replicate}
use Rattle.std.specs.Prelude.{slice_index}
use Rattle.std.specs.List.{range_with_len}
use Rattle.gsm_alphabet.specs.Alphabet.{text_of_septets}
use Rattle.septets.specs.Packing.{filled, septet_bit, unpacked}
use Rattle.ucs2_text.specs.Ucs2.{character_of_unit, octets_of_units, units_of_octets}
use Rattle.cbs_page.specs.declared.coding.Alphabet.{Alphabet}
use Rattle.cbs_page.specs.declared.coding.Alphabet.TheVariants.{Gsm, Ucs2}
use Rattle.cbs_page.specs.Coding.{alphabet_of}
use Rattle.cbs_page.specs.Text.{is_filling, without_trailing}

-- the codes that came whole in the first octets of a content: the septets all of whose bits came, or the units both of
-- whose octets came
abbrev pub codes_came : Alphabet → List ℕ → List ℕ
codes_came Gsm octets = take (8 * length octets / 7) (unpacked octets)
codes_came Ucs2 octets = units_of_octets octets

-- the number whose eight bits, lowest first, are these
abbrev pub of_eight_bits : (ℕ → ℕ) → ℕ
of_eight_bits bit =
    bit 0 + 2 * bit 1 + 4 * bit 2 + 8 * bit 3 + 16 * bit 4 + 32 * bit 5 + 64 * bit 6 + 128 * bit 7

-- the octet at a place of the content that holds these septets: the bits from 8 * place on of the septets, and then CR
unfoldable pub octet_at : List ℕ → ℕ → ℕ
octet_at septets place = of_eight_bits (λ j. septet_bit (filled septets) (8 * place + j))

-- the 82 octets of a content that holds these codes, and CR after them
unfoldable pub packed : List ℕ → List ℕ
packed septets = map (octet_at septets) (range_with_len 0 82)

abbrev pub content_of : Alphabet → List ℕ → List ℕ
content_of Gsm septets = packed septets
content_of Ucs2 units = octets_of_units units

-- the content whose first octets came: it holds the codes that came whole; where the alphabet isn't known no text is
-- shown, and octets of 0 follow those that came
abbrev pub whole_content : Option Alphabet → List ℕ → List ℕ
whole_content None octets = octets ++ replicate (82 - length octets) 0
whole_content (Some alphabet) octets = content_of alphabet (codes_came alphabet octets)

-- the page whose first octets came: the serial number, the message identifier, the data coding and the page parameter
-- came, which are six octets, and some of the content
abbrev pub whole_page : List ℕ → List ℕ
whole_page octets = take 6 octets ++ whole_content (alphabet_of (slice_index octets 4)) (drop 6 octets)

-- the text of codes: without the CR at their end, decoded
abbrev pub text_of_codes : Alphabet → List ℕ → List ℕ
text_of_codes Gsm septets = text_of_septets (without_trailing is_filling septets)
text_of_codes Ucs2 units = map character_of_unit (without_trailing is_filling units)
