-- The definitions on worked values. The octets of "Bleib da" are a network's, with osmo-bsc and osmo-bts, and tshark
-- reads them so, with ten CR after them.
use Rattle.std.proofs.Common.{◌≡◌, ℕ, ◌++◌, zero, suc, List, [], ◌∷◌, codes, replicate, refl}
use Rattle.gsm_alphabet.specs.Alphabet.{main_table}
use Rattle.septets.specs.Packing.{unpacked, septet_at}
use Rattle.cbs_page.specs.declared.coding.Alphabet.TheVariants.{Gsm}
use Rattle.cbch_blocks.specs.Blocks.{idle_block}
use Rattle.short_pages.specs.WholePage.{codes_came, octet_at, packed, text_of_codes}
use Rattle.short_pages.specs.Slots.{shown_on_air}
use lib.Utf8.{encode}

abbrev came : List ℕ
came = 0x42 ∷ 0x76 ∷ 0x39 ∷ 0x2D ∷ 0x06 ∷ 0x91 ∷ 0xC3
    ∷ 0x8D ∷ 0x46 ∷ 0xA3 ∷ 0xD1 ∷ 0x68 ∷ 0x34 ∷ 0x1A ∷ 0x8D ∷ 0x46 ∷ []

worked_septets : codes_came Gsm came ≡ codes "Bleib da" ++ replicate 10 13
unfolding unpacked septet_at
worked_septets = refl

worked_text : text_of_codes Gsm (codes "Bleib da" ++ replicate 10 13) ≡ codes "Bleib da"
unfolding main_table
worked_text = refl

-- an escape that came last shows a space
worked_escape : text_of_codes Gsm (0x41 ∷ 0x1B ∷ []) ≡ codes "A "
unfolding main_table
worked_escape = refl

-- n copies of a list
copies : ℕ → List ℕ → List ℕ
copies zero xs = []
copies (suc n) xs = xs ++ copies n xs

-- a page in which no character came whole is CR alone
worked_packed : packed [] ≡ copies 11 (0x8D ∷ 0x46 ∷ 0xA3 ∷ 0xD1 ∷ 0x68 ∷ 0x34 ∷ 0x1A ∷ [])
    ++ 0x8D ∷ 0x46 ∷ 0xA3 ∷ 0xD1 ∷ 0x00 ∷ []
unfolding packed octet_at copies
worked_packed = refl

-- UCS-2 in two blocks: page 1 of 1 of message 1112, serial number 0010, with 19 units, of which CR ends the text
worked_units : shown_on_air ((0x20 ∷ 0x00 ∷ 0x10 ∷ 0x11 ∷ 0x12 ∷ 0x48 ∷ 0x11 ∷ 0x04 ∷ 0x14 ∷ replicate 14 0x41)
    ∷ (0x31 ∷ 0x00 ∷ 0x42 ∷ 0x00 ∷ 0x0D ∷ 0x00 ∷ 0x43 ∷ 0x00 ∷ 0x0D ∷ 0x00 ∷ 0x0D ∷ 0x00 ∷ 0x0D
    ∷ 0x00 ∷ 0x0D ∷ 0x00 ∷ 0x0D ∷ 0x00 ∷ 0x0D ∷ 0x00 ∷ 0x0D ∷ 0x00 ∷ 0x0D ∷ []) ∷ idle_block ∷ idle_block ∷ [])
    ≡ record {
      id = 0x1112;
      serial = 0x0010;
      text = 0xD0 ∷ 0x94 ∷ 0xE4 ∷ 0x85 ∷ 0x81 ∷ 0xE4 ∷ 0x85 ∷ 0x81 ∷ 0xE4 ∷ 0x85 ∷ 0x81 ∷ 0xE4 ∷ 0x85 ∷ 0x81
          ∷ 0xE4 ∷ 0x85 ∷ 0x81 ∷ 0xE4 ∷ 0x85 ∷ 0x81 ∷ 0xE4 ∷ 0x85 ∷ 0x81 ∷ 0x42 ∷ 0x0D ∷ 0x43 ∷ [];
    } ∷ []
unfolding encode
worked_units = refl
