-- The blocks that a cell's broadcast channel sends: a type octet and 22 octets each. 3GPP TS 44.012.
use Rattle.std.specs.Prelude.{ℕ, List, [], ◌∷◌, take, drop, replicate}

-- the blocks that carry a page, a quarter of its 88 octets each
-- types: bits 7 and 6 are 01, bit 5 marks the last block, bits 4 to 1 are the sequence number
abbrev pub blocks_of_page : List ℕ → List (List ℕ)
blocks_of_page octets =
    (0x20 ∷ take 22 octets) ∷ (0x21 ∷ take 22 (drop 22 octets)) ∷ (0x22 ∷ take 22 (drop 44 octets))
    ∷ (0x33 ∷ take 22 (drop 66 octets)) ∷ []

-- the block that is sent where there is no page: sequence number 15, and octets of 2B (own)
abbrev pub idle_block : List ℕ
idle_block = 0x2F ∷ replicate 22 0x2B

-- an idle slot has four of them (own)
abbrev pub idle_blocks : List (List ℕ)
idle_blocks = idle_block ∷ idle_block ∷ idle_block ∷ idle_block ∷ []
