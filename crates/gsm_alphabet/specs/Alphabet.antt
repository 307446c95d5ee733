-- The GSM 7-bit default alphabet and its extension table (3GPP TS 23.038, clauses 6.2.1 and 6.2.1.1), and the text of a
-- septet list.
use Rattle.std.specs.Prelude.{ℕ, ◌==◌, ◌<◌, Bool, true, false, if◌then◌else◌, Option, Some, None, IsSome, unwrap_or}
use Rattle.std.specs.Prelude.{List, [], ◌∷◌, ◌++◌}
use Rattle.std.specs.Option.{option_map_or}
use Rattle.gsm_alphabet.specs.declared.Code.{Code}
use Rattle.gsm_alphabet.specs.declared.Code.TheVariants.{One, Ext}

-- the default alphabet, as (septet, character); the escape 1B stands for no character of its own
unfoldable pub main_table : List (ℕ × ℕ)
main_table =
    (0x00, 0x0040) ∷ (0x01, 0x00A3) ∷ (0x02, 0x0024) ∷ (0x03, 0x00A5) ∷ (0x04, 0x00E8) ∷ (0x05, 0x00E9) ∷
    (0x06, 0x00F9) ∷ (0x07, 0x00EC) ∷
    (0x08, 0x00F2) ∷ (0x09, 0x00C7) ∷ (0x0A, 0x000A) ∷ (0x0B, 0x00D8) ∷ (0x0C, 0x00F8) ∷ (0x0D, 0x000D) ∷
    (0x0E, 0x00C5) ∷ (0x0F, 0x00E5) ∷
    (0x10, 0x0394) ∷ (0x11, 0x005F) ∷ (0x12, 0x03A6) ∷ (0x13, 0x0393) ∷ (0x14, 0x039B) ∷ (0x15, 0x03A9) ∷
    (0x16, 0x03A0) ∷ (0x17, 0x03A8) ∷
    (0x18, 0x03A3) ∷ (0x19, 0x0398) ∷ (0x1A, 0x039E) ∷ (0x1C, 0x00C6) ∷ (0x1D, 0x00E6) ∷ (0x1E, 0x00DF) ∷
    (0x1F, 0x00C9) ∷
    (0x20, 0x0020) ∷ (0x21, 0x0021) ∷ (0x22, 0x0022) ∷ (0x23, 0x0023) ∷ (0x24, 0x00A4) ∷ (0x25, 0x0025) ∷
    (0x26, 0x0026) ∷ (0x27, 0x0027) ∷
    (0x28, 0x0028) ∷ (0x29, 0x0029) ∷ (0x2A, 0x002A) ∷ (0x2B, 0x002B) ∷ (0x2C, 0x002C) ∷ (0x2D, 0x002D) ∷
    (0x2E, 0x002E) ∷ (0x2F, 0x002F) ∷
    (0x30, 0x0030) ∷ (0x31, 0x0031) ∷ (0x32, 0x0032) ∷ (0x33, 0x0033) ∷ (0x34, 0x0034) ∷ (0x35, 0x0035) ∷
    (0x36, 0x0036) ∷ (0x37, 0x0037) ∷
    (0x38, 0x0038) ∷ (0x39, 0x0039) ∷ (0x3A, 0x003A) ∷ (0x3B, 0x003B) ∷ (0x3C, 0x003C) ∷ (0x3D, 0x003D) ∷
    (0x3E, 0x003E) ∷ (0x3F, 0x003F) ∷
    (0x40, 0x00A1) ∷ (0x41, 0x0041) ∷ (0x42, 0x0042) ∷ (0x43, 0x0043) ∷ (0x44, 0x0044) ∷ (0x45, 0x0045) ∷
    (0x46, 0x0046) ∷ (0x47, 0x0047) ∷
    (0x48, 0x0048) ∷ (0x49, 0x0049) ∷ (0x4A, 0x004A) ∷ (0x4B, 0x004B) ∷ (0x4C, 0x004C) ∷ (0x4D, 0x004D) ∷
    (0x4E, 0x004E) ∷ (0x4F, 0x004F) ∷
    (0x50, 0x0050) ∷ (0x51, 0x0051) ∷ (0x52, 0x0052) ∷ (0x53, 0x0053) ∷ (0x54, 0x0054) ∷ (0x55, 0x0055) ∷
    (0x56, 0x0056) ∷ (0x57, 0x0057) ∷
    (0x58, 0x0058) ∷ (0x59, 0x0059) ∷ (0x5A, 0x005A) ∷ (0x5B, 0x00C4) ∷ (0x5C, 0x00D6) ∷ (0x5D, 0x00D1) ∷
    (0x5E, 0x00DC) ∷ (0x5F, 0x00A7) ∷
    (0x60, 0x00BF) ∷ (0x61, 0x0061) ∷ (0x62, 0x0062) ∷ (0x63, 0x0063) ∷ (0x64, 0x0064) ∷ (0x65, 0x0065) ∷
    (0x66, 0x0066) ∷ (0x67, 0x0067) ∷
    (0x68, 0x0068) ∷ (0x69, 0x0069) ∷ (0x6A, 0x006A) ∷ (0x6B, 0x006B) ∷ (0x6C, 0x006C) ∷ (0x6D, 0x006D) ∷
    (0x6E, 0x006E) ∷ (0x6F, 0x006F) ∷
    (0x70, 0x0070) ∷ (0x71, 0x0071) ∷ (0x72, 0x0072) ∷ (0x73, 0x0073) ∷ (0x74, 0x0074) ∷ (0x75, 0x0075) ∷
    (0x76, 0x0076) ∷ (0x77, 0x0077) ∷
    (0x78, 0x0078) ∷ (0x79, 0x0079) ∷ (0x7A, 0x007A) ∷ (0x7B, 0x00E4) ∷ (0x7C, 0x00F6) ∷ (0x7D, 0x00F1) ∷
    (0x7E, 0x00FC) ∷ (0x7F, 0x00E0) ∷ []

-- the extension table, as (septet after the escape, character)
unfoldable pub extension_table : List (ℕ × ℕ)
extension_table =
    (0x14, 0x005E) ∷ (0x28, 0x007B) ∷ (0x29, 0x007D) ∷ (0x2F, 0x005C) ∷ (0x3C, 0x005B) ∷
    (0x3D, 0x007E) ∷ (0x3E, 0x005D) ∷ (0x40, 0x007C) ∷ (0x65, 0x20AC) ∷ []

-- the number that stands beside another in a table: of the first entry with this key
abbrev pub look_up : (key value : ℕ × ℕ → ℕ) → List (ℕ × ℕ) → ℕ → Option ℕ
look_up key value [] wanted = None
look_up key value (entry ∷ table) wanted = if key entry == wanted then Some (value entry) else look_up key value table
    wanted

-- the septet that stands beside a character in a table
abbrev pub septet_in : List (ℕ × ℕ) → ℕ → Option ℕ
septet_in table character = look_up (λ entry. entry.1) (λ entry. entry.0) table character

-- the character that stands beside a septet in a table
abbrev pub character_in : List (ℕ × ℕ) → ℕ → Option ℕ
character_in table septet = look_up (λ entry. entry.0) (λ entry. entry.1) table septet

-- one septet where the default alphabet has the character, else an escape and one where the extension table has it
abbrev pub code_by : Option ℕ → Option ℕ → Option Code
code_by (Some septet) extended = Some (One septet)
code_by None (Some septet) = Some (Ext septet)
code_by None None = None

-- the code of a character
abbrev pub code_of : ℕ → Option Code
code_of character = code_by (septet_in main_table character) (septet_in extension_table character)

-- the character has a code
abbrev pub IsInAlphabet : ℕ → Type 0
IsInAlphabet character = IsSome (code_of character)

-- the character stands in the extension table
abbrev pub IsExtension : ℕ → Type 0
IsExtension character = IsSome (septet_in extension_table character)

-- the septets that send a code; 27 is the escape
abbrev pub septets_of_code : Code → List ℕ
septets_of_code (One septet) = septet ∷ []
septets_of_code (Ext septet) = 27 ∷ septet ∷ []

-- the code's septet is one: below 128
abbrev pub IsSeptetCode : Code → Type 0
IsSeptetCode (One septet) = septet < 128
IsSeptetCode (Ext septet) = septet < 128

-- the septets of a character, none for one outside the alphabet
abbrev pub septets_of : ℕ → List ℕ
septets_of character = option_map_or septets_of_code (code_of character) []

-- what a septet shows by itself: its character, and a space where the table has none
abbrev pub main_character : ℕ → ℕ
main_character septet = unwrap_or (character_in main_table septet) 32

-- what a septet shows after an escape: its character in the extension table, else what it shows by itself
abbrev pub extension_character : ℕ → ℕ
extension_character septet = unwrap_or (character_in extension_table septet) (main_character septet)

-- the character that a code shows
abbrev pub character_of_code : Code → ℕ
character_of_code (One septet) = main_character septet
character_of_code (Ext septet) = extension_character septet

-- the text of the septets that follow an escape (`true`) or follow none (`false`)
abbrev pub text_after : Bool → List ℕ → List ℕ
text_after true [] = 32 ∷ []
text_after false [] = []
text_after true (septet ∷ rest) = extension_character septet ∷ text_after false rest
text_after false (septet ∷ rest) =
    (if septet == 27 then [] else main_character septet ∷ []) ++ text_after (septet == 27) rest

-- the text of a septet list: an escape and its next septet show one character, a last escape alone a space
abbrev pub text_of_septets : List ℕ → List ℕ
text_of_septets septets = text_after false septets
