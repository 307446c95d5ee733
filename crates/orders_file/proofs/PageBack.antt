-- What is written of pages is read back.
use Rattle.std.proofs.Common.{◌≡◌, ◌≤◌, ◌∙◌, ◌+◌, ℕ, true, List, [], ◌∷◌, ◌++◌, length, take}
use Rattle.std.proofs.Common.{drop, get_or, Some, ap, refl, sym, arith, append_assoc}
use Rattle.std.specs.Prelude.{codes}
use Rattle.std.specs.Char.{is_ascii_digit}
use Rattle.std.specs.List.{list_all, position_or_len}
use Rattle.std.specs.Fmt.{decimal}
use Rattle.std.proofs.Math.Seq.{take-append_seam, get_or-append_seam}
use Rattle.std.proofs.lemmas.Bool.{ne_eqb}
use Rattle.std.proofs.lemmas.Fmt.{digits_decimal}
use Rattle.std.proofs.lemmas.List.{get_or_append_left, drop_at, length-append}
use Rattle.std.proofs.lemmas.List.Sums.{position_or_len_is}
use Rattle.std.proofs.lemmas.Str.Parse.{not_in_digits}
use Rattle.hex.specs.Hex.{encode_lower}
use Rattle.orders_file.specs.Number.{octets_of}
use Rattle.orders_file.specs.Page.{content_in, content_with, is_hyphen}
use Rattle.orders_file.proofs.Digits.{own}
use Rattle.orders_file.proofs.NumberBack.{number_back}

-- the first hyphen is behind the digits
hyphen_behind : (digits rest : List ℕ) → list_all is_ascii_digit digits ≡ true
    → position_or_len is_hyphen (digits ++ 45 ∷ rest) ≡ length digits
hyphen_behind digits rest all =
    let whole : length (digits ++ 45 ∷ rest) ≡ length digits + length (45 ∷ rest) =
    length-append digits (45 ∷ rest) in
    position_or_len_is is_hyphen (digits ++ 45 ∷ rest) (length digits) 0 (omega arith)
    (λ k less. ap is_hyphen (get_or_append_left digits (45 ∷ rest) 0 k less)
    ∙ ne_eqb (get_or digits k 0) 45 (not_in_digits own digits 45 all (λ range. omega (arith, range.0, range.1)) k less))
    (λ inside. ap is_hyphen (get_or-append_seam digits 45 rest 0))

-- the text of a page is read as that page
pub page_back : (used : ℕ) (octets : List ℕ) → used ≤ 82 → octets_of 82 (encode_lower octets) ≡ Some octets
    → content_in (decimal used ++ (codes "-" ++ encode_lower octets)) ≡ Some (content_with used octets)
page_back used octets few back =
    let digits : list_all is_ascii_digit (decimal used) ≡ true = digits_decimal own used (omega arith) in
    let place : position_or_len is_hyphen (decimal used ++ 45 ∷ encode_lower octets) ≡ length (decimal used) =
    hyphen_behind (decimal used) (encode_lower octets) digits in
    let before : take (length (decimal used)) (decimal used ++ 45 ∷ encode_lower octets) ≡ decimal used =
    take-append_seam (decimal used) (45 ∷ encode_lower octets) in
    let long : length (decimal used ++ 45 ∷ []) ≡ length (decimal used) + 1 = length-append (decimal used) (45 ∷ []) in
    let after : drop (length (decimal used) + 1) (decimal used ++ 45 ∷ encode_lower octets) ≡ encode_lower octets =
    ap (drop (length (decimal used) + 1)) (sym (append_assoc (decimal used) (45 ∷ []) (encode_lower octets)))
    ∙ drop_at (decimal used ++ 45 ∷ []) (encode_lower octets) (length (decimal used) + 1) long in
    rw (place, before, after, number_back 82 used few (omega arith), back) refl
