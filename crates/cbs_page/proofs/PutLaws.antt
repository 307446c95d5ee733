-- A text that is put behind another, a piece at a time.
use Rattle.std.proofs.Common.{◌≡◌, ℕ, ◌+◌, ◌<◌, Bool, true, false, cond, eqb, List, [], ◌∷◌, ◌++◌, length, drop, get_or}
use Rattle.std.proofs.Common.{Result, Ok, Err, OnOk, OnErr, refl, sym, ◌∙◌, ap, append-nil, append_assoc}
use Rattle.std.specs.Prelude.{if◌then◌else◌, is_ok, encode_utf8, encode_utf8_all}
use Rattle.std.proofs.lemmas.List.{drop_more}
use Rattle.gsm_alphabet.specs.Alphabet.{main_character, extension_character, text_after}
use Rattle.cbs_page.specs.Text.{PutsAllBut, PutsFront}

-- nothing has been put
pub put_none : (old text : List ℕ) → PutsAllBut text old old text
put_none old text = ([], sym (append-nil old), refl)

-- a piece more has been put
pub put_more : (old now new piece left next text : List ℕ) → PutsAllBut left old now text → new ≡ now ++ piece
    → piece ++ next ≡ left → PutsAllBut next old new text
put_more old now new piece left next text before put rest = (
  before.0 ++ piece,
  put ∙ ap (λ t. t ++ piece) before.1 ∙ append_assoc old before.0 piece,
  append_assoc before.0 piece next ∙ ap (λ t. before.0 ++ t) rest ∙ before.2,
)

-- all has been put, if nothing is left
pub put_all : (old new left text : List ℕ) → PutsAllBut left old new text → left ≡ [] → new ≡ old ++ text
put_all old new left text before none =
    before.1 ∙ ap (λ t. old ++ t) (sym (append-nil before.0) ∙ ap (λ t. before.0 ++ t) (sym none) ∙ before.2)

-- out of memory: a front part has been put
pub put_front : {E : Type 0} (result : Result (Unit {0}) E) (old now new left text : List ℕ)
    → PutsAllBut left old now text → new ≡ now → OnErr result (PutsFront old new text)
put_front (Ok x) old now new left text before same = tt
put_front (Err e) old now new left text before same = (left, (before.0, same ∙ before.1, before.2))

-- a text that was pushed has been put behind the other, whole
pub pushed_whole : {E : Type 0} (result : Result (Unit {0}) E) (old new pushed text : List ℕ)
    → new ≡ (if is_ok result then old ++ pushed else old) → pushed ≡ text → OnOk result (new ≡ old ++ text)
pushed_whole (Ok x) old new pushed text is same = is ∙ ap (λ t. old ++ t) same
pushed_whole (Err e) old new pushed text is same = tt

-- and none of it, out of memory
pub pushed_none : {E : Type 0} (result : Result (Unit {0}) E) (old new pushed text : List ℕ)
    → new ≡ (if is_ok result then old ++ pushed else old) → OnErr result (PutsFront old new text)
pushed_none (Ok x) old new pushed text is = tt
pushed_none (Err e) old new pushed text is = (text, ([], is ∙ sym (append-nil old), refl))

-- the septets from a place on begin with the septet there
from_place : (escaped : Bool) (septets : List ℕ) (i : ℕ) → i < length septets →
    encode_utf8_all (text_after escaped (drop i septets))
    ≡ encode_utf8_all (text_after escaped (get_or septets i 0 ∷ drop (i + 1) septets))
from_place escaped septets i within =
    ap (λ left. encode_utf8_all (text_after escaped left)) (drop_more septets i 0 within)

-- a septet after an escape shows its character of the extension table
pub shows_extension : (before after : Bool) (septets : List ℕ) (i shown : ℕ) → i < length septets → before ≡ true
    → after ≡ false → shown ≡ extension_character (get_or septets i 0) →
    encode_utf8 shown ++ encode_utf8_all (text_after after (drop (i + 1) septets))
    ≡ encode_utf8_all (text_after before (drop i septets))
shows_extension true false septets i shown within escaped not is =
    ap (λ c. encode_utf8 c ++ encode_utf8_all (text_after false (drop (i + 1) septets))) is
    ∙ sym (from_place true septets i within)
shows_extension true true septets i shown within escaped not is = cc
shows_extension false after septets i shown within escaped not is = cc

-- an escape shows nothing
pub shows_nothing : (before after : Bool) (septets : List ℕ) (i : ℕ) → i < length septets → before ≡ false
    → after ≡ true → eqb (get_or septets i 0) 27 ≡ true →
    [] ++ encode_utf8_all (text_after after (drop (i + 1) septets))
    ≡ encode_utf8_all (text_after before (drop i septets))
shows_nothing false true septets i within not escaped is =
    sym (from_place false septets i within
    ∙ ap (λ test. encode_utf8_all (cond test [] (main_character (get_or septets i 0) ∷ [])
    ++ text_after test (drop (i + 1) septets))) is)
shows_nothing false false septets i within not escaped is = cc
shows_nothing true after septets i within not escaped is = cc

-- another septet shows its character of the main table
pub shows_main : (before after : Bool) (septets : List ℕ) (i shown : ℕ) → i < length septets → before ≡ false
    → after ≡ false → eqb (get_or septets i 0) 27 ≡ false → shown ≡ main_character (get_or septets i 0) →
    encode_utf8 shown ++ encode_utf8_all (text_after after (drop (i + 1) septets))
    ≡ encode_utf8_all (text_after before (drop i septets))
shows_main false false septets i shown within not still is shows =
    ap (λ c. encode_utf8 c ++ encode_utf8_all (text_after false (drop (i + 1) septets))) shows
    ∙ sym (from_place false septets i within
    ∙ ap (λ test. encode_utf8_all (cond test [] (main_character (get_or septets i 0) ∷ [])
    ++ text_after test (drop (i + 1) septets))) is)
shows_main false true septets i shown within not still is shows = cc
shows_main true after septets i shown within not still is shows = cc
