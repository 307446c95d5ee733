-- What a message identifier means (3GPP TS 23.041, clause 9.4.1.2.2), with the levels of EU-Alert (ETSI TS 102 900).
use Rattle.std.specs.Prelude.{ℕ, ◌-◌, ◌==◌, ◌&&◌, not, nat_le, Bool, if◌then◌else◌, List, [], ◌∷◌, ◌++◌, codes}
use Rattle.chart.specs.declared.identifier.TheConstants as texts
use Rattle.chart.specs.declared.word.Language.{Language}
use Rattle.chart.specs.declared.word.Language.TheVariants as languages
use Rattle.chart.specs.declared.word.Word.TheVariants as words
use Rattle.chart.specs.Words.{big_ue, oe, ue, word_in}

-- the warnings that have an identifier each, in English; nothing of another number
abbrev pub english_kind : ℕ → List ℕ
english_kind id =
    if id == 4352 then codes "ETWS: earthquake"
    else if id == 4353 then codes "ETWS: tsunami"
    else if id == 4354 then codes "ETWS: earthquake and tsunami"
    else if id == 4355 then codes "ETWS: test"
    else if id == 4356 then codes "ETWS: other"
    else if id == 4370 then codes "EU-Alert level 1: presidential"
    else if id == 4371 then codes "Level 2: extreme, immediate, observed"
    else if id == 4372 then codes "Level 2: extreme, immediate, likely"
    else if id == 4373 then codes "Level 3: extreme, expected, observed"
    else if id == 4374 then codes "Level 3: extreme, expected, likely"
    else if id == 4375 then codes "Level 3: severe, immediate, observed"
    else if id == 4376 then codes "Level 3: severe, immediate, likely"
    else if id == 4377 then codes "Level 3: severe, expected, observed"
    else if id == 4378 then codes "Level 3: severe, expected, likely"
    else if id == 4379 then codes "Child abduction: EU-Amber"
    else if id == 4380 then codes "Test: monthly"
    else if id == 4381 then codes "Exercise"
    else if id == 4382 then codes "Operator's own use"
    else if id == 4396 then codes "Level 4: public safety, EU-Info"
    else if id == 4398 then codes "Test: state or local"
    else []

-- the same in German
abbrev pub german_kind : ℕ → List ℕ
german_kind id =
    if id == 4352 then codes "ETWS: Erdbeben"
    else if id == 4353 then codes "ETWS: Tsunami"
    else if id == 4354 then codes "ETWS: Erdbeben und Tsunami"
    else if id == 4355 then codes "ETWS: Test"
    else if id == 4356 then codes "ETWS: anderes"
    else if id == 4370 then codes "EU-Alert Stufe 1: h" ++ oe ++ codes "chste Stufe"
    else if id == 4371 then codes "Stufe 2: extrem, unmittelbar, beobachtet"
    else if id == 4372 then codes "Stufe 2: extrem, unmittelbar, wahrscheinlich"
    else if id == 4373 then codes "Stufe 3: extrem, erwartet, beobachtet"
    else if id == 4374 then codes "Stufe 3: extrem, erwartet, wahrscheinlich"
    else if id == 4375 then codes "Stufe 3: schwer, unmittelbar, beobachtet"
    else if id == 4376 then codes "Stufe 3: schwer, unmittelbar, wahrscheinlich"
    else if id == 4377 then codes "Stufe 3: schwer, erwartet, beobachtet"
    else if id == 4378 then codes "Stufe 3: schwer, erwartet, wahrscheinlich"
    else if id == 4379 then codes "Kindesentf" ++ ue ++ codes "hrung: EU-Amber"
    else if id == 4380 then codes "Test: monatlich"
    else if id == 4381 then big_ue ++ codes "bung"
    else if id == 4382 then codes "Eigener Gebrauch des Betreibers"
    else if id == 4396 then codes "Stufe 4: " ++ oe ++ codes "ffentliche Sicherheit, EU-Info"
    else if id == 4398 then codes "Test: Land oder Ort"
    else []

abbrev pub kind_in : Language → ℕ → List ℕ
kind_in languages.English id = english_kind id
kind_in languages.German id = german_kind id

-- the identifier of the same warning in the first language: those of an additional language are 13 higher, but of
-- public safety and of state and local tests 1 higher
abbrev pub kind_of : ℕ → ℕ
kind_of id =
    if nat_le 4383 id && nat_le id 4395 then id - 13
    else if id == 4397 then 4396
    else if id == 4399 then 4398
    else id

abbrev pub is_additional : ℕ → Bool
is_additional id = not (kind_of id == id)

abbrev pub language_words : Language → (additional : Bool) → List ℕ
language_words l additional = if additional then word_in l words.Additional else []

-- what an identifier means, in words
unfoldable pub identifier_meaning : Language → ℕ → List ℕ
identifier_meaning l id = kind_in l (kind_of id) ++ language_words l (is_additional id)

-- the same in brackets; nothing of an identifier that means nothing
unfoldable pub bracketed : Language → (id : ℕ) → List ℕ
bracketed l id = texts.MEANING.now ++ identifier_meaning l id ++ texts.MEANING_END.now

abbrev pub meaning_by : Language → (kind : List ℕ) → (id : ℕ) → List ℕ
meaning_by l [] id = []
meaning_by l (octet ∷ kind) id = bracketed l id

unfoldable pub meaning_text : Language → (id : ℕ) → List ℕ
meaning_text l id = meaning_by l (kind_in l (kind_of id)) id
